use Rattle.std.specs.Prelude.{ℕ, ◌*◌, ◌/◌, ◌%◌, ◌^◌, min, cond, List, length, ◌==◌, nat_lt, slice_index}
use Rattle.bank.specs.Bank.{listed, swapped}

-- How many words a pair has: twice as many as its smaller bank, and at most 2 ^ 63.
abbrev pub pair_size : List ℕ → List ℕ → ℕ
pair_size xs ys = min (2 * min (length xs) (length ys)) (2 ^ 63)

-- Word i of a pair: word i / 2 of the first bank where i is even, else of the second.
abbrev pub pair_word : List ℕ → List ℕ → ℕ → ℕ
pair_word xs ys i = cond (i % 2 == 0) (slice_index xs (i / 2)) (slice_index ys (i / 2))

-- The words of a pair.
abbrev pub paired : List ℕ → List ℕ → List ℕ
paired xs ys = listed (pair_size xs ys) (pair_word xs ys)

-- The words of the first bank after a swap of word i of the pair.
abbrev pub first_after : List ℕ → List ℕ → ℕ → ℕ → ℕ → List ℕ
first_after xs ys i old new = cond (nat_lt i (length (paired xs ys))) (cond (i % 2 == 0) (swapped xs (i / 2) old new) xs) xs

-- The words of the second bank after it.
abbrev pub second_after : List ℕ → List ℕ → ℕ → ℕ → ℕ → List ℕ
second_after xs ys i old new = cond (nat_lt i (length (paired xs ys))) (cond (i % 2 == 0) ys (swapped ys (i / 2) old new)) ys
