use Rattle.std.specs.Prelude.{ℕ, ◌+◌, ◌*◌, ◌/◌, ◌%◌, ◌^◌, cond, List, [], ◌∷◌, length, drop, ◌==◌, nat_lt, slice_index}
use Rattle.bank.specs.Bank.{listed}
use Rattle.std.proofs.Math.Seq.{paste}

-- The number of the eight bytes from place p on, the most significant first.
abbrev pub word_from : List ℕ → ℕ → ℕ
word_from bs p =
    slice_index bs p * 256 ^ 7 + slice_index bs (p + 1) * 256 ^ 6 + slice_index bs (p + 2) * 256 ^ 5 + slice_index bs (p + 3) * 256 ^ 4
    + slice_index bs (p + 4) * 256 ^ 3 + slice_index bs (p + 5) * 256 ^ 2 + slice_index bs (p + 6) * 256 + slice_index bs (p + 7)

-- The words of the bytes: as many as there are eights, word i from byte 8 * i on.
abbrev pub byte_words : List ℕ → List ℕ
byte_words bs = listed (length bs / 8) (λ i. word_from bs (8 * i))

-- The bytes past the last whole word.
abbrev pub leftover : List ℕ → List ℕ
leftover bs = drop (8 * (length bs / 8)) bs

-- The eight bytes of a word, the most significant first.
abbrev pub word_bytes : ℕ → List ℕ
word_bytes w =
    (w / 256 ^ 7 % 256) ∷ (w / 256 ^ 6 % 256) ∷ (w / 256 ^ 5 % 256) ∷ (w / 256 ^ 4 % 256)
    ∷ (w / 256 ^ 3 % 256) ∷ (w / 256 ^ 2 % 256) ∷ (w / 256 % 256) ∷ (w % 256) ∷ []

-- The bytes with those of a word from place p on.
abbrev pub with_word : List ℕ → ℕ → ℕ → List ℕ
with_word bs p w = paste bs p (word_bytes w) 8

-- The bytes after a swap of word i.
abbrev pub bytes_after : List ℕ → ℕ → ℕ → ℕ → List ℕ
bytes_after bs i old new = cond (nat_lt i (length bs / 8)) (cond (word_from bs (8 * i) == old) (with_word bs (8 * i) new) bs) bs
