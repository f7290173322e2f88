use Rattle.std.specs.Prelude.{◌≡◌, ℕ, ◌+◌, ◌*◌, ◌/◌, ◌%◌, ◌^◌, ◌<◌, ◌≤◌, Bool, cond, ◌&&◌, ◌==◌, ◌≢◌, nat_lt}
use Rattle.word.specs.declared.Mark.{Mark}
use Rattle.word.specs.declared.Word.{Word}
use Rattle.word.specs.declared.Word.TheVariants.{Plain, Placing, Operation, Foreign}

-- a value that a plain word holds
abbrev pub Value : ℕ → Type 0
Value v = v < 2 ^ 61

-- a mark that a word holds: one of eight cores, a number from 1 to 2^47 - 1
abbrev pub Made : Mark → Type 0
Made m = (m.core < 8) × (1 ≤ m.number) × (m.number < 2 ^ 47)

-- the layout of a mark: tag in bits 0 and 1, core in bits 2 to 15, number in bits 16 to 62
abbrev pub laid_out : ℕ → Mark → ℕ
laid_out tag m = tag + 4 * m.core + 65536 * m.number

-- The rule of raw words: what a raw word says.
-- A plain word is four times its value; a mark is laid out under tag 1 or 2; all else is foreign.
abbrev pub Says : ℕ → Word → Type 0
Says n (Plain v) = Value v × (n ≡ 4 * v)
Says n (Placing m) = Made m × (n ≡ laid_out 1 m)
Says n (Operation m) = Made m × (n ≡ laid_out 2 m)
Says n (Foreign k) =
    (n ≡ k) × ((v : ℕ) → Value v → n ≢ 4 * v)
    × ((m : Mark) → Made m → n ≢ laid_out 1 m) × ((m : Mark) → Made m → n ≢ laid_out 2 m)

-- the words that are written: a value or a mark in range
abbrev pub Writable : Word → Type 0
Writable (Plain v) = Value v
Writable (Placing m) = Made m
Writable (Operation m) = Made m
Writable (Foreign k) = ⊥

-- the mark that a raw word holds, where it holds one
abbrev pub mark_in : ℕ → Mark
mark_in n = record { core = n / 4 % 16384; number = n / 65536 }

-- whether there is one: a tag below 3, a core below 8, a number above 0
abbrev pub holds_mark : ℕ → Bool
holds_mark n = nat_lt (n % 4) 3 && nat_lt (n / 4 % 16384) 8 && nat_lt 0 (n / 65536)

-- the word that the bits of a raw word spell out
abbrev pub decoding : ℕ → Word
decoding n =
    cond (nat_lt n (2 ^ 63))
    (cond (n % 4 == 0) (Plain (n / 4))
    (cond (holds_mark n) (cond (n % 4 == 1) (Placing (mark_in n)) (Operation (mark_in n))) (Foreign n)))
    (Foreign n)

-- the reading of a raw word, kept folded: whoever cites it goes by the clauses of `Word::read`
unfoldable pub reading_of : ℕ → Word
reading_of n = decoding n

-- the raw word of a word; what does not fit into 64 bits is cut off
abbrev pub packed_of : ℕ → Mark → ℕ
packed_of tag m = (m.number * 65536) % 2 ^ 64 + m.core * 4 + tag

abbrev pub raw_of : Word → ℕ
raw_of (Plain v) = (v * 4) % 2 ^ 64
raw_of (Placing m) = packed_of 1 m
raw_of (Operation m) = packed_of 2 m
raw_of (Foreign n) = n
