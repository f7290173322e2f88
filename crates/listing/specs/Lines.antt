use Rattle.std.specs.Prelude.{ℕ, List, ◌∷◌, ◌++◌, Ok, Err, codes, decimal, Result}
use Rattle.std.specs.List.{flat_map}
use Rattle.cores.specs.declared.table.Refusal.{Refusal}
use Rattle.cores.specs.Refusals.{number_of}
use Rattle.runfile.specs.declared.file.Call.{Call}
use Rattle.runfile.specs.declared.file.Fault.TheVariants.{At}
use Rattle.runfile.specs.Format.{letter}
use Rattle.runfile.specs.Reading.{fault_text}

-- The lines of a listing, as the bytes of their text. Numbers are decimal, and one space stands between two fields.

-- a refusal is r and its number
abbrev pub refusal_text : Refusal → List ℕ
refusal_text q = codes "r" ++ decimal (number_of q)

-- an answer is its value, or its refusal
abbrev pub answer_text : Result ℕ Refusal → List ℕ
answer_text (Ok v) = decimal v
answer_text (Err q) = refusal_text q

-- an opening is o and 0, or o and its refusal
abbrev pub opening_line : Result (Unit {0}) Refusal → List ℕ
opening_line (Ok x) = codes "o 0"
opening_line (Err q) = codes "o " ++ refusal_text q

-- how the line of a call begins: its letter, its core, and a space after each
abbrev pub called : Call → List ℕ
called c = letter c.action ∷ (codes " " ++ (decimal c.core ++ codes " "))

-- a call is its letter, its core and its answer
abbrev pub call_line : Call → Result ℕ Refusal → List ℕ
call_line c a = letter c.action ∷ (codes " " ++ (decimal c.core ++ (codes " " ++ answer_text a)))

-- a number after a space
abbrev pub spaced : ℕ → List ℕ
spaced v = codes " " ++ decimal v

-- the words are w and every word's value
abbrev pub words_line : List ℕ → List ℕ
words_line vs = codes "w" ++ flat_map spaced vs

-- a fault is f and its place, as the fault prints itself
abbrev pub fault_line : ℕ → List ℕ
fault_line place = fault_text (At place)
