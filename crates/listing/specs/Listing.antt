use Rattle.std.specs.Prelude.{◌≡◌, ℕ, List, [], ◌∷◌, ◌++◌, Ok, Err, Result, OnOk}
use Rattle.std.specs.List.{zip, flat_map}
use Rattle.cores.specs.declared.table.Refusal.{Refusal}
use Rattle.runfile.specs.declared.file.Call.{Call}
use Rattle.listing.specs.Lines.{opening_line, call_line, words_line}

-- The whole listing, as the bytes of its text.

-- a line with the newline that ends it
abbrev pub ended : List ℕ → List ℕ
ended line = line ++ 10 ∷ []

abbrev pub answered_line : Call × Result ℕ Refusal → List ℕ
answered_line p = ended (call_line p.0 p.1)

-- a line for each call that has an answer, in order
abbrev pub call_lines : List Call → List (Result ℕ Refusal) → List ℕ
call_lines cs rs = flat_map answered_line (zip cs rs)

-- the opening's line; and where the opening was granted, the calls' lines and the words' line
abbrev pub listing : Result (Unit {0}) Refusal → List Call → List (Result ℕ Refusal) → List ℕ → List ℕ
listing (Ok x) cs rs ws = ended (opening_line (Ok x)) ++ (call_lines cs rs ++ ended (words_line ws))
listing (Err q) cs rs ws = ended (opening_line (Err q))

-- unless memory was wanting, the bytes bs were added at the end of the old ones
abbrev pub Adds : {E : Type 0} → Result (Unit {0}) E → List ℕ → List ℕ → List ℕ → Type 0
Adds r old bs new = OnOk r (new ≡ old ++ bs)
