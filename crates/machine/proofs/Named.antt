use Rattle.std.proofs.Common.{◌≡◌, ℕ, Bool, List, [], ◌∷◌, map, ◌||◌, refl, ap}
use Rattle.std.specs.List.{list_any}
use Rattle.entries.specs.declared.Entry.{Entry}
use Rattle.model.specs.Refusals.{some_of}

-- A test of an entry's word passes at some entry of a list just where it passes at some word of the list.
pub some_word : (p : ℕ → Bool) (es : List Entry) → list_any (λ (e : Entry). p e.word) es ≡ some_of p (map (λ (e : Entry). e.word) es)
unfolding some_of
some_word p [] = refl
some_word p (e ∷ es) = ap (λ (b : Bool). p e.word || b) (some_word p es)
