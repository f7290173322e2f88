use Rattle.std.proofs.Common.{◌≡◌, ◌==◌, ℕ, List, [], ◌∷◌, refl, arith}
use Rattle.std.specs.List.{find}
use Rattle.std.specs.Option.{option_map, unwrap_or}
use Rattle.entries.specs.declared.Entry.{Entry}
use Rattle.descriptor.specs.Contents.{State, value_by, value_among}

-- What a list of entries gives a word is what the first entry that names it gives, and 0 where none does.
pub value_of_found : (s : State) (es : List Entry) (w : ℕ) → unwrap_or (option_map (value_by s) (find (λ (e : Entry). e.word == w) es)) 0 ≡ value_among s es w
unfolding value_among
value_of_found s [] w = refl
value_of_found s (e ∷ es) w = let later = value_of_found s es w in grind (arith, later)
