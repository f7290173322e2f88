use Rattle.std.proofs.Common.{◌≡◌, ℕ, List, [], ◌++◌, take, Option, Some, None, IfSome, ap, ◌∙◌}
use Rattle.std.specs.Option.{option_map}

-- What is read to its end from the first n bytes of an input.
pub first_read : (known : Option (List ℕ)) (n : ℕ) (old new : List ℕ) → old ≡ [] → IfSome (option_map (take n) known) (λ xs. new ≡ old ++ xs) → IfSome known (λ bs. new ≡ take n bs)
first_read None n old new e h = tt
first_read (Some bs) n old new e h = h ∙ ap (λ xs. xs ++ take n bs) e
