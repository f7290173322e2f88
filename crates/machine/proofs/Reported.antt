use Rattle.std.proofs.Common.{◌≡◌, ℕ, ◌+◌, ◌<◌, List, [], ◌∷◌, ◌++◌, length, get_or, take, sym, ap, ◌∙◌, add-one, arith, take-suc}
use Rattle.std.proofs.lemmas.List.{get_or-map, length-map}
use Rattle.word.specs.Word.{reading_of}
use Rattle.machine.specs.Runs.{value_of, values_in}

-- The values that words hold, put down one by one.

abbrev held : ℕ → ℕ
held n = value_of (reading_of n)

pub read_more : (ws vs us : List ℕ) (i v : ℕ) → vs ≡ take i (values_in ws) → i < length ws → v ≡ held (get_or ws i 0) → us ≡ vs ++ (v ∷ []) → us ≡ take (i + 1) (values_in ws)
read_more ws vs us i v so_far h e put =
    put ∙ ap (λ (xs : List ℕ). xs ++ (v ∷ [])) so_far ∙ ap (λ (x : ℕ). take i (values_in ws) ++ (x ∷ [])) (e ∙ sym (get_or-map held ws i 0 0 h))
    ∙ sym (ap (λ (n : ℕ). take n (values_in ws)) (add-one i) ∙ take-suc (values_in ws) i 0 (let l = length-map ws held in omega arith))
