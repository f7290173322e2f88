use Rattle.std.proofs.Common.{◌≡◌, ℕ, List, ◌++◌, ap, ◌∙◌, append_assoc}

-- Bytes added one after another.

pub added_both : (old bs cs : List ℕ) {mid new : List ℕ} → mid ≡ old ++ bs → new ≡ mid ++ cs → new ≡ old ++ (bs ++ cs)
added_both old bs cs a b = b ∙ ap (λ (m : List ℕ). m ++ cs) a ∙ append_assoc old bs cs
