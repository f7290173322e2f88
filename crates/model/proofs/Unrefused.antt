use Rattle.std.proofs.Common.{◌≡◌, ℕ, ◌<◌, ◌≤◌, Some, ⊎_elim, arith}
use Rattle.std.proofs.lemmas.Bool.{cases_lt}
use Rattle.descriptor.specs.Descriptors.{last_number}
use Rattle.cores.specs.declared.table.Refusal.{Refusal}
use Rattle.cores.specs.declared.table.Refusal.TheVariants.{NoCore}
use Rattle.model.specs.World.{World}
use Rattle.model.specs.Calls.{Call, core_of}
use Rattle.model.specs.RefusalLaw.{Holds}

-- What a call that no row refuses has to do with.

-- its core is one of the eight
pub core_there : (w : World) (c : Call) (k : ℕ) → ((q : Refusal) → Holds w c q → ⊥) → core_of c ≡ Some k → k < 8
core_there w c k none e = ⊎_elim (λ l. l) (λ (ge : 8 ≤ k). absurd (none NoCore (k, e, λ h. omega (arith, h.1)))) (cases_lt k 8)

-- a number that is not the last leaves one
pub number_left : (n : ℕ) → (last_number ≤ n → ⊥) → n < last_number
number_left n h = ⊎_elim (λ l. l) (λ ge. absurd (h ge)) (cases_lt n last_number)
