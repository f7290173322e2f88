use Rattle.std.proofs.Common.{◌≡◌, Some, None, Err, sym, ap}
use Rattle.cores.specs.declared.table.Refusal.{Refusal}
use Rattle.model.specs.World.{World}
use Rattle.model.specs.Calls.{Call}
use Rattle.model.specs.Perform.{Performed, perform, granted}
use Rattle.model.specs.Refusals.{refusal_of}
use Rattle.model.proofs.Granting.{perform_granted, perform_refused}

-- What a call that was tested comes to.

pub refused_call : (w : World) (c : Call) (q : Refusal) → refusal_of w c ≡ Some q → (Err q ≡ (perform w c).answer) × (w ≡ (perform w c).world)
refused_call w c q e = let p = perform_refused w c q e in (sym (ap (λ (x : Performed). x.answer) p), sym (ap (λ (x : Performed). x.world) p))

pub granted_call : (w : World) (c : Call) → refusal_of w c ≡ None → ((granted w c).answer ≡ (perform w c).answer) × ((granted w c).world ≡ (perform w c).world)
granted_call w c e = let p = perform_granted w c e in (sym (ap (λ (x : Performed). x.answer) p), sym (ap (λ (x : Performed). x.world) p))
