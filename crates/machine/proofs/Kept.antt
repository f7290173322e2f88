use Rattle.std.proofs.Common.{◌≡◌, ℕ, true, false, List, is_ok, Some, None, Option, Result, sym, refl, ap, ◌∙◌, arith}
use Rattle.cores.specs.declared.table.Refusal.{Refusal}
use Rattle.model.specs.World.{World}
use Rattle.model.specs.Calls.{Call, starts, reads, steps, collects, halts, shows, raws, opens}
use Rattle.model.specs.Perform.{perform, granted, unless_refused}
use Rattle.model.specs.Refusals.{refusal_of}
use Rattle.model.specs.Histories.{opening_of}
use Rattle.model.proofs.Moments.{after_more}
use Rattle.model.proofs.OrderPromise.{promises_hold}
use Rattle.machine.specs.declared.machine.Machine.{Machine}
use Rattle.machine.specs.Keeps.{Keeps}
use Rattle.machine.specs.View.{view}

-- A call that does what its definition says keeps the promises.
pub keeps : (w v : World) (c : Call) → v ≡ (perform w c).world → Keeps w c v
keeps w v c e h at-w = (after_more (opening_of h) h.calls c ∙ ap (λ (x : World). (perform x c).world) at-w ∙ sym e, promises_hold _)

granted_ok : (w : World) (c : Call) → is_ok (granted w c).answer ≡ true
granted_ok w (starts k l) = refl
granted_ok w (reads k i) = refl
granted_ok w (steps k) = refl
granted_ok w (collects k) = refl
granted_ok w (halts k) = refl
granted_ok w (shows i) = refl
granted_ok w (raws i) = refl
granted_ok w (opens s) = refl

-- a call that answers a refusal leaves the world as it was
refused_world : (w : World) (c : Call) → is_ok (perform w c).answer ≡ false → (perform w c).world ≡ w
unfolding perform
refused_world w c = by (refusal_of w c)
  where
    by : (q : Option Refusal) → is_ok (unless_refused q w c).answer ≡ false → (unless_refused q w c).world ≡ w
    by (Some r) e = refl
    by None e = let f : is_ok (granted w c).answer ≡ true = granted_ok w c in absurd (grind arith)

-- and the whole machine, where it never touched the bank.
pub refused_stays : {B : Type 0} (words : B → List ℕ) (m n : Machine B) (c : Call) (r : Result ℕ Refusal) → r ≡ (perform (view words m) c).answer → view words n ≡ (perform (view words m) c).world → n.bank ≡ m.bank → is_ok r ≡ false → n ≡ m
refused_stays words m n c r answers leaves bank e =
    λ i. record { bank = bank i; table = (ap (λ (w : World). w.table) (leaves ∙ refused_world (view words m) c (ap is_ok (sym answers) ∙ e))) i }
