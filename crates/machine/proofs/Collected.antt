use Rattle.std.proofs.Common.{◌≡◌, ℕ, Bool, true, false, cond, List, Some, None, Err, sym, refl, ap, ◌∙◌}
use Rattle.std.specs.Option.{ok_or}
use lib.Seq.{set-get_or}
use Rattle.cores.specs.declared.table.Core.{Core}
use Rattle.cores.specs.declared.table.Refusal.TheVariants.{NoAnswer}
use Rattle.cores.specs.Cores.{new_core, is_finished, answer_in, collected, collection, after_collect}
use Rattle.model.specs.World.{World, core_at, with_core, with_cores}
use Rattle.model.specs.Calls.{collects}
use Rattle.model.specs.Perform.{perform}
use Rattle.model.specs.Refusals.{refusal_of}
use Rattle.model.proofs.Granting.{perform_granted, perform_refused}
use Rattle.machine.specs.Admission.{admission}
use Rattle.machine.proofs.Refused.{collect_tests}

-- What a collect comes to.

-- a core put back as it was
pub put_back : (w : World) (k : ℕ) → with_core w k (core_at w k) ≡ w
put_back w k = ap (λ (cs : List Core). record { words = w.words; table = with_cores w.table cs }) (set-get_or w.table.cores k (new_core 0))

pub collect_comes : (w : World) (k : ℕ) → admission w.table k ≡ None
    → perform w (collects k) ≡ record { answer = ok_or (collection (core_at w k)) NoAnswer; world = with_core w k (after_collect (core_at w k)) }
collect_comes w k e = by (is_finished (core_at w k).place) refl
  where
    tests : (b : Bool) → is_finished (core_at w k).place ≡ b → refusal_of w (collects k) ≡ cond b None (Some NoAnswer)
    tests b f = sym (collect_tests w k) ∙ rw (e, f)

    by : (b : Bool) → is_finished (core_at w k).place ≡ b
        → perform w (collects k) ≡ record { answer = ok_or (cond b (Some (answer_in (core_at w k).place)) None) NoAnswer; world = with_core w k (cond b (collected (core_at w k)) (core_at w k)) }
    by true f = perform_granted w (collects k) (tests true f)
    by false f = perform_refused w (collects k) NoAnswer (tests false f) ∙ ap (λ (v : World). record { answer = Err NoAnswer; world = v }) (sym (put_back w k))
