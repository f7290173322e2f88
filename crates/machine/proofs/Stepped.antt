use Rattle.std.proofs.Common.{◌≡◌, ℕ, cond, Some, None, Ok, Err, sym, ap, ◌∙◌}
use Rattle.cores.specs.declared.place.Place.{Place}
use Rattle.cores.specs.declared.place.Own.{Own}
use Rattle.cores.specs.declared.table.Refusal.{Refusal}
use Rattle.cores.specs.Cores.{is_finished}
use Rattle.model.specs.World.{World, core_at}
use Rattle.model.specs.Step.{step_change, change_world, arrive, step_world}
use Rattle.model.specs.Calls.{steps}
use Rattle.model.specs.Perform.{Performed, perform}
use Rattle.model.proofs.Granting.{perform_granted, perform_refused}
use Rattle.machine.specs.declared.seen.Seen.{Seen}
use Rattle.machine.specs.Next.{next_place}
use Rattle.machine.specs.Sight.{sight}
use Rattle.machine.specs.Admission.{step_refusal}
use Rattle.machine.proofs.Places.{next_is_step}
use Rattle.machine.proofs.Refused.{step_tests}

-- What a step comes to, by what its tests and its access found.

abbrev pub moved : World → ℕ → World
moved w k =
    arrive (change_world w k (step_change (core_at w k).place)) k (next_place (core_at w k).place (core_at w k).own (sight w k (core_at w k).place))

moved_is : (w : World) (k : ℕ) → step_world w k ≡ moved w k
moved_is w k = ap (λ (p : Place). arrive (change_world w k (step_change (core_at w k).place)) k p) (next_is_step w k (core_at w k).own (core_at w k).place)

pub step_goes : (w : World) (k : ℕ) → step_refusal w.table k ≡ None → perform w (steps k) ≡ record { answer = Ok (cond (is_finished (core_at (moved w k) k).place) 1 0); world = moved w k }
step_goes w k e =
    perform_granted w (steps k) (sym (step_tests w k) ∙ e) ∙ ap (λ (v : World). record { answer = Ok (cond (is_finished (core_at v k).place) 1 0); world = v }) (moved_is w k)

pub step_refused_so : (w : World) (k : ℕ) (q : Refusal) → step_refusal w.table k ≡ Some q → perform w (steps k) ≡ record { answer = Err q; world = w }
step_refused_so w k q e = perform_refused w (steps k) q (sym (step_tests w k) ∙ e)

-- The step put together: the place and own operation of the core, what the access saw and left, the next place, and the arrival there.
pub step_comes : (w after v : World) (k : ℕ) (p : Place) (o : Own) (s : Seen) (n : Place) (x : ℕ) → step_refusal w.table k ≡ None → p ≡ (core_at w k).place → o ≡ (core_at w k).own → s ≡ sight w k p → after ≡ change_world w k (step_change p)
    → n ≡ next_place p o s → v ≡ arrive after k n → x ≡ cond (is_finished (core_at (arrive after k n) k).place) 1 0
    → (Ok x ≡ (perform w (steps k)).answer) × (v ≡ (perform w (steps k)).world)
step_comes w after v k p o s n x none p-is o_is s-is after_is n-is v-is x-is =
    (ap Ok (x-is ∙ ap (λ (u : World). cond (is_finished (core_at u k).place) 1 0) same) ∙ sym (ap (λ (q : Performed). q.answer) e), v-is ∙ same ∙ sym (ap (λ (q : Performed). q.world) e))
  where
    e : perform w (steps k) ≡ record { answer = Ok (cond (is_finished (core_at (moved w k) k).place) 1 0); world = moved w k }
    e = step_goes w k none

    same : arrive after k n ≡ moved w k
    same = rw (after_is, n-is, s-is, p-is, o_is)
