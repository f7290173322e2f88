use Rattle.std.proofs.Common.{◌≡◌, ℕ, ◌+◌, ◌<◌, ◌≤◌, false, ltb, Some, None, Ok, Option, sym, refl, ap, ◌∙◌, subst, inl, ⊎_elim, arith, get_or-set_same}
use Rattle.std.proofs.lemmas.Bool.{cond_both, cases_lt, cases_Bool}
use Rattle.entries.specs.declared.list.Entries.{Entries}
use Rattle.descriptor.specs.declared.Descriptor.{Descriptor}
use Rattle.descriptor.specs.declared.contents.Operation.{Operation}
use Rattle.descriptor.specs.Descriptors.{last_number}
use Rattle.descriptor.specs.Contents.{undecided}
use Rattle.cores.specs.declared.place.Place.TheVariants.{Finished}
use Rattle.cores.specs.declared.place.Own.{Own}
use Rattle.cores.specs.declared.place.Own.TheVariants as own
use Rattle.cores.specs.declared.table.Core.{Core}
use Rattle.cores.specs.declared.table.Refusal.{Refusal}
use Rattle.cores.specs.declared.table.Refusal.TheVariants.{NoCore, Halted, UsedUp}
use Rattle.model.specs.World.{World, core_at, with_core}
use Rattle.cores.specs.Cores.{new_core, is_finished, started, answer_in}
use Rattle.model.specs.Step.{Change, nothing, swaps, decides, makes, step_change, change_world, step_world}
use Rattle.model.specs.Calls.{Call, starts, reads, steps, collects, halts, shows, raws, opens, started_core}
use Rattle.model.specs.Refusals.{refusal_of}
use Rattle.model.specs.RefusalLaw.{Holds}
use Rattle.model.specs.Perform.{Performed, perform, granted, unless_refused, start_number}
use Rattle.model.specs.Histories.{History, world_at, Called}
use Rattle.model.specs.Marks.{operation, Creates}
use Rattle.model.proofs.RefusalTable.{none_holds}
use Rattle.model.proofs.Moments.{world_next}
use Rattle.model.proofs.Granting.{perform_granted, collect_granted}
use Rattle.model.proofs.Unrefused.{core_there, number_left}
use Rattle.model.proofs.Ranges.{Ranged}
use Rattle.model.proofs.InRange.{created_left, ranged_call, ranged}
use Rattle.model.proofs.Creations.{put_any}
use Rattle.model.proofs.MarkPromises.{marks_tell_creations_apart}

-- What a finished core answers, and which start an answer is of.

-- A step leaves the count of cores and every halted flag as they are.

change_count : (w : World) (k : ℕ) (x : Change) → (change_world w k x).table.count ≡ w.table.count
change_count w k nothing = refl
change_count w k (swaps i old new) = refl
change_count w k (decides m o) = cond_both (ltb m.core 8) _ _ (λ (v : World). v.table.count ≡ w.table.count) (λ _. refl) (λ _. refl)
change_count w k (makes p) = refl

change_halted : (w : World) (k : ℕ) (x : Change) (j : ℕ) → (core_at (change_world w k x) j).halted ≡ (core_at w j).halted
change_halted w k nothing j = refl
change_halted w k (swaps i old new) j = refl
change_halted w k (decides m o) j =
    cond_both (ltb m.core 8) _ _ (λ (v : World). (core_at v j).halted ≡ (core_at w j).halted)
    (λ _. put_any w m.core _ j (λ c. c.halted ≡ (core_at w j).halted) (λ e. ap (λ (y : ℕ). (core_at w y).halted) (sym e)) refl) (λ _. refl)
change_halted w k (makes p) j = put_any w k _ j (λ c. c.halted ≡ (core_at w j).halted) (λ e. ap (λ (y : ℕ). (core_at w y).halted) (sym e)) refl

step_count : (w : World) (k : ℕ) → (step_world w k).table.count ≡ w.table.count
step_count w k = change_count w k (step_change (core_at w k).place)

step_halted : (w : World) (k : ℕ) → (core_at (step_world w k) k).halted ≡ (core_at w k).halted
step_halted w k =
    let x : Change = step_change (core_at w k).place in
    put_any (change_world w k x) k _ k (λ c. c.halted ≡ (core_at w k).halted) (λ _. change_halted w k x k) (change_halted w k x k)

-- Once a granted step finishes core k with v, a collect answers v.
pub collect_after : (first : ℕ) (w : World) (k v : ℕ) → Ranged first w → refusal_of w (steps k) ≡ None → (core_at (perform w (steps k)).world k).place ≡ Finished v
    → (perform (perform w (steps k)).world (collects k)).answer ≡ Ok v
collect_after first w k v r e fin =
    ap (λ (p : Performed). p.answer)
    (perform_granted u (collects k)
    (collect_granted u k (ranged_call first w (steps k) r).running (omega (arith, there, same_count)) (omega (arith, there, r.few)) (same_halted ∙ unhalted) (ap is_finished fin)))
    ∙ ap (λ p. Ok (answer_in p)) fin
  where
    u : World
    u = (perform w (steps k)).world

    none : (q : Refusal) → Holds w (steps k) q → ⊥
    none = none_holds w (steps k) e

    there : k < w.table.count
    there = ⊎_elim (λ l. l) (λ (ge : w.table.count ≤ k). absurd (none NoCore (k, refl, λ h. omega (arith, h.0)))) (cases_lt k w.table.count)

    unhalted : (core_at w k).halted ≡ false
    unhalted = ⊎_elim (λ t. absurd (none Halted (k, refl, t))) (λ f. f) (cases_Bool (core_at w k).halted)

    same_count : u.table.count ≡ w.table.count
    same_count = ap (λ (p : Performed). p.world.table.count) (perform_granted w (steps k) e) ∙ step_count w k

    same_halted : (core_at u k).halted ≡ (core_at w k).halted
    same_halted = ap (λ (p : Performed). (core_at p.world k).halted) (perform_granted w (steps k) e) ∙ step_halted w k

-- An accepted start answers the next number of the core's operations, and takes it.

abbrev TakesNext : World → World → ℕ → ℕ → Type 0
TakesNext w u c n = ((core_at w c).operation.last + 1 ≡ n) × ((core_at u c).operation.last ≡ n)

start_takes : (first : ℕ) (w : World) (k : ℕ) (mine : Own) (l : Option Entries) → Ranged first w → k < 8 → (core_at w k).operation.last < last_number
    → (core_at (with_core w k (started (core_at w k) mine l)) k).operation.last ≡ (core_at w k).operation.last + 1
start_takes first w k mine l r k8 left =
    ap (λ (c : Core). c.operation.last) (get_or-set_same w.table.cores k (started (core_at w k) mine l) (new_core 0) (omega (arith, r.eight)))
    ∙ ap (λ (d : Descriptor Operation). d.last) (created_left (core_at w k).operation (undecided l) left)

module _ (first : ℕ) (w : World) (r : Ranged first w) where
  granted_takes : (x : Call) (c n : ℕ) → ((q : Refusal) → Holds w x q → ⊥) → started_core x ≡ Some c → (granted w x).answer ≡ Ok n → TakesNext w (granted w x).world c n
  granted_takes (starts k l) c n none s a =
      let same : k ≡ c = cc in
      let number : (core_at w k).operation.last + 1 ≡ n = cc in
      subst (λ (j : ℕ). TakesNext w (granted w (starts k l)).world j n) same
      (number, start_takes first w k (own.List (record { core = k; number = start_number w k })) (Some l) r (core_there w (starts k l) k none refl) (number_left _ (λ ge. none UsedUp (inl (k, refl, ge)))) ∙ number)
  granted_takes (reads k i) c n none s a =
      let same : k ≡ c = cc in
      let number : (core_at w k).operation.last + 1 ≡ n = cc in
      subst (λ (j : ℕ). TakesNext w (granted w (reads k i)).world j n) same
      (number, start_takes first w k (own.Read i) None r (core_there w (reads k i) k none refl) (number_left _ (λ ge. none UsedUp (inl (k, refl, ge)))) ∙ number)
  granted_takes (steps k) c n none s a = absurd (grind arith)
  granted_takes (collects k) c n none s a = absurd (grind arith)
  granted_takes (halts k) c n none s a = absurd (grind arith)
  granted_takes (shows i) c n none s a = absurd (grind arith)
  granted_takes (raws i) c n none s a = absurd (grind arith)
  granted_takes (opens t) c n none s a = absurd (grind arith)

  accepted_takes : (x : Call) (c n : ℕ) → started_core x ≡ Some c → (perform w x).answer ≡ Ok n → TakesNext w (perform w x).world c n
  unfolding perform
  accepted_takes x c n s a = by (refusal_of w x) refl a
    where
      by : (o : Option Refusal) → refusal_of w x ≡ o → (unless_refused o w x).answer ≡ Ok n → TakesNext w (unless_refused o w x).world c n
      by (Some q) e z = absurd (grind arith)
      by None e z = granted_takes x c n (none_holds w x e) s z

module _ (h : History) where
  -- so it creates the operation of that number
  start_creates : (p c n : ℕ) (x : Call) → started_core x ≡ Some c → Called h p x (Ok n) → Creates h p (operation (record { core = c; number = n }))
  start_creates p c n x s z =
      let t = accepted_takes h.setting.first (world_at h p) (ranged h p) x c n s z.answers in
      let next : world_at h (p + 1) ≡ (perform (world_at h p) x).world = world_next h p z.there ∙ ap (λ (y : Call). (perform (world_at h p) y).world) z.call in
      record { there = z.there; next = t.0; taken = ap (λ (u : World). (core_at u c).operation.last) next ∙ t.1 }

-- At most one start on a core answers a given number.
pub one_start : (h : History) (p q c n : ℕ) (x y : Call) → started_core x ≡ Some c → started_core y ≡ Some c → Called h p x (Ok n) → Called h q y (Ok n) → p ≡ q
one_start h p q c n x y s t a b =
    (marks_tell_creations_apart h).made_once (operation (record { core = c; number = n })) p q (start_creates h p c n x s a) (start_creates h q c n y t b)
