use Rattle.std.proofs.Common.{◌≡◌, ℕ, zero, suc, ◌+◌, ◌<◌, ◌≤◌, true, [], length, get_or, replicate, sym, refl, subst, ⊎_elim, add-one, arith}
use Rattle.std.proofs.lemmas.Bool.{cases_lt}
use Rattle.std.proofs.lemmas.List.{get_or-replicate, length-replicate, get_or_past}
use Rattle.word.specs.declared.Word.{Word}
use Rattle.word.specs.declared.Word.TheVariants as word
use Rattle.cores.specs.declared.place.Place.TheVariants.{Idle}
use Rattle.cores.specs.declared.place.Own.TheVariants as own
use Rattle.cores.specs.declared.table.Core.{Core}
use Rattle.model.specs.World.{World, core_at}
use Rattle.cores.specs.Cores.{new_core}
use Rattle.descriptor.specs.Contents.{entries_of}
use Rattle.model.specs.Calls.{Call, steps, opens}
use Rattle.model.specs.Refusals.{table_for, is_plain}
use Rattle.model.specs.Perform.{perform, closed_table}
use Rattle.model.specs.Histories.{History, after_calls, opening_of, world_at}
use Rattle.model.specs.Relation.{InRange}
use Rattle.model.specs.StepLaw.{StepsFollowRules}
use Rattle.cores.specs.declared.table.Refusal.TheVariants.{NoCore}
use Rattle.model.proofs.RefusalTable.{none_holds}
use Rattle.model.proofs.RuleComplete.{relation_law}
use Rattle.model.proofs.Memory.{Memory, view}
use Rattle.model.proofs.Facts.{Apart, PlaceOk, WordOk, OwnOk, Inv}
use Rattle.model.proofs.Granting.{test_fails, all_plain}
use Rattle.model.proofs.Moments.{world_next}
use Rattle.model.proofs.InRange.{ranged, moment_next}
use Rattle.model.proofs.Unstuck.{place_in_range, not_stuck}
use Rattle.model.proofs.Happened.{Goes, Happened, call_goes}

-- The invariants hold in every world of every history.

-- what holds of new cores holds of every core of the opened world
pub each_core : (h : History) (k : ℕ) (P : Core → Type 0) → ((n : ℕ) → P (new_core n)) → P (core_at (opening_of h) k)
each_core h k P new =
    ⊎_elim (λ (l : k < 8). subst P (sym (get_or-replicate 8 k (new_core h.setting.first) (new_core 0) l)) (new _))
    (λ (l : 8 ≤ k). subst P (sym (get_or_past (replicate 8 (new_core h.setting.first)) k (new_core 0) (omega (arith, length-replicate 8 (new_core h.setting.first))))) (new 0)) (cases_lt k 8)

plain_ok : (a : Memory) (i : ℕ) (x : Word) → is_plain x ≡ true → WordOk a i x
plain_ok a i (word.Plain v) e = tt
plain_ok a i (word.Placing m) e = absurd (grind arith)
plain_ok a i (word.Operation m) e = absurd (grind arith)
plain_ok a i (word.Foreign n) e = absurd (grind arith)

inv_opening : (h : History) → Inv (view (opening_of h))
inv_opening h = record {
  words = λ i. plain_ok a i (a.word i) (all_plain 0 h.words (test_fails 3 (table_for (record { words = h.words; table = closed_table }) (opens h.setting)) h.granted) i);
  places_ok = λ k. subst (PlaceOk a k) (sym (each_core h k (λ c. c.place ≡ Idle) (λ _. refl))) (λ _. each_core h k (λ c. entries_of c.operation.contents.list ≡ []) (λ _. refl));
  owns = λ k. subst (OwnOk a k) (sym (each_core h k (λ c. c.own ≡ own.Nothing) (λ _. refl))) (each_core h k (λ c. c.place ≡ Idle) (λ _. refl));
  lists = λ k. each_core h k (λ c. Apart (entries_of c.operation.contents.list)) (λ n i j l _ _. absurd (omega arith));
  pl_ops = λ k. let z : (a.pl k).operation.number ≡ 0 = each_core h k (λ c. c.placing.contents.operation.number ≡ 0) (λ _. refl) in omega arith;
}
  where
    a : Memory
    a = view (opening_of h)

goes_at : (h : History) (t : ℕ) → Inv (view (world_at h t)) → (c : Call) → Goes (view (world_at h t)) c (view (perform (world_at h t) c).world) (perform (world_at h t) c).answer
goes_at h t inv c =
    call_goes h.setting.first (world_at h t) (ranged h t) inv (λ k l. place_in_range h.setting.first (world_at h t) k (ranged h t) l)
    (λ k l. not_stuck h.setting.first (world_at h t) k (ranged h t) inv l) c

pub invariant : (h : History) (t : ℕ) → Inv (view (world_at h t))
unfolding after_calls
invariant h zero = inv_opening h
invariant h (suc t) =
    subst (λ (n : ℕ). Inv (view (world_at h n))) (add-one t)
    (moment_next h t (λ w v. Inv (view w) → Inv (view v)) (λ _ i. i) (λ c i. (goes_at h t i c).0) (invariant h t))

-- what happens at each call
pub happens : (h : History) (t : ℕ) → t < length h.calls
    → Happened (view (world_at h t)) (view (world_at h (t + 1))) (get_or h.calls t (steps 0)) (perform (world_at h t) (get_or h.calls t (steps 0))).answer
happens h t l =
    let c = get_or h.calls t (steps 0) in
    subst (λ (w : World). Happened (view (world_at h t)) (view w) c (perform (world_at h t) c).answer) (sym (world_next h t l)) (goes_at h t (invariant h t) c).1

-- and every granted step, at any moment, follows a rule
pub steps_follow_rules : StepsFollowRules
steps_follow_rules h t k e =
    record { by_a_rule = relation_law.complete w k e in_range (not_stuck first w k (ranged h t) (invariant h t) there); by_no_other = λ w' rule. relation_law.exact w w' k e in_range rule }
  where
    w : World
    w = world_at h t

    first : ℕ
    first = h.setting.first

    there : k < 8
    there = ⊎_elim (λ l. l) (λ (ge : 8 ≤ k). absurd (none_holds w (steps k) e NoCore (k, refl, λ z. omega (arith, z.1)))) (cases_lt k 8)

    in_range : InRange (core_at w k).place
    in_range = place_in_range first w k (ranged h t) there
