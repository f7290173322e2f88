use Rattle.std.proofs.Common.{◌≡◌, ℕ, ◌+◌, ◌<◌, Bool, true, false, cond, [], length, Some, None, Ok, Err, Option, Result, sym, refl, ap, ◌∙◌, subst, inl, inr, ⊎_elim, arith}
use Rattle.std.proofs.lemmas.Bool.{both_ways, cases_Bool}
use Rattle.entries.specs.declared.list.Entries.{Entries}
use Rattle.entries.specs.Listed.{listed}
use Rattle.cores.specs.declared.place.Place.TheVariants.{Idle, Finished, Look, Begin}
use Rattle.cores.specs.declared.place.Own.TheVariants as own
use Rattle.cores.specs.declared.table.Refusal.{Refusal}
use Rattle.cores.specs.declared.table.Refusal.TheVariants.{Open, Busy, AtRest, UsedUp, NoAnswer}
use Rattle.model.specs.World.{World, core_at}
use Rattle.model.specs.Calls.{Call, starts, reads, steps, collects, halts, shows, raws, opens}
use Rattle.model.specs.Refusals.{refusal_of}
use Rattle.cores.specs.Cores.{is_idle, is_finished, answer_in}
use Rattle.model.specs.RefusalLaw.{Holds}
use Rattle.model.specs.Perform.{perform, granted}
use Rattle.model.specs.Relation.{Rule, InRange, Stuck}
use Rattle.model.proofs.Memory.{Memory, view, move, fresh_op, disown}
use Rattle.model.proofs.Facts.{Inv}
use Rattle.model.proofs.RefusalTests.{decides_idle, decides_finished}
use Rattle.model.proofs.RefusalTable.{none_holds}
use Rattle.model.proofs.Granting.{perform_granted, perform_refused}
use Rattle.model.proofs.Unrefused.{core_there, number_left}
use Rattle.model.proofs.Ranges.{Ranged}
use Rattle.model.proofs.Events.{Stepped}
use Rattle.model.proofs.RuleKept.{rule_kept}
use Rattle.model.proofs.RuleComplete.{relation_law}
use Rattle.model.proofs.CallKept.{inv_collect, view_started, view_collected, view_halted, next_mark, inv_list_start, inv_read_start}

-- What every call does to the memory, by what it answers.

-- a call that looks or halts
abbrev pub looks : Call → Bool
looks (starts k l) = false
looks (reads k i) = false
looks (steps k) = false
looks (collects k) = false
looks (halts k) = true
looks (shows i) = true
looks (raws i) = true
looks (opens s) = false

pub data Happened (a a' : Memory) : Call → Result ℕ Refusal → Type 0 where
  list_started : (k : ℕ) (l : Entries) → a.place k ≡ Idle → a' ≡ move (fresh_op a k (listed l) (own.List (next_mark a k))) k (Begin (next_mark a k)) → Happened a a' (starts k l) (Ok (a.num k + 1))
  read_started : (k i : ℕ) → a.place k ≡ Idle → a' ≡ move (fresh_op a k [] (own.Read i)) k (Look i) → Happened a a' (reads k i) (Ok (a.num k + 1))
  stepped : (k : ℕ) → is_idle (a.place k) ≡ false → is_finished (a.place k) ≡ false → Stepped a a' k → Happened a a' (steps k) (Ok (cond (is_finished (a'.place k)) 1 0))
  collected : (k v : ℕ) → a.place k ≡ Finished v → a' ≡ disown (move a k Idle) k own.Nothing → Happened a a' (collects k) (Ok v)
  looked : (c : Call) (n : ℕ) → looks c ≡ true → a' ≡ a → Happened a a' c (Ok n)
  refused : (c : Call) (q : Refusal) → a' ≡ a → Happened a a' c (Err q)

abbrev pub Goes : Memory → Call → Memory → Result ℕ Refusal → Type 0
Goes a c a' r = Inv a' × Happened a a' c r

module _ (first : ℕ) (w : World) (r : Ranged first w) (inv : Inv (view w)) (in_range : (k : ℕ) → k < 8 → InRange (core_at w k).place) (unstuck : (k : ℕ) → k < 8 → Stuck w k → ⊥) where
  abbrev a : Memory
  a = view w

  room : (k : ℕ) → k < 8 → k < length w.table.cores
  room k k8 = omega (arith, r.eight)

  -- a core that may be started is idle
  idle_there : (k : ℕ) → (is_idle (a.place k) ≡ false → ⊥) → a.place k ≡ Idle
  idle_there k h = ⊎_elim (λ e. (decides_idle (a.place k)).0 e) (λ e. absurd (h e)) (cases_Bool (is_idle (a.place k)))

  fails_when : (b : Bool) → (b ≡ true → ⊥) → b ≡ false
  fails_when b h = ⊎_elim (λ e. absurd (h e)) (λ e. e) (cases_Bool b)

  granted_goes : (c : Call) → refusal_of w c ≡ None → ((q : Refusal) → Holds w c q → ⊥) → Goes a c (view (granted w c).world) (granted w c).answer
  granted_goes (starts k l) e none =
      let k8 = core_there w (starts k l) k none refl in
      let idle = idle_there k (λ z. none Busy (k, refl, λ q. both_ways _ z ((decides_idle _).1 q))) in
      let same = view_started w k (own.List (next_mark a k)) (Some l) (room k k8) (number_left _ (λ ge. none UsedUp (inl (k, refl, ge)))) in
      (subst Inv (sym same) (inv_list_start a k l inv idle), list_started k l idle same)
  granted_goes (reads k i) e none =
      let k8 = core_there w (reads k i) k none refl in
      let idle = idle_there k (λ z. none Busy (k, refl, λ q. both_ways _ z ((decides_idle _).1 q))) in
      let same = view_started w k (own.Read i) None (room k k8) (number_left _ (λ ge. none UsedUp (inl (k, refl, ge)))) in
      (subst Inv (sym same) (inv_read_start a k i inv idle), read_started k i idle same)
  granted_goes (steps k) e none =
      let k8 = core_there w (steps k) k none refl in
      let rule : Rule w k (perform w (steps k)).world = relation_law.complete w k e (in_range k k8) (unstuck k k8) in
      let kept = rule_kept first w k inv r k8 (granted w (steps k)).world (subst (λ p. Rule w k p.world) (perform_granted w (steps k) e) rule) in
      (kept.0, stepped k (fails_when _ (λ z. none AtRest (k, refl, inl ((decides_idle _).0 z)))) (fails_when _ (λ z. none AtRest (k, refl, inr ((decides_finished _).0 z)))) kept.1)
  granted_goes (collects k) e none =
      let k8 = core_there w (collects k) k none refl in
      let same = view_collected w k (room k k8) in
      let fin = (decides_finished (a.place k)).0 (⊎_elim (λ z. z) (λ z. absurd (none NoAnswer (k, refl, λ f. both_ways _ z ((decides_finished _).1 f)))) (cases_Bool (is_finished (a.place k)))) in
      let here : a.place k ≡ Finished (answer_in (a.place k)) = fin.1 ∙ sym (ap (λ p. Finished (answer_in p)) fin.1) in
      (subst Inv (sym same) (inv_collect a k _ inv here), collected k _ here same)
  granted_goes (halts k) e none =
      let same = view_halted w k (room k (core_there w (halts k) k none refl)) in
      (subst Inv (sym same) inv, looked (halts k) 0 refl same)
  granted_goes (shows i) e none = (inv, looked (shows i) _ refl refl)
  granted_goes (raws i) e none = (inv, looked (raws i) _ refl refl)
  granted_goes (opens s) e none = absurd (none Open (r.running, (s, refl)))

  pub call_goes : (c : Call) → Goes a c (view (perform w c).world) (perform w c).answer
  call_goes c = by (refusal_of w c) refl
    where
      by : (o : Option Refusal) → refusal_of w c ≡ o → Goes a c (view (perform w c).world) (perform w c).answer
      by (Some q) e = subst (λ p. Goes a c (view p.world) p.answer) (sym (perform_refused w c q e)) (inv, refused c q refl)
      by None e = subst (λ p. Goes a c (view p.world) p.answer) (sym (perform_granted w c e)) (granted_goes c e (none_holds w c e))
