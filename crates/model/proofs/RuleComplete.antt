use Rattle.std.proofs.Common.{◌≡◌, ℕ, ◌<◌, Bool, Some, None, Option, sym, refl, ap, ◌∙◌, subst, inl, inr, ⊎_elim, arith}
use Rattle.std.proofs.lemmas.Bool.{cases_eq, cases_lt}
use Rattle.word.specs.declared.Mark.{Mark}
use Rattle.word.specs.declared.Word.{Word}
use Rattle.word.specs.declared.Word.TheVariants as word
use Rattle.entries.specs.declared.Entry.{Entry}
use Rattle.descriptor.specs.declared.contents.Operation.{Operation}
use Rattle.descriptor.specs.declared.contents.Outcome.{Outcome}
use Rattle.descriptor.specs.declared.contents.Placing.{Placing}
use Rattle.descriptor.specs.Descriptors.{last_number}
use Rattle.descriptor.specs.Contents.{entry_in, State}
use Rattle.cores.specs.declared.place.Work.{Work}
use Rattle.cores.specs.declared.place.Then.{Then}
use Rattle.cores.specs.declared.place.Clearing.TheVariants as clearing
use Rattle.cores.specs.declared.place.Settling.TheVariants as settling
use Rattle.cores.specs.declared.place.Place.{Place}
use Rattle.cores.specs.declared.place.Place.TheVariants.{Idle, Finished, Look, Begin, Fetch, Make, Try, Decide, Clear, Settle}
use Rattle.cores.specs.declared.table.Refusal.{Refusal}
use Rattle.cores.specs.declared.table.Refusal.TheVariants.{AtRest, UsedUp}
use Rattle.model.specs.World.{World, core_at}
use Rattle.model.specs.Step.{step_world}
use Rattle.model.specs.Calls.{steps}
use Rattle.model.specs.Refusals.{refusal_of}
use Rattle.model.specs.Perform.{perform, unless_refused}
use Rattle.model.specs.Relation.{At, Sees, Absent, NoEntry, Current, OvertakenOperation, Stuck, look_unread, try_unread, fetch_no_entry, clear_no_entry, clear_load_absent, clear_swap_absent, settle_absent, Rule, InRange, RelationLaw, look_plain, look_placing, look_operation, begin_undecided, begin_decided, begin_overtaken, fetch, fetch_overtaken, make, try_placed, try_meets_placing, try_meets_own, try_meets_operation, try_differs, decide_first, decide_later, decide_overtaken, clear_read, clear_overtaken, clear_meets_placing, clear_load, clear_takes_out, clear_misses, settle_read, settle_overtaken, settle_undecided, settle_decided, settle_past, settle_replaces, settle_misses}
use Rattle.model.proofs.Sights.{word_or_none, newest_or_older, same_or_other}
use Rattle.model.proofs.RefusalTable.{none_holds}
use Rattle.model.proofs.RuleExact.{exact_step}

-- A rule applies wherever a core is at work and not stuck.

abbrev SomeRule : World → ℕ → Type 0
SomeRule w k = (w' : World) × Rule w k w'

-- from a word that the step asks for
with_word : (w : World) (k i : ℕ) → (Absent w i → Stuck w k) → (Stuck w k → ⊥) → ((x : Word) → Sees w i x → SomeRule w k) → SomeRule w k
with_word w k i gone free go = ⊎_elim (λ g. absurd (free (gone g))) (λ h. go h.0 h.1) (word_or_none w i)

-- from an operation that it asks for, and from an entry of it
with_operation : (w : World) (k : ℕ) (m : Mark) → (OvertakenOperation w m → SomeRule w k) → ((o : Operation) → Current w m o → SomeRule w k) → SomeRule w k
with_operation w k m over go = ⊎_elim over (λ h. go h.0 h.1) (newest_or_older (core_at w m.core).operation m)

with_entry : (w : World) (k : ℕ) (t : Work) (o : Operation) → Current w t.operation o → (NoEntry w t → Stuck w k) → (Stuck w k → ⊥) → ((e : Entry) → entry_in o.list t.index ≡ Some e → SomeRule w k) → SomeRule w k
with_entry w k t o c gone free go = by (entry_in o.list t.index) refl
  where
    by : (x : Option Entry) → entry_in o.list t.index ≡ x → SomeRule w k
    by (Some e) h = go e h
    by None h = absurd (free (gone (o, c, h)))

-- the rules of each place

looks : (w : World) (k i : ℕ) → At w k (Look i) → (Stuck w k → ⊥) → (x : Word) → Sees w i x → SomeRule w k
looks w k i a free (word.Plain v) s = (_, look_plain a s)
looks w k i a free (word.Placing m) s = (_, look_placing a s)
looks w k i a free (word.Operation m) s = (_, look_operation a s)
looks w k i a free (word.Foreign n) s = absurd (free (look_unread a (inr (n, s))))

begins : (w : World) (k : ℕ) (m : Mark) → At w k (Begin m) → (o : Operation) → Current w m o → (x : State) → o.state ≡ x → SomeRule w k
begins w k m a o c None e = (_, begin_undecided a c e)
begins w k m a o c (Some y) e = (_, begin_decided y a c e)

tries : (w : World) (k : ℕ) (t : Work) (e : Entry) (m : Mark) → At w k (Try t e m) → (Stuck w k → ⊥) → (x : Word) → Sees w e.word x → SomeRule w k
tries w k t e m a free (word.Plain v) s =
    ⊎_elim (λ (q : v ≡ e.expected). (_, try_placed a (subst (λ (x : ℕ). Sees w e.word (word.Plain x)) q s))) (λ (n : v ≡ e.expected → ⊥). (_, try_differs a s n)) (cases_eq v e.expected)
tries w k t e m a free (word.Placing n) s = (_, try_meets_placing a s)
tries w k t e m a free (word.Operation u) s =
    ⊎_elim (λ (q : u ≡ t.operation). (_, try_meets_own a (subst (λ (x : Mark). Sees w e.word (word.Operation x)) q s))) (λ (n : u ≡ t.operation → ⊥). (_, try_meets_operation a s n)) (same_or_other u t.operation)
tries w k t e m a free (word.Foreign n) s = absurd (free (try_unread a (inr (n, s))))

decides : (w : World) (k : ℕ) (t : Work) (x : Outcome) → At w k (Decide t x) → (o : Operation) → Current w t.operation o → (y : State) → o.state ≡ y → SomeRule w k
decides w k t x a o c None e = (_, decide_first a c e)
decides w k t x a o c (Some y) e = (_, decide_later y a c e)

clear_loads : (w : World) (k : ℕ) (t : Work) (x : Outcome) (e : Entry) → At w k (Clear t x (clearing.Load e)) → (y : Word) → Sees w e.word y → SomeRule w k
clear_loads w k t x e a (word.Plain v) s = (_, clear_load a s (λ m q. grind arith))
clear_loads w k t x e a (word.Placing m) s = (_, clear_meets_placing a s)
clear_loads w k t x e a (word.Operation m) s = (_, clear_load a s (λ n q. grind arith))
clear_loads w k t x e a (word.Foreign n) s = (_, clear_load a s (λ m q. grind arith))

clear_swaps : (w : World) (k : ℕ) (t : Work) (x : Outcome) (e : Entry) → At w k (Clear t x (clearing.Swap e)) → (y : Word) → Sees w e.word y → SomeRule w k
clear_swaps w k t x e a (word.Plain v) s = (_, clear_misses a s (λ q. grind arith))
clear_swaps w k t x e a (word.Placing m) s = (_, clear_misses a s (λ q. grind arith))
clear_swaps w k t x e a (word.Operation u) s =
    ⊎_elim (λ (q : u ≡ t.operation). (_, clear_takes_out a (subst (λ (v : Mark). Sees w e.word (word.Operation v)) q s))) (λ (n : u ≡ t.operation → ⊥). (_, clear_misses a s (λ q. n (cc)))) (same_or_other u t.operation)
clear_swaps w k t x e a (word.Foreign n) s = (_, clear_misses a s (λ q. grind arith))

settle_states : (w : World) (k : ℕ) (m : Mark) (p : Placing) (j : Then) → At w k (Settle m (settling.State p) j) → (o : Operation) → Current w p.operation o → (y : State) → o.state ≡ y → SomeRule w k
settle_states w k m p j a o c None e = (_, settle_undecided a c e)
settle_states w k m p j a o c (Some y) e = (_, settle_decided a c (λ q. grind arith))

settle_swaps : (w : World) (k : ℕ) (m : Mark) (p : Placing) (u : Bool) (j : Then) → At w k (Settle m (settling.Swap p u) j) → (y : Word) → Sees w p.word y → SomeRule w k
settle_swaps w k m p u j a (word.Plain v) s = (_, settle_misses a s (λ q. grind arith))
settle_swaps w k m p u j a (word.Placing n) s =
    ⊎_elim (λ (q : n ≡ m). (_, settle_replaces a (subst (λ (v : Mark). Sees w p.word (word.Placing v)) q s))) (λ (d : n ≡ m → ⊥). (_, settle_misses a s (λ q. d (cc)))) (same_or_other n m)
settle_swaps w k m p u j a (word.Operation n) s = (_, settle_misses a s (λ q. grind arith))
settle_swaps w k m p u j a (word.Foreign n) s = (_, settle_misses a s (λ q. grind arith))

applies : (w : World) (k : ℕ) → (At w k Idle → ⊥) → ((v : ℕ) → At w k (Finished v) → ⊥) → (Stuck w k → ⊥) → (p : Place) → At w k p → SomeRule w k
applies w k i f free Idle a = absurd (i a)
applies w k i f free (Finished v) a = absurd (f v a)
applies w k i f free (Look j) a = with_word w k j (λ g. look_unread a (inl g)) free (looks w k j a free)
applies w k i f free (Begin m) a = with_operation w k m (λ c. (_, begin_overtaken a c)) (λ o c. begins w k m a o c o.state refl)
applies w k i f free (Fetch t) a =
    with_operation w k t.operation (λ c. (_, fetch_overtaken a c)) (λ o c. with_entry w k t o c (fetch_no_entry a) free (λ e h. (_, fetch a c h)))
applies w k i f free (Make t e) a = (_, make a)
applies w k i f free (Try t e m) a = with_word w k e.word (λ g. try_unread a (inl g)) free (tries w k t e m a free)
applies w k i f free (Decide t x) a = with_operation w k t.operation (λ c. (_, decide_overtaken a c)) (λ o c. decides w k t x a o c o.state refl)
applies w k i f free (Clear t x clearing.Read) a =
    with_operation w k t.operation (λ c. (_, clear_overtaken a c)) (λ o c. with_entry w k t o c (clear_no_entry a) free (λ e h. (_, clear_read a c h)))
applies w k i f free (Clear t x (clearing.Load e)) a = with_word w k e.word (clear_load_absent a) free (clear_loads w k t x e a)
applies w k i f free (Clear t x (clearing.Swap e)) a = with_word w k e.word (clear_swap_absent a) free (clear_swaps w k t x e a)
applies w k i f free (Settle m settling.Read j) a =
    ⊎_elim (λ c. (_, settle_overtaken a c)) (λ h. (_, settle_read a h.1)) (newest_or_older (core_at w m.core).placing m)
applies w k i f free (Settle m (settling.State p) j) a = with_operation w k p.operation (λ c. (_, settle_past a c)) (λ o c. settle_states w k m p j a o c o.state refl)
applies w k i f free (Settle m (settling.Swap p u) j) a = with_word w k p.word (settle_absent a) free (settle_swaps w k m p u j a)

-- A granted step is the step, of a core at work with a number left for what it makes.

granted_step : (w : World) (k : ℕ) → refusal_of w (steps k) ≡ None → (perform w (steps k)).world ≡ step_world w k
unfolding perform
granted_step w k g = ap (λ (o : Option Refusal). (unless_refused o w (steps k)).world) g

numbers_left : (w : World) (k : ℕ) → refusal_of w (steps k) ≡ None → (t : Work) (e : Entry) → At w k (Make t e) → (core_at w k).placing.last < last_number
numbers_left w k g t e a =
    ⊎_elim (λ l. l) (λ l. absurd (none_holds w (steps k) g UsedUp (inr (k, refl, ((t, e, a), l))))) (cases_lt (core_at w k).placing.last last_number)

exact : (w w' : World) (k : ℕ) → refusal_of w (steps k) ≡ None → InRange (core_at w k).place → Rule w k w' → (perform w (steps k)).world ≡ w'
exact w w' k g r h = granted_step w k g ∙ exact_step w k r (numbers_left w k g) w' h

complete : (w : World) (k : ℕ) → refusal_of w (steps k) ≡ None → InRange (core_at w k).place → (Stuck w k → ⊥) → Rule w k (perform w (steps k)).world
complete w k g r free =
    let h = applies w k (λ a. none_holds w (steps k) g AtRest (k, refl, inl a)) (λ v a. none_holds w (steps k) g AtRest (k, refl, inr (v, a))) free (core_at w k).place refl in
    subst (Rule w k) (sym (exact w h.0 k g r h.1)) h.1

pub relation_law : RelationLaw
relation_law = record { exact = exact; complete = complete }
