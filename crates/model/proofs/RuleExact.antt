use Rattle.std.proofs.Common.{◌≡◌, ℕ, ◌<◌, Bool, true, false, cond, eqb, ltb, List, Some, None, Option, Result, sym, refl, ap, ◌∙◌, arith}
use Rattle.std.proofs.lemmas.List.{set-get_or}
use Rattle.std.proofs.lemmas.Bool.{lt-ltb, eq-eqb, ne_eqb, ltb-true, cond-true, cond-false, cond_both}
use Rattle.std.proofs.lemmas.Bool.Decides.{nat_tests}
use Rattle.word.specs.declared.Mark.{Mark}
use Rattle.word.specs.declared.Word.{Word}
use Rattle.word.specs.declared.Word.TheVariants as word
use Rattle.word.specs.Word.{raw_of, Writable}
use Rattle.entries.specs.declared.Entry.{Entry}
use Rattle.descriptor.specs.declared.Descriptor.{Descriptor}
use Rattle.descriptor.specs.declared.Overtaken.{Overtaken}
use Rattle.descriptor.specs.declared.contents.Operation.{Operation}
use Rattle.descriptor.specs.declared.contents.Outcome.{Outcome}
use Rattle.descriptor.specs.declared.contents.Placing.{Placing}
use Rattle.descriptor.specs.Descriptors.{last_number, changed}
use Rattle.descriptor.specs.Contents.{count_of, entry_in, decided, with_outcome, State}
use Rattle.cores.specs.declared.place.Work.{Work}
use Rattle.cores.specs.declared.place.Clearing.TheVariants as clearing
use Rattle.cores.specs.declared.place.Settling.TheVariants as settling
use Rattle.cores.specs.declared.place.Place.{Place}
use Rattle.cores.specs.declared.place.Place.TheVariants.{Look, Fetch, Make, Try, Clear, Settle}
use Rattle.cores.specs.declared.table.Core.{Core}
use Rattle.model.specs.World.{World, core_at, word_at, with_words, with_core, with_cores}
use Rattle.cores.specs.Cores.{new_core, with_operation, with_placing}
use Rattle.model.specs.Rules.{by_sight, through_mark, same_mark, after_look, after_begin, after_try, after_decide, outcome_after, after_clear_load, after_clear_swap, resume, is_undecided}
use Rattle.model.specs.Step.{arrive, change_world, swaps, decides, makes, step_change, step_place, step_world, after_make, cleared_to, settled_to}
use Rattle.model.specs.Relation.{goes, stores, creates, decides_on, At, Sees, Newest, Older, Current, OvertakenOperation, Rule, InRange, look_plain, look_placing, look_operation, begin_undecided, begin_decided, begin_overtaken, fetch, fetch_overtaken, make, try_placed, try_meets_placing, try_meets_own, try_meets_operation, try_differs, decide_first, decide_later, decide_overtaken, clear_read, clear_overtaken, clear_meets_placing, clear_load, clear_takes_out, clear_misses, settle_read, settle_overtaken, settle_undecided, settle_decided, settle_past, settle_replaces, settle_misses}
use Rattle.model.proofs.Sights.{through, sees_word, newest_reads, older_reads, swap_stores, swap_misses}

-- Each rule is what the step does.

-- a step from the place p, and where it comes to by what it changes and where it goes
abbrev step_at : World → ℕ → Place → World
step_at w k p = arrive (change_world w k (step_change p)) k (step_place w k (core_at w k).own p)

comes_to : (w : World) (k : ℕ) {p : Place} (v : World) (q : Place) → At w k p → change_world w k (step_change p) ≡ v → step_place w k (core_at w k).own p ≡ q → step_world w k ≡ goes v k q
comes_to w k v q a e f = ap (step_at w k) a ∙ (λ i. goes (e i) k (f i))

-- Where it goes, by what it saw.

seen_word : (w : World) (i : ℕ) (stay : Place) (go : Word → Place) (x : Word) → Sees w i x → by_sight (word_at w i) stay go ≡ go x
seen_word w i stay go x s = ap (λ (o : Option Word). by_sight o stay go) (sees_word w i x s)

seen_newest : {X : Type 0} (d : Descriptor X) (m : Mark) (over : Place) (go : X → Place) (x : X) → Newest d m x → through_mark (through d m) over go ≡ go x
seen_newest {X} d m over go x c = ap (λ (r : Result X Overtaken). through_mark r over go) (newest_reads d m x c)

seen_older : {X : Type 0} (d : Descriptor X) (m : Mark) (over : Place) (go : X → Place) → Older d m → through_mark (through d m) over go ≡ over
seen_older {X} d m over go c = ap (λ (r : Result X Overtaken). through_mark r over go) (older_reads d m c)

-- the entry that an operation has
seen_entry : (w : World) (t : Work) (over stay : Place) (go : Entry → Place) (o : Operation) (e : Entry) → Current w t.operation o → entry_in o.list t.index ≡ Some e
    → through_mark (through (core_at w t.operation.core).operation t.operation) over (λ p. by_sight (entry_in p.list t.index) stay go) ≡ go e
seen_entry w t over stay go o e c h = seen_newest _ t.operation over (λ p. by_sight (entry_in p.list t.index) stay go) o c ∙ ap (λ (x : Option Entry). by_sight x stay go) h

marks_equal : (m : Mark) → same_mark m m ≡ true
marks_equal m = grind (arith, nat_tests)

marks_differ : (a b : Mark) → (a ≡ b → ⊥) → same_mark a b ≡ false
marks_differ a b n = by (same_mark a b) refl
  where
    by : (t : Bool) → same_mark a b ≡ t → t ≡ false
    by true e = let p : a.core ≡ b.core = grind (arith, nat_tests) in let q : a.number ≡ b.number = grind (arith, nat_tests) in absurd (n (λ i. record { core = p i; number = q i }))
    by false e = refl

is_decided : (s : State) → (s ≡ None → ⊥) → is_undecided s ≡ false
is_decided None n = absurd (n refl)
is_decided (Some x) n = refl

cleared_past : (t : Work) (x : Outcome) (e : Entry) (s : Word) → ((m : Mark) → s ≡ word.Placing m → ⊥) → after_clear_load t x e s ≡ Clear t x (clearing.Swap e)
cleared_past t x e (word.Plain v) n = refl
cleared_past t x e (word.Placing m) n = absurd (n m refl)
cleared_past t x e (word.Operation m) n = refl
cleared_past t x e (word.Foreign i) n = refl

-- What it changes.

stored : (w : World) (k i : ℕ) (old new : Word) → Sees w i old → change_world w k (swaps i old new) ≡ stores w i new
stored w k i old new s = ap (with_words w) (swap_stores w i old (raw_of new) s)

missed : (w : World) (k i : ℕ) (old new x : Word) → Writable old → Sees w i x → (x ≡ old → ⊥) → change_world w k (swaps i old new) ≡ w
missed w k i old new x h s n = ap (with_words w) (swap_misses w i old x (raw_of new) h s n)

-- the world with core c as it is, and with another operation descriptor for it
same_core : (w : World) (c : ℕ) → with_core w c (core_at w c) ≡ w
same_core w c = ap (λ (cs : List Core). record { words = w.words; table = with_cores w.table cs }) (set-get_or w.table.cores c (new_core 0))

abbrev with_descriptor : World → ℕ → Descriptor Operation → World
with_descriptor w c d = with_core w c (with_operation (core_at w c) d)

-- what a decision leaves of an operation descriptor
changed_newest : (d : Descriptor Operation) (n : ℕ) (o : Operation) (x : Outcome) → n ≡ d.last → d.contents ≡ o → changed (λ p. with_outcome p x) d n ≡ record { last = n; contents = with_outcome o x }
changed_newest d n o x h e =
    let new : cond (eqb n d.last) (with_outcome d.contents x) d.contents ≡ with_outcome o x = cond-true _ _ _ (eq-eqb n d.last h) ∙ ap (λ (p : Operation). with_outcome p x) e in
    λ i. record { last = sym h i; contents = new i }

changed_older : (d : Descriptor Operation) (n : ℕ) (x : Outcome) → (n ≡ d.last → ⊥) → changed (λ p. with_outcome p x) d n ≡ d
changed_older d n x h =
    let old : cond (eqb n d.last) (with_outcome d.contents x) d.contents ≡ d.contents = cond-false _ _ _ (ne_eqb n d.last h) in
    λ i. record { last = d.last; contents = old i }

decided_first : (w : World) (k : ℕ) (m : Mark) (o : Operation) (x : Outcome) → Current w m o → o.state ≡ None → change_world w k (decides m x) ≡ decides_on w m o x
decided_first w k m o x (c, n, e) u =
    cond-true _ _ _ (lt-ltb m.core 8 c) ∙ ap (with_descriptor w m.core) (changed_newest (core_at w m.core).operation m.number o x n e)
    ∙ ap (λ (s : State). with_descriptor w m.core (record { last = m.number; contents = record { list = o.list; state = decided s x } })) u

decided_later : (w : World) (k : ℕ) (m : Mark) (o : Operation) (x y : Outcome) → Current w m o → o.state ≡ Some y → change_world w k (decides m x) ≡ w
decided_later w k m o x y (c, n, e) u =
    let s : decided o.state x ≡ o.state = ap (λ (s : State). decided s x) u ∙ sym u in
    let kept : with_outcome o x ≡ o = λ i. record { list = o.list; state = s i } in
    let back : with_outcome o x ≡ (core_at w m.core).operation.contents = kept ∙ sym e in
    cond-true _ _ _ (lt-ltb m.core 8 c) ∙ ap (with_descriptor w m.core) (changed_newest (core_at w m.core).operation m.number o x n e)
    ∙ (λ i. with_descriptor w m.core (record { last = n i; contents = back i })) ∙ same_core w m.core

decided_never : (w : World) (k : ℕ) (m : Mark) (x : Outcome) → OvertakenOperation w m → change_world w k (decides m x) ≡ w
decided_never w k m x c =
    cond_both (ltb m.core 8) (with_descriptor w m.core (changed (λ p. with_outcome p x) (core_at w m.core).operation m.number)) w (λ (v : World). v ≡ w)
    (λ l. ap (with_descriptor w m.core) (changed_older (core_at w m.core).operation m.number x (λ n. c (ltb-true m.core 8 l, n))) ∙ same_core w m.core)
    (λ l. refl)

made : (w : World) (k : ℕ) (p : Placing) → (core_at w k).placing.last < last_number → change_world w k (makes p) ≡ creates w k p
made w k p l = ap (λ (d : Descriptor Placing). with_core w k (with_placing (core_at w k) d)) (cond-true _ _ _ (lt-ltb (core_at w k).placing.last last_number l))

pub exact_step : (w : World) (k : ℕ) → InRange (core_at w k).place → ((t : Work) (e : Entry) → At w k (Make t e) → (core_at w k).placing.last < last_number) → (w' : World) → Rule w k w' → step_world w k ≡ w'
exact_step w k r u _ (look_plain {i = i} {v = v} a s) = comes_to w k w _ a refl (seen_word w i (Look i) (after_look i) _ s)
exact_step w k r u _ (look_placing {i = i} {m = m} a s) = comes_to w k w _ a refl (seen_word w i (Look i) (after_look i) _ s)
exact_step w k r u _ (look_operation {i = i} {m = m} a s) = comes_to w k w _ a refl (seen_word w i (Look i) (after_look i) _ s)
exact_step w k r u _ (begin_undecided {m = m} {o = o} a c e) = comes_to w k w _ a refl (seen_newest _ m _ (λ p. after_begin m (count_of p.list) p.state) o c ∙ ap (after_begin m (count_of o.list)) e)
exact_step w k r u _ (begin_decided {m = m} {o = o} x a c e) = comes_to w k w _ a refl (seen_newest _ m _ (λ p. after_begin m (count_of p.list) p.state) o c ∙ ap (after_begin m (count_of o.list)) e)
exact_step w k r u _ (begin_overtaken {m = m} a c) = comes_to w k w _ a refl (seen_older _ m _ (λ p. after_begin m (count_of p.list) p.state) c)
exact_step w k r u _ (fetch {t = t} {o = o} {e = e} a c h) = comes_to w k w _ a refl (seen_entry w t _ (Fetch t) (Make t) o e c h)
exact_step w k r u _ (fetch_overtaken {t = t} a c) = comes_to w k w _ a refl (seen_older _ t.operation _ (λ p. by_sight (entry_in p.list t.index) (Fetch t) (Make t)) c)
exact_step w k r u _ (make {t = t} {e = e} a) = comes_to w k _ _ a (made w k _ (u t e a)) (ap (after_make k t e) (cond-true _ _ _ (lt-ltb (core_at w k).placing.last last_number (u t e a))))
exact_step w k r u _ (try_placed {t = t} {e = e} {m = m} a s) = comes_to w k _ _ a (stored w k e.word _ (word.Placing m) s) (seen_word w e.word (Try t e m) (after_try t e m) _ s ∙ cond-true _ _ _ (eq-eqb e.expected e.expected refl))
exact_step w k r u _ (try_meets_placing {t = t} {e = e} {m = m} {n = n} a s) = comes_to w k w _ a (missed w k e.word (word.Plain e.expected) (word.Placing m) _ (r.tried t e m a) s (λ q. grind arith)) (seen_word w e.word (Try t e m) (after_try t e m) _ s)
exact_step w k r u _ (try_meets_own {t = t} {e = e} {m = m} a s) = comes_to w k w _ a (missed w k e.word (word.Plain e.expected) (word.Placing m) _ (r.tried t e m a) s (λ q. grind arith)) (seen_word w e.word (Try t e m) (after_try t e m) _ s ∙ cond-true _ _ _ (marks_equal t.operation))
exact_step w k r u _ (try_meets_operation {t = t} {e = e} {m = m} {u = v} a s n) = comes_to w k w _ a (missed w k e.word (word.Plain e.expected) (word.Placing m) _ (r.tried t e m a) s (λ q. grind arith)) (seen_word w e.word (Try t e m) (after_try t e m) _ s ∙ cond-false _ _ _ (marks_differ v t.operation n))
exact_step w k r u _ (try_differs {t = t} {e = e} {m = m} {v = v} a s n) = comes_to w k w _ a (missed w k e.word (word.Plain e.expected) (word.Placing m) (word.Plain v) (r.tried t e m a) s (λ q. n (cc))) (seen_word w e.word (Try t e m) (after_try t e m) _ s ∙ cond-false _ _ _ (ne_eqb v e.expected n))
exact_step w k r u _ (decide_first {t = t} {o = o} {x = x} a c e) = comes_to w k _ _ a (decided_first w k t.operation o x c e) (seen_newest _ t.operation _ (λ p. after_decide t (outcome_after p.state x)) o c ∙ ap (λ (s : State). after_decide t (outcome_after s x)) e)
exact_step w k r u _ (decide_later {t = t} {o = o} {x = x} y a c e) = comes_to w k w _ a (decided_later w k t.operation o x y c e) (seen_newest _ t.operation _ (λ p. after_decide t (outcome_after p.state x)) o c ∙ ap (λ (s : State). after_decide t (outcome_after s x)) e)
exact_step w k r u _ (decide_overtaken {t = t} {x = x} a c) = comes_to w k w _ a (decided_never w k t.operation x c) (seen_older _ t.operation _ (λ p. after_decide t (outcome_after p.state x)) c)
exact_step w k r u _ (clear_read {t = t} {x = x} {o = o} {e = e} a c h) = comes_to w k w _ a refl (seen_entry w t _ (Clear t x clearing.Read) (λ f. Clear t x (clearing.Load f)) o e c h)
exact_step w k r u _ (clear_overtaken {t = t} {x = x} a c) = comes_to w k w _ a refl (seen_older _ t.operation _ (λ p. by_sight (entry_in p.list t.index) (Clear t x clearing.Read) (λ f. Clear t x (clearing.Load f))) c)
exact_step w k r u _ (clear_meets_placing {t = t} {x = x} {e = e} {m = m} a s) = comes_to w k w _ a refl (seen_word w e.word (Clear t x (clearing.Load e)) (after_clear_load t x e) _ s)
exact_step w k r u _ (clear_load {t = t} {x = x} {e = e} {s = y} a s n) = comes_to w k w _ a refl (seen_word w e.word (Clear t x (clearing.Load e)) (after_clear_load t x e) _ s ∙ cleared_past t x e y n)
exact_step w k r u _ (clear_takes_out {t = t} {x = x} {e = e} a s) = comes_to w k _ _ a (stored w k e.word _ (cleared_to x e) s) (seen_word w e.word (Clear t x (clearing.Swap e)) (λ q. after_clear_swap t x (core_at w k).own) _ s)
exact_step w k r u _ (clear_misses {t = t} {x = x} {e = e} {s = y} a s n) = comes_to w k w _ a (missed w k e.word (word.Operation t.operation) (cleared_to x e) y (r.cleared t x e a) s n) (seen_word w e.word (Clear t x (clearing.Swap e)) (λ q. after_clear_swap t x (core_at w k).own) _ s)
exact_step w k r u _ (settle_read {m = m} {j = j} {p = p} a c) = comes_to w k w _ a refl (seen_newest _ m _ (λ q. Settle m (settling.State q) j) p c)
exact_step w k r u _ (settle_overtaken {m = m} {j = j} a c) = comes_to w k w _ a refl (seen_older _ m _ (λ q. Settle m (settling.State q) j) c)
exact_step w k r u _ (settle_undecided {m = m} {j = j} {p = p} {o = o} a c e) = comes_to w k w _ a refl (seen_newest _ p.operation _ (λ q. Settle m (settling.Swap p (is_undecided q.state)) j) o c ∙ ap (λ (s : State). Settle m (settling.Swap p (is_undecided s)) j) e)
exact_step w k r u _ (settle_decided {m = m} {j = j} {p = p} {o = o} a c n) = comes_to w k w _ a refl (seen_newest _ p.operation _ (λ q. Settle m (settling.Swap p (is_undecided q.state)) j) o c ∙ ap (λ (b : Bool). Settle m (settling.Swap p b) j) (is_decided o.state n))
exact_step w k r u _ (settle_past {m = m} {j = j} {p = p} a c) = comes_to w k w _ a refl (seen_older _ p.operation _ (λ q. Settle m (settling.Swap p (is_undecided q.state)) j) c)
exact_step w k r u _ (settle_replaces {m = m} {j = j} {p = p} {undecided = b} a s) = comes_to w k _ _ a (stored w k p.word _ (settled_to b p) s) (seen_word w p.word (Settle m (settling.Swap p b) j) (λ q. resume j) _ s)
exact_step w k r u _ (settle_misses {m = m} {j = j} {p = p} {undecided = b} {s = y} a s n) = comes_to w k w _ a (missed w k p.word (word.Placing m) (settled_to b p) y (r.settled m p b j a) s n) (seen_word w p.word (Settle m (settling.Swap p b) j) (λ q. resume j) _ s)
