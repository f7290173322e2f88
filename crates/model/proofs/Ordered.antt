use Rattle.std.proofs.Common.{◌≡◌, ℕ, zero, suc, ◌+◌, ◌<◌, ◌≤◌, Bool, true, false, cond, ◌⊎◌, List, [], length, Some, None, Ok, Err, Option, Result, sym, refl, ap, ◌∙◌, subst, inl, inr, ⊎_elim, le_refl, add-one, arith}
use mathlib.Core.Path.{fun_ext}
use Rattle.std.proofs.lemmas.Bool.{cases_lt, cases_eq, both_ways, true≢false, false≢true}
use Rattle.word.specs.declared.Mark.{Mark}
use Rattle.word.specs.declared.Word.{Word}
use Rattle.word.specs.declared.Word.TheVariants as word
use Rattle.entries.specs.declared.Entry.{Entry}
use Rattle.entries.specs.declared.list.Entries.{Entries}
use Rattle.entries.specs.Listed.{listed}
use Rattle.descriptor.specs.declared.contents.Outcome.{Outcome}
use Rattle.descriptor.specs.declared.contents.Outcome.TheVariants as outcome
use Rattle.descriptor.specs.Contents.{State}
use Rattle.cores.specs.declared.place.Work.{Work}
use Rattle.cores.specs.declared.place.Clearing.TheVariants as clearing
use Rattle.cores.specs.declared.place.Place.{Place}
use Rattle.cores.specs.declared.place.Place.TheVariants.{Idle, Finished, Look, Begin, Decide, Clear}
use Rattle.cores.specs.declared.place.Own.{Own}
use Rattle.cores.specs.declared.place.Own.TheVariants as own
use Rattle.cores.specs.declared.table.Refusal.{Refusal}
use Rattle.model.specs.World.{World, core_at}
use Rattle.model.specs.Rules.{answer_of, first_entry}
use Rattle.model.specs.Calls.{Call, starts, reads, steps, collects, started_core}
use Rattle.model.specs.Refusals.{refusal_of}
use Rattle.cores.specs.Cores.{is_idle, is_finished}
use Rattle.model.specs.Perform.{perform}
use Rattle.model.specs.Histories.{History, after_calls, opening_of, world_at, Called}
use Rattle.model.specs.Plain.{Completed, Whole, swap_all, look_at, Done, succeeds, fails as fails_at, sees}
use Rattle.model.specs.Promises.{Starts, list, word as ReadOf, Finishes, Decided, Answers, decided, finished}
use Rattle.model.proofs.Memory.{Memory, view, entry, upd, move, settled, fresh_op, disown}
use Rattle.model.proofs.Facts.{Current, Undecided, PlaceOk, OwnOk, WordOk, Inv}
use Rattle.model.proofs.Updates.{upd_same, upd_at, upd_other, upd_both, upd_is}
use Rattle.model.proofs.Stable.{not_undecided}
use Rattle.model.proofs.Showing.{shown_in, shown_of, shown_says, shown_failed, all_expected, new_stored}
use Rattle.model.proofs.Events.{fails, Sight, Event, Stepped, ordinary, read_done, own_done, differs, decides}
use Rattle.model.proofs.Timeline.{Effect, put_completed, put_at}
use Rattle.model.proofs.Granting.{perform_refused}
use Rattle.model.proofs.Moments.{world_next}
use Rattle.model.proofs.InRange.{ranged}
use Rattle.model.proofs.CallKept.{next_mark}
use Rattle.model.proofs.Happened.{Happened, looks, list_started, read_started, stepped, collected, looked, refused}
use Rattle.model.proofs.EveryWorld.{each_core, invariant, happens}
use Rattle.model.proofs.Answered.{collect_after, one_start}
use Rattle.model.proofs.Linearization.{memory, values, call_at, called_is, Linearization, linearization_stays, linearization_adds, Told, Covers, within_more, covers_next}
use Rattle.model.proofs.Running.{StartedAs, Running, Going, Active, Unanswered, Pending, Cores, one_core, only_start, active_runs, undecided_active, pending_on, cores_go, cores_start}

-- An order of the operations so far, from each call to the next.

pub record Ordered (h : History) (t : ℕ) : Type 0 where
  pub completed : ℕ → Option Completed
  -- the start of what each core runs
  pub begun : ℕ → ℕ
  pub linearization : Linearization h completed t
  pub covers : Covers h completed t
  pub cores : Cores h completed begun t (memory h t)

-- A start shows nothing new: no word holds a mark of an idle core's operation.
shown_start : (a : Memory) (k : ℕ) (es : List Entry) (o : Own) → Inv a → a.place k ≡ Idle → shown_in (fresh_op a k es o) ≡ shown_in a
shown_start a k es o inv idle = fun_ext (λ i. by i (a.word i) (inv.words i))
  where
    by : (i : ℕ) (x : Word) → WordOk a i x → shown_of a.pl (upd a.state k None) (upd a.ents k es) i x ≡ shown_says a i x
    by i (word.Plain v) h = refl
    by i (word.Placing m) h = refl
    by i (word.Operation T) h =
        let ne : T.core ≡ k → ⊥ = λ q. true≢false (rw (q, idle) at h.1.3) in
        rw (upd_other a.state k T.core None ne, upd_other a.ents k T.core es ne)
    by i (word.Foreign n) h = refl

module _ (h : History) (t : ℕ) (lt : t < length h.calls) (g : Ordered h t) where
  abbrev a : Memory
  a = memory h t

  abbrev a' : Memory
  a' = memory h (t + 1)

  abbrev f : ℕ → Option Completed
  f = g.completed

  abbrev p : ℕ → ℕ
  p = g.begun

  inv : Inv a
  inv = invariant h t

  -- what is decided after the call was so before, where number and state are the same
  decided_back : (c n x : ℕ) → a'.num c ≡ a.num c → a'.state c ≡ a.state c → Decided (world_at h (t + 1)) c n x → Decided (world_at h t) c n x
  decided_back c n x nums states d = record { current = sym nums ∙ d.current; outcome = d.outcome; state = sym states ∙ d.state; answer = d.answer }

  -- a start before the next call that is not this one is before it
  start_before : (q c n : ℕ) (l : Entries) → Called h q (starts c l) (Ok n) → q < t + 1 → (Starts h t c (swap_all (listed l)) → ⊥) → q < t
  start_before q c n l called m none =
      ⊎_elim (λ z. z) (λ (z : t ≤ q). let e : q ≡ t = omega arith in absurd (none (list n (subst (λ (u : ℕ). Called h u (starts c l) (Ok n)) e called)))) (cases_lt q t)

  -- Calls that start, decide and finish nothing that an order has to know.
  goes_on : values h (t + 1) ≡ values h t → a'.num ≡ a.num → a'.ents ≡ a.ents → a'.state ≡ a.state
      → ((k : ℕ) → (a'.own k ≡ own.Nothing → ⊥) → a'.own k ≡ a.own k) → ((k : ℕ) → Active a' k → is_finished (a.place k) ≡ false)
      → ((k : ℕ) (x : Whole) → Starts h t k x → ⊥) → ((k : ℕ) → Active a' k → Called h t (steps k) (Ok 1) → ⊥)
      → ((q c n i : ℕ) → Called h q (reads c i) (Ok n) → Finishes h q c t → ⊥)
      → ((j : ℕ) (w : Work) (i : ℕ) → a'.place j ≡ Decide w (outcome.Failed i) → (a.place j ≡ Decide w (outcome.Failed i)) ⊎ (Current a w.operation → Undecided a w.operation → Pending h f (p w.operation.core) (t + 1) j a' w i))
      → Ordered h (t + 1)
  goes_on same nums lists states owns before none unfinished unread pends = record {
    completed = f;
    begun = p;
    linearization = linearization_stays h f t g.linearization same;
    covers = covers_next h f f t g.covers (λ _ _ e. e)
        (λ q c n x l called m d. inr (start_before q c n l called m (λ s. none c _ s), decided_back c n x (ap (λ (z : ℕ → ℕ). z c) nums) (ap (λ (z : ℕ → State). z c) states) d))
        (λ q c n i called fin. absurd (unread q c n i called fin));
    cores = cores_go h t f f p a a' g.cores nums lists owns
        (λ k act. (before k act, rw (sym (owns k (active_runs a' k act)), sym states) act.1))
        none unfinished (λ _ _ _ _ e _. e)
        (λ j w i e cur und. ⊎_elim
        (λ (z : a.place j ≡ Decide w (outcome.Failed i)). pending_on h f f (p w.operation.core) t j a a' w i
        (g.cores.pending j w i z (sym (ap (λ (y : ℕ → ℕ). y w.operation.core) nums) ∙ cur) (sym (ap (λ (y : ℕ → State). y w.operation.core) states) ∙ und)) (ap (λ (y : ℕ → List Entry). y w.operation.core) lists) (λ _ _ _ y. y))
        (λ z. z (sym (ap (λ (y : ℕ → ℕ). y w.operation.core) nums) ∙ cur) (sym (ap (λ (y : ℕ → State). y w.operation.core) states) ∙ und)) (pends j w i e));
  }

  starts_next : (k : ℕ) (es : List Entry) (o : Own) (pl : Place) → a.place k ≡ Idle → a' ≡ move (fresh_op a k es o) k pl → fails pl ≡ false → StartedAs h t k (a.num k + 1) es o
      → ((j : ℕ) (x : Whole) → Starts h t j x → j ≡ k) → ((j : ℕ) → Called h t (steps j) (Ok 1) → ⊥) → Ordered h (t + 1)
  starts_next k es o pl idle eq plain start only unstepped = record {
    completed = f;
    begun = upd p k t;
    linearization = linearization_stays h f t g.linearization (ap shown_in eq ∙ shown_start a k es o inv idle);
    covers = covers_next h f f t g.covers (λ _ _ e. e)
        (λ q c n x l called m d. ⊎_elim
        (λ (z : c ≡ k). absurd (not_undecided d.outcome (sym d.state ∙ ap (λ (y : Memory). y.state c) eq ∙ upd_at a.state k c None z)))
        (λ (z : c ≡ k → ⊥). inr (start_before q c n l called m (λ s. z (only c _ s)), decided_back c n x (ap (λ (y : Memory). y.num c) eq ∙ upd_other a.num k c (a.num k + 1) z) (ap (λ (y : Memory). y.state c) eq ∙ upd_other a.state k c None z) d)) (cases_eq c k))
        (λ q c n i called fin. absurd (unstepped c fin.finishing_step));
    cores = subst (Cores h f (upd p k t) (t + 1)) (sym eq) (cores_start h t f p a k es o pl g.cores g.linearization inv start plain only unstepped);
  }

  -- A granted step of core k.
  module _ (k : ℕ) (call-is : call_at h t ≡ steps k) (ans-is : (perform (world_at h t) (steps k)).answer ≡ Ok (cond (is_finished (a'.place k)) 1 0)) (busy : is_finished (a.place k) ≡ false) (st : Stepped a a' k) where
    no_start : (j : ℕ) (x : Whole) → Starts h t j x → ⊥
    no_start j _ (list {l = l} n called) = let e = (called_is h t (starts j l) (steps k) (Ok n) _ call-is ans-is called).0 in absurd (grind arith)
    no_start j _ (ReadOf {i = i} n called) = let e = (called_is h t (reads j i) (steps k) (Ok n) _ call-is ans-is called).0 in absurd (grind arith)

    one_or_none : (b : Bool) → ◌≡◌ {A = Result ℕ Refusal} (Ok 1) (Ok (cond b 1 0)) → b ≡ true
    one_or_none true e = refl
    one_or_none false e = absurd (grind arith)

    finishing : (j : ℕ) → Called h t (steps j) (Ok 1) → (j ≡ k) × (is_finished (a'.place k) ≡ true)
    finishing j called =
        let e = called_is h t (steps j) (steps k) (Ok 1) _ call-is ans-is called in
        let s : steps j ≡ steps k = e.0 in (cc, one_or_none (is_finished (a'.place k)) e.1)

    before : (j : ℕ) → is_finished (a'.place j) ≡ false → is_finished (a.place j) ≡ false
    before j act = ⊎_elim (λ (q : j ≡ k). rw q busy) (λ (n : j ≡ k → ⊥). rw (st.others j n) at act) (cases_eq j k)

    unfinished : (j : ℕ) → Active a' j → Called h t (steps j) (Ok 1) → ⊥
    unfinished j act called = let e = finishing j called in both_ways _ (subst (λ (x : ℕ). is_finished (a'.place x) ≡ false) e.0 act.0) e.1

    same_own : (j : ℕ) → a'.own j ≡ a.own j
    same_own j = ap (λ (y : ℕ → Own). y j) st.owns

    same_num : (j : ℕ) → a'.num j ≡ a.num j
    same_num j = ap (λ (y : ℕ → ℕ). y j) st.nums

    same_ents : (j : ℕ) → a'.ents j ≡ a.ents j
    same_ents j = ap (λ (y : ℕ → List Entry). y j) st.lists

    -- a core at a granted step runs something
    runs : is_idle (a.place k) ≡ false → a.own k ≡ own.Nothing → ⊥
    runs busier e = let idle : a.place k ≡ Idle = rw e at (inv.owns k) in false≢true (sym busier ∙ ap is_idle idle)

    -- a place of core j after the step: as before, unless j is k
    place_before : (j : ℕ) (x : Place) → a'.place j ≡ x → (j ≡ k) ⊎ (a.place j ≡ x)
    place_before j x e = ⊎_elim (λ (q : j ≡ k). inl q) (λ (n : j ≡ k → ⊥). inr (sym (st.others j n) ∙ e)) (cases_eq j k)

    step_on : values h (t + 1) ≡ values h t → a'.state ≡ a.state → ((q c n i : ℕ) → Called h q (reads c i) (Ok n) → Finishes h q c t → ⊥)
        → ((w : Work) (i : ℕ) → a'.place k ≡ Decide w (outcome.Failed i) → Current a w.operation → Undecided a w.operation → Pending h f (p w.operation.core) (t + 1) k a' w i) → Ordered h (t + 1)
    step_on same states unread pends =
        goes_on same st.nums st.lists states (λ j _. same_own j) (λ j act. before j act.0) no_start unfinished unread
        (λ j w i e. ⊎_elim
        (λ (q : j ≡ k). inr (subst (λ (x : ℕ). a'.place x ≡ Decide w (outcome.Failed i) → Current a w.operation → Undecided a w.operation → Pending h f (p w.operation.core) (t + 1) x a' w i) (sym q) (pends w i) e))
        (λ z. inl z) (place_before j _ e))

    not_failing : fails (a'.place k) ≡ false → (w : Work) (i : ℕ) → a'.place k ≡ Decide w (outcome.Failed i) → ⊥
    not_failing n w i e = both_ways _ n (ap fails e)

    not_finishing : is_finished (a'.place k) ≡ false → (q c n i : ℕ) → Called h q (reads c i) (Ok n) → Finishes h q c t → ⊥
    not_finishing n q c m i called fin = both_ways _ n (finishing c fin.finishing_step).1

    -- Try sees a value that differs: what it saw is kept for its decision.
    saw : (w : Work) (i : ℕ) → (Current a w.operation → Sight a w.operation i)
        → Current a w.operation → Undecided a w.operation → Pending h f (p w.operation.core) (t + 1) k a' w i
    saw w i sight cur und =
        let act = undecided_active a w.operation inv und (omega (arith, (sight cur).inside)) in
        record {
          seen = t;
          earlier = omega arith;
          after_start = (g.cores.running w.operation.core (active_runs a w.operation.core act)).before;
          stepped_then = call-is;
          free = g.linearization.later t (le_refl t);
          inside = rw (same_ents w.operation.core) (sight cur).inside;
          other = rw (same_ents w.operation.core) (sight cur).other;
          earlier_ones = rw (same_ents w.operation.core) ((sight cur).earlier und);
        }

    -- the read that finishes now is the one that core k runs
    its_start : is_idle (a.place k) ≡ false → (q c n i : ℕ) → Called h q (reads c i) (Ok n) → Finishes h q c t → (c ≡ k) × (q ≡ p k)
    its_start busier q c n i called fin =
        let e = (finishing c fin.finishing_step).0 in (
          e,
          only_start h (p k) t k (a.num k) (a.ents k) (a.own k) (g.cores.running k (runs busier)) q (look_at i)
              (subst (λ (x : ℕ). Starts h q x (look_at i)) e (ReadOf n called)) fin.later (subst (λ (x : ℕ). (r : ℕ) (y : Whole) → q < r → r < t → Starts h r x y → ⊥) e fin.no_other_start),
        )

    list_not_read : (o : Own) (M : Mark) → o ≡ own.List M → StartedAs h (p k) k (a.num k) (a.ents k) o → (q c n i : ℕ) → Called h q (reads c i) (Ok n) → q ≡ p k → ⊥
    list_not_read own.Nothing M e s q c n i called z = s
    list_not_read (own.Read x) M e s q c n i called z = absurd (grind arith)
    list_not_read (own.List x) M e s q c n i called z =
        let bad : starts k s.0 ≡ reads c i = sym s.1.call ∙ ap (call_at h) (sym z) ∙ called.call in absurd (grind arith)

    -- One more counts as done: the operation of core c, which was under way and is not any more.
    adds : (c s : ℕ) (d : Completed) → Active a c → (Active a' c → ⊥) → d.start_of ≡ p c → d.core_of ≡ c → Answers h d.start_of d.core_of d.what d.answered
        → s ≤ t → p c < s → f s ≡ None → Effect (Some d) (values h s) (values h (s + 1)) → ((s ≡ t → ⊥) → values h (t + 1) ≡ values h t)
        → ((j : ℕ) → (j ≡ c → ⊥) → a'.state j ≡ a.state j)
        → ((q c' n x : ℕ) (l : Entries) → Called h q (starts c' l) (Ok n) → c' ≡ c → Decided (world_at h (t + 1)) c' n x → (q ≡ p c) ⊎ Decided (world_at h t) c' n x)
        → ((q c' n i : ℕ) → Called h q (reads c' i) (Ok n) → Finishes h q c' t → q ≡ p c)
        → fails (a'.place k) ≡ false → ((j r : ℕ) → (j ≡ k → ⊥) → r < t → call_at h r ≡ steps j → r ≡ s → ⊥)
        → ((j : ℕ) → j ≡ c → Undecided a' (record { core = j; number = 0 }) → Undecided a (record { core = j; number = 0 }))
        → Ordered h (t + 1)
    adds c s d act rest at-start at_core answers le later free done same states its-decided its-read plain apart undecided = record {
      completed = f';
      begun = p;
      linearization = linearization_adds h f t s d g.linearization le free done same
          (record {
            answers = answers;
            after_start = omega (arith, at-start);
            in_time = λ q fin. ⊎_elim
                (λ (z : q < t). absurd (un.unfinished q (omega (arith, fin.later, at-start)) z (subst (λ (x : ℕ). Called h q (steps x) (Ok 1)) at_core fin.finishing_step)))
                (λ (z : t ≤ q). omega arith) (cases_lt q t);
          })
          (λ r e z q. un.not_completed r e z (q ∙ at-start));
      covers = covers_next h f f' t g.covers (within_more f s d free)
          (λ q c' n x l called m dec. ⊎_elim
          (λ (z : c' ≡ c). ⊎_elim (λ (e : q ≡ p c). inl (told q e)) (λ y. inr (start_before q c' n l called m (no_start c' _), y)) (its-decided q c' n x l called z dec))
          (λ (z : c' ≡ c → ⊥). inr (start_before q c' n l called m (no_start c' _), decided_back c' n x (same_num c') (states c' z) dec)) (cases_eq c' c))
          (λ q c' n i called fin. told q (its-read q c' n i called fin));
      cores = cores_go h t f f' p a a' g.cores st.nums st.lists (λ j _. same_own j)
          (λ j z. (before j z.0, rw (sym (same_own j), sym (states j (λ q. rest (subst (Active a') q z)))) z.1))
          no_start unfinished fewer pends;
    }
      where
        f' : ℕ → Option Completed
        f' = put_completed f s d

        un : Unanswered h f (p c) t c
        un = g.cores.unanswered c act

        told : (q : ℕ) → q ≡ p c → Told f' q
        told q e = (s, d, put_at f s d, at-start ∙ sym e)

        fewer : (j : ℕ) → Active a' j → (r : ℕ) (e : Completed) → f' r ≡ Some e → e.start_of ≡ p j → f r ≡ Some e
        fewer j z r e y q =
            ⊎_elim
            (λ (u : (r ≡ s) × (Some d ≡ Some e)). let v = u.1 in let w : d ≡ e = cc in
            let o = g.cores.running j (λ x. active_runs a' j z (same_own j ∙ x)) in
            let m = g.cores.running c (active_runs a c act) in
            absurd (rest (subst (Active a') (one_core h (p j) (p c) j c _ _ _ _ _ _ o.start m.start (sym q ∙ ap (λ (x : Completed). x.start_of) (sym w) ∙ at-start)) z)))
            (λ u. u.1) (upd_is f s r (Some d) (Some e) y)

        pends : (j : ℕ) (w : Work) (i : ℕ) → a'.place j ≡ Decide w (outcome.Failed i) → Current a' w.operation → Undecided a' w.operation → Pending h f' (p w.operation.core) (t + 1) j a' w i
        pends j w i e cur und =
            ⊎_elim (λ (q : j ≡ k). absurd (not_failing plain w i (subst (λ (x : ℕ). a'.place x ≡ Decide w (outcome.Failed i)) q e)))
            (λ (n : j ≡ k → ⊥). pending_on h f f' (p w.operation.core) t j a a' w i
            (g.cores.pending j w i (sym (st.others j n) ∙ e) (sym (same_num w.operation.core) ∙ cur)
            (⊎_elim (λ (q : w.operation.core ≡ c). undecided w.operation.core q und) (λ (m : w.operation.core ≡ c → ⊥). sym (states w.operation.core m) ∙ und) (cases_eq w.operation.core c)))
            (same_ents w.operation.core) (λ r l x y. upd_both f s r (Some d) (λ o. o ≡ None) (λ q. absurd (apart j r n l x q)) (λ _. y))) (cases_eq j k)

    -- A read finishes.
    granted_step : refusal_of (world_at h t) (steps k) ≡ None
    granted_step = by (refusal_of (world_at h t) (steps k)) refl
      where
        by : (o : Option Refusal) → refusal_of (world_at h t) (steps k) ≡ o → o ≡ None
        by None e = refl
        by (Some q) e =
            let bad : ◌≡◌ {A = Result ℕ Refusal} (Err q) (Ok (cond (is_finished (a'.place k)) 1 0)) = sym (ap (λ x. x.answer) (perform_refused (world_at h t) (steps k) q e)) ∙ ans-is in absurd (grind arith)

    world_is : world_at h (t + 1) ≡ (perform (world_at h t) (steps k)).world
    world_is = world_next h t lt ∙ ap (λ (c : Call). (perform (world_at h t) c).world) call-is

    reads_done : (i v : ℕ) → is_idle (a.place k) ≡ false → a.place k ≡ Look i → a'.place k ≡ Finished v → values h t i ≡ v → values h (t + 1) ≡ values h t → a'.state ≡ a.state → Ordered h (t + 1)
    reads_done i v busier here fin saw-v same states =
        adds k t d act (λ z. true≢false (rw fin at z.0)) refl refl answers (le_refl t) run.before (g.linearization.later t (le_refl t)) done (λ n. absurd (n refl))
        (λ j _. ap (λ (y : ℕ → State). y j) states)
        (λ q c' n x l called z dec. inr (decided_back c' n x (same_num c') (ap (λ (y : ℕ → State). y c') states) dec))
        (λ q c' n x called z. (its_start busier q c' n x called z).1)
        (rw fin) (λ j r n l x q. omega arith) (λ j _ u. sym (ap (λ (y : ℕ → State). y j) states) ∙ u)
      where
        own_is : a.own k ≡ own.Read i
        own_is = rw here at (inv.places_ok k)

        act : Active a k
        act = (busy, subst (λ (o : Own). Going o (a.state k)) (sym own_is) tt)

        run : Running h (p k) t k (a.num k) (a.ents k) (a.own k)
        run = g.cores.running k (runs busier)

        d : Completed
        d = record { start_of = p k; core_of = k; what = look_at i; answered = v }

        answers : Answers h (p k) k (look_at i) v
        answers =
            finished (a.num k) t v (subst (StartedAs h (p k) k (a.num k) (a.ents k)) own_is run.start)
            (record { later = run.before; finishing_step = record { there = lt; call = call-is; answers = rw fin at ans-is }; no_other_start = λ q x l m s. run.no_later q x l m s })
            (subst (λ (w : World). (perform w (collects k)).answer ≡ Ok v) (sym world_is)
            (collect_after h.setting.first (world_at h t) k v (ranged h t) granted_step (subst (λ (w : World). (core_at w k).place ≡ Finished v) world_is fin)))

        done : Done (look_at i) (values h t) v (values h (t + 1))
        done = subst (λ (x : ℕ). Done (look_at i) (values h t) x (values h (t + 1))) saw-v (subst (Done (look_at i) (values h t) (values h t i)) (sym same) sees)

    -- An operation is decided.
    module _ (w : Work) (o : Outcome) (here : a.place k ≡ Decide w o) (cur : Current a w.operation) (und : Undecided a w.operation)
        (eq : a' ≡ move (settled a w.operation.core (Some o)) k (Clear (first_entry w.operation w.count) o clearing.Read)) where
      abbrev c : ℕ
      c = w.operation.core

      some : 0 < length (a.ents c)
      some = (rw here at (inv.places_ok k)).2 cur

      act : Active a c
      act = undecided_active a w.operation inv und some

      run : Running h (p c) t c (a.num c) (a.ents c) (a.own c)
      run = g.cores.running c (active_runs a c act)

      -- it is a k-CAS
      of_list : (x : Own) → OwnOk a c x → StartedAs h (p c) c (a.num c) (a.ents c) x → (M : Mark) × (x ≡ own.List M) × (l : Entries) × Called h (p c) (starts c l) (Ok (a.num c)) × (listed l ≡ a.ents c)
      of_list own.Nothing ok s = absurd s
      of_list (own.Read i) ok s = absurd (omega (arith, some, ap (λ (es : List Entry). length es) ok))
      of_list (own.List M) ok s = (M, refl, s.0, s.1, s.2)

      started : (M : Mark) × (a.own c ≡ own.List M) × (l : Entries) × Called h (p c) (starts c l) (Ok (a.num c)) × (listed l ≡ a.ents c)
      started = of_list (a.own c) (inv.owns c) run.start

      decided_now : a'.state c ≡ Some o
      decided_now = ap (λ (y : Memory). y.state c) eq ∙ upd_same a.state c (Some o)

      resting : Active a' c → ⊥
      resting z =
          not_undecided o (sym decided_now ∙ subst (λ (x : Own). Going x (a'.state c)) (same_own c ∙ started.1) z.1)

      goes_clearing : a'.place k ≡ Clear (first_entry w.operation w.count) o clearing.Read
      goes_clearing = ap (λ (y : Memory). y.place k) eq ∙ upd_same a.place k _

      decided_by : (s : ℕ) → s ≤ t → p c < s → f s ≡ None → Done (swap_all (a.ents c)) (values h s) (answer_of o) (values h (s + 1)) → ((s ≡ t → ⊥) → values h (t + 1) ≡ values h t)
          → ((j r : ℕ) → (j ≡ k → ⊥) → r < t → call_at h r ≡ steps j → r ≡ s → ⊥) → Ordered h (t + 1)
      decided_by s le later free done same apart =
          adds c s (record { start_of = p c; core_of = c; what = swap_all (listed l); answered = answer_of o }) act resting refl refl
          (decided (a.num c) (answer_of o) (t + 1) started.3 (omega (arith, run.before)) (omega arith) (record { current = same_num c; outcome = o; state = decided_now; answer = refl }))
          le later free (subst (λ (es : List Entry). Done (swap_all es) (values h s) (answer_of o) (values h (s + 1))) (sym started.4) done) same
          (λ j n. ap (λ (y : Memory). y.state j) eq ∙ upd_other a.state c j (Some o) n)
          (λ q c' n x l' called z dec. inl (one_start h q (p c) c n (starts c l') (starts c l) refl refl (subst (λ (y : ℕ). Called h q (starts y l') (Ok n)) z called)
          (subst (λ (y : ℕ). Called h (p c) (starts c l) (Ok y)) (sym (same_num c) ∙ subst (λ (y : ℕ). a'.num y ≡ n) z dec.current) started.3)))
          (λ q c' n i called fin. absurd (not_finishing (rw goes_clearing) q c' n i called fin))
          (rw goes_clearing) apart
          (λ j q u. absurd (not_undecided o (sym decided_now ∙ subst (λ (y : ℕ). a'.state y ≡ None) q u)))
        where
          l : Entries
          l = started.2

    succeeds_next : (w : Work) → a.place k ≡ Decide w outcome.Succeeded → Current a w.operation → Undecided a w.operation
        → a' ≡ move (settled a w.operation.core (Some outcome.Succeeded)) k (Clear (first_entry w.operation w.count) outcome.Succeeded clearing.Read) → Ordered h (t + 1)
    succeeds_next w here cur und eq =
        decided_by w outcome.Succeeded here cur und eq t (le_refl t) (run w outcome.Succeeded here cur und eq).before (g.linearization.later t (le_refl t))
        (subst (Done (swap_all (a.ents w.operation.core)) (values h t) 0) (sym (ap shown_in eq)) (succeeds (all_expected a w.operation inv cur und full) (new_stored a w.operation inv cur und full)))
        (λ n. absurd (n refl)) (λ j r n l x q. omega arith)
      where
        ok : PlaceOk a k (Decide w outcome.Succeeded)
        ok = rw here at (inv.places_ok k)

        full : (j : ℕ) → j < length (a.ents w.operation.core) → a.word (entry a w.operation j).word ≡ word.Operation w.operation
        full j l = ok.3 cur und j (omega (arith, ok.1 cur))

    fails_next : (w : Work) (i : ℕ) → a.place k ≡ Decide w (outcome.Failed i) → Current a w.operation → Undecided a w.operation
        → a' ≡ move (settled a w.operation.core (Some (outcome.Failed i))) k (Clear (first_entry w.operation w.count) (outcome.Failed i) clearing.Read) → Ordered h (t + 1)
    fails_next w i here cur und eq =
        let d = g.cores.pending k w i here cur und in
        let still : values h (d.seen + 1) ≡ values h d.seen = subst (λ (x : Option Completed). Effect x (values h d.seen) (values h (d.seen + 1))) d.free (g.linearization.effects d.seen d.earlier) in
        decided_by w (outcome.Failed i) here cur und eq d.seen (omega (arith, d.earlier)) d.after_start d.free
        (subst (Done (swap_all (a.ents w.operation.core)) (values h d.seen) (i + 1)) (sym still) (fails_at i d.inside d.other))
        (λ _. ap shown_in eq ∙ shown_failed a w.operation.core i und)
        (λ j r n l x q. let s : steps j ≡ steps k = sym x ∙ ap (call_at h) q ∙ d.stepped_then in n cc)

    -- Every granted step.
    step_next : is_idle (a.place k) ≡ false → Event a a' k → Ordered h (t + 1)
    step_next busier (ordinary same states ord) = step_on same states (not_finishing ord.0) (λ w i e. absurd (not_failing ord.1 w i e))
    step_next busier (read_done i v here fin saw-v same states) = reads_done i v busier here fin saw-v same states
    step_next busier (own_done M o mine dec fin same states) =
        step_on same states
        (λ q c n i called z. list_not_read (a.own k) M mine (g.cores.running k (runs busier)).start q c n i called (its_start busier q c n i called z).1)
        (λ w i e. absurd (not_failing (rw fin) w i e))
    step_next busier (differs w i place made sight same states) =
        step_on same states (not_finishing (rw place))
        (λ v j e. let z : Decide w (outcome.Failed i) ≡ Decide v (outcome.Failed j) = sym place ∙ e in let q : w ≡ v = cc in let r : i ≡ j = cc in
        subst (λ (x : Work). Current a x.operation → Undecided a x.operation → Pending h f (p x.operation.core) (t + 1) k a' x j) q
        (subst (λ (x : ℕ). Current a w.operation → Undecided a w.operation → Pending h f (p w.operation.core) (t + 1) k a' w x) r (saw w i sight)))
    step_next busier (decides w outcome.Succeeded here cur und eq) = succeeds_next w here cur und eq
    step_next busier (decides w (outcome.Failed i) here cur und eq) = fails_next w i here cur und eq

  -- Calls that change nothing here.
  stays : (c : Call) (r : Result ℕ Refusal) → call_at h t ≡ c → (perform (world_at h t) c).answer ≡ r → ((k : ℕ) (l : Entries) (n : ℕ) → starts k l ≡ c → Ok n ≡ r → ⊥) → ((k i n : ℕ) → reads k i ≡ c → Ok n ≡ r → ⊥)
      → ((k : ℕ) → steps k ≡ c → Ok 1 ≡ r → ⊥) → a' ≡ a → Ordered h (t + 1)
  stays c r call-is ans-is no_list no_read no_step eq =
      goes_on (ap shown_in eq) (ap (λ (y : Memory). y.num) eq) (ap (λ (y : Memory). y.ents) eq) (ap (λ (y : Memory). y.state) eq)
      (λ k _. ap (λ (y : Memory). y.own k) eq) (λ k act. sym (ap (λ (y : Memory). is_finished (y.place k)) eq) ∙ act.0) none (λ k _ called. no_finish k called)
      (λ q c' n i called fin. no_finish c' fin.finishing_step) (λ j w i e. inl (sym (ap (λ (y : Memory). y.place j) eq) ∙ e))
    where
      none : (j : ℕ) (x : Whole) → Starts h t j x → ⊥
      none j _ (list {l = l} n called) = let e = called_is h t (starts j l) c (Ok n) r call-is ans-is called in no_list j l n e.0 e.1
      none j _ (ReadOf {i = i} n called) = let e = called_is h t (reads j i) c (Ok n) r call-is ans-is called in no_read j i n e.0 e.1

      no_finish : (k : ℕ) → Called h t (steps k) (Ok 1) → ⊥
      no_finish k called = let e = called_is h t (steps k) c (Ok 1) r call-is ans-is called in no_step k e.0 e.1

  collects_next : (k v : ℕ) → call_at h t ≡ collects k → a.place k ≡ Finished v → a' ≡ disown (move a k Idle) k own.Nothing → (perform (world_at h t) (collects k)).answer ≡ Ok v → Ordered h (t + 1)
  collects_next k v call-is here eq ans-is =
      goes_on (ap shown_in eq) (ap (λ (y : Memory). y.num) eq) (ap (λ (y : Memory). y.ents) eq) (ap (λ (y : Memory). y.state) eq)
      (λ j ne. ap (λ (y : Memory). y.own j) eq ∙ upd_other a.own k j own.Nothing (λ q. ne (ap (λ (y : Memory). y.own j) eq ∙ upd_at a.own k j own.Nothing q)))
      (λ j act. let n : j ≡ k → ⊥ = λ q. active_runs a' j act (ap (λ (y : Memory). y.own j) eq ∙ upd_at a.own k j own.Nothing q) in ap is_finished (sym (ap (λ (y : Memory). y.place j) eq ∙ upd_other a.place k j Idle n)) ∙ act.0)
      none (λ j _ called. no_finish j called) (λ q c' n i called fin. no_finish c' fin.finishing_step)
      (λ j w i e. inl (⊎_elim
      (λ (q : j ≡ k). let bad : Idle ≡ Decide w (outcome.Failed i) = sym (ap (λ (y : Memory). y.place j) eq ∙ upd_at a.place k j Idle q) ∙ e in absurd (grind arith))
      (λ (n : j ≡ k → ⊥). sym (ap (λ (y : Memory). y.place j) eq ∙ upd_other a.place k j Idle n) ∙ e) (cases_eq j k)))
    where
      none : (j : ℕ) (x : Whole) → Starts h t j x → ⊥
      none j _ (list {l = l} n called) = let e = (called_is h t (starts j l) (collects k) (Ok n) _ call-is ans-is called).0 in absurd (grind arith)
      none j _ (ReadOf {i = i} n called) = let e = (called_is h t (reads j i) (collects k) (Ok n) _ call-is ans-is called).0 in absurd (grind arith)

      no_finish : (j : ℕ) → Called h t (steps j) (Ok 1) → ⊥
      no_finish j called = let e = (called_is h t (steps j) (collects k) (Ok 1) _ call-is ans-is called).0 in absurd (grind arith)

  -- a start names its core
  its_core : (k : ℕ) → started_core (call_at h t) ≡ Some k → (j : ℕ) (x : Whole) → Starts h t j x → j ≡ k
  its_core k e j _ (list {l = l} n called) = let z : Some j ≡ Some k = sym (ap started_core called.call) ∙ e in cc
  its_core k e j _ (ReadOf {i = i} n called) = let z : Some j ≡ Some k = sym (ap started_core called.call) ∙ e in cc

  -- Every call.
  next_by : (c : Call) (r : Result ℕ Refusal) → call_at h t ≡ c → (perform (world_at h t) c).answer ≡ r → Happened a a' c r → Ordered h (t + 1)
  next_by _ _ e q (list_started k l idle eq) =
      starts_next k (listed l) (own.List (next_mark a k)) (Begin (next_mark a k)) idle eq refl (l, record { there = lt; call = e; answers = q }, refl) (its_core k (ap started_core e))
      (λ j called. let z = (called_is h t (steps j) (starts k l) (Ok 1) _ e q called).0 in absurd (grind arith))
  next_by _ _ e q (read_started k i idle eq) =
      starts_next k [] (own.Read i) (Look i) idle eq refl (record { there = lt; call = e; answers = q }) (its_core k (ap started_core e))
      (λ j called. let z = (called_is h t (steps j) (reads k i) (Ok 1) _ e q called).0 in absurd (grind arith))
  next_by _ _ e q (stepped k busier busy st) = step_next k e q busy st busier st.event
  next_by _ _ e q (collected k v here eq) = collects_next k v e here eq q
  next_by _ _ e q (looked c n quiet eq) =
      stays c (Ok n) e q (λ k l m z _. false≢true (ap looks z ∙ quiet)) (λ k i m z _. false≢true (ap looks z ∙ quiet)) (λ k z _. false≢true (ap looks z ∙ quiet)) eq
  next_by _ _ e q (refused c r eq) = stays c (Err r) e q (λ k l m _ z. absurd (grind arith)) (λ k i m _ z. absurd (grind arith)) (λ k _ z. absurd (grind arith)) eq

  pub ordered_next : Ordered h (t + 1)
  ordered_next = next_by (call_at h t) _ refl refl (happens h t lt)

-- Before the first call, nothing is under way.
opened_idle : (h : History) (k : ℕ) → ((view (opening_of h)).own k ≡ own.Nothing) × ((view (opening_of h)).place k ≡ Idle)
opened_idle h k = (each_core h k (λ c. c.own ≡ own.Nothing) (λ _. refl), each_core h k (λ c. c.place ≡ Idle) (λ _. refl))

ordered_opening : (h : History) → Ordered h 0
unfolding after_calls
ordered_opening h = record {
  completed = λ _. None;
  begun = λ _. 0;
  linearization = record { effects = λ s l. absurd (omega arith); later = λ s l. refl; entered = λ s d e. absurd (grind arith); once = λ s r d e x y z. absurd (grind arith) };
  covers = record { decided_told = λ q c n x u l called m le dec. absurd (omega arith); read_told = λ q c n i u called fin l. absurd (omega arith) };
  cores = record {
    running = λ k ne. absurd (ne (opened_idle h k).0);
    unanswered = λ k act. absurd (active_runs (view (opening_of h)) k act (opened_idle h k).0);
    pending = λ j w i e cur und. let bad : Idle ≡ Decide w (outcome.Failed i) = sym (opened_idle h j).1 ∙ e in absurd (grind arith);
  };
}

pub ordered : (h : History) (t : ℕ) → t ≤ length h.calls → Ordered h t
ordered h zero l = ordered_opening h
ordered h (suc t) l = subst (Ordered h) (add-one t) (ordered_next h t (omega arith) (ordered h t (omega arith)))
