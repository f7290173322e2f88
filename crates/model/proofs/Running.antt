use Rattle.std.proofs.Common.{◌≡◌, ℕ, ◌+◌, ◌<◌, ◌≤◌, true, false, ◌⊎◌, List, [], length, Some, None, Ok, Option, sym, ap, ◌∙◌, subst, inl, inr, ⊎_elim, arith}
use Rattle.std.proofs.lemmas.Bool.{cases_lt, cases_eq, cases_order, cases_Bool, both_ways}
use Rattle.entries.specs.declared.Entry.{Entry}
use Rattle.entries.specs.declared.list.Entries.{Entries}
use Rattle.entries.specs.Listed.{listed}
use Rattle.descriptor.specs.Contents.{State}
use Rattle.descriptor.specs.declared.contents.Outcome.TheVariants as outcome
use Rattle.word.specs.declared.Mark.{Mark}
use Rattle.cores.specs.declared.place.Work.{Work}
use Rattle.cores.specs.declared.place.Place.{Place}
use Rattle.cores.specs.declared.place.Place.TheVariants.{Finished, Decide}
use Rattle.cores.specs.declared.place.Own.{Own}
use Rattle.cores.specs.declared.place.Own.TheVariants as own
use Rattle.model.specs.Calls.{starts, reads, steps, started_core}
use Rattle.cores.specs.Cores.{is_finished}
use Rattle.model.specs.Histories.{History, Called}
use Rattle.model.specs.Plain.{Completed, Whole, HoldsExpected}
use Rattle.model.specs.Promises.{Starts, list, word}
use Rattle.model.proofs.Memory.{Memory, upd, move, fresh_op}
use Rattle.model.proofs.Facts.{Current, Undecided, PlaceOk, OwnOk, Inv}
use Rattle.model.proofs.RefusalTests.{decides_finished}
use Rattle.model.proofs.Updates.{upd_same, upd_at, upd_other}
use Rattle.model.proofs.Events.{fails}
use Rattle.model.proofs.Linearization.{values, call_at, Linearization, completed_before}

-- What is known of the operations under way, for an order of them.

-- call p was the accepted start of what core k runs
abbrev pub StartedAs : History → ℕ → ℕ → ℕ → List Entry → Own → Type 0
StartedAs h p k n es own.Nothing = ⊥
StartedAs h p k n es (own.Read i) = Called h p (reads k i) (Ok n)
StartedAs h p k n es (own.List M) = (l : Entries) × Called h p (starts k l) (Ok n) × (listed l ≡ es)

pub record Running (h : History) (p t k n : ℕ) (es : List Entry) (o : Own) : Type 0 where
  pub before : p < t
  pub start : StartedAs h p k n es o
  pub no_later : (q : ℕ) (x : Whole) → p < q → q < t → Starts h q k x → ⊥

-- an operation without an answer: a read that is not finished, a k-CAS that is not decided
abbrev pub Going : Own → State → Type 0
Going own.Nothing s = ⊥
Going (own.Read i) s = Unit {0}
Going (own.List M) s = s ≡ None

abbrev pub Active : Memory → ℕ → Type 0
Active a k = (is_finished (a.place k) ≡ false) × Going (a.own k) (a.state k)

-- it has not finished, and counts as done at no moment
pub record Unanswered (h : History) (f : ℕ → Option Completed) (p t k : ℕ) : Type 0 where
  pub unfinished : (q : ℕ) → p < q → q < t → Called h q (steps k) (Ok 1) → ⊥
  pub not_completed : (s : ℕ) (d : Completed) → f s ≡ Some d → d.start_of ≡ p → ⊥

-- core j is to decide that the operation of w, started at p, failed at entry i: it saw another value there in a step at which nothing counts as done
pub record Pending (h : History) (f : ℕ → Option Completed) (p t j : ℕ) (a : Memory) (w : Work) (i : ℕ) : Type 0 where
  pub seen : ℕ
  pub earlier : seen < t
  pub after_start : p < seen
  pub stepped_then : call_at h seen ≡ steps j
  pub free : f seen ≡ None
  pub inside : i < length (a.ents w.operation.core)
  pub other : HoldsExpected (values h seen) (a.ents w.operation.core) i → ⊥
  -- the entries before it showed what they expect, so that the entry named is the first that differed
  pub earlier_ones : (j : ℕ) → j < i → HoldsExpected (values h seen) (a.ents w.operation.core) j

-- All cores, with the start of each one's operation.
pub record Cores (h : History) (f : ℕ → Option Completed) (p : ℕ → ℕ) (t : ℕ) (a : Memory) : Type 0 where
  pub running : (k : ℕ) → (a.own k ≡ own.Nothing → ⊥) → Running h (p k) t k (a.num k) (a.ents k) (a.own k)
  pub unanswered : (k : ℕ) → Active a k → Unanswered h f (p k) t k
  pub pending : (j : ℕ) (w : Work) (i : ℕ) → a.place j ≡ Decide w (outcome.Failed i) → Current a w.operation → Undecided a w.operation → Pending h f (p w.operation.core) t j a w i

-- the core of a start, by its position
start_core : (h : History) (p k n : ℕ) (es : List Entry) (o : Own) → StartedAs h p k n es o → started_core (call_at h p) ≡ Some k
start_core h p k n es own.Nothing s = absurd s
start_core h p k n es (own.Read i) s = ap started_core s.call
start_core h p k n es (own.List M) s = ap started_core s.1.call

pub one_core : (h : History) (p q j k m n : ℕ) (ds es : List Entry) (x y : Own) → StartedAs h p j m ds x → StartedAs h q k n es y → p ≡ q → j ≡ k
one_core h p q j k m n ds es x y s r e =
    let z : Some j ≡ Some k = sym (start_core h p j m ds x s) ∙ ap (λ (u : ℕ). started_core (call_at h u)) e ∙ start_core h q k n es y r in cc

-- what core k runs is a start
pub start_of : (h : History) (p k n : ℕ) (es : List Entry) (o : Own) → StartedAs h p k n es o → (x : Whole) × Starts h p k x
start_of h p k n es own.Nothing s = absurd s
start_of h p k n es (own.Read i) s = (_, word n s)
start_of h p k n es (own.List M) s = (_, list n s.1)

-- a start of core k with no other up to now is that of what it runs
pub only_start : (h : History) (p t k n : ℕ) (es : List Entry) (o : Own) → Running h p t k n es o → (q : ℕ) (x : Whole) → Starts h q k x → q < t → ((r : ℕ) (y : Whole) → q < r → r < t → Starts h r k y → ⊥) → q ≡ p
only_start h p t k n es o run q x s l none = by (cases_order q p)
  where
    by : (q ≡ p) ⊎ ((q < p) ⊎ (p < q)) → q ≡ p
    by (inl e) = e
    by (inr (inl m)) = let y = start_of h p k n es o run.start in absurd (none p y.0 m run.before y.1)
    by (inr (inr m)) = absurd (run.no_later q x m l s)

-- a core that runs something
going_runs : (o : Own) (s : State) → Going o s → o ≡ own.Nothing → ⊥
going_runs own.Nothing s g e = g
going_runs (own.Read i) s g e = absurd (grind arith)
going_runs (own.List M) s g e = absurd (grind arith)

pub active_runs : (a : Memory) (k : ℕ) → Active a k → a.own k ≡ own.Nothing → ⊥
active_runs a k g e = going_runs (a.own k) (a.state k) g.1 e

-- An undecided operation with entries is under way.
pub undecided_active : (a : Memory) (T : Mark) → Inv a → Undecided a T → 0 < length (a.ents T.core) → Active a T.core
undecided_active a T inv und some = (unfinished (a.place T.core) (inv.places_ok T.core), going (a.own T.core) (inv.owns T.core))
  where
    none : a.ents T.core ≡ [] → ⊥
    none e = omega (arith, ap (λ (es : List Entry). length es) e)

    unfinished : (p : Place) → PlaceOk a T.core p → is_finished p ≡ false
    unfinished p ok =
        ⊎_elim (λ (z : is_finished p ≡ true). let fin = (decides_finished p).0 z in let rest : PlaceOk a T.core (Finished fin.0) = subst (PlaceOk a T.core) fin.1 ok in absurd (none (rest und))) (λ z. z)
        (cases_Bool (is_finished p))

    going : (o : Own) → OwnOk a T.core o → Going o (a.state T.core)
    going own.Nothing ok = none (rw ok at (inv.places_ok T.core) und)
    going (own.Read i) ok = absurd (none ok)
    going (own.List M) ok = und

-- What was seen stays seen, as long as its moment stays free.
pub pending_on : (h : History) (f f' : ℕ → Option Completed) (p t j : ℕ) (a a' : Memory) (w : Work) (i : ℕ) → Pending h f p t j a w i → a'.ents w.operation.core ≡ a.ents w.operation.core
    → ((s : ℕ) → s < t → call_at h s ≡ steps j → f s ≡ None → f' s ≡ None) → Pending h f' p (t + 1) j a' w i
pending_on h f f' p t j a a' w i d es free = record {
  seen = d.seen;
  earlier = omega (arith, d.earlier);
  after_start = d.after_start;
  stepped_then = d.stepped_then;
  free = free d.seen d.earlier d.stepped_then d.free;
  inside = rw es d.inside;
  other = rw es d.other;
  earlier_ones = rw es d.earlier_ones;
}

module _ (h : History) (t : ℕ) where
  longer_run : (p k n : ℕ) (es : List Entry) (o : Own) → ((x : Whole) → Starts h t k x → ⊥) → Running h p t k n es o → Running h p (t + 1) k n es o
  longer_run p k n es o none r = record {
    before = omega (arith, r.before);
    start = r.start;
    no_later = λ q x l m s. ⊎_elim (λ (z : q < t). r.no_later q x l z s) (λ (z : t ≤ q). let e : q ≡ t = omega arith in none x (subst (λ (u : ℕ). Starts h u k x) e s)) (cases_lt q t);
  }

  longer_unanswered : (f f' : ℕ → Option Completed) (p k : ℕ) → (Called h t (steps k) (Ok 1) → ⊥) → ((s : ℕ) (d : Completed) → f' s ≡ Some d → d.start_of ≡ p → f s ≡ Some d) → Unanswered h f p t k → Unanswered h f' p (t + 1) k
  longer_unanswered f f' p k none fewer u = record {
    unfinished = λ q l m c. ⊎_elim (λ (z : q < t). u.unfinished q l z c) (λ (z : t ≤ q). let e : q ≡ t = omega arith in none (subst (λ (v : ℕ). Called h v (steps k) (Ok 1)) e c)) (cases_lt q t);
    not_completed = λ s d e q. u.not_completed s d (fewer s d e q) q;
  }

  -- A call that starts nothing.
  pub cores_go : (f f' : ℕ → Option Completed) (p : ℕ → ℕ) (a a' : Memory) → Cores h f p t a → a'.num ≡ a.num → a'.ents ≡ a.ents
      → ((k : ℕ) → (a'.own k ≡ own.Nothing → ⊥) → a'.own k ≡ a.own k) → ((k : ℕ) → Active a' k → Active a k)
      → ((k : ℕ) (x : Whole) → Starts h t k x → ⊥) → ((k : ℕ) → Active a' k → Called h t (steps k) (Ok 1) → ⊥)
      → ((k : ℕ) → Active a' k → (s : ℕ) (d : Completed) → f' s ≡ Some d → d.start_of ≡ p k → f s ≡ Some d)
      → ((j : ℕ) (w : Work) (i : ℕ) → a'.place j ≡ Decide w (outcome.Failed i) → Current a' w.operation → Undecided a' w.operation → Pending h f' (p w.operation.core) (t + 1) j a' w i)
      → Cores h f' p (t + 1) a'
  cores_go f f' p a a' g nums lists owns active none unfinished fewer pends = record {
    running = λ k ne. let o = owns k ne in longer_run (p k) k (a'.num k) (a'.ents k) (a'.own k) (none k) (rw (nums, lists, o) (g.running k (λ z. ne (o ∙ z))));
    unanswered = λ k act. longer_unanswered f f' (p k) k (unfinished k act) (fewer k act) (g.unanswered k (active k act));
    pending = pends;
  }

  -- A start.
  pub cores_start : (f : ℕ → Option Completed) (p : ℕ → ℕ) (a : Memory) (k : ℕ) (es : List Entry) (o : Own) (pl : Place) → Cores h f p t a → Linearization h f t → Inv a → StartedAs h t k (a.num k + 1) es o → fails pl ≡ false
      → ((j : ℕ) (x : Whole) → Starts h t j x → j ≡ k) → ((j : ℕ) → Called h t (steps j) (Ok 1) → ⊥) → Cores h f (upd p k t) (t + 1) (move (fresh_op a k es o) k pl)
  cores_start f p a k es o pl g linearization inv start plain only unfinished = record {
    running = λ j ne. ⊎_elim
        (λ (q : j ≡ k). subst (λ (x : ℕ). Running h (upd p k t x) (t + 1) x (a'.num x) (a'.ents x) (a'.own x)) (sym q) newest)
        (λ (n : j ≡ k → ⊥). rw (upd_other p k j t n, upd_other a.num k j (a.num k + 1) n, upd_other a.ents k j es n, upd_other a.own k j o n)
        (longer_run (p j) j (a.num j) (a.ents j) (a.own j) (λ x s. n (only j x s)) (g.running j (λ z. ne (upd_other a.own k j o n ∙ z))))) (cases_eq j k);
    unanswered = λ j act. ⊎_elim
        (λ (q : j ≡ k). subst (λ (x : ℕ). Unanswered h f (upd p k t x) (t + 1) x) (sym q) fresh)
        (λ (n : j ≡ k → ⊥). rw (upd_other p k j t n) (longer_unanswered f f (p j) j (unfinished j) (λ _ _ e _. e)
        (g.unanswered j (rw (upd_other a.place k j pl n, upd_other a.own k j o n, upd_other a.state k j None n) at act)))) (cases_eq j k);
    pending = λ j w i e cur und. ⊎_elim
        (λ (q : j ≡ k). absurd (both_ways (fails pl) plain (ap fails (sym (upd_at a.place k j pl q) ∙ e))))
        (λ (n : j ≡ k → ⊥). still j w i (sym (upd_other a.place k j pl n) ∙ e) cur und) (cases_eq j k);
  }
    where
      a' : Memory
      a' = move (fresh_op a k es o) k pl

      newest : Running h (upd p k t k) (t + 1) k (a'.num k) (a'.ents k) (a'.own k)
      newest =
          rw (upd_same p k t, upd_same a.num k (a.num k + 1), upd_same a.ents k es, upd_same a.own k o)
          (record { before = omega arith; start = start; no_later = λ q x l m s. absurd (omega arith) })

      fresh : Unanswered h f (upd p k t k) (t + 1) k
      fresh =
          rw (upd_same p k t)
          (record { unfinished = λ q l m c. absurd (omega arith); not_completed = λ s d e q. absurd (omega (arith, (linearization.entered s d e).after_start, completed_before h f t linearization s d e, q)) })

      still : (j : ℕ) (w : Work) (i : ℕ) → a.place j ≡ Decide w (outcome.Failed i) → Current a' w.operation → Undecided a' w.operation → Pending h f (upd p k t w.operation.core) (t + 1) j a' w i
      still j w i e cur und =
          let made = (subst (PlaceOk a j) e (inv.places_ok j)).0 in
          let n : w.operation.core ≡ k → ⊥ = λ q. omega (arith, made, ap a.num q, sym (upd_at a.num k w.operation.core (a.num k + 1) q) ∙ cur) in
          rw (upd_other p k w.operation.core t n)
          (pending_on h f f (p w.operation.core) t j a a' w i
          (g.pending j w i e (sym (upd_other a.num k w.operation.core (a.num k + 1) n) ∙ cur) (sym (upd_other a.state k w.operation.core None n) ∙ und))
          (upd_other a.ents k w.operation.core es n) (λ s _ _ z. z))
