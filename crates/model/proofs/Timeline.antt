use Rattle.std.proofs.Common.{◌≡◌, ◌≢◌, ℕ, zero, suc, ◌+◌, ◌<◌, ◌≤◌, cond, eqb, ◌⊎◌, List, [], ◌∷◌, ◌++◌, length, get_or, Some, None, Option, sym, refl, ap, ◌∙◌, subst, inl, inr, add-one, arith}
use Rattle.std.specs.Option.{option_to_list}
use Rattle.std.proofs.lemmas.List.{append-nil, length-append, get_or_append_left, get_or_push}
use Rattle.std.proofs.lemmas.Bool.{cases_lt, cases_order, cond-true, cond-false, eq-eqb, ne_eqb}
use Rattle.model.specs.Plain.{Completed, no_operation, Done, Replays, all_done, then_done}

-- Completed operations that happen at moments, at most one at each, listed by ascending moment.

-- the operations of the first n moments
unfoldable pub timeline : (ℕ → Option Completed) → ℕ → List Completed
timeline f zero = []
timeline f (suc n) = timeline f n ++ option_to_list (f n)

-- the moment t, if an operation happens there
abbrev moment_of : ℕ → Option Completed → List ℕ
moment_of t None = []
moment_of t (Some d) = t ∷ []

-- and the moment of each
unfoldable pub moments : (ℕ → Option Completed) → ℕ → List ℕ
moments f zero = []
moments f (suc n) = moments f n ++ moment_of n (f n)

-- One moment more, over any lists ds of operations and ts of their moments.

one_each : (t : ℕ) (o : Option Completed) → length (moment_of t o) ≡ length (option_to_list o)
one_each t None = refl
one_each t (Some d) = refl

at_most_one : (o : Option Completed) → length (option_to_list o) ≤ 1
at_most_one None = omega arith
at_most_one (Some d) = omega arith

-- a place past the earlier operations is the next place, and an operation happens
new_place : (ds : List Completed) (o : Option Completed) (j : ℕ) → length ds ≤ j → j < length (ds ++ option_to_list o) → (d : Completed) × (o ≡ Some d) × (j ≡ length ds)
new_place ds None j l h = absurd (omega (arith, length-append ds []))
new_place ds (Some d) j l h = (d, refl, omega (arith, length-append ds (d ∷ [])))

-- an operation that happens is at the next place, with its moment
at_new_place : (ds : List Completed) (ts : List ℕ) (t : ℕ) (o : Option Completed) (d : Completed) → length ts ≡ length ds → o ≡ Some d → (length ds < length (ds ++ option_to_list o)) × (get_or (ds ++ option_to_list o) (length ds) no_operation ≡ d) × (get_or (ts ++ moment_of t o) (length ds) 0 ≡ t)
at_new_place ds ts t None d s e = absurd (grind arith)
at_new_place ds ts t (Some x) d s e = let q : x ≡ d = cc in (omega (arith, length-append ds (x ∷ [])), get_or_push ds x no_operation (length ds) refl ∙ q, get_or_push ts t 0 (length ds) s)

-- There are as many moments as operations.
pub same_count : (f : ℕ → Option Completed) (n : ℕ) → length (moments f n) ≡ length (timeline f n)
unfolding timeline moments
same_count f zero = refl
same_count f (suc n) =
    let h = same_count f n in
    let o = one_each n (f n) in omega (arith, length-append (moments f n) (moment_of n (f n)), length-append (timeline f n) (option_to_list (f n)))

-- the earlier operations keep their places
old_completed : (f : ℕ → Option Completed) (n j : ℕ) → j < length (timeline f n) → get_or (timeline f (suc n)) j no_operation ≡ get_or (timeline f n) j no_operation
unfolding timeline
old_completed f n j h = get_or_append_left (timeline f n) (option_to_list (f n)) no_operation j h

old_moment : (f : ℕ → Option Completed) (n j : ℕ) → j < length (timeline f n) → get_or (moments f (suc n)) j 0 ≡ get_or (moments f n) j 0
unfolding moments
old_moment f n j h = get_or_append_left (moments f n) (moment_of n (f n)) 0 j (omega (arith, same_count f n))

-- and there is at most one more
longer : (f : ℕ → Option Completed) (n : ℕ) → (length (timeline f n) ≤ length (timeline f (suc n))) × (length (timeline f (suc n)) ≤ length (timeline f n) + 1)
unfolding timeline
longer f n =
    let e = length-append (timeline f n) (option_to_list (f n)) in
    let m = at_most_one (f n) in (omega arith, omega arith)

-- the operation of moment n is at the next place
newest : (f : ℕ → Option Completed) (n : ℕ) (d : Completed) → f n ≡ Some d → (length (timeline f n) < length (timeline f (suc n))) × (get_or (timeline f (suc n)) (length (timeline f n)) no_operation ≡ d) × (get_or (moments f (suc n)) (length (timeline f n)) 0 ≡ n)
unfolding timeline moments
newest f n d e = at_new_place (timeline f n) (moments f n) n (f n) d (same_count f n) e

-- a place past the earlier operations is that of moment n
only_newest : (f : ℕ → Option Completed) (n j : ℕ) → length (timeline f n) ≤ j → j < length (timeline f (suc n)) → (f n ≡ Some (get_or (timeline f (suc n)) j no_operation)) × (get_or (moments f (suc n)) j 0 ≡ n)
unfolding timeline
only_newest f n j l h =
    let p = new_place (timeline f n) (f n) j l h in
    let q = newest f n p.0 p.1 in
    let e : get_or (timeline f (suc n)) j no_operation ≡ p.0 = ap (λ (i : ℕ). get_or (timeline f (suc n)) i no_operation) p.2 ∙ q.1 in
    let g : get_or (moments f (suc n)) j 0 ≡ n = ap (λ (i : ℕ). get_or (moments f (suc n)) i 0) p.2 ∙ q.2 in
    (p.1 ∙ ap Some (sym e), g)

-- Each listed operation happens at its listed moment.
pub completed_there : (f : ℕ → Option Completed) (n j : ℕ) → j < length (timeline f n) → (get_or (moments f n) j 0 < n) × (f (get_or (moments f n) j 0) ≡ Some (get_or (timeline f n) j no_operation))
unfolding timeline
completed_there f zero j h = absurd (omega arith)
completed_there f (suc n) j h = by (cases_lt j (length (timeline f n))) (completed_there f n j)
  where
    by : (j < length (timeline f n)) ⊎ (length (timeline f n) ≤ j) → (j < length (timeline f n) → (get_or (moments f n) j 0 < n) × (f (get_or (moments f n) j 0) ≡ Some (get_or (timeline f n) j no_operation)))
        → (get_or (moments f (suc n)) j 0 < suc n) × (f (get_or (moments f (suc n)) j 0) ≡ Some (get_or (timeline f (suc n)) j no_operation))
    by (inl l) k =
        let p = k l in
        let e = old_completed f n j l in
        let g = old_moment f n j l in (omega (arith, p.0, g), ap f g ∙ p.1 ∙ ap Some (sym e))
    by (inr l) k = let p = only_newest f n j l h in (omega (arith, p.1), ap f p.1 ∙ p.0)

-- Each operation that happens is listed, with its moment.
pub moment_there : (f : ℕ → Option Completed) (n t : ℕ) (d : Completed) → t < n → f t ≡ Some d → (j : ℕ) × (j < length (timeline f n)) × (get_or (timeline f n) j no_operation ≡ d) × (get_or (moments f n) j 0 ≡ t)
moment_there f zero t d h e = absurd (omega arith)
moment_there f (suc n) t d h e = by (cases_lt t n) (λ l. moment_there f n t d l e)
  where
    by : (t < n) ⊎ (n ≤ t) → (t < n → (j : ℕ) × (j < length (timeline f n)) × (get_or (timeline f n) j no_operation ≡ d) × (get_or (moments f n) j 0 ≡ t))
        → (j : ℕ) × (j < length (timeline f (suc n))) × (get_or (timeline f (suc n)) j no_operation ≡ d) × (get_or (moments f (suc n)) j 0 ≡ t)
    by (inl l) k = let p = k l in (p.0, omega (arith, p.1, (longer f n).0), old_completed f n p.0 p.1 ∙ p.2, old_moment f n p.0 p.1 ∙ p.3)
    by (inr l) k =
        let q : n ≡ t = omega arith in
        let p = newest f n d (ap f q ∙ e) in (length (timeline f n), p.0, p.1, p.2 ∙ q)

-- The moments ascend.
pub ascending : (f : ℕ → Option Completed) (n i j : ℕ) → i < j → j < length (timeline f n) → get_or (moments f n) i 0 < get_or (moments f n) j 0
unfolding timeline
ascending f zero i j l h = absurd (omega arith)
ascending f (suc n) i j l h = by (cases_lt j (length (timeline f n))) (ascending f n i j l)
  where
    early : i < length (timeline f n)
    early = omega (arith, (longer f n).1)

    by : (j < length (timeline f n)) ⊎ (length (timeline f n) ≤ j) → (j < length (timeline f n) → get_or (moments f n) i 0 < get_or (moments f n) j 0) → get_or (moments f (suc n)) i 0 < get_or (moments f (suc n)) j 0
    by (inl m) k = omega (arith, k m, old_moment f n i early, old_moment f n j m)
    by (inr m) k = omega (arith, (completed_there f n i early).0, old_moment f n i early, (only_newest f n j m h).1)

-- so the operation of the earlier moment is the earlier in the list
pub before : (f : ℕ → Option Completed) (n i j : ℕ) → i < length (timeline f n) → j < length (timeline f n) → get_or (moments f n) i 0 < get_or (moments f n) j 0 → i < j
before f n i j a b l = by (cases_order i j)
  where
    by : (i ≡ j) ⊎ ((i < j) ⊎ (j < i)) → i < j
    by (inl e) = absurd (omega (arith, ap (λ (k : ℕ). get_or (moments f n) k 0) e))
    by (inr (inl m)) = m
    by (inr (inr m)) = absurd (omega (arith, ascending f n j i m a))

-- and no two are of one moment
pub same_moment : (f : ℕ → Option Completed) (n i j : ℕ) → i < length (timeline f n) → j < length (timeline f n) → get_or (moments f n) i 0 ≡ get_or (moments f n) j 0 → i ≡ j
same_moment f n i j a b q = by (cases_order i j)
  where
    by : (i ≡ j) ⊎ ((i < j) ⊎ (j < i)) → i ≡ j
    by (inl e) = e
    by (inr (inl m)) = absurd (omega (arith, ascending f n i j m b))
    by (inr (inr m)) = absurd (omega (arith, ascending f n j i m a))

-- What a moment does to the values: nothing, or its operation whole.
abbrev pub Effect : Option Completed → (ℕ → ℕ) → (ℕ → ℕ) → Type 0
Effect None v v' = v' ≡ v
Effect (Some d) v v' = Done d.what v d.answered v'

-- one operation more, done last
pub replays_more : {ds : List Completed} {v u v' : ℕ → ℕ} (d : Completed) → Replays ds v u → Done d.what u d.answered v' → Replays (ds ++ d ∷ []) v v'
replays_more d all_done b = then_done b all_done
replays_more d (then_done a r) b = then_done a (replays_more d r b)

-- one moment more, with an operation or without
effect_more : (ds : List Completed) (o : Option Completed) (v u v' : ℕ → ℕ) → Replays ds v u → Effect o u v' → Replays (ds ++ option_to_list o) v v'
effect_more ds None v u v' r e = rw (append-nil, e) r
effect_more ds (Some d) v u v' r e = replays_more d r e

-- If each moment has the effect of its operation, the listed ones lead from the first values to the last.
pub timeline_replays : (f : ℕ → Option Completed) (n : ℕ) (S : ℕ → ℕ → ℕ) → ((t : ℕ) → t < n → Effect (f t) (S t) (S (t + 1))) → Replays (timeline f n) (S 0) (S n)
unfolding timeline
timeline_replays f zero S h = all_done
timeline_replays f (suc n) S h =
    let r = timeline_replays f n S (λ t l. h t (omega arith)) in
    let e : Effect (f n) (S n) (S (suc n)) = subst (λ (m : ℕ). Effect (f n) (S n) (S m)) (add-one n) (h n (omega arith)) in
    effect_more (timeline f n) (f n) (S 0) (S n) (S (suc n)) r e

-- f with the operation d at moment s
abbrev pub put_completed : (ℕ → Option Completed) → ℕ → Completed → ℕ → Option Completed
put_completed f s d t = cond (eqb t s) (Some d) (f t)

pub put_at : (f : ℕ → Option Completed) (s : ℕ) (d : Completed) → put_completed f s d s ≡ Some d
put_at f s d = cond-true (eqb s s) (Some d) (f s) (eq-eqb s s refl)

pub put_other : (f : ℕ → Option Completed) (s : ℕ) (d : Completed) (t : ℕ) → (t ≢ s) → put_completed f s d t ≡ f t
put_other f s d t h = cond-false (eqb t s) (Some d) (f t) (ne_eqb t s h)
