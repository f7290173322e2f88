use Rattle.std.proofs.Common.{◌≡◌, ℕ, ◌+◌, Bool, true, false, ◌&&◌, sym, refl, ◌∙◌, ⊎_elim, le_refl, arith}
use Rattle.std.proofs.lemmas.Bool.{both_ways, true≢false, false≢true, and_parts, and_from, eqb-true, eq-eqb, ltb-true, ltb-false, cond_both, cases_lt}
use Rattle.word.specs.declared.Mark.{Mark}
use Rattle.word.specs.declared.Word.TheVariants as word
use Rattle.descriptor.specs.declared.contents.Outcome.TheVariants as outcome
use Rattle.cores.specs.declared.place.Work.{Work}
use Rattle.cores.specs.declared.place.Then.TheVariants as then
use Rattle.cores.specs.declared.place.Place.{Place}
use Rattle.cores.specs.declared.place.Place.TheVariants.{Idle, Finished, Look, Begin, Fetch, Make, Try, Decide, Clear, Settle}
use Rattle.cores.specs.declared.place.Own.{Own}
use Rattle.cores.specs.declared.place.Own.TheVariants as own
use Rattle.model.specs.Rules.{same_mark, entry_after, has_more, next_entry}
use Rattle.cores.specs.Cores.{home, is_idle}
use Rattle.model.proofs.Memory.{Memory, entry, move}
use Rattle.model.proofs.Facts.{Made, Current, Undecided, PlMade, Passed, Filled, wants, places, past, due, Unplaced, Works, PlaceOk, WordOk, OwnOk, Inv}
use Rattle.model.proofs.Keep.{inv_move}

-- Moves of a core that many rules share.

-- Marks and tests.
pub mark_eq : (a b : Mark) → a.core ≡ b.core → a.number ≡ b.number → a ≡ b
mark_eq a b p q = λ i. record { core = p i; number = q i }

pub same_mark_eq : (a b : Mark) → same_mark a b ≡ true → a ≡ b
same_mark_eq a b h = let r = and_parts _ _ h in mark_eq a b (eqb-true _ _ r.0) (eqb-true _ _ r.1)

pub same_mark_refl : (m : Mark) → same_mark m m ≡ true
same_mark_refl m = and_from _ _ (eq-eqb m.core m.core refl) (eq-eqb m.number m.number refl)

pub and_false : (a b : Bool) → (a ≡ true → b ≡ true → ⊥) → (a && b) ≡ false
and_false true true f = absurd (f refl refl)
and_false true false f = refl
and_false false true f = refl
and_false false false f = refl

pub no : {A : Type 0} → false ≡ true → A
no z = absurd (false≢true z)

-- a core does not both want to place its mark and settle it
wants_places : (p : Place) → wants p ≡ true → places p ≡ true → ⊥
wants_places Idle a b = false≢true a
wants_places (Finished v) a b = false≢true a
wants_places (Look i) a b = false≢true a
wants_places (Begin m) a b = false≢true a
wants_places (Fetch t) a b = false≢true a
wants_places (Make t e) a b = false≢true a
wants_places (Try t e m) a b = false≢true b
wants_places (Decide t o) a b = false≢true a
wants_places (Clear t o c) a b = false≢true a
wants_places (Settle m c (then.Look i)) a b = false≢true a
wants_places (Settle m c (then.Next t)) a b = false≢true a
wants_places (Settle m c (then.Try t e n)) a b = false≢true b
wants_places (Settle m c (then.Clear t o e)) a b = false≢true a

-- a core that is not idle runs something
pub busy : (w : Memory) (c : ℕ) → Inv w → is_idle (w.place c) ≡ false → w.own c ≡ own.Nothing → ⊥
busy w c inv h e = let i : w.place c ≡ Idle = rw e at (inv.owns c) in true≢false (rw i at h)

-- A move to a place that neither clears nor rests.
pub go : (w : Memory) (c : ℕ) (p : Place) → Inv w → is_idle (w.place c) ≡ false → places (w.place c) ≡ false → (wants p ≡ true → wants (w.place c) ≡ true)
    → ((T : Mark) (j : ℕ) → past T j p ≡ false) → ((T : Mark) (j : ℕ) (m : Mark) → due T j m p ≡ false) → PlaceOk w c p → Inv (move w c p)
go w c p inv busy-now un want fresh free ok =
    inv_move w c p inv
    (record { wanted = want; placed = λ i m q e z. absurd (both_ways _ un z); passed = λ T j _ _ _ _ _. fresh T j; live_past = λ m d _ _ h. fresh d.operation h.index; live_due = λ m d _ _ h. free d.operation h.index m })
    (λ e. absurd (busy w c inv busy-now e)) ok

pub go_home : (w : Memory) (c : ℕ) → Inv w → is_idle (w.place c) ≡ false → places (w.place c) ≡ false → Inv (move w c (home (w.own c)))
go_home w c inv b un = by (w.own c) refl (inv.owns c)
  where
    by : (o : Own) → w.own c ≡ o → OwnOk w c o → Inv (move w c (home o))
    by own.Nothing e ok = absurd (busy w c inv b e)
    by (own.Read i) e ok = go w c (Look i) inv b un no (λ _ _. refl) (λ _ _ _. refl) e
    by (own.List M) e ok =
        rw ok.1
        (go w c (Begin (record { core = c; number = w.num c })) inv b un no (λ _ _. refl) (λ _ _ _. refl) (le_refl (w.num c), λ _. ok.0))

-- What a load or a swap that stored nothing saw.
pub saw_placing : (w : Memory) (i : ℕ) (m : Mark) → Inv w → w.word i ≡ word.Placing m → PlMade w m × (Unplaced w m → ⊥) × ((w.pl m.core).word ≡ i)
saw_placing w i m inv e =
    let h : WordOk w i (word.Placing m) = rw e at (inv.words i) in
    (omega (arith, h.0), (λ u. wants_places (w.place m.core) u.1 h.2), h.1)

pub saw_operation : (w : Memory) (i : ℕ) (T : Mark) → Inv w → w.word i ≡ word.Operation T → Made w T × Filled w T
saw_operation w i T inv e =
    let h : WordOk w i (word.Operation T) = rw e at (inv.words i) in (omega (arith, h.0), λ _. omega (arith, h.1.1))

-- Next.
pub next_ok : (w : Memory) (c : ℕ) (t : Work) → Works w t
    → (Current w t.operation → Undecided w t.operation → w.word (entry w t.operation t.index).word ≡ word.Operation t.operation) → PlaceOk w c (next_entry t)
next_ok w c t h here =
    cond_both (has_more t) (Fetch (entry_after t)) (Decide t outcome.Succeeded) (PlaceOk w c)
    (λ e. record { made = h.made; counted = h.counted; inside = ltb-true _ _ e; passed = more })
    (λ e. (h.made, h.counted, (λ cur. let n = h.counted cur in let l = h.inside in rw n (omega arith)), λ cur und j lt. more cur und j (let l = ltb-false (t.index + 1) t.count e in omega arith)))
  where
    more : Passed w t.operation (t.index + 1)
    more cur und j lt = ⊎_elim (λ a. h.passed cur und j a) (λ a. let q : j ≡ t.index = omega arith in rw q (here cur und)) (cases_lt j t.index)

-- Next asks for nothing of a core's own mark, and clears nothing.
pub next_is : (t : Work) (P : Place → Type 0) → ((u : Work) → P (Fetch u)) → ((u : Work) → P (Decide u outcome.Succeeded)) → P (next_entry t)
next_is t P f g = cond_both (has_more t) (Fetch (entry_after t)) (Decide t outcome.Succeeded) P (λ _. f (entry_after t)) (λ _. g t)

pub go_next : (w : Memory) (c : ℕ) (t : Work) → Inv w → is_idle (w.place c) ≡ false → places (w.place c) ≡ false → PlaceOk w c (next_entry t) → Inv (move w c (next_entry t))
go_next w c t inv b un ok =
    go w c (next_entry t) inv b un (λ z. no (sym (next_is t (λ p. wants p ≡ false) (λ _. refl) (λ _. refl)) ∙ z))
    (λ T j. next_is t (λ p. past T j p ≡ false) (λ _. refl) (λ _. refl)) (λ T j m. next_is t (λ p. due T j m p ≡ false) (λ _. refl) (λ _. refl)) ok
