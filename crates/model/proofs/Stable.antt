use Rattle.std.proofs.Common.{◌≡◌, ℕ, true, false, Some, None, sym, refl, ◌∙◌, inl, inr, arith}
use Rattle.word.specs.declared.Mark.{Mark}
use Rattle.entries.specs.declared.Entry.{Entry}
use Rattle.descriptor.specs.declared.contents.Outcome.{Outcome}
use Rattle.descriptor.specs.declared.contents.Outcome.TheVariants as outcome
use Rattle.descriptor.specs.declared.contents.Placing.{Placing}
use Rattle.cores.specs.declared.place.Work.{Work}
use Rattle.cores.specs.declared.place.Then.{Then}
use Rattle.cores.specs.declared.place.Then.TheVariants as then
use Rattle.cores.specs.declared.place.Clearing.{Clearing}
use Rattle.cores.specs.declared.place.Clearing.TheVariants as clearing
use Rattle.cores.specs.declared.place.Settling.{Settling}
use Rattle.cores.specs.declared.place.Settling.TheVariants as settling
use Rattle.cores.specs.declared.place.Place.{Place}
use Rattle.cores.specs.declared.place.Place.TheVariants.{Idle, Finished, Look, Begin, Fetch, Make, Try, Decide, Clear, Settle}
use Rattle.model.proofs.Memory.{Memory, entry}
use Rattle.model.proofs.Facts.{Made, Current, Undecided, PlMade, PlCurrent, Passed, Counted, Filled, Matches, DecidedAs, Unplaced, Works, Clears, Ready, Arrives, ThenOk, SettlingOk, ClearingOk, DecideOk, Resting, PlaceOk, Rely}

-- What is known of a core's place stays known under the steps of others.

-- a decided state is not undecided
pub not_undecided : (o : Outcome) → Some o ≡ None → ⊥
not_undecided o e = grind arith

module _ (w w' : Memory) (k : ℕ) (r : Rely w w' k) where
  pub made_on : (T : Mark) → Made w T → Made w' T
  made_on T h = omega (arith, r.nums T.core)

  pl_made_on : (m : Mark) → PlMade w m → PlMade w' m
  pl_made_on m h = omega (arith, r.pnums m.core)

  counted_on : (T : Mark) (n : ℕ) → Made w T → Counted w T n → Counted w' T n
  counted_on T n m h c = let c0 = r.still T m c in rw (r.ents T c0 c) (h c0)

  matches_on : (T : Mark) (i : ℕ) (e : Entry) → Made w T → Matches w T i e → Matches w' T i e
  matches_on T i e m h c = let c0 = r.still T m c in rw (r.ents T c0 c) (h c0)

  filled_on : (T : Mark) → Made w T → Filled w T → Filled w' T
  filled_on T m h c = let c0 = r.still T m c in rw (r.ents T c0 c) (h c0)

  undecided_back : (T : Mark) → Current w T → Current w' T → Undecided w' T → Undecided w T
  undecided_back T c0 c u = elim (r.states T c0 c) [ inl e ↦ sym e ∙ u | inr e ↦ e ]

  passed_on : (T : Mark) (i : ℕ) → Made w T → Passed w T i → Passed w' T i
  passed_on T i m h c u j lt =
      let c0 = r.still T m c in
      let u0 = undecided_back T c0 c u in
      rw (r.ents T c0 c) (r.marks (entry w T j).word T c0 u0 (h c0 u0 j lt))

  decided_on : (T : Mark) (o : Outcome) → Made w T → DecidedAs w T o → DecidedAs w' T o
  decided_on T o m h c =
      let c0 = r.still T m c in
      elim (r.states T c0 c) [ inl e ↦ e ∙ h c0 | inr e ↦ absurd (not_undecided o (sym (h c0) ∙ e)) ]

  pub works_on : (t : Work) → Works w t → Works w' t
  works_on t h =
      record { made = made_on t.operation h.made; counted = counted_on t.operation t.count h.made h.counted; inside = h.inside; passed = passed_on t.operation t.index h.made h.passed }

  clears_on : (t : Work) (o : Outcome) → Clears w t o → Clears w' t o
  clears_on t o h =
      record { made = made_on t.operation h.made; counted = counted_on t.operation t.count h.made h.counted; inside = h.inside; decided = decided_on t.operation o h.made h.decided }

  mine_current : (m : Mark) → m.core ≡ k → PlCurrent w m → PlCurrent w' m
  mine_current m q c = rw (q, r.mine_pnum, ← q) c

  ready_on : (t : Work) (e : Entry) (m : Mark) → Made w t.operation → Ready w k t e m → Ready w' k t e m
  ready_on t e m md h =
      record { mine = h.mine; current = mine_current m h.mine h.current; matches = matches_on t.operation t.index e md h.matches; operation = rw r.mine_pl h.operation; names = rw r.mine_pl h.names; expected = rw r.mine_pl h.expected }

  arrives_on : (m : Mark) (t : Work) → Made w t.operation → Arrives w k m t → Arrives w' k m t
  arrives_on m t md h = record {
    mine = h.mine;
    current = mine_current m h.mine h.current;
    operation = rw r.mine_pl h.operation;
    names = λ c. let c0 = r.still t.operation md c in rw (r.ents t.operation c0 c, r.mine_pl) (h.names c0);
    expected = λ c. let c0 = r.still t.operation md c in rw (r.ents t.operation c0 c, r.mine_pl) (h.expected c0);
    here = λ c u. let c0 = r.still t.operation md c in let u0 = undecided_back t.operation c0 c u in
        rw r.mine_pl (elim (h.here c0 u0) [
          | inl e ↦ r.arrives (w.pl k).word m t.operation h.mine h.operation e c0 u0 c u
          | inr e ↦ inr (r.marks (w.pl k).word t.operation c0 u0 e)
        ]);
  }

  then_on : (m : Mark) (k' : Then) → ThenOk w k m k' → ThenOk w' k m k'
  then_on m (then.Look i) h = rw r.mine_own h
  then_on m (then.Next t) h = (works_on t h.0, arrives_on m t h.0.made h.1)
  then_on m (then.Try t e n) h = (works_on t h.0, ready_on t e n h.0.made h.1)
  then_on m (then.Clear t o e) h = (clears_on t o h.0, matches_on t.operation t.index e h.0.made h.1)

  pl_on : (m : Mark) (d : Placing) → PlMade w m → (PlCurrent w m → w.pl m.core ≡ d) → PlCurrent w' m → w'.pl m.core ≡ d
  pl_on m d md h c = let c0 = r.pl_still m md c in r.pls m c0 c ∙ h c0

  settling_on : (m : Mark) (k' : Then) (s : Settling) → PlMade w m → (Unplaced w m → ⊥) → SettlingOk w m k' s → SettlingOk w' m k' s
  settling_on m k' settling.Read md un h = λ c. let c0 = r.pl_still m md c in rw (r.pls m c0 c) (h c0)
  settling_on m k' (settling.State d) md un h = (h.0, pl_on m d md h.1, made_on d.operation h.2)
  settling_on m k' (settling.Swap d true) md un h = (h.0, pl_on m d md h.1, r.lives m d md un h.2)
  settling_on m k' (settling.Swap d false) md un h =
      (h.0, pl_on m d md h.1, made_on d.operation h.2, λ c u. let c0 = r.still d.operation h.2 c in h.3 c0 (undecided_back d.operation c0 c u))

  clearing_on : (t : Work) (c : Clearing) → Made w t.operation → ClearingOk w t c → ClearingOk w' t c
  clearing_on t clearing.Read m h = tt
  clearing_on t (clearing.Load e) m h = matches_on t.operation t.index e m h
  clearing_on t (clearing.Swap e) m h = matches_on t.operation t.index e m h

  decide_on : (t : Work) (o : Outcome) → Made w t.operation → DecideOk w t o → DecideOk w' t o
  decide_on t outcome.Succeeded m h = passed_on t.operation t.count m h
  decide_on t (outcome.Failed i) m h = (passed_on t.operation i m h.0, h.1)

  resting_on : Resting w k → Resting w' k
  resting_on h u =
      let T : Mark = record { core = k; number = w.num k } in
      r.ents T refl r.mine_num ∙ h (undecided_back T refl r.mine_num u)

  pub place_on : (p : Place) → PlaceOk w k p → PlaceOk w' k p
  place_on Idle h = resting_on h
  place_on (Finished v) h = resting_on h
  place_on (Look i) h = rw r.mine_own h
  place_on (Begin T) h = (made_on T h.0, filled_on T h.0 h.1)
  place_on (Fetch t) h = works_on t h
  place_on (Make t e) h = (works_on t h.0, matches_on t.operation t.index e h.0.made h.1)
  place_on (Try t e m) h = (works_on t h.0, ready_on t e m h.0.made h.1)
  place_on (Decide t o) h =
      (made_on t.operation h.0, counted_on t.operation t.count h.0 h.1, filled_on t.operation h.0 h.2, decide_on t o h.0 h.3)
  place_on (Clear t o c) h = (clears_on t o h.0, clearing_on t c h.0.made h.1)
  place_on (Settle m s k') h =
      (pl_made_on m h.0, (λ u. h.1 (r.unplaced m h.0 u)), settling_on m k' s h.0 h.1 h.2, then_on m k' h.3)
