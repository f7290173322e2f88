use Rattle.std.proofs.Common.{◌≡◌, ℕ, zero, suc, ◌+◌, ◌<◌, ◌≤◌, true, false, eqb, ltb, List, length, get_or, set, Some, None, Option, Result, sym, refl, ap, ◌∙◌, subst, inl, inr, ⊎_elim, le_refl, add-one, arith, length-set, get_or-set_other, get_or-set_same}
use lib.ListN.{length-map}
use Rattle.std.proofs.lemmas.Bool.{lt-ltb, ltb-true, cond-true, cond_both, cases_eq, cases_lt, cases_Bool, both_ways}
use Rattle.std.proofs.lemmas.List.{get_or-replicate, length-replicate, get_or-map}
use Rattle.word.specs.declared.Mark.{Mark}
use Rattle.word.specs.declared.Word.{Word}
use Rattle.word.specs.declared.Word.TheVariants as word
use Rattle.word.specs.Word.{reading_of, raw_of, Says, Made, Writable}
use Rattle.word.proofs.Readings.{written_back, read_says}
use Rattle.bank.specs.Bank.{swapped}
use Rattle.entries.specs.declared.Entry.{Entry}
use Rattle.entries.specs.declared.list.Entries.{Entries}
use Rattle.entries.specs.Lists.{entry_at, zero_entry}
use Rattle.entries.specs.Listed.{listed}
use Rattle.entries.proofs.Law.{listed_lawful}
use Rattle.descriptor.specs.declared.Descriptor.{Descriptor}
use Rattle.descriptor.specs.declared.UsedUp.{UsedUp as Used}
use Rattle.descriptor.specs.declared.contents.Operation.{Operation}
use Rattle.descriptor.specs.declared.contents.Outcome.{Outcome}
use Rattle.descriptor.specs.declared.contents.Placing.{Placing}
use Rattle.descriptor.specs.Descriptors.{last_number, created}
use Rattle.descriptor.specs.Contents.{undecided, entries_of}
use Rattle.descriptor.proofs.Laws.{laws}
use Rattle.cores.specs.declared.place.Work.{Work}
use Rattle.cores.specs.declared.place.Clearing.TheVariants as clearing
use Rattle.cores.specs.declared.place.Settling.TheVariants as settling
use Rattle.cores.specs.declared.place.Place.{Place}
use Rattle.cores.specs.declared.place.Place.TheVariants.{Idle, Finished, Look, Begin, Fetch, Make, Try, Decide, Clear, Settle}
use Rattle.cores.specs.declared.place.Own.{Own}
use Rattle.cores.specs.declared.place.Own.TheVariants as own
use Rattle.cores.specs.declared.table.Core.{Core}
use Rattle.cores.specs.declared.table.Setting.{Setting}
use Rattle.cores.specs.declared.table.Refusal.{Refusal}
use Rattle.cores.specs.declared.table.Refusal.TheVariants.{Open, Setting as BadSetting, Tagged, NoWord, UsedUp}
use Rattle.model.specs.World.{World, core_at, with_words, with_core}
use Rattle.cores.specs.Cores.{new_core, with_placing, home, is_making, started}
use Rattle.model.specs.Step.{decides, step_change, step_place, change_world, after_make, arrive, step_world}
use Rattle.model.specs.Calls.{Call, starts, reads, steps, collects, halts, shows, raws, opens, words_of}
use Rattle.model.specs.Refusals.{refusal_of, is_plain, setting_fits}
use Rattle.model.specs.RefusalLaw.{Holds, Fits, IsPlain}
use Rattle.model.specs.Perform.{perform, granted, unless_refused, closed_table}
use Rattle.model.specs.Histories.{History, after_calls, opening_of, world_at}
use Rattle.model.proofs.RefusalTests.{decides_plain, decides_making, decides_fits}
use Rattle.model.proofs.RefusalTable.{none_holds}
use Rattle.model.proofs.Moments.{world_next, world_past}
use Rattle.model.proofs.Unrefused.{core_there, number_left}
use Rattle.model.proofs.Ranges.{Bounds, bounds, EntryFits, PlacingFits, WordFits, PlaceFits, OwnFits, CoreFits, Ranged}
use Rattle.model.proofs.Fitting.{Grows, operation_more, entry_more, contents_more, word_more, place_more, core_more, home_fits, cleared_fits, settled_fits, step_fits}

-- Every world of every history is in range.

-- a world in range, with no fewer numbers taken than in another
abbrev Keeps : ℕ → World → World → Type 0
Keeps first w v = Ranged first v × Grows (bounds first w) (bounds first v)

grows_self : (b : Bounds) → Grows b b
grows_self b = record { same_first = refl; same_size = refl; operations_rise = λ k. le_refl _; placings_rise = λ k. le_refl _ }

-- what core j keeps once core k's record is another
put_both : (w : World) (k : ℕ) (c : Core) (j : ℕ) (P : Core → Type 0) → k < length w.table.cores → (j ≡ k → P c) → ((j ≡ k → ⊥) → P (core_at w j)) → P (core_at (with_core w k c) j)
put_both w k c j P l here there =
    ⊎_elim (λ (e : j ≡ k). subst P (sym (ap (λ (x : ℕ). core_at (with_core w k c) x) e ∙ get_or-set_same w.table.cores k c (new_core 0) l)) (here e))
    (λ (ne : j ≡ k → ⊥). subst P (sym (get_or-set_other w.table.cores k j c (new_core 0) ne)) (there ne)) (cases_eq j k)

module _ (first : ℕ) (w : World) (r : Ranged first w) where
  abbrev here : Bounds
  here = bounds first w

  -- Another record for core k, with no fewer numbers taken.
  keeps_put : (k : ℕ) (c : Core) → k < 8 → (core_at w k).operation.last ≤ c.operation.last → (core_at w k).placing.last ≤ c.placing.last
      → (Grows here (bounds first (with_core w k c)) → CoreFits (bounds first (with_core w k c)) c) → Keeps first w (with_core w k c)
  keeps_put k c k8 o p fits = (
    record {
      running = r.running;
      few = r.few;
      eight = length-set w.table.cores k c ∙ r.eight;
      first_number = r.first_number;
      words = λ i l. word_more here there grows _ (r.words i l);
      cores = λ j j8. put_both w k c j (CoreFits there) in_table (λ _. fits grows) (λ _. core_more here there grows _ (r.cores j j8));
    },
    grows,
  )
    where
      in_table : k < length w.table.cores
      in_table = omega (arith, r.eight)

      there : Bounds
      there = bounds first (with_core w k c)

      grows : Grows here there
      grows = record {
        same_first = refl;
        same_size = refl;
        operations_rise = λ j. put_both w k c j (λ x. (core_at w j).operation.last ≤ x.operation.last) in_table (λ e. rw e o) (λ _. le_refl _);
        placings_rise = λ j. put_both w k c j (λ x. (core_at w j).placing.last ≤ x.placing.last) in_table (λ e. rw e p) (λ _. le_refl _);
      }

  -- The same where core k takes no number.
  keeps_core : (k : ℕ) (c : Core) → k < 8 → c.operation.last ≡ (core_at w k).operation.last → c.placing.last ≡ (core_at w k).placing.last
      → CoreFits here c → Keeps first w (with_core w k c)
  keeps_core k c k8 o p fits = keeps_put k c k8 (omega arith) (omega arith) (λ g. core_more here (bounds first (with_core w k c)) g c fits)

  keeps_self : Keeps first w w
  keeps_self = (r, grows_self here)

  -- A word in range is written as it is read.
  made : (m : Mark) (last : ℕ) → last ≤ last_number → (m.core < 8) × (first ≤ m.number) × (m.number ≤ last) → Made m
  made m last l h = (h.0, omega (arith, r.first_number.0), omega arith)

  writable : (x : Word) → WordFits here x → Writable x
  writable (word.Plain v) h = h
  writable (word.Placing m) h = made m _ (r.cores m.core h.0).to_last.1 h
  writable (word.Operation m) h = made m _ (r.cores m.core h.0).to_last.0 h
  writable (word.Foreign n) h = h

  keeps_store : (i : ℕ) (x : Word) → i < length w.words → WordFits here x → Keeps first w (with_words w (set w.words i (raw_of x)))
  keeps_store i x lt fits = (
    record {
      running = r.running;
      few = r.few;
      eight = r.eight;
      first_number = r.first_number;
      words = λ j l. word_more here there grows _ (each j (rw (length-set w.words i (raw_of x)) at l));
      cores = λ k k8. core_more here there grows _ (r.cores k k8);
    },
    grows,
  )
    where
      there : Bounds
      there = bounds first (with_words w (set w.words i (raw_of x)))

      grows : Grows here there
      grows = record { same_first = refl; same_size = length-set w.words i (raw_of x); operations_rise = λ k. le_refl _; placings_rise = λ k. le_refl _ }

      each : (j : ℕ) → j < length w.words → WordFits here (reading_of (get_or (set w.words i (raw_of x)) j 0))
      each j l =
          ⊎_elim (λ (e : j ≡ i). rw (e, get_or-set_same w.words i (raw_of x) 0 lt, written_back x (raw_of x) refl (writable x fits)) fits)
          (λ (ne : j ≡ i → ⊥). rw (get_or-set_other w.words i j (raw_of x) 0 ne) (r.words j l)) (cases_eq j i)

  keeps_swap : (i : ℕ) (old new : Word) → WordFits here new → Keeps first w (with_words w (swapped w.words i (raw_of old) (raw_of new)))
  keeps_swap i old new fits =
      cond_both (ltb i (length w.words)) _ _ (λ (ws : List ℕ). Keeps first w (with_words w ws))
      (λ e. cond_both (eqb (get_or w.words i 0) (raw_of old)) _ _ (λ (ws : List ℕ). Keeps first w (with_words w ws)) (λ _. keeps_store i new (ltb-true i _ e) fits) (λ _. keeps_self))
      (λ _. keeps_self)

  -- A decision leaves the entries as they are.
  keeps_decision : (k : ℕ) (m : Mark) (o : Outcome) → Keeps first w (change_world w k (decides m o))
  keeps_decision k m o =
      cond_both (ltb m.core 8) _ _ (Keeps first w)
      (λ e. let l = ltb-true m.core 8 e in let c = r.cores m.core l in
      keeps_core m.core _ l refl refl
      (record {
        place = c.place;
        mine = c.mine;
        started = c.started;
        entries = cond_both (eqb m.number (core_at w m.core).operation.last) _ _ (λ (p : Operation). (j : ℕ) → j < length (entries_of p.list) → EntryFits here (entry_at (entries_of p.list) j)) (λ _. c.entries) (λ _. c.entries);
        from_first = c.from_first;
        to_last = c.to_last;
        contents = c.contents;
        no_contents = c.no_contents;
      }))
      (λ _. keeps_self)

  -- A placing is created, and its mark is in range from then on.
  abbrev making : ℕ → Placing → World
  making k p = with_core w k (with_placing (core_at w k) (record { last = (core_at w k).placing.last + 1; contents = p }))

  keeps_making : (k : ℕ) (p : Placing) → k < 8 → (core_at w k).placing.last < last_number → PlacingFits here p → Keeps first w (making k p)
  keeps_making k p k8 left fits =
      let c = r.cores k k8 in
      keeps_put k _ k8 (le_refl _) (omega arith)
      (λ g. let d = core_more here (bounds first (making k p)) g _ c in
      record {
        place = d.place;
        mine = d.mine;
        started = d.started;
        entries = d.entries;
        from_first = (d.from_first.0, omega (arith, d.from_first.1));
        to_last = (d.to_last.0, omega arith);
        contents = λ _. contents_more here (bounds first (making k p)) g p fits;
        no_contents = λ l. absurd (omega (arith, d.from_first.1));
      })

  -- What the access of a step changes.
  change_keeps : (k : ℕ) (p : Place) → is_making p ≡ false → PlaceFits here p → Keeps first w (change_world w k (step_change p))
  change_keeps k Idle n h = keeps_self
  change_keeps k (Finished v) n h = keeps_self
  change_keeps k (Look i) n h = keeps_self
  change_keeps k (Begin m) n h = keeps_self
  change_keeps k (Fetch t) n h = keeps_self
  change_keeps k (Make t e) n h = grind arith
  change_keeps k (Try t e m) n h = keeps_swap e.word (word.Plain e.expected) (word.Placing m) h.2
  change_keeps k (Decide t o) n h = keeps_decision k t.operation o
  change_keeps k (Clear t o clearing.Read) n h = keeps_self
  change_keeps k (Clear t o (clearing.Load e)) n h = keeps_self
  change_keeps k (Clear t o (clearing.Swap e)) n h = keeps_swap e.word (word.Operation t.operation) _ (cleared_fits here o e h.1)
  change_keeps k (Settle m settling.Read x) n h = keeps_self
  change_keeps k (Settle m (settling.State p) x) n h = keeps_self
  change_keeps k (Settle m (settling.Swap p u) x) n h = keeps_swap p.word (word.Placing m) _ (settled_fits here u p h.1)

  arrive_ranged : (k : ℕ) (p : Place) → k < 8 → PlaceFits here p → Ranged first (arrive w k p)
  arrive_ranged k p k8 h =
      let c = r.cores k k8 in
      (keeps_core k _ k8 refl refl
      (record { place = h; mine = c.mine; started = c.started; entries = c.entries; from_first = c.from_first; to_last = c.to_last; contents = c.contents; no_contents = c.no_contents })).0

-- A granted step.

pub created_left : {X : Type 0} (d : Descriptor X) (x : X) → d.last < last_number → created d x ≡ record { last = d.last + 1; contents = x }
created_left d x l = cond-true _ _ _ (lt-ltb d.last last_number l)

-- a step that creates a placing
making_ranged : (first : ℕ) (w : World) (k : ℕ) (t : Work) (e : Entry) → Ranged first w → k < 8 → (core_at w k).placing.last < last_number → PlaceFits (bounds first w) (Make t e)
    → Ranged first (arrive (change_world w k (step_change (Make t e))) k (step_place w k (core_at w k).own (Make t e)))
making_ranged first w k t e r k8 left h =
    subst (λ (a : Result ℕ Used). Ranged first (arrive (change_world w k (step_change (Make t e))) k (after_make k t e a))) (sym (laws.numbers_left d left))
    (subst (λ (x : Descriptor Placing). Ranged first (arrive (with_core w k (with_placing (core_at w k) x)) k (Try t e m))) (sym (created_left d p left))
    (arrive_ranged first v kept.0 k (Try t e m) k8 (operation_more here there kept.1 t.operation h.0, entry_more here there kept.1 e h.1, (k8, (r.cores k k8).from_first.1, known))))
  where
    d : Descriptor Placing
    d = (core_at w k).placing

    p : Placing
    p = record { operation = t.operation; word = e.word; expected = e.expected }

    m : Mark
    m = record { core = k; number = d.last + 1 }

    v : World
    v = making first w r k p

    here : Bounds
    here = bounds first w

    there : Bounds
    there = bounds first v

    kept : Keeps first w v
    kept = keeps_making first w r k p k8 left (h.0, h.1.0, h.1.1)

    known : d.last + 1 ≤ (core_at v k).placing.last
    known = put_both w k (with_placing (core_at w k) (record { last = d.last + 1; contents = p })) k (λ c. d.last + 1 ≤ c.placing.last) (omega (arith, r.eight)) (λ _. le_refl _) (λ ne. absurd (ne refl))

step_ranged : (first : ℕ) (w : World) (k : ℕ) → Ranged first w → k < 8 → (is_making (core_at w k).place ≡ true → (core_at w k).placing.last < last_number) → Ranged first (step_world w k)
step_ranged first w k r k8 left = ⊎_elim creating others (cases_Bool (is_making (core_at w k).place))
  where
    here : Bounds
    here = bounds first w

    By : Place → Type 0
    By p = Ranged first (arrive (change_world w k (step_change p)) k (step_place w k (core_at w k).own p))

    creating : is_making (core_at w k).place ≡ true → By (core_at w k).place
    creating q =
        let h = (decides_making (core_at w k).place).0 q in
        subst By (sym h.2) (making_ranged first w k h.0 h.1 r k8 (left q) (subst (PlaceFits here) h.2 (r.cores k k8).place))

    others : is_making (core_at w k).place ≡ false → By (core_at w k).place
    others q =
        let kept = change_keeps first w r k (core_at w k).place q (r.cores k k8).place in
        arrive_ranged first _ kept.0 k _ k8
        (place_more here _ kept.1 _ (step_fits first w r k (core_at w k).own (core_at w k).place q (r.cores k k8).mine (r.cores k k8).place))

-- A granted start: the core's own operation is in range once it is created.

abbrev starting : Core → Own → Option Entries → Core
starting c mine l =
    record { place = home mine; own = mine; halted = c.halted; operation = record { last = c.operation.last + 1; contents = undecided l }; placing = c.placing }

start_ranged : (first : ℕ) (w : World) (k : ℕ) (mine : Own) (l : Option Entries) → Ranged first w → k < 8 → (core_at w k).operation.last < last_number
    → ((j : ℕ) → j < length (entries_of l) → EntryFits (bounds first w) (entry_at (entries_of l) j))
    → ((b : Bounds) → Grows (bounds first w) b → (core_at w k).operation.last + 1 ≤ b.operations k → OwnFits b mine)
    → Ranged first (with_core w k (started (core_at w k) mine l))
start_ranged first w k mine l r k8 left es own-fits =
    subst (λ (d : Descriptor Operation). Ranged first (with_core w k (record { place = home mine; own = mine; halted = (core_at w k).halted; operation = d; placing = (core_at w k).placing })))
    (sym (created_left (core_at w k).operation (undecided l) left))
    (keeps_put first w r k c k8 (omega arith) (le_refl _)
    (λ g. let d = core_more (bounds first w) there g _ (r.cores k k8) in
    let mine-fits = own-fits there g known in
    record {
      place = home_fits there mine mine-fits;
      mine = mine-fits;
      started = λ _. d.from_first.0;
      entries = λ j lt. entry_more (bounds first w) there g _ (es j lt);
      from_first = (omega (arith, d.from_first.0), d.from_first.1);
      to_last = (omega arith, d.to_last.1);
      contents = d.contents;
      no_contents = d.no_contents;
    })).0
  where
    c : Core
    c = starting (core_at w k) mine l

    there : Bounds
    there = bounds first (with_core w k c)

    known : (core_at w k).operation.last + 1 ≤ there.operations k
    known = put_both w k c k (λ x. (core_at w k).operation.last + 1 ≤ x.operation.last) (omega (arith, r.eight)) (λ _. le_refl _) (λ ne. absurd (ne refl))

-- Every granted call.

module _ (first : ℕ) (w : World) (r : Ranged first w) where
  -- what a call that no row refuses has to do with
  word_there : (c : Call) (j : ℕ) → ((q : Refusal) → Holds w c q → ⊥) → j < length (words_of c) → get_or (words_of c) j 0 < length w.words
  word_there c j none l =
      ⊎_elim (λ h. h) (λ (ge : length w.words ≤ get_or (words_of c) j 0). absurd (none NoWord (j, l, ge))) (cases_lt (get_or (words_of c) j 0) (length w.words))

  listed_fit : (k : ℕ) (l : Entries) → ((q : Refusal) → Holds w (starts k l) q → ⊥) → (j : ℕ) → j < length (listed l) → EntryFits (bounds first w) (entry_at (listed l) j)
  listed_fit k l none j lt =
      let h = word_there (starts k l) j none (rw (length-map (listed l) (λ (e : Entry). e.word)) lt) in
      (rw (get_or-map (λ (e : Entry). e.word) (listed l) j zero_entry 0 lt) at h, (listed_lawful l).expected_fits j lt, (listed_lawful l).new_fits j lt)

  granted_ranged : (c : Call) → ((q : Refusal) → Holds w c q → ⊥) → Ranged first (granted w c).world
  granted_ranged (starts k l) none =
      let k8 = core_there w (starts k l) k none refl in
      start_ranged first w k (own.List (record { core = k; number = (core_at w k).operation.last + 1 })) (Some l) r k8 (number_left _ (λ ge. none UsedUp (inl (k, refl, ge)))) (listed_fit k l none)
      (λ b g known. (k8, omega (arith, (r.cores k k8).from_first.0, g.same_first), known))
  granted_ranged (reads k i) none =
      let lt = word_there (reads k i) 0 none (omega arith) in
      start_ranged first w k (own.Read i) None r (core_there w (reads k i) k none refl) (number_left _ (λ ge. none UsedUp (inl (k, refl, ge)))) (λ j l. absurd (omega arith))
      (λ b g known. omega (arith, g.same_size))
  granted_ranged (steps k) none =
      step_ranged first w k r (core_there w (steps k) k none refl)
      (λ q. number_left _ (λ ge. none UsedUp (inr (k, refl, ((decides_making (core_at w k).place).0 q, ge)))))
  granted_ranged (collects k) none =
      let k8 = core_there w (collects k) k none refl in
      let c = r.cores k k8 in
      (keeps_core first w r k _ k8 refl refl
      (record { place = tt; mine = tt; started = λ ne. absurd (ne refl); entries = c.entries; from_first = c.from_first; to_last = c.to_last; contents = c.contents; no_contents = c.no_contents })).0
  granted_ranged (halts k) none =
      let k8 = core_there w (halts k) k none refl in
      let c = r.cores k k8 in
      (keeps_core first w r k _ k8 refl refl
      (record { place = c.place; mine = c.mine; started = c.started; entries = c.entries; from_first = c.from_first; to_last = c.to_last; contents = c.contents; no_contents = c.no_contents })).0
  granted_ranged (shows i) none = r
  granted_ranged (raws i) none = r
  granted_ranged (opens s) none = absurd (none Open (r.running, (s, refl)))

-- A call keeps a world in range: a refused one leaves it as it is.
pub ranged_call : (first : ℕ) (w : World) (c : Call) → Ranged first w → Ranged first (perform w c).world
unfolding perform
ranged_call first w c r = by (refusal_of w c) refl
  where
    by : (o : Option Refusal) → refusal_of w c ≡ o → Ranged first (unless_refused o w c).world
    by (Some q) e = r
    by None e = granted_ranged first w r c (none_holds w c e)

-- The opened world: every word is plain, and no core has created anything.

-- where no word is the first that is not plain, all are plain
all_plain : (w : World) (s : Setting) → ((q : Refusal) → Holds w (opens s) q → ⊥) → (t : ℕ) → (j : ℕ) → j < t → j < length w.words → IsPlain (get_or w.words j 0)
all_plain w s none zero j l lt = absurd (omega arith)
all_plain w s none (suc t) j l lt = ⊎_elim (λ e. latest e (all_plain w s none t)) (λ (ne : j ≡ t → ⊥). all_plain w s none t j (omega arith) lt) (cases_eq j t)
  where
    n : ℕ
    n = get_or w.words j 0

    latest : j ≡ t → ((i : ℕ) → i < t → i < length w.words → IsPlain (get_or w.words i 0)) → IsPlain n
    latest e before =
        ⊎_elim (λ p. (decides_plain n).0 p)
        (λ (p : is_plain (reading_of n) ≡ false). absurd (none (Tagged j) ((s, refl), lt, (λ q. both_ways _ p ((decides_plain n).1 q)), λ i li. before i (omega arith) (omega arith))))
        (cases_Bool (is_plain (reading_of n)))

plain_fits : (b : Bounds) (n : ℕ) → IsPlain n → WordFits b (reading_of n)
plain_fits b n (v, e) = let s : Says n (word.Plain v) = read_says n (word.Plain v) (sym e) in rw e s.0

new_fits : (b : Bounds) → 1 ≤ b.first → b.first ≤ last_number → CoreFits b (new_core b.first)
new_fits b lo hi = record {
  place = tt;
  mine = tt;
  started = λ ne. absurd (ne refl);
  entries = λ j l. absurd (omega arith);
  from_first = (omega arith, omega arith);
  to_last = (omega arith, omega arith);
  contents = λ l. absurd (omega arith);
  no_contents = λ _. refl;
}

pub ranged_opening : (h : History) → Ranged h.setting.first (opening_of h)
ranged_opening h = record {
  running = refl;
  few = fits.few_cores;
  eight = length-replicate 8 (new_core h.setting.first);
  first_number = (fits.number_from, fits.number_to);
  words = λ i l. plain_fits (bounds h.setting.first (opening_of h)) _ (all_plain w h.setting none (i + 1) i (omega arith) l);
  cores = λ k k8. rw (get_or-replicate 8 k (new_core h.setting.first) (new_core 0) k8) (new_fits (bounds h.setting.first (opening_of h)) fits.number_from fits.number_to);
}
  where
    w : World
    w = record { words = h.words; table = closed_table }

    none : (q : Refusal) → Holds w (opens h.setting) q → ⊥
    none = none_holds w (opens h.setting) h.granted

    fits : Fits (length h.words) h.setting
    fits =
        ⊎_elim (λ p. (decides_fits (length h.words) h.setting).0 p)
        (λ p. absurd (none BadSetting (h.setting, refl, λ f. both_ways _ p ((decides_fits (length h.words) h.setting).1 f))))
        (cases_Bool (setting_fits (length h.words) h.setting))

-- From one moment to the next there is a call, or nothing more.
pub moment_next : (h : History) (t : ℕ) (R : World → World → Type 0) → ((w : World) → R w w) → ((c : Call) → R (world_at h t) (perform (world_at h t) c).world) → R (world_at h t) (world_at h (t + 1))
moment_next h t R stay call =
    ⊎_elim (λ l. subst (R (world_at h t)) (sym (world_next h t l)) (call _))
    (λ (l : length h.calls ≤ t). subst (R (world_at h t)) (world_past h t l ∙ sym (world_past h (t + 1) (omega arith))) (stay (world_at h t)))
    (cases_lt t (length h.calls))

-- Every world of every history.
pub ranged : (h : History) (t : ℕ) → Ranged h.setting.first (world_at h t)
unfolding after_calls
ranged h zero = ranged_opening h
ranged h (suc t) =
    subst (λ (n : ℕ). Ranged h.setting.first (world_at h n)) (add-one t)
    (moment_next h t (λ w v. Ranged h.setting.first w → Ranged h.setting.first v) (λ _ r. r) (λ c. ranged_call h.setting.first (world_at h t) c) (ranged h t))
