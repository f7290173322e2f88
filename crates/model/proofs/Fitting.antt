use Rattle.std.proofs.Common.{◌≡◌, ℕ, ◌<◌, ◌≤◌, Bool, true, false, eqb, ltb, length, Some, None, Option, Result, arith}
use Rattle.std.proofs.lemmas.Bool.{ltb-true, cond_both}
use Rattle.word.specs.declared.Mark.{Mark}
use Rattle.word.specs.declared.Word.{Word}
use Rattle.word.specs.declared.Word.TheVariants as word
use Rattle.entries.specs.declared.Entry.{Entry}
use Rattle.entries.specs.declared.list.Entries.{Entries}
use Rattle.entries.specs.Lists.{entry_at}
use Rattle.entries.specs.Listed.{listed}
use Rattle.descriptor.specs.declared.Overtaken.{Overtaken}
use Rattle.descriptor.specs.declared.contents.Operation.{Operation}
use Rattle.descriptor.specs.declared.contents.Outcome.{Outcome}
use Rattle.descriptor.specs.declared.contents.Outcome.TheVariants as outcome
use Rattle.descriptor.specs.declared.contents.Placing.{Placing}
use Rattle.descriptor.specs.Contents.{entry_in, entries_of, State}
use Rattle.cores.specs.declared.place.Work.{Work}
use Rattle.cores.specs.declared.place.Then.{Then}
use Rattle.cores.specs.declared.place.Then.TheVariants as then
use Rattle.cores.specs.declared.place.Clearing.{Clearing}
use Rattle.cores.specs.declared.place.Clearing.TheVariants as clearing
use Rattle.cores.specs.declared.place.Settling.{Settling}
use Rattle.cores.specs.declared.place.Settling.TheVariants as settling
use Rattle.cores.specs.declared.place.Place.{Place}
use Rattle.cores.specs.declared.place.Place.TheVariants.{Idle, Finished, Look, Begin, Fetch, Make, Try, Decide, Clear, Settle}
use Rattle.cores.specs.declared.place.Own.{Own}
use Rattle.cores.specs.declared.place.Own.TheVariants as own
use Rattle.cores.specs.declared.table.Core.{Core}
use Rattle.model.specs.World.{World, core_at, word_at, operation_at, placing_at}
use Rattle.model.specs.Rules.{by_sight, through_mark, same_mark, has_more, next_entry, after_look, after_begin, after_try, after_last, after_clear_load, after_clear_swap, resume}
use Rattle.cores.specs.Cores.{home, is_making}
use Rattle.model.specs.Step.{step_place, cleared_to, settled_to}
use Rattle.model.proofs.Ranges.{Bounds, bounds, KnownOperation, KnownPlacing, EntryFits, PlacingFits, WordFits, ThenFits, ClearingFits, SettlingFits, PlaceFits, OwnFits, CoreFits, Ranged}

-- What is in range stays so when numbers are taken, and a step leads from what is in range to a place in range.

-- the same first number and size, and no fewer numbers taken
pub record Grows (b c : Bounds) : Type 0 where
  pub same_first : c.first ≡ b.first
  pub same_size : c.size ≡ b.size
  pub operations_rise : (k : ℕ) → b.operations k ≤ c.operations k
  pub placings_rise : (k : ℕ) → b.placings k ≤ c.placings k

module _ (b c : Bounds) (g : Grows b c) where
  pub operation_more : (m : Mark) → KnownOperation b m → KnownOperation c m
  operation_more m (k, l, u) = (k, omega (arith, g.same_first), omega (arith, g.operations_rise m.core))

  pub placing_more : (m : Mark) → KnownPlacing b m → KnownPlacing c m
  placing_more m (k, l, u) = (k, omega (arith, g.same_first), omega (arith, g.placings_rise m.core))

  pub entry_more : (e : Entry) → EntryFits b e → EntryFits c e
  entry_more e (i, x, n) = (omega (arith, g.same_size), x, n)

  pub contents_more : (p : Placing) → PlacingFits b p → PlacingFits c p
  contents_more p (o, i, x) = (operation_more p.operation o, omega (arith, g.same_size), x)

  pub word_more : (x : Word) → WordFits b x → WordFits c x
  word_more (word.Plain v) h = h
  word_more (word.Placing m) h = placing_more m h
  word_more (word.Operation m) h = operation_more m h
  word_more (word.Foreign n) h = h

  pub then_more : (k : Then) → ThenFits b k → ThenFits c k
  then_more (then.Look i) h = omega (arith, g.same_size)
  then_more (then.Next t) h = operation_more t.operation h
  then_more (then.Try t e m) (o, x, p) = (operation_more t.operation o, entry_more e x, placing_more m p)
  then_more (then.Clear t x e) (o, f) = (operation_more t.operation o, entry_more e f)

  pub clearing_more : (x : Clearing) → ClearingFits b x → ClearingFits c x
  clearing_more clearing.Read h = h
  clearing_more (clearing.Load e) h = entry_more e h
  clearing_more (clearing.Swap e) h = entry_more e h

  pub settling_more : (x : Settling) → SettlingFits b x → SettlingFits c x
  settling_more settling.Read h = h
  settling_more (settling.State p) h = contents_more p h
  settling_more (settling.Swap p u) h = contents_more p h

  pub place_more : (p : Place) → PlaceFits b p → PlaceFits c p
  place_more Idle h = h
  place_more (Finished v) h = h
  place_more (Look i) h = omega (arith, g.same_size)
  place_more (Begin m) h = operation_more m h
  place_more (Fetch t) h = operation_more t.operation h
  place_more (Make t e) (o, x) = (operation_more t.operation o, entry_more e x)
  place_more (Try t e m) (o, x, p) = (operation_more t.operation o, entry_more e x, placing_more m p)
  place_more (Decide t o) h = operation_more t.operation h
  place_more (Clear t o x) (k, f) = (operation_more t.operation k, clearing_more x f)
  place_more (Settle m x k) (p, s, t) = (placing_more m p, settling_more x s, then_more k t)

  pub own_more : (o : Own) → OwnFits b o → OwnFits c o
  own_more own.Nothing h = h
  own_more (own.Read i) h = omega (arith, g.same_size)
  own_more (own.List m) h = operation_more m h

  pub core_more : (x : Core) → CoreFits b x → CoreFits c x
  core_more x h = record {
    place = place_more x.place h.place;
    mine = own_more x.own h.mine;
    started = λ ne. omega (arith, h.started ne, g.same_first);
    entries = λ j l. entry_more _ (h.entries j l);
    from_first = (omega (arith, h.from_first.0, g.same_first), omega (arith, h.from_first.1, g.same_first));
    to_last = h.to_last;
    contents = λ l. contents_more _ (h.contents (omega (arith, g.same_first)));
    no_contents = λ l. h.no_contents (omega (arith, g.same_first));
  }

-- Where the rules lead.

module _ (b : Bounds) where
  next_fits : (t : Work) → KnownOperation b t.operation → PlaceFits b (next_entry t)
  next_fits t h = cond_both (has_more t) _ _ (PlaceFits b) (λ _. h) (λ _. h)

  pub home_fits : (o : Own) → OwnFits b o → PlaceFits b (home o)
  home_fits own.Nothing h = h
  home_fits (own.Read i) h = h
  home_fits (own.List m) h = h

  resume_fits : (k : Then) → ThenFits b k → PlaceFits b (resume k)
  resume_fits (then.Look i) h = h
  resume_fits (then.Next t) h = next_fits t h
  resume_fits (then.Try t e m) h = h
  resume_fits (then.Clear t o e) h = h

  look_fits : (i : ℕ) → i < b.size → (x : Word) → WordFits b x → PlaceFits b (after_look i x)
  look_fits i l (word.Plain v) h = tt
  look_fits i l (word.Placing m) h = (h, tt, l)
  look_fits i l (word.Operation m) h = h
  look_fits i l (word.Foreign n) h = l

  begin_fits : (m : Mark) (n : ℕ) (s : State) → KnownOperation b m → PlaceFits b (after_begin m n s)
  begin_fits m n None h = h
  begin_fits m n (Some o) h = (h, tt)

  try_fits : (t : Work) (e : Entry) (m : Mark) → PlaceFits b (Try t e m) → (x : Word) → WordFits b x → PlaceFits b (after_try t e m x)
  try_fits t e m h (word.Plain v) l = cond_both (eqb v e.expected) _ _ (PlaceFits b) (λ _. (h.2, tt, h.0)) (λ _. h.0)
  try_fits t e m h (word.Placing n) l = (l, tt, h)
  try_fits t e m h (word.Operation u) l = cond_both (same_mark u t.operation) _ _ (PlaceFits b) (λ _. next_fits t h.0) (λ _. l)
  try_fits t e m h (word.Foreign n) l = h

  clear_load_fits : (t : Work) (o : Outcome) (e : Entry) → PlaceFits b (Clear t o (clearing.Load e)) → (x : Word) → WordFits b x → PlaceFits b (after_clear_load t o e x)
  clear_load_fits t o e h (word.Plain v) l = h
  clear_load_fits t o e h (word.Placing m) l = (l, tt, h)
  clear_load_fits t o e h (word.Operation m) l = h
  clear_load_fits t o e h (word.Foreign n) l = h

  last_fits : (m : Mark) (o : Outcome) (mine : Own) → OwnFits b mine → PlaceFits b (after_last m o mine)
  last_fits m o own.Nothing h = h
  last_fits m o (own.Read i) h = h
  last_fits m o (own.List n) h = cond_both (same_mark n m) _ _ (PlaceFits b) (λ _. tt) (λ _. h)

  clear_swap_fits : (t : Work) (o : Outcome) (mine : Own) → KnownOperation b t.operation → OwnFits b mine → PlaceFits b (after_clear_swap t o mine)
  clear_swap_fits t o mine h l = cond_both (has_more t) _ _ (PlaceFits b) (λ _. (h, tt)) (λ _. last_fits t.operation o mine l)

  -- the words that clear and settle put back
  pub cleared_fits : (o : Outcome) (e : Entry) → EntryFits b e → WordFits b (cleared_to o e)
  cleared_fits outcome.Succeeded e h = h.2
  cleared_fits (outcome.Failed i) e h = h.1

  pub settled_fits : (u : Bool) (p : Placing) → PlacingFits b p → WordFits b (settled_to u p)
  settled_fits true p h = h.0
  settled_fits false p h = h.2

  -- an entry read out of a list is one of its entries
  by_entry_fits : (l : Option Entries) (i : ℕ) (stay : Place) (go : Entry → Place) → ((j : ℕ) → j < length (entries_of l) → EntryFits b (entry_at (entries_of l) j))
      → PlaceFits b stay → ((e : Entry) → EntryFits b e → PlaceFits b (go e)) → PlaceFits b (by_sight (entry_in l i) stay go)
  by_entry_fits (Some l) i stay go h s g =
      cond_both (ltb i (length (listed l))) _ _ (λ (o : Option Entry). PlaceFits b (by_sight o stay go)) (λ e. g _ (h i (ltb-true i _ e))) (λ _. s)
  by_entry_fits None i stay go h s g = s

-- What a step sees is in range, and so is the place where it then goes.
module _ (first : ℕ) (w : World) (r : Ranged first w) where
  abbrev here : Bounds
  here = bounds first w

  by_word_fits : (i : ℕ) (stay : Place) (go : Word → Place) → PlaceFits here stay → ((x : Word) → WordFits here x → PlaceFits here (go x)) → PlaceFits here (by_sight (word_at w i) stay go)
  by_word_fits i stay go s g =
      cond_both (ltb i (length w.words)) _ _ (λ (o : Option Word). PlaceFits here (by_sight o stay go)) (λ e. g _ (r.words i (ltb-true i _ e))) (λ _. s)

  by_operation_fits : (m : Mark) (over : Place) (go : Operation → Place) → PlaceFits here over
      → ((o : Operation) → ((j : ℕ) → j < length (entries_of o.list) → EntryFits here (entry_at (entries_of o.list) j)) → PlaceFits here (go o))
      → PlaceFits here (through_mark (operation_at w m) over go)
  by_operation_fits m over go s g =
      cond_both (ltb m.core 8) _ _ (λ (o : Result Operation Overtaken). PlaceFits here (through_mark o over go))
      (λ k. cond_both (eqb m.number (core_at w m.core).operation.last) _ _ (λ (o : Result Operation Overtaken). PlaceFits here (through_mark o over go))
      (λ _. g _ (r.cores m.core (ltb-true m.core 8 k)).entries) (λ _. s))
      (λ _. s)

  -- a placing mark that is current has been made, so that its contents are in range
  by_placing_fits : (m : Mark) (over : Place) (go : Placing → Place) → KnownPlacing here m → PlaceFits here over
      → ((p : Placing) → PlacingFits here p → PlaceFits here (go p)) → PlaceFits here (through_mark (placing_at w m) over go)
  by_placing_fits m over go (k, l, u) s g =
      cond_both (ltb m.core 8) _ _ (λ (o : Result Placing Overtaken). PlaceFits here (through_mark o over go))
      (λ _. cond_both (eqb m.number (core_at w m.core).placing.last) _ _ (λ (o : Result Placing Overtaken). PlaceFits here (through_mark o over go))
      (λ _. g _ ((r.cores m.core k).contents (omega arith))) (λ _. s))
      (λ _. s)

  clear_fits : (t : Work) (o : Outcome) (mine : Own) (k : ℕ) (c : Clearing) → OwnFits here mine → PlaceFits here (Clear t o c) → PlaceFits here (step_place w k mine (Clear t o c))
  clear_fits t o mine k clearing.Read l h =
      by_operation_fits t.operation _ _ (home_fits here mine l) (λ p es. by_entry_fits here p.list t.index _ _ es h (λ e f. (h.0, f)))
  clear_fits t o mine k (clearing.Load e) l h = by_word_fits e.word _ _ h (clear_load_fits here t o e h)
  clear_fits t o mine k (clearing.Swap e) l h = by_word_fits e.word _ _ h (λ _ _. clear_swap_fits here t o mine h.0 l)

  settle_fits : (m : Mark) (x : Then) (mine : Own) (k : ℕ) (c : Settling) → PlaceFits here (Settle m c x) → PlaceFits here (step_place w k mine (Settle m c x))
  settle_fits m x mine k settling.Read h = by_placing_fits m _ _ h.0 (resume_fits here x h.2) (λ p f. (h.0, f, h.2))
  settle_fits m x mine k (settling.State p) h = by_operation_fits p.operation _ _ h (λ _ _. h)
  settle_fits m x mine k (settling.Swap p u) h = by_word_fits p.word _ _ h (λ _ _. resume_fits here x h.2)

  -- all but the creation of a placing, whose mark is in range only after it
  pub step_fits : (k : ℕ) (mine : Own) (p : Place) → is_making p ≡ false → OwnFits here mine → PlaceFits here p → PlaceFits here (step_place w k mine p)
  step_fits k mine Idle n l h = h
  step_fits k mine (Finished v) n l h = h
  step_fits k mine (Look i) n l h = by_word_fits i _ _ h (look_fits here i h)
  step_fits k mine (Begin m) n l h = by_operation_fits m _ _ (home_fits here mine l) (λ o _. begin_fits here m _ o.state h)
  step_fits k mine (Fetch t) n l h =
      by_operation_fits t.operation _ _ (home_fits here mine l) (λ o es. by_entry_fits here o.list t.index _ _ es h (λ e f. (h, f)))
  step_fits k mine (Make t e) n l h = grind arith
  step_fits k mine (Try t e m) n l h = by_word_fits e.word _ _ h (try_fits here t e m h)
  step_fits k mine (Decide t o) n l h = by_operation_fits t.operation _ _ (home_fits here mine l) (λ _ _. (h, tt))
  step_fits k mine (Clear t o c) n l h = clear_fits t o mine k c l h
  step_fits k mine (Settle m c x) n l h = settle_fits m x mine k c h
