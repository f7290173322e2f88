use Rattle.std.specs.Prelude.{◌≡◌, ℕ, ◌+◌, ◌<◌, ◌≤◌, Bool, true, false, ◌⊎◌, length, Some, None, ◌≢◌, slice_index, slice_set}
use Rattle.word.specs.declared.Mark.{Mark}
use Rattle.word.specs.declared.Word.{Word}
use Rattle.word.specs.declared.Word.TheVariants as word
use Rattle.word.specs.Word.{reading_of, raw_of, Value, Made}
use Rattle.entries.specs.declared.Entry.{Entry}
use Rattle.descriptor.specs.declared.Descriptor.{Descriptor}
use Rattle.descriptor.specs.declared.contents.Operation.{Operation}
use Rattle.descriptor.specs.declared.contents.Outcome.{Outcome}
use Rattle.descriptor.specs.declared.contents.Outcome.TheVariants as outcome
use Rattle.descriptor.specs.declared.contents.Placing.{Placing}
use Rattle.descriptor.specs.Contents.{count_of, entry_in}
use Rattle.cores.specs.declared.place.Work.{Work}
use Rattle.cores.specs.declared.place.Then.{Then}
use Rattle.cores.specs.declared.place.Then.TheVariants as then
use Rattle.cores.specs.declared.place.Clearing.TheVariants as clearing
use Rattle.cores.specs.declared.place.Settling.TheVariants as settling
use Rattle.cores.specs.declared.place.Place.{Place}
use Rattle.cores.specs.declared.place.Place.TheVariants.{Finished, Look, Begin, Fetch, Make, Try, Decide, Clear, Settle}
use Rattle.model.specs.World.{World, core_at, with_words, with_core}
use Rattle.cores.specs.Cores.{with_operation, with_placing, home}
use Rattle.model.specs.Rules.{first_entry, next_entry, after_clear_swap, resume}
use Rattle.model.specs.Step.{cleared_to, settled_to, arrive}
use Rattle.model.specs.Calls.{steps}
use Rattle.model.specs.Refusals.{refusal_of}
use Rattle.model.specs.Perform.{perform}

-- The steps once more, as a relation: one constructor for each rule and what its one access saw. They are those of k-CAS over DCSS with weak
-- descriptors (Arbel-Raviv and Brown, DISC 2017); each departure is marked where it stands, but for the fifth, that a read creates a
-- descriptor (`Cores.antt`). Try and Settle are the DCSS.

-- What a step sees.

-- core k stands at p
abbrev pub At : World → ℕ → Place → Type 0
At w k p = (core_at w k).place ≡ p

-- there is a word i, and it reads as x
abbrev pub Sees : World → ℕ → Word → Type 0
Sees w i x = (i < length w.words) × (reading_of (slice_index w.words i) ≡ x)

-- the mark is that of the newest creation of its descriptor, with contents x; or it is overtaken
abbrev pub Newest : {X : Type 0} → Descriptor X → Mark → X → Type 0
Newest d m x = (m.core < 8) × (m.number ≡ d.last) × (d.contents ≡ x)

abbrev pub Older : {X : Type 0} → Descriptor X → Mark → Type 0
Older d m = (m.core < 8) × (m.number ≡ d.last) → ⊥

-- the operation of mark m is current, with contents o; or it is overtaken
abbrev pub Current : World → Mark → Operation → Type 0
Current w m o = Newest (core_at w m.core).operation m o

abbrev pub OvertakenOperation : World → Mark → Type 0
OvertakenOperation w m = Older (core_at w m.core).operation m

-- the placing of mark m is current, with contents p; or it is overtaken
abbrev pub CurrentPlacing : World → Mark → Placing → Type 0
CurrentPlacing w m p = Newest (core_at w m.core).placing m p

abbrev pub OvertakenPlacing : World → Mark → Type 0
OvertakenPlacing w m = Older (core_at w m.core).placing m

-- the operation has the entry e at i
abbrev pub HasEntry : Operation → ℕ → Entry → Type 0
HasEntry o i e = entry_in o.list i ≡ Some e

-- What a step changes.

-- core k goes to p, and nothing else changes
abbrev pub goes : World → ℕ → Place → World
goes w k p = arrive w k p

-- core k goes home, to the first place of its own operation
abbrev pub goes_home : World → ℕ → World
goes_home w k = goes w k (home (core_at w k).own)

-- word i now holds x
abbrev pub stores : World → ℕ → Word → World
stores w i x = with_words w (slice_set w.words i (raw_of x))

-- the operation of mark m, with contents o, now has the state of the outcome x
abbrev pub decides_on : World → Mark → Operation → Outcome → World
decides_on w m o x =
    with_core w m.core (with_operation (core_at w m.core) (record { last = m.number; contents = record { list = o.list; state = Some x } }))

-- the number that core k's next placing takes, and the world after: its placing descriptor has the contents p under that number
abbrev pub next_placing : World → ℕ → ℕ
next_placing w k = (core_at w k).placing.last + 1

abbrev pub creates : World → ℕ → Placing → World
creates w k p = with_core w k (with_placing (core_at w k) (record { last = next_placing w k; contents = p }))

-- One step of core k. T is the operation being worked on: t.operation in the work t on one of its entries.
pub data Rule (w : World) (k : ℕ) : World → Type 0 where
  -- Look, the first place of a read: load the word. A plain value finishes the read. A placing mark is settled first. An operation mark is
  -- helped. Departure: a helper never nests; after it the core goes home, and looks again.
  look_plain : {i v : ℕ} → At w k (Look i) → Sees w i (word.Plain v) → Rule w k (goes w k (Finished v))
  look_placing : {i : ℕ} {m : Mark} → At w k (Look i) → Sees w i (word.Placing m) → Rule w k (goes w k (Settle m settling.Read (then.Look i)))
  look_operation : {i : ℕ} {m : Mark} → At w k (Look i) → Sees w i (word.Operation m) → Rule w k (goes w k (Begin m))
  -- Begin T: read its state and its count. Departure: one access reads several fields, here and in Fetch, Clear and Settle.
  begin_undecided : {m : Mark} {o : Operation} → At w k (Begin m) → Current w m o → o.state ≡ None
      → Rule w k (goes w k (Fetch (first_entry m (count_of o.list))))
  begin_decided : {m : Mark} {o : Operation} (x : Outcome) → At w k (Begin m) → Current w m o → o.state ≡ Some x
      → Rule w k (goes w k (Clear (first_entry m (count_of o.list)) x clearing.Read))
  begin_overtaken : {m : Mark} → At w k (Begin m) → OvertakenOperation w m → Rule w k (goes_home w k)
  -- Fetch: read the entry.
  fetch : {t : Work} {o : Operation} {e : Entry} → At w k (Fetch t) → Current w t.operation o → HasEntry o t.index e → Rule w k (goes w k (Make t e))
  fetch_overtaken : {t : Work} → At w k (Fetch t) → OvertakenOperation w t.operation → Rule w k (goes_home w k)
  -- Make: the core's own placing descriptor is created anew for the entry, and its mark takes the next number.
  make : {t : Work} {e : Entry} → At w k (Make t e)
      → Rule w k (goes (creates w k (record { operation = t.operation; word = e.word; expected = e.expected })) k (Try t e (record { core = k; number = next_placing w k })))
  -- Try: swap the entry's word from the expected value to the placing mark. Where it is placed, it is settled, and then comes the next
  -- entry. A placing mark in the way is settled, and T's own mark needs nothing more. Another operation is helped (a helper never nests).
  -- Another value decides that T failed. Departure: a failed state names its entry.
  try_placed : {t : Work} {e : Entry} {m : Mark} → At w k (Try t e m) → Sees w e.word (word.Plain e.expected)
      → Rule w k (goes (stores w e.word (word.Placing m)) k (Settle m settling.Read (then.Next t)))
  try_meets_placing : {t : Work} {e : Entry} {m n : Mark} → At w k (Try t e m) → Sees w e.word (word.Placing n)
      → Rule w k (goes w k (Settle n settling.Read (then.Try t e m)))
  try_meets_own : {t : Work} {e : Entry} {m : Mark} → At w k (Try t e m) → Sees w e.word (word.Operation t.operation) → Rule w k (goes w k (next_entry t))
  try_meets_operation : {t : Work} {e : Entry} {m u : Mark} → At w k (Try t e m) → Sees w e.word (word.Operation u) → (u ≢ t.operation)
      → Rule w k (goes w k (Begin u))
  try_differs : {t : Work} {e : Entry} {m : Mark} {v : ℕ} → At w k (Try t e m) → Sees w e.word (word.Plain v) → (v ≢ e.expected)
      → Rule w k (goes w k (Decide t (outcome.Failed t.index)))
  -- Decide: the first decision gives T its state, and a later one leaves it. Then T is cleared with the state that it has, from entry 1.
  decide_first : {t : Work} {o : Operation} {x : Outcome} → At w k (Decide t x) → Current w t.operation o → o.state ≡ None
      → Rule w k (goes (decides_on w t.operation o x) k (Clear (first_entry t.operation t.count) x clearing.Read))
  decide_later : {t : Work} {o : Operation} {x : Outcome} (y : Outcome) → At w k (Decide t x) → Current w t.operation o → o.state ≡ Some y
      → Rule w k (goes w k (Clear (first_entry t.operation t.count) y clearing.Read))
  decide_overtaken : {t : Work} {x : Outcome} → At w k (Decide t x) → OvertakenOperation w t.operation → Rule w k (goes_home w k)
  -- Clear, with T's outcome x: read the entry; load its word; swap the word from T's mark to the new value if T succeeded, else to the
  -- expected value. Then comes the next entry; after the last one the core finishes, if T is its own, or goes home.
  -- Departure: a clearing core first settles a placing mark.
  clear_read : {t : Work} {x : Outcome} {o : Operation} {e : Entry} → At w k (Clear t x clearing.Read) → Current w t.operation o → HasEntry o t.index e
      → Rule w k (goes w k (Clear t x (clearing.Load e)))
  clear_overtaken : {t : Work} {x : Outcome} → At w k (Clear t x clearing.Read) → OvertakenOperation w t.operation → Rule w k (goes_home w k)
  clear_meets_placing : {t : Work} {x : Outcome} {e : Entry} {m : Mark} → At w k (Clear t x (clearing.Load e)) → Sees w e.word (word.Placing m)
      → Rule w k (goes w k (Settle m settling.Read (then.Clear t x e)))
  clear_load : {t : Work} {x : Outcome} {e : Entry} {s : Word} → At w k (Clear t x (clearing.Load e)) → Sees w e.word s → ((m : Mark) → s ≢ word.Placing m)
      → Rule w k (goes w k (Clear t x (clearing.Swap e)))
  clear_takes_out : {t : Work} {x : Outcome} {e : Entry} → At w k (Clear t x (clearing.Swap e)) → Sees w e.word (word.Operation t.operation)
      → Rule w k (goes (stores w e.word (cleared_to x e)) k (after_clear_swap t x (core_at w k).own))
  clear_misses : {t : Work} {x : Outcome} {e : Entry} {s : Word} → At w k (Clear t x (clearing.Swap e)) → Sees w e.word s → (s ≢ word.Operation t.operation)
      → Rule w k (goes w k (after_clear_swap t x (core_at w k).own))
  -- Settle m: read its contents, where overtaken ends it; read the state of the operation that they name, where overtaken counts as
  -- succeeded; swap the word from m to the operation's mark if that was undecided, else back to the expected value. Then the core goes on
  -- with what it was at.
  settle_read : {m : Mark} {j : Then} {p : Placing} → At w k (Settle m settling.Read j) → CurrentPlacing w m p → Rule w k (goes w k (Settle m (settling.State p) j))
  settle_overtaken : {m : Mark} {j : Then} → At w k (Settle m settling.Read j) → OvertakenPlacing w m → Rule w k (goes w k (resume j))
  settle_undecided : {m : Mark} {j : Then} {p : Placing} {o : Operation} → At w k (Settle m (settling.State p) j) → Current w p.operation o → o.state ≡ None
      → Rule w k (goes w k (Settle m (settling.Swap p true) j))
  settle_decided : {m : Mark} {j : Then} {p : Placing} {o : Operation} → At w k (Settle m (settling.State p) j) → Current w p.operation o → (o.state ≢ None)
      → Rule w k (goes w k (Settle m (settling.Swap p false) j))
  settle_past : {m : Mark} {j : Then} {p : Placing} → At w k (Settle m (settling.State p) j) → OvertakenOperation w p.operation
      → Rule w k (goes w k (Settle m (settling.Swap p false) j))
  settle_replaces : {m : Mark} {j : Then} {p : Placing} {undecided : Bool} → At w k (Settle m (settling.Swap p undecided) j) → Sees w p.word (word.Placing m)
      → Rule w k (goes (stores w p.word (settled_to undecided p)) k (resume j))
  settle_misses : {m : Mark} {j : Then} {p : Placing} {undecided : Bool} {s : Word} → At w k (Settle m (settling.Swap p undecided) j) → Sees w p.word s → (s ≢ word.Placing m)
      → Rule w k (goes w k (resume j))

-- What a place holds is in range: the value or the mark that its swap looks for.
pub record InRange (p : Place) : Type 0 where
  pub tried : (t : Work) (e : Entry) (m : Mark) → p ≡ Try t e m → Value e.expected
  pub cleared : (t : Work) (x : Outcome) (e : Entry) → p ≡ Clear t x (clearing.Swap e) → Made t.operation
  pub settled : (m : Mark) (q : Placing) (undecided : Bool) (j : Then) → p ≡ Settle m (settling.Swap q undecided) j → Made m

-- A stuck core: its step asks for a word that is not there or, in Look and Try, is foreign, or for an entry that its operation does not
-- have.
abbrev pub Absent : World → ℕ → Type 0
Absent w i = length w.words ≤ i

abbrev pub Unread : World → ℕ → Type 0
Unread w i = Absent w i ⊎ ((n : ℕ) × Sees w i (word.Foreign n))

abbrev pub NoEntry : World → Work → Type 0
NoEntry w t = (o : Operation) × Current w t.operation o × (entry_in o.list t.index ≡ None)

pub data Stuck (w : World) (k : ℕ) : Type 0 where
  look_unread : {i : ℕ} → At w k (Look i) → Unread w i → Stuck w k
  try_unread : {t : Work} {e : Entry} {m : Mark} → At w k (Try t e m) → Unread w e.word → Stuck w k
  fetch_no_entry : {t : Work} → At w k (Fetch t) → NoEntry w t → Stuck w k
  clear_no_entry : {t : Work} {x : Outcome} → At w k (Clear t x clearing.Read) → NoEntry w t → Stuck w k
  clear_load_absent : {t : Work} {x : Outcome} {e : Entry} → At w k (Clear t x (clearing.Load e)) → Absent w e.word → Stuck w k
  clear_swap_absent : {t : Work} {x : Outcome} {e : Entry} → At w k (Clear t x (clearing.Swap e)) → Absent w e.word → Stuck w k
  settle_absent : {m : Mark} {p : Placing} {undecided : Bool} {j : Then} → At w k (Settle m (settling.Swap p undecided) j) → Absent w p.word → Stuck w k

-- The granted step of a core whose place is in range: any rule that applies says what the step does, and one applies unless the core is stuck.
pub record RelationLaw : Type 0 where
  pub exact : (w w' : World) (k : ℕ) → refusal_of w (steps k) ≡ None → InRange (core_at w k).place → Rule w k w' → (perform w (steps k)).world ≡ w'
  pub complete : (w : World) (k : ℕ) → refusal_of w (steps k) ≡ None → InRange (core_at w k).place → (Stuck w k → ⊥) → Rule w k (perform w (steps k)).world
