use Rattle.std.proofs.Common.{◌≡◌, ℕ, ◌<◌, ◌≤◌, Bool, true, false, not, ◌&&◌, eqb, ltb, ◌⊎◌, List, [], length, Some, None}
use Rattle.word.specs.declared.Mark.{Mark}
use Rattle.word.specs.declared.Word.{Word}
use Rattle.word.specs.declared.Word.TheVariants as word
use Rattle.entries.specs.declared.Entry.{Entry}
use Rattle.entries.specs.Lists.{entry_at}
use Rattle.descriptor.specs.declared.contents.Outcome.{Outcome}
use Rattle.descriptor.specs.declared.contents.Outcome.TheVariants as outcome
use Rattle.descriptor.specs.declared.contents.Placing.{Placing}
use Rattle.descriptor.specs.Contents.{State}
use Rattle.cores.specs.declared.place.Work.{Work}
use Rattle.cores.specs.declared.place.Then.{Then}
use Rattle.cores.specs.declared.place.Then.TheVariants as then
use Rattle.cores.specs.declared.place.Clearing.{Clearing}
use Rattle.cores.specs.declared.place.Clearing.TheVariants as clearing
use Rattle.cores.specs.declared.place.Settling.{Settling}
use Rattle.cores.specs.declared.place.Settling.TheVariants as settling
use Rattle.cores.specs.declared.place.Place.{Place}
use Rattle.cores.specs.declared.place.Place.TheVariants.{Idle, Finished, Look, Begin, Fetch, Make, Try, Decide, Clear, Settle}
use Rattle.cores.specs.declared.place.Own.{Own}
use Rattle.cores.specs.declared.place.Own.TheVariants as own
use Rattle.model.specs.Rules.{same_mark}
use Rattle.model.proofs.Memory.{Memory, entry}

-- The invariants of every run. T is an operation mark, m a placing mark, d a placing's contents.

-- Small facts of marks.

abbrev pub Made : Memory → Mark → Type 0
Made w T = T.number ≤ w.num T.core

abbrev pub Current : Memory → Mark → Type 0
Current w T = w.num T.core ≡ T.number

abbrev pub Undecided : Memory → Mark → Type 0
Undecided w T = w.state T.core ≡ None

abbrev pub PlMade : Memory → Mark → Type 0
PlMade w m = m.number ≤ w.pnum m.core

abbrev pub PlCurrent : Memory → Mark → Type 0
PlCurrent w m = w.pnum m.core ≡ m.number

-- while T is undecided, its first i words hold it
abbrev pub Passed : Memory → Mark → ℕ → Type 0
Passed w T i = Current w T → Undecided w T → (j : ℕ) → j < i → w.word (entry w T j).word ≡ word.Operation T

abbrev pub Counted : Memory → Mark → ℕ → Type 0
Counted w T n = Current w T → length (w.ents T.core) ≡ n

abbrev pub Filled : Memory → Mark → Type 0
Filled w T = Current w T → 0 < length (w.ents T.core)

-- the words of a list's entries differ
abbrev pub Apart : List Entry → Type 0
Apart es = (i j : ℕ) → i < length es → j < length es → (entry_at es i).word ≡ (entry_at es j).word → i ≡ j

abbrev pub Matches : Memory → Mark → ℕ → Entry → Type 0
Matches w T i e = Current w T → entry w T i ≡ e

abbrev pub DecidedAs : Memory → Mark → Outcome → Type 0
DecidedAs w T o = Current w T → w.state T.core ≡ Some o

-- What is asked of another core's place, as tests.

-- its placing descriptor is made and not yet placed
abbrev pub wants_then : Then → Bool
wants_then (then.Look i) = false
wants_then (then.Next t) = false
wants_then (then.Try t e m) = true
wants_then (then.Clear t o e) = false

abbrev pub wants : Place → Bool
wants Idle = false
wants (Finished v) = false
wants (Look i) = false
wants (Begin m) = false
wants (Fetch t) = false
wants (Make t e) = false
wants (Try t e m) = true
wants (Decide t o) = false
wants (Clear t o c) = false
wants (Settle m c k) = wants_then k

-- it settles its own placing mark
abbrev pub places_then : Then → Bool
places_then (then.Look i) = false
places_then (then.Next t) = true
places_then (then.Try t e m) = false
places_then (then.Clear t o e) = false

abbrev pub places : Place → Bool
places Idle = false
places (Finished v) = false
places (Look i) = false
places (Begin m) = false
places (Fetch t) = false
places (Make t e) = false
places (Try t e m) = false
places (Decide t o) = false
places (Clear t o c) = false
places (Settle m c k) = places_then k

-- it has done with entry j of T, which is its own: no word holds T for that entry any more, and none will
abbrev pub past_then : Mark → ℕ → Then → Bool
past_then T j (then.Look i) = false
past_then T j (then.Next t) = false
past_then T j (then.Try t e m) = false
past_then T j (then.Clear t o e) = same_mark t.operation T && ltb j t.index

abbrev pub past : Mark → ℕ → Place → Bool
past T j Idle = true
past T j (Finished v) = true
past T j (Look i) = false
past T j (Begin m) = false
past T j (Fetch t) = false
past T j (Make t e) = false
past T j (Try t e m) = false
past T j (Decide t o) = false
past T j (Clear t o c) = same_mark t.operation T && ltb j t.index
past T j (Settle m c k) = past_then T j k

-- it is about to swap entry j of T, its own, and a placing mark m found there then is none that may still turn into T
abbrev pub due_clearing : Clearing → Bool
due_clearing clearing.Read = false
due_clearing (clearing.Load e) = false
due_clearing (clearing.Swap e) = true

abbrev pub due_then : Mark → ℕ → Mark → Mark → Then → Bool
due_then T j m n (then.Look i) = false
due_then T j m n (then.Next t) = false
due_then T j m n (then.Try t e u) = false
due_then T j m n (then.Clear t o e) = same_mark t.operation T && (eqb t.index j && not (same_mark n m))

abbrev pub due : Mark → ℕ → Mark → Place → Bool
due T j m Idle = false
due T j m (Finished v) = false
due T j m (Look i) = false
due T j m (Begin u) = false
due T j m (Fetch t) = false
due T j m (Make t e) = false
due T j m (Try t e u) = false
due T j m (Decide t o) = false
due T j m (Clear t o c) = same_mark t.operation T && (eqb t.index j && due_clearing c)
due T j m (Settle n c k) = due_then T j m n k

-- m is made by its core, which has not placed it yet
abbrev pub Unplaced : Memory → Mark → Type 0
Unplaced w m = PlCurrent w m × (wants (w.place m.core) ≡ true)

-- The mark m, with contents d, may still turn into the mark of d's operation: that operation is current and has not succeeded, has an entry for d,
-- and its core has neither passed that entry nor stands before its clearing swap without having settled m.
pub record LiveIn (num : ℕ → ℕ) (ents : ℕ → List Entry) (states : ℕ → State) (places_of : ℕ → Place) (m : Mark) (d : Placing) : Type 0 where
  pub current : num d.operation.core ≡ d.operation.number
  pub unfinished : states d.operation.core ≡ (Some outcome.Succeeded) → ⊥
  pub index : ℕ
  pub inside : index < length (ents d.operation.core)
  pub names : (entry_at (ents d.operation.core) index).word ≡ d.word
  pub value : (entry_at (ents d.operation.core) index).expected ≡ d.expected
  pub not_past : past d.operation index (places_of d.operation.core) ≡ false
  pub not_due : due d.operation index m (places_of d.operation.core) ≡ false

abbrev pub Live : Memory → Mark → Placing → Type 0
Live w m d = LiveIn w.num w.ents w.state w.place m d

-- The invariant of a core's place.

-- work on an entry of t
pub record Works (w : Memory) (t : Work) : Type 0 where
  pub made : Made w t.operation
  pub counted : Counted w t.operation t.count
  pub inside : t.index < t.count
  pub passed : Passed w t.operation t.index

-- clearing of an entry of t with the outcome o
pub record Clears (w : Memory) (t : Work) (o : Outcome) : Type 0 where
  pub made : Made w t.operation
  pub counted : Counted w t.operation t.count
  pub inside : t.index < t.count
  pub decided : DecidedAs w t.operation o

-- core k's own placing descriptor, under the mark m, is for entry e of t
pub record Ready (w : Memory) (k : ℕ) (t : Work) (e : Entry) (m : Mark) : Type 0 where
  pub mine : m.core ≡ k
  pub current : PlCurrent w m
  pub matches : Matches w t.operation t.index e
  pub operation : (w.pl k).operation ≡ t.operation
  pub names : (w.pl k).word ≡ e.word
  pub expected : (w.pl k).expected ≡ e.expected

-- core k's own mark m stands in the word of t's entry, or T does already
pub record Arrives (w : Memory) (k : ℕ) (m : Mark) (t : Work) : Type 0 where
  pub mine : m.core ≡ k
  pub current : PlCurrent w m
  pub operation : (w.pl k).operation ≡ t.operation
  pub names : Current w t.operation → (entry w t.operation t.index).word ≡ (w.pl k).word
  pub expected : Current w t.operation → (entry w t.operation t.index).expected ≡ (w.pl k).expected
  pub here : Current w t.operation → Undecided w t.operation → (w.word (w.pl k).word ≡ word.Placing m) ⊎ (w.word (w.pl k).word ≡ word.Operation t.operation)

abbrev pub ThenOk : Memory → ℕ → Mark → Then → Type 0
ThenOk w k m (then.Look i) = w.own k ≡ own.Read i
ThenOk w k m (then.Next t) = Works w t × Arrives w k m t
ThenOk w k m (then.Try t e n) = Works w t × Ready w k t e n
ThenOk w k m (then.Clear t o e) = Clears w t o × Matches w t.operation t.index e

-- a core on its way to a clearing swap settles at that entry's word
abbrev pub AtOk : Then → ℕ → Type 0
AtOk (then.Look i) a = Unit {0}
AtOk (then.Next t) a = Unit {0}
AtOk (then.Try t e m) a = Unit {0}
AtOk (then.Clear t o e) a = a ≡ e.word

abbrev pub SettlingOk : Memory → Mark → Then → Settling → Type 0
SettlingOk w m k settling.Read = PlCurrent w m → AtOk k (w.pl m.core).word
SettlingOk w m k (settling.State d) = AtOk k d.word × (PlCurrent w m → w.pl m.core ≡ d) × Made w d.operation
SettlingOk w m k (settling.Swap d true) = AtOk k d.word × (PlCurrent w m → w.pl m.core ≡ d) × (w.word d.word ≡ word.Placing m → Live w m d)
SettlingOk w m k (settling.Swap d false) = AtOk k d.word × (PlCurrent w m → w.pl m.core ≡ d) × Made w d.operation × (Current w d.operation → Undecided w d.operation → ⊥)

abbrev pub ClearingOk : Memory → Work → Clearing → Type 0
ClearingOk w t clearing.Read = Unit {0}
ClearingOk w t (clearing.Load e) = Matches w t.operation t.index e
ClearingOk w t (clearing.Swap e) = Matches w t.operation t.index e

abbrev pub DecideOk : Memory → Work → Outcome → Type 0
DecideOk w t outcome.Succeeded = Passed w t.operation t.count
DecideOk w t (outcome.Failed i) = Passed w t.operation i × (i < t.count)

-- a core that rests has no operation with entries still undecided
abbrev pub Resting : Memory → ℕ → Type 0
Resting w k = w.state k ≡ None → w.ents k ≡ []

abbrev pub PlaceOk : Memory → ℕ → Place → Type 0
PlaceOk w k Idle = Resting w k
PlaceOk w k (Finished v) = Resting w k
PlaceOk w k (Look i) = w.own k ≡ own.Read i
PlaceOk w k (Begin T) = Made w T × Filled w T
PlaceOk w k (Fetch t) = Works w t
PlaceOk w k (Make t e) = Works w t × Matches w t.operation t.index e
PlaceOk w k (Try t e m) = Works w t × Ready w k t e m
PlaceOk w k (Decide t o) = Made w t.operation × Counted w t.operation t.count × Filled w t.operation × DecideOk w t o
PlaceOk w k (Clear t o c) = Clears w t o × ClearingOk w t c
PlaceOk w k (Settle m c k') = PlMade w m × (Unplaced w m → ⊥) × SettlingOk w m k' c × ThenOk w k m k'

-- The invariant of a word.

abbrev pub Listed : Memory → Mark → ℕ → Type 0
Listed w T i = (j : ℕ) × (j < length (w.ents T.core)) × ((entry w T j).word ≡ i) × (past T j (w.place T.core) ≡ false)

abbrev pub WordOk : Memory → ℕ → Word → Type 0
WordOk w i (word.Plain v) = Unit {0}
WordOk w i (word.Placing m) = PlCurrent w m × ((w.pl m.core).word ≡ i) × (places (w.place m.core) ≡ true)
WordOk w i (word.Operation T) = Current w T × Listed w T i
WordOk w i (word.Foreign n) = ⊥

-- a core runs nothing exactly where it is idle; a read has no entries, a k-CAS has some, under its own mark
abbrev pub OwnOk : Memory → ℕ → Own → Type 0
OwnOk w c own.Nothing = w.place c ≡ Idle
OwnOk w c (own.Read i) = w.ents c ≡ []
OwnOk w c (own.List M) = (0 < length (w.ents c)) × (M ≡ record { core = c; number = w.num c })

pub record Inv (w : Memory) : Type 0 where
  pub words : (i : ℕ) → WordOk w i (w.word i)
  pub places_ok : (k : ℕ) → PlaceOk w k (w.place k)
  pub owns : (k : ℕ) → OwnOk w k (w.own k)
  pub lists : (k : ℕ) → Apart (w.ents k)
  pub pl_ops : (k : ℕ) → Made w (w.pl k).operation

-- What a step of another core leaves standing for core k.
pub record Rely (w w' : Memory) (k : ℕ) : Type 0 where
  -- numbers rise; a mark that was made and is current now was current; its entries are the same; its state is the same or was undecided
  pub nums : (c : ℕ) → w.num c ≤ w'.num c
  pub still : (T : Mark) → Made w T → Current w' T → Current w T
  pub ents : (T : Mark) → Current w T → Current w' T → w'.ents T.core ≡ w.ents T.core
  pub states : (T : Mark) → Current w T → Current w' T → (w'.state T.core ≡ w.state T.core) ⊎ (w.state T.core ≡ None)
  pub pnums : (c : ℕ) → w.pnum c ≤ w'.pnum c
  pub pl_still : (m : Mark) → PlMade w m → PlCurrent w' m → PlCurrent w m
  pub pls : (m : Mark) → PlCurrent w m → PlCurrent w' m → w'.pl m.core ≡ w.pl m.core
  -- k's own descriptors and operation are as they were
  pub mine_pnum : w'.pnum k ≡ w.pnum k
  pub mine_pl : w'.pl k ≡ w.pl k
  pub mine_num : w'.num k ≡ w.num k
  pub mine_own : w'.own k ≡ w.own k
  -- an undecided operation's mark stays in its words; k's own placing mark turns only into T; nobody places a mark that its core does not still want
  -- to place; what may still turn into its operation's mark still may
  pub marks : (i : ℕ) (T : Mark) → Current w T → Undecided w T → w.word i ≡ word.Operation T → w'.word i ≡ word.Operation T
  pub arrives : (i : ℕ) (m : Mark) (T : Mark) → m.core ≡ k → (w.pl k).operation ≡ T → w.word i ≡ word.Placing m → Current w T → Undecided w T → Current w' T → Undecided w' T → (w'.word i ≡ word.Placing m) ⊎ (w'.word i ≡ word.Operation T)
  pub unplaced : (m : Mark) → PlMade w m → Unplaced w' m → Unplaced w m
  pub lives : (m : Mark) (d : Placing) → PlMade w m → (Unplaced w m → ⊥) → (w.word d.word ≡ word.Placing m → Live w m d) → w'.word d.word ≡ word.Placing m → Live w' m d
