use Rattle.std.specs.Prelude.{◌≡◌, ℕ, ◌+◌, ◌<◌, Bool, List, [], ◌∷◌, length, ◌≢◌, slice_index}
use Rattle.word.specs.declared.Mark.{Mark}
use Rattle.word.specs.Word.{reading_of}
use Rattle.entries.specs.declared.Entry.{Entry}
use Rattle.entries.specs.Lists.{entry_at}
use Rattle.descriptor.specs.declared.contents.Outcome.{Outcome}
use Rattle.descriptor.specs.declared.contents.Placing.{Placing}
use Rattle.cores.specs.declared.place.Clearing.{Clearing}
use Rattle.cores.specs.declared.place.Own.TheVariants as own
use Rattle.cores.specs.declared.place.Place.TheVariants.{Begin, Fetch, Make, Try, Decide, Clear, Settle}
use Rattle.cores.specs.declared.place.Settling.{Settling}
use Rattle.cores.specs.declared.place.Settling.TheVariants as settling
use Rattle.cores.specs.declared.place.Then.{Then}
use Rattle.cores.specs.declared.place.Then.TheVariants as then
use Rattle.cores.specs.declared.place.Work.{Work}
use Rattle.model.specs.World.{World, core_at}
use Rattle.model.specs.Marks.{Marked, placing, operation, as_word, Found, Creates, OvertakenAt, AnswersOvertaken}
use Rattle.model.specs.Histories.{History, world_at}
use Rattle.model.specs.InTurn.{in_turn, OrderIsTold}
use Rattle.model.specs.Plain.{swap_all, look_at, HoldsExpected, Done, Completed, Replays}

-- What the promises speak of is no less than it should be.

-- Every mark that a word or a core's place holds is found, place by place.
pub record MarksAreFound : Type 0 where
  pub in_words : (w : World) (i : ℕ) (m : Marked) → i < length w.words → reading_of (slice_index w.words i) ≡ as_word m → Found w m
  pub at_begin : (w : World) (k : ℕ) (m : Mark) → k < 8 → (core_at w k).place ≡ Begin m → Found w (operation m)
  pub at_fetch : (w : World) (k : ℕ) (t : Work) → k < 8 → (core_at w k).place ≡ Fetch t → Found w (operation t.operation)
  pub at_make : (w : World) (k : ℕ) (t : Work) (e : Entry) → k < 8 → (core_at w k).place ≡ Make t e → Found w (operation t.operation)
  pub at_try : (w : World) (k : ℕ) (t : Work) (e : Entry) (m : Mark) → k < 8 → (core_at w k).place ≡ Try t e m → Found w (operation t.operation) × Found w (placing m)
  pub at_decide : (w : World) (k : ℕ) (t : Work) (o : Outcome) → k < 8 → (core_at w k).place ≡ Decide t o → Found w (operation t.operation)
  pub at_clear : (w : World) (k : ℕ) (t : Work) (o : Outcome) (c : Clearing) → k < 8 → (core_at w k).place ≡ Clear t o c → Found w (operation t.operation)
  pub at_settle : (w : World) (k : ℕ) (m : Mark) (c : Settling) (j : Then) → k < 8 → (core_at w k).place ≡ Settle m c j → Found w (placing m)
  -- the contents that a Settle has read
  pub settling_contents : (w : World) (k : ℕ) (m : Mark) (p : Placing) (j : Then) → k < 8 → (core_at w k).place ≡ Settle m (settling.State p) j → Found w (operation p.operation)
  pub swapping_contents : (w : World) (k : ℕ) (m : Mark) (p : Placing) (u : Bool) (j : Then) → k < 8 → (core_at w k).place ≡ Settle m (settling.Swap p u) j → Found w (operation p.operation)
  -- what a Settle goes on to
  pub then_next : (w : World) (k : ℕ) (m : Mark) (c : Settling) (t : Work) → k < 8 → (core_at w k).place ≡ Settle m c (then.Next t) → Found w (operation t.operation)
  pub then_try : (w : World) (k : ℕ) (m : Mark) (c : Settling) (t : Work) (e : Entry) (n : Mark) → k < 8 → (core_at w k).place ≡ Settle m c (then.Try t e n) → Found w (operation t.operation) × Found w (placing n)
  pub then_clear : (w : World) (k : ℕ) (m : Mark) (c : Settling) (t : Work) (o : Outcome) (e : Entry) → k < 8 → (core_at w k).place ≡ Settle m c (then.Clear t o e) → Found w (operation t.operation)
  -- the core's own operation
  pub own_read : (w : World) (k i : ℕ) → k < 8 → (core_at w k).own ≡ own.Read i → Found w (operation (record { core = k; number = (core_at w k).operation.last }))
  pub own_list : (w : World) (k : ℕ) (m : Mark) → k < 8 → (core_at w k).own ≡ own.List m → Found w (operation (record { core = k; number = (core_at w k).operation.last }))

-- Done whole, a k-CAS succeeds exactly where every listed word holds its expected value, and a read answers its word's value.
pub record WholeIsWhole : Type 0 where
  pub all_hold : (es : List Entry) (v v' : ℕ → ℕ) (a : ℕ) → ((j : ℕ) → j < length es → HoldsExpected v es j) → Done (swap_all es) v a v' → (a ≡ 0)
      × ((j : ℕ) → j < length es → v' (entry_at es j).word ≡ (entry_at es j).new) × ((i : ℕ) → ((j : ℕ) → j < length es → (entry_at es j).word ≢ i) → v' i ≡ v i)
  pub one_differs : (es : List Entry) (v v' : ℕ → ℕ) (a i : ℕ) → i < length es → (HoldsExpected v es i → ⊥) → Done (swap_all es) v a v'
      → (0 < a) × (v' ≡ v) × (j : ℕ) × (j + 1 ≡ a) × (j < length es) × (HoldsExpected v es j → ⊥)
  pub reads_value : (i : ℕ) (v v' : ℕ → ℕ) (a : ℕ) → Done (look_at i) v a v' → (a ≡ v i) × (v' ≡ v)
  -- a replay does each in its turn, and nothing else
  pub none_left : (v v' : ℕ → ℕ) → Replays [] v v' → v' ≡ v
  pub one_by_one : (d : Completed) (ds : List Completed) (v v' : ℕ → ℕ) → Replays (d ∷ ds) v v' → (u : ℕ → ℕ) × Done d.what v d.answered u × Replays ds u v'

-- A later creation of its kind on its core overtakes a mark. In the run of three operations in turn the first mark is overtaken after call 13, and not
-- before.
pub record OvertakingIsTold : Type 0 where
  pub later_operation : (h : History) (a b t : ℕ) (m n : Mark) → m.core ≡ n.core → Creates h a (operation m) → Creates h b (operation n) → a < b → b < t → OvertakenAt h t (operation m)
  pub later_placing : (h : History) (a b t : ℕ) (m n : Mark) → m.core ≡ n.core → Creates h a (placing m) → Creates h b (placing n) → a < b → b < t → OvertakenAt h t (placing m)
  pub overtaken_then : OvertakenAt in_turn 14 (operation (record { core = 0; number = 1 })) × AnswersOvertaken (world_at in_turn 14) (operation (record { core = 0; number = 1 }))
  pub current_before : AnswersOvertaken (world_at in_turn 13) (operation (record { core = 0; number = 1 })) → ⊥

pub record PromiseLaw : Type 0 where
  pub found : MarksAreFound
  pub whole : WholeIsWhole
  pub order : OrderIsTold
  pub overtaking : OvertakingIsTold
