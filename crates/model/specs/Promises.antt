use Rattle.std.specs.Prelude.{◌≡◌, ℕ, ◌+◌, ◌<◌, ◌≤◌, List, length, Some, Ok}
use Rattle.entries.specs.declared.list.Entries.{Entries}
use Rattle.entries.specs.Listed.{listed}
use Rattle.descriptor.specs.declared.contents.Outcome.{Outcome}
use Rattle.model.specs.World.{World, core_at}
use Rattle.model.specs.Rules.{answer_of}
use Rattle.model.specs.Shown.{shown_value}
use Rattle.model.specs.Calls.{starts, reads, steps, collects}
use Rattle.model.specs.Perform.{perform}
use Rattle.model.specs.Histories.{History, opening_of, world_at, world_of, Called}
use Rattle.model.specs.Plain.{Whole, swap_all, look_at, Completed, nth, Replays}
use Rattle.model.specs.Marks.{Marked, Found, Creates, OvertakenAt, AnswersOvertaken, AltersNothing}

-- The promises, for every history. They speak of the calls, their answers and the worlds between them.

-- Operations, by the position of their accepted start.

-- call p is the accepted start, on core c, of this operation
pub data Starts (h : History) (p c : ℕ) : Whole → Type 0 where
  list : {l : Entries} (n : ℕ) → Called h p (starts c l) (Ok n) → Starts h p c (swap_all (listed l))
  word : {i : ℕ} (n : ℕ) → Called h p (reads c i) (Ok n) → Starts h p c (look_at i)

-- call t is the step that finished the operation started at p on core c: it answered 1, and no other start of that core came between
pub record Finishes (h : History) (p c t : ℕ) : Type 0 where
  pub later : p < t
  pub finishing_step : Called h t (steps c) (Ok 1)
  pub no_other_start : (q : ℕ) (o : Whole) → p < q → q < t → Starts h q c o → ⊥

-- in this world the k-CAS that took number n on core c is decided, with this answer as collect numbers it
pub record Decided (w : World) (c n a : ℕ) : Type 0 where
  pub current : (core_at w c).operation.last ≡ n
  pub outcome : Outcome
  pub state : (core_at w c).operation.contents.state ≡ Some outcome
  pub answer : answer_of outcome ≡ a

-- The machine's answer of the operation started at p, so far: a k-CAS's decided outcome, collected or not; the value that a read finished with.
pub data Answers (h : History) (p c : ℕ) : Whole → ℕ → Type 0 where
  decided : {l : Entries} (n a t : ℕ) → Called h p (starts c l) (Ok n) → p < t → t ≤ length h.calls → Decided (world_at h t) c n a → Answers h p c (swap_all (listed l)) a
  finished : {i : ℕ} (n t v : ℕ) → Called h p (reads c i) (Ok n) → Finishes h p c t → (perform (world_at h (t + 1)) (collects c)).answer ≡ Ok v → Answers h p c (look_at i) v

-- First: marks tell creations apart. Every mark found was made by exactly one creation, before it was found; and of two marks found at any two
-- moments, they are equal exactly when a single creation made both.
pub record MarksTellCreationsApart (h : History) : Type 0 where
  pub made_before : (t : ℕ) (m : Marked) → t ≤ length h.calls → Found (world_at h t) m → (c : ℕ) × (c < t) × Creates h c m
  pub made_once : (m : Marked) (c d : ℕ) → Creates h c m → Creates h d m → c ≡ d
  pub equal_when_one : (s t : ℕ) (m n : Marked) → s ≤ length h.calls → t ≤ length h.calls → Found (world_at h s) m → Found (world_at h t) n
      → (m ≡ n → (c : ℕ) × Creates h c m × Creates h c n) × ((c : ℕ) → Creates h c m → Creates h c n → m ≡ n)

-- Second: "overtaken" is told exactly. Through a mark found at any moment up to now, a read or change now answers "overtaken" exactly when the
-- mark is overtaken, and then alters nothing; an overtaken mark never becomes current again.
pub record OvertakenIsToldExactly (h : History) : Type 0 where
  pub told_when : (s t : ℕ) (m : Marked) → s ≤ t → t ≤ length h.calls → Found (world_at h s) m
      → (AnswersOvertaken (world_at h t) m → OvertakenAt h t m) × (OvertakenAt h t m → AnswersOvertaken (world_at h t) m)
  pub alters_nothing : (s t : ℕ) (m : Marked) → s ≤ t → t ≤ length h.calls → Found (world_at h s) m → OvertakenAt h t m → AltersNothing (world_at h t) m
  pub stays_overtaken : (s t u : ℕ) (m : Marked) → s ≤ t → t ≤ u → u ≤ length h.calls → Found (world_at h s) m
      → AnswersOvertaken (world_at h t) m → AnswersOvertaken (world_at h u) m

-- Third: some order of whole operations explains the run.
pub record SomeOrderExplains (h : History) : Type 0 where
  pub order : List Completed
  -- it holds exactly the decided k-CASes and the finished reads, each with the machine's answer, each once
  pub holds_only : (j : ℕ) → j < length order
      → Answers h (nth order j).start_of (nth order j).core_of (nth order j).what (nth order j).answered
  pub holds_all : (p c a : ℕ) (o : Whole) → Answers h p c o a → (j : ℕ) × (j < length order) × ((nth order j).start_of ≡ p)
  pub each_once : (i j : ℕ) → i < length order → j < length order → (nth order i).start_of ≡ (nth order j).start_of → i ≡ j
  -- one that finished before another was started stands ahead of it
  pub in_time : (i j t : ℕ) → i < length order → j < length order → Finishes h (nth order i).start_of (nth order i).core_of t
      → t < (nth order j).start_of → i < j
  -- done whole on the opened words in that order, each answers as in the machine, and they leave every word at its shown value
  pub replays : Replays order (shown_value (opening_of h)) (shown_value (world_of h))

pub record Promises (h : History) : Type 0 where
  pub marks : MarksTellCreationsApart h
  pub overtaken : OvertakenIsToldExactly h
  pub explained : SomeOrderExplains h

-- The promises of every history.
abbrev pub PromisesHold : Type 0
PromisesHold = (h : History) → Promises h
