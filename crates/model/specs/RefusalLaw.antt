use Rattle.std.specs.Prelude.{◌≡◌, ℕ, ◌/◌, ◌%◌, ◌^◌, ◌<◌, ◌≤◌, true, false, ◌⊎◌, length, Some, None, Ok, Err, Option, ◌≢◌, slice_index}
use Rattle.word.specs.declared.Word.TheVariants as word
use Rattle.word.specs.Word.{reading_of}
use Rattle.entries.specs.declared.Entry.{Entry}
use Rattle.descriptor.specs.Descriptors.{last_number}
use Rattle.cores.specs.declared.place.Work.{Work}
use Rattle.cores.specs.declared.place.Place.{Place}
use Rattle.cores.specs.declared.place.Place.TheVariants.{Idle, Finished, Make}
use Rattle.cores.specs.declared.table.Setting.{Setting}
use Rattle.cores.specs.declared.table.Refusal.{Refusal}
use Rattle.cores.specs.declared.table.Refusal.TheVariants.{Closed, Open, Setting as BadSetting, Tagged, NoCore, Halted, Busy, AtRest, List as BadList, NoWord, NoRight, UsedUp, NoAnswer, File}
use Rattle.cores.specs.Refusals.{number_of}
use Rattle.model.specs.World.{World, core_at}
use Rattle.model.specs.Calls.{Call, steps, core_of, words_of, started_core, stepped_core, collected_core, setting_of}
use Rattle.model.specs.Perform.{perform, closed, closing}

-- The law of refusals: the condition of each, and that a call is refused with the first whose condition holds.

-- A setting that may be opened on a bank of this size: 1 to 8 cores; a first number from 1 to the last; 1 to 256 words, the protected ones
-- among them; and no right for a core that is not there.
pub record Fits (size : ℕ) (s : Setting) : Type 0 where
  pub some_core : 1 ≤ s.cores
  pub few_cores : s.cores ≤ 8
  pub number_from : 1 ≤ s.first
  pub number_to : s.first ≤ last_number
  pub some_word : 1 ≤ size
  pub few_words : size ≤ 256
  pub protects : s.protected ≤ size
  pub rights_of_cores : s.rights < 2 ^ s.cores

-- something is there, and P holds of it
abbrev pub There : {X : Type 0} → Option X → (X → Type 0) → Type 0
There {X} o P = (x : X) × (o ≡ Some x) × P x

-- the call is an opening
abbrev pub Opening : Call → Type 0
Opening c = (s : Setting) × (setting_of c ≡ Some s)

-- the raw word is that of a plain value
abbrev pub IsPlain : ℕ → Type 0
IsPlain n = (v : ℕ) × (reading_of n ≡ word.Plain v)

-- the core is finished; it is to make its placing descriptor
abbrev pub IsFinished : Place → Type 0
IsFinished p = (v : ℕ) × (p ≡ Finished v)

abbrev pub IsMaking : Place → Type 0
IsMaking p = (t : Work) × (e : Entry) × (p ≡ Make t e)

-- some word that the call names is such
abbrev pub SomeWord : Call → (ℕ → Type 0) → Type 0
SomeWord c P = (j : ℕ) × (j < length (words_of c)) × P (slice_index (words_of c) j)

-- core k has the right to protected words
abbrev pub Right : World → ℕ → Type 0
Right w k = w.table.rights / 2 ^ k % 2 ≡ 1

-- The condition of each refusal.
abbrev pub Holds : World → Call → Refusal → Type 0
-- any call but an opening, where the machine is not open
Holds w c Closed = (w.table.running ≡ false) × (setting_of c ≡ None)
-- an opening, where it is
Holds w c Open = (w.table.running ≡ true) × Opening c
-- an opening with a setting that does not fit the bank
Holds w c BadSetting = There (setting_of c) (λ s. Fits (length w.words) s → ⊥)
-- an opening where word i is the first that is not plain
Holds w c (Tagged i) =
    Opening c × (i < length w.words) × (IsPlain (slice_index w.words i) → ⊥) × ((j : ℕ) → j < i → IsPlain (slice_index w.words j))
-- the core named is not there
Holds w c NoCore = There (core_of c) (λ k. (k < w.table.count) × (k < 8) → ⊥)
-- it is halted
Holds w c Halted = There (core_of c) (λ k. (core_at w k).halted ≡ true)
-- a start, where the core is not idle
Holds w c Busy = There (started_core c) (λ k. (core_at w k).place ≢ Idle)
-- a step, where the core is idle or finished
Holds w c AtRest = There (stepped_core c) (λ k. ((core_at w k).place ≡ Idle) ⊎ IsFinished (core_at w k).place)
-- a list is lawful by its type, so no call is refused for one; a run file is refused by its reader
Holds w c BadList = ⊥
Holds w c (File place) = ⊥
-- a word named is not there
Holds w c NoWord = SomeWord c (λ i. length w.words ≤ i)
-- a start that names a protected word, where the core lacks the right
Holds w c NoRight = There (started_core c) (λ k. (Right w k → ⊥) × SomeWord c (λ i. i < w.table.protected))
-- a creation is due, of an operation by a start or of a placing by a step, and its last number is taken
Holds w c UsedUp =
    There (started_core c) (λ k. last_number ≤ (core_at w k).operation.last)
    ⊎ There (stepped_core c) (λ k. IsMaking (core_at w k).place × (last_number ≤ (core_at w k).placing.last))
-- a collect, where the core is not finished
Holds w c NoAnswer = There (collected_core c) (λ k. IsFinished (core_at w k).place → ⊥)

-- The refusal's condition holds, and that of none with a smaller number.
abbrev pub First : World → Call → Refusal → Type 0
First w c r = Holds w c r × ((q : Refusal) → number_of q < number_of r → Holds w c q → ⊥)

-- the call is granted, with some answer
abbrev pub Granted : World → Call → Type 0
Granted w c = (n : ℕ) × ((perform w c).answer ≡ Ok n)

pub record RefusalLaw : Type 0 where
  -- A call is refused with the first refusal whose condition holds, and with no other.
  pub refused_first : (w : World) (c : Call) (r : Refusal) → (perform w c).answer ≡ Err r → First w c r
  pub first_refused : (w : World) (c : Call) (r : Refusal) → First w c r → (perform w c).answer ≡ Err r
  -- It is granted where the condition of none holds, and only there.
  pub granted_none : (w : World) (c : Call) → Granted w c → (q : Refusal) → Holds w c q → ⊥
  pub none_granted : (w : World) (c : Call) → ((q : Refusal) → Holds w c q → ⊥) → Granted w c
  -- A refused call changes nothing.
  pub changes_nothing : (w : World) (c : Call) (r : Refusal) → (perform w c).answer ≡ Err r → (perform w c).world ≡ w
  -- A step is never refused for a right: helping needs none.
  pub helping_needs_no_right : (w : World) (k : ℕ) → Holds w (steps k) NoRight → ⊥
  -- A close is granted on an open machine and refused on any other, and then changes nothing.
  pub open_closes : (w : World) → w.table.running ≡ true → closing w ≡ record { answer = Ok 0; world = closed w }
  pub shut_refuses_close : (w : World) → w.table.running ≡ false → closing w ≡ record { answer = Err Closed; world = w }
