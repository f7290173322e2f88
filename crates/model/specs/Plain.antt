use Rattle.std.specs.Prelude.{◌≡◌, ℕ, ◌+◌, ◌<◌, List, [], ◌∷◌, length, ◌≢◌, slice_index_or}
use Rattle.entries.specs.declared.Entry.{Entry}
use Rattle.entries.specs.Lists.{entry_at}

-- The plain machine: a value for each word, and operations done whole, one by one. It knows nothing of steps, marks or cores.

pub data Whole : Type 0 where
  -- a k-CAS of these entries
  swap_all : List Entry → Whole
  -- a read of a word
  look_at : ℕ → Whole

-- the word of entry j holds its expected value
abbrev pub HoldsExpected : (ℕ → ℕ) → List Entry → ℕ → Type 0
HoldsExpected v es j = v (entry_at es j).word ≡ (entry_at es j).expected

-- v' is v with the new values of all entries stored
pub record Stored (es : List Entry) (v v' : ℕ → ℕ) : Type 0 where
  pub listed_words : (j : ℕ) → j < length es → v' (entry_at es j).word ≡ (entry_at es j).new
  pub other_words : (i : ℕ) → ((j : ℕ) → j < length es → (entry_at es j).word ≢ i) → v' i ≡ v i

-- Done whole at the values v, the operation may answer a, and leaves v'. A k-CAS stores all new values and answers 0 if every listed word holds
-- its expected value; otherwise it changes nothing and may answer any i, from 1, whose word differs. A read answers the value.
pub data Done : Whole → (ℕ → ℕ) → ℕ → (ℕ → ℕ) → Type 0 where
  succeeds : {es : List Entry} {v v' : ℕ → ℕ} → ((j : ℕ) → j < length es → HoldsExpected v es j) → Stored es v v' → Done (swap_all es) v 0 v'
  fails : {es : List Entry} {v : ℕ → ℕ} (j : ℕ) → j < length es → (HoldsExpected v es j → ⊥) → Done (swap_all es) v (j + 1) v
  sees : {i : ℕ} {v : ℕ → ℕ} → Done (look_at i) v (v i) v

-- an operation with the answer that it gave
pub record Completed : Type 0 where
  -- the position of its accepted start
  pub start_of : ℕ
  pub core_of : ℕ
  pub what : Whole
  pub answered : ℕ

abbrev pub no_operation : Completed
no_operation = record { start_of = 0; core_of = 0; what = look_at 0; answered = 0 }

-- the operation at place j of an order
abbrev pub nth : List Completed → ℕ → Completed
nth order j = slice_index_or order j no_operation

-- these operations done whole, one by one, lead from the values v to v'
pub data Replays : List Completed → (ℕ → ℕ) → (ℕ → ℕ) → Type 0 where
  all_done : {v : ℕ → ℕ} → Replays [] v v
  then_done : {d : Completed} {ds : List Completed} {v u v' : ℕ → ℕ} → Done d.what v d.answered u → Replays ds u v' → Replays (d ∷ ds) v v'
