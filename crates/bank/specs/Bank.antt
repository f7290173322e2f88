use Rattle.std.specs.Prelude.{◌≡◌, ℕ, ◌<◌, ◌≤◌, cond, List, map, length, Ok, Err, Result, ◌==◌, ◌≢◌, nat_lt, slice_index, slice_set}
use Rattle.bank.specs.declared.NoWord.{NoWord}
use Rattle.std.specs.List.{range_with_len}

-- What a load or a swap of word i answers: the word seen, or the refusal where there is no word i.
abbrev pub loaded : List ℕ → ℕ → Result ℕ NoWord
loaded ws i = cond (nat_lt i (length ws)) (Ok (slice_index ws i)) (Err (record {}))

-- The words after a swap: word i becomes new where it was old.
abbrev pub swapped : List ℕ → ℕ → ℕ → ℕ → List ℕ
swapped ws i old new = cond (nat_lt i (length ws)) (cond (slice_index ws i == old) (slice_set ws i new) ws) ws

-- What a swap of word i from old to new does, from the words before and after and its answer.
pub record Swaps (ws : List ℕ) (i old new : ℕ) (answer : Result ℕ NoWord) (after : List ℕ) : Type 0 where
  -- no word comes or goes
  pub same_length : length after ≡ length ws
  -- each other word is as it was
  pub others_kept : (k : ℕ) → (k ≢ i) → slice_index after k ≡ slice_index ws k
  -- it answers the word that it saw
  pub answers_seen : i < length ws → answer ≡ Ok (slice_index ws i)
  -- word i is new where it was old
  pub stores_new : i < length ws → slice_index ws i ≡ old → slice_index after i ≡ new
  -- word i is as it was where it was another
  pub keeps_seen : i < length ws → (slice_index ws i ≢ old) → slice_index after i ≡ slice_index ws i
  -- where there is no word i it refuses, and nothing changes
  pub refuses : length ws ≤ i → (answer ≡ Err (record {})) × (after ≡ ws)

-- The answer and the words after are the only ones that such a swap can have.
pub record OnlySwap (ws : List ℕ) (i old new : ℕ) (answer : Result ℕ NoWord) (after : List ℕ) : Type 0 where
  pub same : (other : Result ℕ NoWord) (words : List ℕ) → Swaps ws i old new other words → (other ≡ answer) × (words ≡ after)

-- The n words of which word i is f i.
abbrev pub listed : ℕ → (ℕ → ℕ) → List ℕ
listed n f = map f (range_with_len 0 n)
