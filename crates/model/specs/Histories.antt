use Rattle.std.specs.Prelude.{◌≡◌, ℕ, ◌<◌, List, [], ◌∷◌, ◌++◌, length, take, None, Result, slice_index_or}
use Rattle.cores.specs.declared.table.Setting.{Setting}
use Rattle.cores.specs.declared.table.Refusal.{Refusal}
use Rattle.model.specs.World.{World}
use Rattle.model.specs.Calls.{Call, opens, steps}
use Rattle.model.specs.Refusals.{refusal_of}
use Rattle.model.specs.Perform.{perform, opened, closed_table}

-- the world after these calls, the first of the list first
unfoldable pub after_calls : World → List Call → World
after_calls w [] = w
after_calls w (c ∷ cs) = after_calls (perform w c).world cs

-- what each call answers
unfoldable pub answers_of : World → List Call → List (Result ℕ Refusal)
answers_of w [] = []
answers_of w (c ∷ cs) = (perform w c).answer ∷ answers_of (perform w c).world cs

-- A history: the raw words that a bank held, a granted opening on it, and any list of calls, refused ones and openings again among them.
pub record History : Type 0 where
  pub words : List ℕ
  pub setting : Setting
  pub granted : refusal_of (record { words = words; table = closed_table }) (opens setting) ≡ None
  pub calls : List Call

-- the newly opened world
abbrev pub opening_of : History → World
opening_of h = opened (record { words = h.words; table = closed_table }) h.setting

-- the world after the first t calls
abbrev pub world_at : History → ℕ → World
world_at h t = after_calls (opening_of h) (take t h.calls)

-- the world now, after all calls
abbrev pub world_of : History → World
world_of h = after_calls (opening_of h) h.calls

-- the history with one more call
abbrev pub then_call : History → Call → History
then_call h c = record { words = h.words; setting = h.setting; granted = h.granted; calls = h.calls ++ (c ∷ []) }

-- Call t, counted from 0, is c and answers a.
pub record Called (h : History) (t : ℕ) (c : Call) (a : Result ℕ Refusal) : Type 0 where
  pub there : t < length h.calls
  pub call : slice_index_or h.calls t (steps 0) ≡ c
  pub answers : (perform (world_at h t) c).answer ≡ a
