use Rattle.std.specs.Prelude.{ℕ, ◌+◌, true, false, cond, List, replicate, Some, None, Ok, Err, Option, Result, slice_index}
use Rattle.cores.specs.declared.place.Own.TheVariants as own
use Rattle.cores.specs.declared.table.Table.{Table}
use Rattle.cores.specs.declared.table.Setting.{Setting}
use Rattle.cores.specs.declared.table.Refusal.{Refusal}
use Rattle.cores.specs.declared.table.Refusal.TheVariants.{Closed}
use Rattle.model.specs.World.{World, core_at, with_core}
use Rattle.cores.specs.Cores.{new_core, is_finished, started, collected, halted, answer_in}
use Rattle.model.specs.Step.{step_world}
use Rattle.model.specs.Shown.{shown_value, plain_words}
use Rattle.model.specs.Calls.{Call, starts, reads, steps, collects, halts, shows, raws, opens}
use Rattle.model.specs.Refusals.{refusal_of}

-- What every call answers and what it leaves.

pub record Performed : Type 0 where
  pub answer : Result ℕ Refusal
  pub world : World

-- Open: all cores idle, numbers to begin at the first, none halted. Its answer is a receipt, here 0.
abbrev pub opened_table : Setting → Table
opened_table s =
    record { running = true; count = s.cores; protected = s.protected; rights = s.rights; cores = replicate 8 (new_core s.first) }

abbrev pub opened : World → Setting → World
opened w s = record { words = w.words; table = opened_table s }

-- the number that a start of core k takes
abbrev pub start_number : World → ℕ → ℕ
start_number w k = (core_at w k).operation.last + 1

-- A call that is not refused.
abbrev pub granted : World → Call → Performed
granted w (starts k l) =
    record { answer = Ok (start_number w k); world = with_core w k (started (core_at w k) (own.List (record { core = k; number = start_number w k })) (Some l)) }
granted w (reads k i) = record { answer = Ok (start_number w k); world = with_core w k (started (core_at w k) (own.Read i) None) }
granted w (steps k) =
    let v : World = step_world w k in record { answer = Ok (cond (is_finished (core_at v k).place) 1 0); world = v }
granted w (collects k) = record { answer = Ok (answer_in (core_at w k).place); world = with_core w k (collected (core_at w k)) }
granted w (halts k) = record { answer = Ok 0; world = with_core w k (halted (core_at w k)) }
granted w (shows i) = record { answer = Ok (shown_value w i); world = w }
granted w (raws i) = record { answer = Ok (slice_index w.words i); world = w }
granted w (opens s) = record { answer = Ok 0; world = opened w s }

-- A refused call changes nothing.
abbrev pub unless_refused : Option Refusal → World → Call → Performed
unless_refused (Some r) w c = record { answer = Err r; world = w }
unless_refused None w c = granted w c

-- Every call.
unfoldable pub perform : World → Call → Performed
perform w c = unless_refused (refusal_of w c) w c

-- Close stores each word's shown value as a plain value and drops every operation. It is refused only on a machine that is not open.
abbrev pub closed_table : Table
closed_table = record { running = false; count = 0; protected = 0; rights = 0; cores = replicate 8 (new_core 0) }

-- a machine over these raw words that is not open
abbrev pub shut : List ℕ → World
shut ws = record { words = ws; table = closed_table }

abbrev pub closed : World → World
closed w = record { words = plain_words w; table = closed_table }

-- It answers 0. Where the machine is not open it is refused, and changes nothing. No receipt is told from another: any open machine takes any.
abbrev pub closing : World → Performed
closing w = cond w.table.running (record { answer = Ok 0; world = closed w }) (record { answer = Err Closed; world = w })
