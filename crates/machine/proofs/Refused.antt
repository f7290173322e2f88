use Rattle.std.proofs.Common.{◌≡◌, ℕ, cond, leb, length, Some, None, Option, arith}
use Rattle.std.proofs.lemmas.Bool.Decides.{nat_tests}
use Rattle.descriptor.specs.Descriptors.{last_number}
use Rattle.cores.specs.declared.table.Refusal.{Refusal}
use Rattle.cores.specs.declared.table.Refusal.TheVariants.{UsedUp, NoAnswer}
use Rattle.cores.specs.Cores.{is_finished}
use Rattle.model.specs.World.{World, core_at}
use Rattle.model.specs.Calls.{steps, halts, collects, words_of}
use Rattle.model.specs.Refusals.{first_match, some_of, refusal_of}
use Rattle.machine.specs.declared.machine.starts.Task.{Task}
use Rattle.machine.specs.declared.machine.starts.Task.TheVariants as task
use Rattle.machine.specs.Starts.{call_for}
use Rattle.machine.specs.Admission.{admission, else_refused, step_refusal, named_of, start_refusal}

-- The table of refusals for a step, test by test.
pub step_tests : (w : World) (k : ℕ) → step_refusal w.table k ≡ refusal_of w (steps k)
unfolding first_match some_of
step_tests w k = grind (arith, nat_tests)

pub halt_tests : (w : World) (k : ℕ) → admission w.table k ≡ refusal_of w (halts k)
unfolding first_match some_of
halt_tests w k = grind (arith, nat_tests)

pub collect_tests : (w : World) (k : ℕ) → else_refused (admission w.table k) (cond (is_finished (core_at w k).place) None (Some NoAnswer)) ≡ refusal_of w (collects k)
unfolding first_match some_of
collect_tests w k = grind (arith, nat_tests)

-- a start: first why it is refused before a number is taken, then whether one is left
abbrev pub number_refusal : World → ℕ → Option Refusal
number_refusal w k = cond (leb last_number (core_at w k).operation.last) (Some UsedUp) None

pub start_tests : (w : World) (k : ℕ) (t : Task) → else_refused (start_refusal w.table k (named_of (length w.words) w.table.protected (words_of (call_for 0 t)))) (number_refusal w k) ≡ refusal_of w (call_for k t)
unfolding first_match
start_tests w k (task.List l) = grind (arith, nat_tests)
start_tests w k (task.Read i) = grind (arith, nat_tests)
