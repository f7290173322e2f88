use Rattle.std.specs.Prelude.{◌≡◌, ℕ, List, [], replicate, Some, None, Ok, Err, Option, Result}
use Rattle.cores.specs.declared.table.Refusal.{Refusal}
use Rattle.cores.specs.declared.table.Setting.{Setting as MachineSetting}
use Rattle.model.specs.Calls.{opens}
use Rattle.model.specs.Perform.{opened, shut}
use Rattle.model.specs.Refusals.{refusal_of}
use Rattle.model.specs.Shown.{plain_words}
use Rattle.machine.specs.declared.run.NotRun.{NotRun}
use Rattle.machine.specs.declared.run.NotRun.TheVariants.{Memory, Refused}
use Rattle.machine.specs.declared.run.Report.{Report}
use Rattle.machine.specs.declared.run.Request.{Request}
use Rattle.machine.specs.Runs.{Ran, run_end, answers_to, values_in, RunPromises}
use Rattle.runfile.specs.declared.file.Fault.{Fault}
use Rattle.runfile.specs.declared.file.Fault.TheVariants as fault
use Rattle.runfile.specs.declared.file.Setting.{Setting}
use Rattle.runfile.specs.Format.{Contents}
use Rattle.listing.specs.Lines.{fault_line}
use Rattle.listing.specs.Listing.{ended, listing}
use Rattle.report.specs.Plan.{AsksAll}

-- The text that a run file's bytes come to.

-- what a file's machine is opened with, on words that begin at 0
abbrev pub machine_setting : Setting → MachineSetting
machine_setting s = record { cores = s.cores; first = s.first; protected = s.protected; rights = s.rights }

abbrev pub zeros : Contents → List ℕ
zeros f = replicate f.setting.words 0

-- what an opening answers, by why it is refused
abbrev pub opening_answer : Option Refusal → Result (Unit {0}) Refusal
opening_answer (Some q) = Err q
opening_answer None = Ok tt

-- a run on words that begin at 0, whatever it leaves there
abbrev pub RanOnZeros : ℕ → MachineSetting → List Request → Result Report NotRun → Type 0
RanOnZeros n s qs r = (left : List ℕ) × Ran (replicate n 0) s qs r left

-- a file's run, with the requests of its calls; one that wants memory tells nothing
abbrev pub RunOf : Contents → Result Report NotRun → Type 0
RunOf f (Ok r) = (qs : List Request) × AsksAll qs f.records f.calls × RanOnZeros f.setting.words (machine_setting f.setting) qs (Ok r)
RunOf f (Err (Refused q)) = (qs : List Request) × AsksAll qs f.records f.calls × RanOnZeros f.setting.words (machine_setting f.setting) qs (Err (Refused q))
RunOf f (Err Memory) = Unit {0}

-- the text where the run was not made: a refused opening's; want of memory has none
abbrev pub TellsWhy : NotRun → List ℕ → Type 0
TellsWhy (Refused q) text = text ≡ listing (Err q) [] [] []
TellsWhy Memory text = ⊥

-- the listing of a file's run with these requests
abbrev pub run_text : Contents → List Request → List ℕ
run_text f qs =
    let s = machine_setting f.setting in
    listing (opening_answer (refusal_of (shut (zeros f)) (opens s))) f.calls (answers_to (opened (shut (zeros f)) s) qs) (values_in (plain_words (run_end (zeros f) s qs)))

-- The text is the listing of the file's run, with the requests of its calls; and the promises hold of that run.
abbrev pub Lists : Contents → List ℕ → Type 0
Lists f text =
    (qs : List Request) × AsksAll qs f.records f.calls × (text ≡ run_text f qs) × RunPromises (zeros f) (machine_setting f.setting) qs

-- the text of a fault: its line; want of memory has none
abbrev pub TellsFault : Fault → List ℕ → Type 0
TellsFault (fault.At place) text = text ≡ ended (fault_line place)
TellsFault fault.Memory text = ⊥

-- What the bytes of a file come to: the listing of its run, or the line of its fault.
abbrev pub ComesTo : Result Contents ℕ → List ℕ → Type 0
ComesTo (Ok f) text = Lists f text
ComesTo (Err place) text = text ≡ ended (fault_line place)
