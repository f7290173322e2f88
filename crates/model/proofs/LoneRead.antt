use Rattle.std.proofs.Common.{◌≡◌, ℕ, ◌<◌, false, leb, List, [], ◌∷◌, length, get_or, Some, None, Ok, Err, refl, ap, ◌∙◌, arith}
use Rattle.std.proofs.lemmas.Bool.{leb-false}
use Rattle.word.specs.declared.Word.TheVariants as word
use Rattle.word.specs.Word.{reading_of}
use Rattle.word.proofs.Readings.{written_back}
use Rattle.entries.specs.declared.list.Entries.{Entries}
use Rattle.descriptor.specs.Contents.{undecided}
use Rattle.cores.specs.declared.place.Place.{Place}
use Rattle.cores.specs.declared.place.Place.TheVariants.{Finished, Look}
use Rattle.cores.specs.declared.place.Own.TheVariants as own
use Rattle.cores.specs.declared.table.Core.{Core}
use Rattle.cores.specs.declared.table.Setting.{Setting}
use Rattle.cores.specs.declared.table.Refusal.TheVariants.{UsedUp}
use Rattle.model.specs.World.{World, core_at}
use Rattle.cores.specs.Cores.{with_place, is_idle, collected}
use Rattle.model.specs.Rules.{by_sight, after_look}
use Rattle.model.specs.Step.{arrive}
use Rattle.model.specs.Calls.{starts, reads, steps, collects}
use Rattle.model.specs.Refusals.{refusal_of, table_for}
use Rattle.model.specs.Perform.{Performed, perform, opened, shut}
use Rattle.model.specs.Histories.{answers_of}
use Rattle.model.specs.Points.{StartAfterReadUsedUp}
use Rattle.model.proofs.Granting.{perform_granted, perform_refused, test_fails, fails_at, start_refused}
use Rattle.model.proofs.LoneRun.{Run, Runs, with_runner, runner_at, runner_changed, step_by, collect_by}
use Rattle.model.proofs.LoneSteps.{word_there}
use Rattle.model.proofs.LoneStart.{run_of, no_placing, starts_run, first_started}

-- A read by a core alone, then a start.

-- the reading core at a place
abbrev reader : Setting → ℕ → Place → Core
reader s i p =
    record { place = p; own = own.Read i; halted = false; operation = record { last = s.first; contents = undecided None }; placing = no_placing s }

-- its one step, from a plain word
look_performed : (ws : List ℕ) (s : Setting) (k i v : ℕ) (l : Entries) → Runs (run_of s k l) → i < length ws → reading_of (get_or ws i 0) ≡ word.Plain v
    → perform (with_runner (run_of s k l) ws (reader s i (Look i))) (steps k) ≡ record { answer = Ok 1; world = with_runner (run_of s k l) ws (reader s i (Finished v)) }
look_performed ws s k i v l f there says =
    step_by (run_of s k l) f ws (reader s i (Look i)) ws (reader s i (Finished v)) refl refl refl refl
    (ap (λ x. arrive (with_runner (run_of s k l) ws (reader s i (Look i))) k (by_sight x (Look i) (after_look i))) (word_there ws i (word.Plain v) there says)
    ∙ runner_changed (run_of s k l) f ws (reader s i (Look i)) (λ c. with_place c (Finished v)))

pub start_after_read : StartAfterReadUsedUp
unfolding answers_of
start_after_read ws s k i l last opens_well reads-well starts_well v raw fits =
    let r : Run = run_of s k l in
    let f : Runs r = starts_run ws s k l opens_well starts_well in
    let there : i < length ws = leb-false (length ws) i (fails_at (λ j. leb (length ws) j) (i ∷ []) (test_fails 8 (table_for (opened (shut ws) s) (reads k i)) reads-well) 0 (omega arith)) in
    let w : World = with_runner r ws (collected (reader s i (Finished v))) in
    let here : core_at w k ≡ collected (reader s i (Finished v)) = runner_at r f ws (collected (reader s i (Finished v))) in
    let refused : refusal_of w (starts k l) ≡ Some UsedUp =
    start_refused w k l refl f.there f.eight (ap (λ (c : Core). c.halted) here) (ap (λ (c : Core). is_idle c.place) here)
    (test_fails 8 (table_for (opened (shut ws) s) (starts k l)) starts_well) (test_fails 9 (table_for (opened (shut ws) s) (starts k l)) starts_well)
    (omega (arith, ap (λ (c : Core). c.operation.last) here)) in
    ap (λ (p : Performed). p.answer ∷ answers_of p.world (steps k ∷ (collects k ∷ (starts k l ∷ [])))) (perform_granted (opened (shut ws) s) (reads k i) reads-well ∙ first_started ws s k l (λ _. own.Read i) None f)
    ∙ ap (λ (p : Performed). Ok s.first ∷ (p.answer ∷ answers_of p.world (collects k ∷ (starts k l ∷ [])))) (look_performed ws s k i v l f there (written_back (word.Plain v) (get_or ws i 0) raw fits))
    ∙ ap (λ (p : Performed). Ok s.first ∷ (Ok 1 ∷ (p.answer ∷ answers_of p.world (starts k l ∷ [])))) (collect_by r f ws (reader s i (Finished v)) refl refl)
    ∙ ap (λ (p : Performed). Ok s.first ∷ (Ok 1 ∷ (Ok v ∷ (p.answer ∷ [])))) (perform_refused w (starts k l) UsedUp refused)
    ∙ ap (λ n. Ok n ∷ (Ok 1 ∷ (Ok v ∷ (Err UsedUp ∷ [])))) last
