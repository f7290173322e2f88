use Rattle.std.proofs.Common.{◌≡◌, ℕ, ◌+◌, ◌*◌, ◌<◌, ◌≤◌, true, ltb, List, [], ◌∷◌, ◌++◌, length, get_or, set, replicate, Some, None, Ok, Err, sym, refl, ap, ◌∙◌, subst, arith}
use Rattle.std.proofs.lemmas.List.{get_or-set_other, length-set}
use Rattle.std.proofs.lemmas.Bool.{cond-true, lt-ltb}
use Rattle.word.specs.declared.Word.{Word}
use Rattle.word.specs.declared.Word.TheVariants as word
use Rattle.word.specs.Word.{reading_of, raw_of}
use Rattle.word.proofs.Readings.{raw_reading}
use Rattle.entries.specs.declared.Entry.{Entry}
use Rattle.entries.specs.declared.list.Entries.{Entries}
use Rattle.entries.specs.Listed.{listed}
use Rattle.entries.proofs.Law.{listed_lawful}
use Rattle.descriptor.specs.declared.Descriptor.{Descriptor}
use Rattle.descriptor.specs.declared.contents.Outcome.TheVariants as outcome
use Rattle.descriptor.specs.declared.contents.Placing.{Placing}
use Rattle.descriptor.specs.Descriptors.{last_number}
use Rattle.cores.specs.declared.place.Place.TheVariants.{Begin, Fetch, Make, Decide}
use Rattle.cores.specs.declared.table.Core.{Core}
use Rattle.cores.specs.declared.table.Setting.{Setting}
use Rattle.cores.specs.declared.table.Refusal.TheVariants.{UsedUp, NoRight}
use Rattle.model.specs.World.{World}
use Rattle.model.specs.Calls.{starts, steps, collects}
use Rattle.model.specs.Refusals.{refusal_of, is_plain}
use Rattle.cores.specs.Cores.{is_idle, is_finished, is_making}
use Rattle.model.specs.Perform.{Performed, perform, opened, shut}
use Rattle.model.specs.Histories.{answers_of}
use Rattle.model.specs.Points.{Matches, Matching, Differing, SecondMakeUsedUp, RefusedStartTakesNoNumber}
use Rattle.model.proofs.Granting.{perform_refused, make_refused}
use Rattle.model.proofs.LoneRun.{Run, Runs, own_mark, run_length, run_entry, run_work, runner, runner_at, lone}
use Rattle.model.proofs.LoneSteps.{made_for, placing_mark, fetches, makes_mark, differs}
use Rattle.model.proofs.LoneWhole.{Works, Ends, Within, none_works, step_works, works_on, works_ends, entry_placed, begun, decided_ends, matched_ends, stored_unplaced}
use Rattle.model.proofs.LoneStart.{run_of, no_placing, opened_plain, opened_unplaced, starts_run, starts_within, start_performed}

-- The points of runs alone.

pub matching : Matching
matching ws s k l alone matches =
    let r : Run = run_of s k l in
    let f : Runs r = starts_run ws s k l alone.opens_well alone.starts_well in
    let left : s.first + run_length r ≤ last_number + 1 = alone.numbers_left in
    let one : 1 ≤ s.first = f.numbered in
    ap (λ (p : Performed). answers_of p.world (replicate (2 + 9 * run_length r) (steps k) ++ (collects k ∷ []))) (start_performed ws s k l f alone.starts_well)
    ∙ ap (λ n. answers_of (lone r ws (Begin (own_mark r)) None (no_placing s)) (replicate n (steps k) ++ (collects k ∷ []))) {x = 2 + 9 * run_length r} {y = 1 + 9 * run_length r + 1} (omega arith)
    ∙ (matched_ends r f ws (no_placing s) (omega arith) (starts_within ws s k l alone.starts_well) (opened_unplaced ws s alone.opens_well) (λ j _ m. matches j m)).answers

-- Two entries, of which the first matches: after seven steps the second is to be fetched.
first_placed : (ws : List ℕ) (s : Setting) (k : ℕ) (l : Entries) → Runs (run_of s k l) → Within (run_of s k l) ws → length (listed l) ≡ 2 → Matches ws l 0
    → Works (run_of s k l) 7 (lone (run_of s k l) ws (Begin (own_mark (run_of s k l))) None (no_placing s)) (lone (run_of s k l) (set ws (run_entry (run_of s k l) 0).word (raw_of (word.Operation (own_mark (run_of s k l))))) (Fetch (run_work (run_of s k l) 1)) None (made_for (run_of s k l) (run_entry (run_of s k l) 0) (no_placing s)))
first_placed ws s k l f within two match =
    works_on (run_of s k l) 1 6 (begun (run_of s k l) f ws (no_placing s))
    (entry_placed (run_of s k l) f ws (no_placing s) 0 (Fetch (run_work (run_of s k l) 1)) (omega arith) (omega (arith, f.numbered, f.number_fits)) (within 0 (omega arith)) match (cond-true (ltb 1 (length (listed l))) _ _ (lt-ltb 1 (length (listed l)) (omega arith))))

-- a plain word's value
plain_value : (x : Word) → is_plain x ≡ true → (v : ℕ) × (x ≡ word.Plain v)
plain_value (word.Plain v) e = (v, refl)
plain_value (word.Placing m) e = absurd (grind arith)
plain_value (word.Operation m) e = absurd (grind arith)
plain_value (word.Foreign n) e = absurd (grind arith)

pub differing : Differing
differing ws s k l alone two match differ =
    let r : Run = run_of s k l in
    let f : Runs r = starts_run ws s k l alone.opens_well alone.starts_well in
    let within : Within r ws = starts_within ws s k l alone.starts_well in
    let e₀ : Entry = run_entry r 0 in
    let e : Entry = run_entry r 1 in
    let ws' : List ℕ = set ws e₀.word (raw_of (word.Operation (own_mark r))) in
    let within' : Within r ws' = λ j m. omega (arith, within j m, length-set ws e₀.word (raw_of (word.Operation (own_mark r)))) in
    let d : Descriptor Placing = made_for r e₀ (no_placing s) in
    let d' : Descriptor Placing = made_for r e d in
    let left : s.first + run_length r ≤ last_number + 1 = alone.numbers_left in
    let one : 1 ≤ s.first = f.numbered in
    let above : e₀.word < e.word = (listed_lawful l).ascending 0 1 (omega arith) (omega arith) in
    let kept : get_or ws' e.word 0 ≡ get_or ws e.word 0 = get_or-set_other ws e₀.word e.word (raw_of (word.Operation (own_mark r))) 0 (λ q. omega arith) in
    let seen = plain_value (reading_of (get_or ws e.word 0)) (opened_plain ws s alone.opens_well e.word) in
    let raw : get_or ws e.word 0 ≡ raw_of (word.Plain seen.0) = sym (raw_reading (get_or ws e.word 0)) ∙ ap raw_of seen.1 in
    let tried : Works r 3 (lone r ws' (Fetch (run_work r 1)) None d) (lone r ws' (Decide (run_work r 1) (outcome.Failed 1)) None d') =
    step_works r 2 (fetches r f ws' d 1 (omega arith))
    (step_works r 1 (makes_mark r f ws' d 1 e (omega arith))
    (step_works r 0 (differs r f ws' d' (run_work r 1) e (placing_mark r d') seen.0 (within' 1 (omega arith)) (λ q. differ (sym kept ∙ q)) (ap reading_of kept ∙ seen.1) (λ q. differ (raw ∙ ap (λ v. raw_of (word.Plain v)) q))) (none_works r _))) in
    let ended : Ends r 6 (lone r ws' (Decide (run_work r 1) (outcome.Failed 1)) None d') 2 =
    subst (λ n. Ends r (3 * n) (lone r ws' (Decide (run_work r 1) (outcome.Failed 1)) None d') 2) two
    (decided_ends r f ws' d' 1 (outcome.Failed 1) within' (stored_unplaced r f ws e₀.word (opened_unplaced ws s alone.opens_well))) in
    ap (λ (p : Performed). answers_of p.world (replicate 17 (steps k) ++ (collects k ∷ []))) (start_performed ws s k l f alone.starts_well)
    ∙ (works_ends r 7 9 2 (first_placed ws s k l f within two match) (works_ends r 3 6 2 tried ended)).answers

pub second_make_used_up : SecondMakeUsedUp
unfolding answers_of
second_make_used_up ws s k l last opens_well starts_well two match =
    let r : Run = run_of s k l in
    let f : Runs r = starts_run ws s k l opens_well starts_well in
    let within : Within r ws = starts_within ws s k l starts_well in
    let ws' : List ℕ = set ws (run_entry r 0).word (raw_of (word.Operation (own_mark r))) in
    let d : Descriptor Placing = made_for r (run_entry r 0) (no_placing s) in
    let w : World = lone r ws' (Make (run_work r 1) (run_entry r 1)) None d in
    let fetched : Works r 8 (lone r ws (Begin (own_mark r)) None (no_placing s)) w =
    works_on r 7 1 (first_placed ws s k l f within two match) (step_works r 0 (fetches r f ws' d 1 (omega arith)) (none_works r _)) in
    let here = runner_at r f ws' (runner r (Make (run_work r 1) (run_entry r 1)) None d) in
    let refused : refusal_of w (steps k) ≡ Some UsedUp =
    make_refused w k refl f.there f.eight (ap (λ (c : Core). c.halted) here) (ap (λ (c : Core). is_idle c.place) here) (ap (λ (c : Core). is_finished c.place) here) (ap (λ (c : Core). is_making c.place) here) (omega (arith, ap (λ (c : Core). c.placing.last) here)) in
    let started = start_performed ws s k l f starts_well in (
      ap (λ (p : Performed). p.answer) started ∙ ap Ok last,
      ap (λ (p : Performed). answers_of p.world (replicate 9 (steps k))) started
          ∙ fetched.answers (steps k ∷ [])
          ∙ ap (λ (p : Performed). replicate 8 (Ok 0) ++ (p.answer ∷ [])) (perform_refused w (steps k) UsedUp refused),
    )

pub refused_start : RefusedStartTakesNoNumber
unfolding answers_of
refused_start ws s k l l' opens_well refused starts_well =
    ap (λ (p : Performed). p.answer ∷ ((perform p.world (starts k l')).answer ∷ [])) (perform_refused (opened (shut ws) s) (starts k l) NoRight refused)
    ∙ ap (λ (p : Performed). Err NoRight ∷ (p.answer ∷ [])) (start_performed ws s k l' (starts_run ws s k l' opens_well starts_well) starts_well)
