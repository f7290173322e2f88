use Rattle.std.proofs.Common.{◌≡◌, ℕ, List, [], map, replicate, IfOk, Ok, Err, vec_items, Option, Result, sym, refl, ap, ◌∙◌, subst}
use Rattle.std.proofs.lemmas.Bool.{false≢true}
use Rattle.std.specs.List.{AllZip}
use Rattle.std.specs.Result.{IsErr, IsErrAnd}
use Rattle.entries.specs.declared.list.Entries.{Entries}
use Rattle.cores.specs.declared.table.Refusal.{Refusal}
use Rattle.cores.specs.declared.table.Setting.{Setting}
use Rattle.model.specs.Calls.{opens}
use Rattle.model.specs.Perform.{opened, shut}
use Rattle.model.specs.Refusals.{refusal_of}
use Rattle.model.specs.Shown.{plain_words}
use Rattle.machine.specs.declared.run.NotRun.{NotRun}
use Rattle.machine.specs.declared.run.NotRun.TheVariants.{Memory, Refused}
use Rattle.machine.specs.declared.run.Report.{Report}
use Rattle.machine.specs.declared.run.Request.{Request}
use Rattle.machine.specs.Runs.{Ran, run_end, answers_to, values_in}
use Rattle.machine.proofs.RunPromises.{run_promises}
use Rattle.runfile.specs.declared.file.Call.{Call}
use Rattle.runfile.specs.declared.file.Record.{Record}
use Rattle.runfile.specs.Format.{Contents}
use Rattle.runfile.specs.Reading.{recorded}
use Rattle.listing.specs.Listing.{listing}
use Rattle.report.specs.Plan.{Makes, lists_in, AsksAll}
use Rattle.report.specs.Text.{machine_setting, zeros, opening_answer, RanOnZeros, RunOf, TellsWhy, Lists}

-- A file's listing, put together from its lists, its requests and its run.

pub made_so : {X Y : Type 0} (r : Result X Y) (P Q : X → Type 0) → IfOk r P → ((x : X) → P x → Q x) → IfOk r Q
made_so (Ok x) P Q p f = f x p
made_so (Err y) P Q p f = tt

module _ (f : Contents) (s : Setting) (qs : List Request) (s-is : s ≡ machine_setting f.setting) (asks : AsksAll qs f.records f.calls) where
  abbrev opens_so : Setting
  opens_so = machine_setting f.setting

  on_file : (r : Result Report NotRun) → RanOnZeros f.setting.words s qs r → RanOnZeros f.setting.words opens_so qs r
  on_file r p = subst (λ (x : Setting). RanOnZeros f.setting.words x qs r) s-is p

  pub told_granted : (r : Report) (text : List ℕ) → RanOnZeros f.setting.words s qs (Ok r) → text ≡ listing (Ok tt) f.calls (vec_items r.answers) (vec_items r.words) → Lists f text
  told_granted r text ran e = (qs, asks, told, run_promises (zeros f) opens_so qs)
    where
      p : RanOnZeros f.setting.words opens_so qs (Ok r)
      p = on_file (Ok r) ran

      told : text ≡ listing (opening_answer (refusal_of (shut (zeros f)) (opens opens_so))) f.calls (answers_to (opened (shut (zeros f)) opens_so) qs) (values_in (plain_words (run_end (zeros f) opens_so qs)))
      told =
          e ∙ ap (λ (xs : List (Result ℕ Refusal)). listing (Ok tt) f.calls xs (vec_items r.words)) p.1.0.1
          ∙ ap (λ (ws : List ℕ). listing (Ok tt) f.calls (answers_to (opened (shut (zeros f)) opens_so) qs) ws) (p.1.1 ∙ ap values_in p.1.0.2)
          ∙ ap (λ (q : Option Refusal). listing (opening_answer q) f.calls (answers_to (opened (shut (zeros f)) opens_so) qs) (values_in (plain_words (run_end (zeros f) opens_so qs)))) (sym p.1.0.0)

  told_refused : (q : Refusal) (text : List ℕ) → RanOnZeros f.setting.words s qs (Err (Refused q)) → text ≡ listing (Err q) [] [] [] → Lists f text
  told_refused q text ran e = (qs, asks, told, run_promises (zeros f) opens_so qs)
    where
      p : RanOnZeros f.setting.words opens_so qs (Err (Refused q))
      p = on_file (Err (Refused q)) ran

      told : text ≡ listing (opening_answer (refusal_of (shut (zeros f)) (opens opens_so))) f.calls (answers_to (opened (shut (zeros f)) opens_so) qs) (values_in (plain_words (run_end (zeros f) opens_so qs)))
      told =
          e ∙ ap (λ (x : Option Refusal). listing (opening_answer x) f.calls (answers_to (opened (shut (zeros f)) opens_so) qs) (values_in (plain_words (run_end (zeros f) opens_so qs)))) (sym p.1.0)

  pub told_not_run : (why : NotRun) (text : List ℕ) → RanOnZeros f.setting.words s qs (Err why) → TellsWhy why text → Lists f text
  told_not_run (Refused q) text ran e = told_refused q text ran e
  told_not_run Memory text ran e = absurd e

-- a run that wanted memory did nothing
pub wanted : (n : ℕ) (s : Setting) (qs : List Request) (r : Result Report NotRun) → IsErr r × IsErrAnd r (λ why. why ≡ Memory) → RanOnZeros n s qs r
wanted n s qs (Ok x) e = absurd (false≢true e.0)
wanted n s qs (Err why) e = (replicate n 0, subst (λ (x : NotRun). Ran (replicate n 0) s qs (Err x) (replicate n 0)) (sym e.1) refl)

-- the same of a file's run
pub wanted_run : (f : Contents) (r : Result Report NotRun) → IsErr r × IsErrAnd r (λ why. why ≡ Memory) → RunOf f r
wanted_run f (Ok x) e = absurd (false≢true e.0)
wanted_run f (Err why) e = subst (λ (x : NotRun). RunOf f (Err x)) (sym e.1) tt

pub run_made : (f : Contents) (s : Setting) (qs : List Request) (r : Result Report NotRun) → s ≡ machine_setting f.setting → AsksAll qs f.records f.calls → RanOnZeros f.setting.words s qs r → RunOf f r
run_made f s qs (Ok x) e asks ran = (qs, asks, subst (λ (y : Setting). RanOnZeros f.setting.words y qs (Ok x)) e ran)
run_made f s qs (Err (Refused q)) e asks ran = (qs, asks, subst (λ (y : Setting). RanOnZeros f.setting.words y qs (Err (Refused q))) e ran)
run_made f s qs (Err Memory) e asks ran = tt

-- the requests of slices that hold a file's records, the lists of these, and its calls
pub asked_of : (qs v : List Request) (ls u : List (Option Entries)) (xs ys : List Record) (cs ds : List Call) → qs ≡ v → ls ≡ u → xs ≡ ys → cs ≡ ds → AllZip Makes u (lists_in (map recorded xs)) → (AllZip Makes ls (lists_in (map recorded xs)) → AsksAll v (map recorded xs) cs) → AsksAll qs (map recorded ys) ds
asked_of qs v ls u xs ys cs ds e l d h made asks =
    subst (λ x. AsksAll x (map recorded ys) ds) (sym e) (subst (AsksAll v (map recorded ys)) h (subst (λ rs. AsksAll v (map recorded rs) cs) d (asks (subst (λ x. AllZip Makes x (lists_in (map recorded xs))) (sym l) made))))

pub told_run : (f : Contents) (r : Report) (text : List ℕ) → RunOf f (Ok r) → text ≡ listing (Ok tt) f.calls (vec_items r.answers) (vec_items r.words) → Lists f text
told_run f r text (qs, asks, ran) e = told_granted f (machine_setting f.setting) qs refl asks r text ran e
