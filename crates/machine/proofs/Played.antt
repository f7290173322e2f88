use Rattle.std.proofs.Common.{◌≡◌, ℕ, ◌≤◌, min, Bool, true, false, cond, List, length, Some, None, Ok, Err, Option, Result, sym, refl, ap, ◌∙◌, arith}
use Rattle.std.proofs.lemmas.Bool.Decides.{nat_tests}
use Rattle.bank.proofs.Listed.{length_listed}
use Rattle.cores.specs.declared.table.Refusal.{Refusal}
use Rattle.cores.specs.declared.table.Refusal.TheVariants as refusal
use Rattle.cores.specs.declared.table.Setting.{Setting}
use Rattle.model.specs.World.{World}
use Rattle.model.specs.Calls.{opens}
use Rattle.model.specs.Perform.{Performed, perform, unless_refused, opened, closed, closed_table, shut}
use Rattle.model.specs.Refusals.{refusal_of, setting_fits, first_tagged}
use Rattle.model.specs.Shown.{plain_words}
use Rattle.model.proofs.Granting.{perform_granted}
use Rattle.machine.specs.declared.machine.Machine.{Machine}
use Rattle.machine.specs.declared.machine.Receipt.{Receipt}
use Rattle.machine.specs.declared.run.Request.{Request}
use Rattle.machine.specs.Opens.{receipt_for, tag_refusal}
use Rattle.machine.specs.Runs.{run_end, after_requests}
use Rattle.machine.specs.View.{view}
use Rattle.machine.proofs.RunPromises.{running_end, end_length}
use Rattle.machine.proofs.Opened.{open_tests}

-- A run's opening, its calls and its close, put together.

-- what the opening's answer says of its tests
granted_by : (w : World) (s : Setting) (t : Receipt) → Ok t ≡ receipt_for s (perform w (opens s)).answer → refusal_of w (opens s) ≡ None
unfolding perform
granted_by w s t = by (refusal_of w (opens s))
  where
    by : (q : Option Refusal) → Ok t ≡ receipt_for s (unless_refused q w (opens s)).answer → q ≡ None
    by (Some r) e = absurd (grind arith)
    by None e = refl

refused_by : (w : World) (s : Setting) (r : Refusal) → Err r ≡ receipt_for s (perform w (opens s)).answer → refusal_of w (opens s) ≡ Some r
unfolding perform
refused_by w s r = by (refusal_of w (opens s))
  where
    by : (q : Option Refusal) → Err r ≡ receipt_for s (unless_refused q w (opens s)).answer → q ≡ Some r
    by (Some x) e = cc
    by None e = absurd (grind arith)

module _ {B : Type 0} (words : B → List ℕ) (bank : B) (s : Setting) (m n : Machine B) (new : m ≡ record { bank = bank; table = closed_table }) (r : Result Receipt Refusal) (answers : r ≡ receipt_for s (perform (view words m) (opens s)).answer) (leaves : view words n ≡ (perform (view words m) (opens s)).world) where
  answered : r ≡ receipt_for s (perform (shut (words bank)) (opens s)).answer
  answered = answers ∙ ap (λ (x : Machine B). receipt_for s (perform (view words x) (opens s)).answer) new

  pub open_granted : (t : Receipt) → r ≡ Ok t → (refusal_of (shut (words bank)) (opens s) ≡ None) × (view words n ≡ opened (shut (words bank)) s)
  open_granted t e = (none, leaves ∙ ap (λ (x : Machine B). (perform (view words x) (opens s)).world) new ∙ ap (λ (p : Performed). p.world) (perform_granted (shut (words bank)) (opens s) none))
    where
      none : refusal_of (shut (words bank)) (opens s) ≡ None
      none = granted_by (shut (words bank)) s t (sym e ∙ answered)

  pub open_refused : (q : Refusal) → r ≡ Err q → refusal_of (shut (words bank)) (opens s) ≡ Some q
  open_refused q e = refused_by (shut (words bank)) s q (sym e ∙ answered)

-- the machine is open before the close, whatever was called
pub still_open : (ws : List ℕ) (s : Setting) (qs : List Request) (v u : World) → refusal_of (shut ws) (opens s) ≡ None → v ≡ opened (shut ws) s → u ≡ after_requests v qs → u.table.running ≡ true
still_open ws s qs v u e v-is u-is =
    ap (λ (x : World). x.table.running) (u-is ∙ ap (λ (x : World). after_requests x qs) v-is) ∙ running_end ws s qs e

pub closed_words : (ws : List ℕ) (s : Setting) (qs : List Request) (v u x : World) → v ≡ opened (shut ws) s → u ≡ after_requests v qs → x ≡ closed u → x.words ≡ plain_words (run_end ws s qs)
closed_words ws s qs v u x v-is u-is x-is =
    ap (λ (y : World). y.words) (x-is ∙ ap closed (u-is ∙ ap (λ (y : World). after_requests y qs) v-is))

-- an opened bank has at most 256 words, and a run leaves as many
few_words : (ws : List ℕ) (s : Setting) → refusal_of (shut ws) (opens s) ≡ None → length ws ≤ 256
few_words ws s e = by (setting_fits (length ws) s) refl (open_tests (shut ws) s ∙ e)
  where
    by : (b : Bool) → setting_fits (length ws) s ≡ b → cond b (tag_refusal (first_tagged 0 ws)) (Some refusal.Setting) ≡ None → length ws ≤ 256
    by true f none = grind (arith, nat_tests)
    by false f none = absurd (grind arith)

pub left_length : (ws left : List ℕ) (s : Setting) (qs : List Request) → refusal_of (shut ws) (opens s) ≡ None → left ≡ plain_words (run_end ws s qs) → min (length ws) 256 ≡ length left
left_length ws left s qs e is =
    let few = few_words ws s e in
    let same : length left ≡ length ws = ap length is ∙ length_listed _ _ ∙ end_length (opened (shut ws) s) qs in
    omega arith

-- a machine that gave a receipt is open
pub open_runs : {B : Type 0} (words : B → List ℕ) (m n : Machine B) (s : Setting) (r : Result Receipt Refusal) (t : Receipt) → r ≡ receipt_for s (perform (view words m) (opens s)).answer → view words n ≡ (perform (view words m) (opens s)).world → r ≡ Ok t
    → n.table.running ≡ true
open_runs words m n s r t answers leaves e =
    ap (λ (w : World). w.table.running) (leaves ∙ ap (λ (p : Performed). p.world) (perform_granted (view words m) (opens s) (granted_by (view words m) s t (sym e ∙ answers))))
