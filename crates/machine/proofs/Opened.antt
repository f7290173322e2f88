use Rattle.std.proofs.Common.{◌≡◌, ℕ, Bool, true, false, cond, [], length, is_ok, Some, None, Ok, Err, Option, Result, sym, refl, ap, ◌∙◌, arith}
use Rattle.std.proofs.lemmas.Bool.Decides.{nat_tests}
use Rattle.cores.specs.declared.table.Refusal.{Refusal}
use Rattle.cores.specs.declared.table.Refusal.TheVariants as refusal
use Rattle.cores.specs.declared.table.Setting.{Setting}
use Rattle.model.specs.World.{World}
use Rattle.model.specs.Calls.{opens}
use Rattle.model.specs.Perform.{Performed, perform, closed_table}
use Rattle.model.specs.Refusals.{first_match, some_of, first_tagged, setting_fits, refusal_of}
use Rattle.model.specs.Histories.{History, after_calls}
use Rattle.model.proofs.Granting.{perform_granted}
use Rattle.model.proofs.OrderPromise.{promises_hold}
use Rattle.machine.specs.Keeps.{Begins}
use Rattle.machine.specs.Opens.{tag_refusal, opening_refusal, receipt_for}
use Rattle.machine.specs.declared.machine.Receipt.{Receipt}

-- The opening: its tests, and the history that it begins.

pub open_tests : (w : World) (s : Setting) → opening_refusal w s ≡ refusal_of w (opens s)
unfolding first_match some_of
open_tests w s = grind (arith, nat_tests)

-- a granted opening on an open or a closed table is granted on the words alone
on_words : (w : World) (s : Setting) → refusal_of w (opens s) ≡ None → refusal_of (record { words = w.words; table = closed_table }) (opens s) ≡ None
on_words w s e = sym (open_tests (record { words = w.words; table = closed_table }) s) ∙ by w.table.running (cond (setting_fits (length w.words) s) (tag_refusal (first_tagged 0 w.words)) (Some refusal.Setting)) (open_tests w s ∙ e)
  where
    by : (b : Bool) (q : Option Refusal) → cond b (Some refusal.Open) q ≡ None → q ≡ None
    by true q e = absurd (grind arith)
    by false q e = e

pub open_begins : (w v : World) (s : Setting) → v ≡ (perform w (opens s)).world → Begins w s v
unfolding after_calls
open_begins w v s e granted = (h, refl, refl, refl, sym (e ∙ ap (λ (p : Performed). p.world) (perform_granted w (opens s) granted)), promises_hold h)
  where
    h : History
    h = record { words = w.words; setting = s; granted = on_words w s granted; calls = [] }

-- a receipt is handed out exactly where the opening is granted
pub receipt_ok : (s : Setting) (r : Result Receipt Refusal) (a : Result ℕ Refusal) → r ≡ receipt_for s a → is_ok r ≡ false → is_ok a ≡ false
receipt_ok s r a e refused = by a (ap is_ok (sym e) ∙ refused)
  where
    by : (a : Result ℕ Refusal) → is_ok (receipt_for s a) ≡ false → is_ok a ≡ false
    by (Ok n) f = f
    by (Err q) f = refl
