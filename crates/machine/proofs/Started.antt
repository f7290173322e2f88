use Rattle.std.proofs.Common.{◌≡◌, ℕ, ◌+◌, Bool, true, false, cond, ltb, List, length, Some, None, Ok, Err, Option, Result, sym, refl, ap, ◌∙◌, arith}
use Rattle.std.proofs.lemmas.Bool.Decides.{nat_tests}
use Rattle.entries.specs.declared.list.Entries.{Entries}
use Rattle.descriptor.specs.declared.UsedUp.{UsedUp}
use Rattle.descriptor.specs.Descriptors.{last_number, creation}
use Rattle.cores.specs.declared.place.Own.{Own}
use Rattle.cores.specs.declared.place.Own.TheVariants as own
use Rattle.cores.specs.declared.table.Refusal.{Refusal}
use Rattle.cores.specs.declared.table.Table.{Table}
use Rattle.cores.specs.declared.table.Refusal.TheVariants as refusal
use Rattle.cores.specs.Cores.{started, after_start}
use Rattle.model.specs.World.{World, core_at, with_core}
use Rattle.model.specs.Calls.{Call, starts, reads, words_of}
use Rattle.model.specs.Perform.{perform, granted, start_number}
use Rattle.model.specs.Refusals.{refusal_of}
use Rattle.model.proofs.Granting.{perform_granted, perform_refused}
use Rattle.machine.specs.declared.machine.starts.Named.{Named}
use Rattle.machine.specs.declared.machine.starts.Task.{Task}
use Rattle.machine.specs.declared.machine.starts.Task.TheVariants as task
use Rattle.machine.specs.Starts.{call_for, begun}
use Rattle.machine.specs.Admission.{named_of, start_refusal, else_refused}
use Rattle.machine.proofs.Refused.{start_tests, number_refusal}
use Rattle.machine.proofs.Collected.{put_back}

-- What a start comes to.

abbrev pub or_used_up : Result ℕ UsedUp → Result ℕ Refusal
or_used_up (Ok n) = Ok n
or_used_up (Err e) = Err refusal.UsedUp

abbrev pub StartComes : World → ℕ → Call → Own → Option Entries → Type 0
StartComes w k c mine l =
    perform w c ≡ record { answer = or_used_up (creation (core_at w k).operation); world = with_core w k (after_start (core_at w k) mine l) }

by_number : (w : World) (k : ℕ) (c : Call) (mine : Own) (l : Option Entries) → refusal_of w c ≡ number_refusal w k
    → granted w c ≡ record { answer = Ok (start_number w k); world = with_core w k (started (core_at w k) mine l) } → StartComes w k c mine l
by_number w k c mine l tested is = by (ltb (core_at w k).operation.last last_number) refl
  where
    by : (b : Bool) → ltb (core_at w k).operation.last last_number ≡ b
        → perform w c ≡ record { answer = or_used_up (cond b (Ok ((core_at w k).operation.last + 1)) (Err (record {}))); world = with_core w k (cond b (started (core_at w k) mine l) (core_at w k)) }
    by true e = perform_granted w c (tested ∙ grind (arith, nat_tests)) ∙ is
    by false e = perform_refused w c refusal.UsedUp (tested ∙ grind (arith, nat_tests)) ∙ ap (λ (v : World). record { answer = Err refusal.UsedUp; world = v }) (sym (put_back w k))

pub start_comes : (w : World) (k : ℕ) (t : Task) → start_refusal w.table k (named_of (length w.words) w.table.protected (words_of (call_for 0 t))) ≡ None
    → perform w (call_for k t) ≡ record { answer = or_used_up (creation (core_at w k).operation); world = begun w k t }
start_comes w k (task.List l) e = by_number w k (starts k l.now) (own.List (record { core = k; number = start_number w k })) (Some l.now) (sym (start_tests w k (task.List l)) ∙ ap (λ (q : Option Refusal). else_refused q (number_refusal w k)) e) refl
start_comes w k (task.Read i) e = by_number w k (reads k i) (own.Read i) None (sym (start_tests w k (task.Read i)) ∙ ap (λ (q : Option Refusal). else_refused q (number_refusal w k)) e) refl

-- the tests, put together from what the code had at hand
pub tested : (t : Table) (k size s p : ℕ) (ws : List ℕ) (n : Named) (r q : Option Refusal) → size ≡ s → n ≡ named_of size p ws → r ≡ start_refusal t k n → r ≡ q → start_refusal t k (named_of s p ws) ≡ q
tested t k size s p ws n r q size_is n-is r-is e =
    ap (λ (x : ℕ). start_refusal t k (named_of x p ws)) (sym size_is) ∙ ap (start_refusal t k) (sym n-is) ∙ sym r-is ∙ e
