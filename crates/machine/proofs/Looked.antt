use Rattle.std.proofs.Common.{◌≡◌, ℕ, Bool, true, false, cond, ltb, length, get_or, Some, None, Ok, Err, Option, sym, refl, ap, ◌∙◌, arith}
use Rattle.std.proofs.lemmas.Bool.Decides.{nat_tests}
use Rattle.cores.specs.declared.table.Refusal.{Refusal}
use Rattle.cores.specs.declared.table.Refusal.TheVariants.{Closed, NoWord}
use Rattle.model.specs.World.{World}
use Rattle.model.specs.Calls.{Call, shows, raws}
use Rattle.model.specs.Perform.{perform, granted, unless_refused}
use Rattle.model.specs.Refusals.{first_match, some_of, refusal_of}
use Rattle.machine.specs.Looks.{look, shown_of}

-- What looking comes to.

-- why a look is refused
abbrev look_refusal : World → ℕ → Option Refusal
look_refusal w i = cond w.table.running (cond (ltb i (length w.words)) None (Some NoWord)) (Some Closed)

raw_tests : (w : World) (i : ℕ) → refusal_of w (raws i) ≡ look_refusal w i
unfolding first_match some_of
raw_tests w i = grind (arith, nat_tests)

shown_tests : (w : World) (i : ℕ) → refusal_of w (shows i) ≡ look_refusal w i
unfolding first_match some_of
shown_tests w i = grind (arith, nat_tests)

pub raw_is : (w : World) (i : ℕ) → look w i ≡ (perform w (raws i)).answer
unfolding perform
raw_is w i = by w.table.running (ltb i (length w.words)) ∙ sym (ap (λ (q : Option Refusal). (unless_refused q w (raws i)).answer) (raw_tests w i))
  where
    by : (a b : Bool) → cond a (cond b (Ok (get_or w.words i 0)) (Err NoWord)) (Err Closed) ≡ (unless_refused (cond a (cond b None (Some NoWord)) (Some Closed)) w (raws i)).answer
    by true true = refl
    by true false = refl
    by false b = refl

pub shown_is : (w : World) (i : ℕ) → shown_of w i (look w i) ≡ (perform w (shows i)).answer
unfolding perform
shown_is w i = by w.table.running (ltb i (length w.words)) ∙ sym (ap (λ (q : Option Refusal). (unless_refused q w (shows i)).answer) (shown_tests w i))
  where
    by : (a b : Bool) → shown_of w i (cond a (cond b (Ok (get_or w.words i 0)) (Err NoWord)) (Err Closed)) ≡ (unless_refused (cond a (cond b None (Some NoWord)) (Some Closed)) w (shows i)).answer
    by true true = refl
    by true false = refl
    by false b = refl

-- looking leaves the world as it is
pub looked_world : (w : World) (c : Call) → (granted w c).world ≡ w → w ≡ (perform w c).world
unfolding perform
looked_world w c e = by (refusal_of w c)
  where
    by : (q : Option Refusal) → w ≡ (unless_refused q w c).world
    by (Some r) = refl
    by None = sym e
