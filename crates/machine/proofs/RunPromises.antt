use Rattle.std.proofs.Common.{◌≡◌, ℕ, true, List, [], ◌∷◌, map, length, Some, None, Option, Result, refl, ap, ◌∙◌}
use Rattle.std.specs.List.{range_with_len}
use Rattle.word.specs.declared.Word.TheVariants.{Plain}
use Rattle.word.specs.Word.{raw_of}
use Rattle.word.proofs.Readings.{written_back}
use Rattle.cores.specs.declared.table.Refusal.{Refusal}
use Rattle.cores.specs.declared.table.Setting.{Setting}
use Rattle.model.specs.World.{World}
use Rattle.model.specs.Shown.{shown_value}
use Rattle.model.specs.Calls.{Call, opens}
use Rattle.model.specs.Refusals.{refusal_of}
use Rattle.model.specs.Perform.{perform, opened, shut}
use Rattle.model.specs.Histories.{after_calls, answers_of}
use Rattle.model.proofs.AtClose.{perform_length, shown_fits}
use Rattle.model.proofs.InRange.{ranged_call, ranged_opening}
use Rattle.model.proofs.OrderPromise.{promises_hold}
use Rattle.model.proofs.Ranges.{Ranged}
use Rattle.machine.specs.declared.run.Request.{Request}
use Rattle.machine.specs.Runs.{call_of, made, asked, answers_to, after_requests, calls_of, then_made, then_answered, answers_made, run_end, value_of, values_in, history_of, RunPromises}

-- What holds of a run at its end.

-- a run makes the calls of its history
after_made : (w : World) (qs : List Request) → after_calls w (calls_of qs) ≡ after_requests w qs
unfolding after_calls calls_of after_requests
after_made w [] = refl
after_made w (q ∷ qs) = by (call_of q) (λ v. after_made v qs)
  where
    by : (c : Option Call) → ((v : World) → after_calls v (calls_of qs) ≡ after_requests v qs) → after_calls w (then_made c (calls_of qs)) ≡ after_requests (made w c).world qs
    by (Some c) later = later (perform w c).world
    by None later = later w

-- and they answer what the run reports of them
answers_so : (w : World) (qs : List Request) → answers_of w (calls_of qs) ≡ answers_made qs (answers_to w qs)
unfolding answers_of calls_of answers_made answers_to
answers_so w [] = refl
answers_so w (q ∷ qs) = by (call_of q) (λ v. answers_so v qs)
  where
    by : (c : Option Call) → ((v : World) → answers_of v (calls_of qs) ≡ answers_made qs (answers_to v qs))
        → answers_of w (then_made c (calls_of qs)) ≡ then_answered c (made w c).answer (answers_made qs (answers_to (made w c).world qs))
    by (Some c) later = ap (λ (rs : List (Result ℕ Refusal)). (perform w c).answer ∷ rs) (later (perform w c).world)
    by None later = later w

-- what every call keeps, a run keeps
run_keeps : (P : World → Type 0) → ((w : World) (c : Call) → P w → P (perform w c).world) → (w : World) (qs : List Request) → P w → P (after_requests w qs)
unfolding after_requests
run_keeps P step w [] p = p
run_keeps P step w (q ∷ qs) p = run_keeps P step (asked w q).world qs (by (call_of q))
  where
    by : (c : Option Call) → P (made w c).world
    by (Some c) = step w c p
    by None = p

pub end_length : (w : World) (qs : List Request) → length (after_requests w qs).words ≡ length w.words
end_length w qs = run_keeps (λ v. length v.words ≡ length w.words) (λ v c e. perform_length v c ∙ e) w qs refl

module _ (ws : List ℕ) (s : Setting) (qs : List Request) (e : refusal_of (shut ws) (opens s) ≡ None) where
  ranged_end : Ranged s.first (run_end ws s qs)
  ranged_end = run_keeps (Ranged s.first) (λ w c r. ranged_call s.first w c r) (opened (shut ws) s) qs (ranged_opening (history_of ws s qs e))

  pub running_end : (run_end ws s qs).table.running ≡ true
  running_end = ranged_end.running

  -- a plain word that is stored is read back
  holds_shown : (is : List ℕ) → values_in (map (λ i. raw_of (Plain (shown_value (run_end ws s qs) i))) is) ≡ map (shown_value (run_end ws s qs)) is
  holds_shown [] = refl
  holds_shown (i ∷ is) = λ j. ap value_of (written_back (Plain (shown_value (run_end ws s qs) i)) _ refl (shown_fits s.first (run_end ws s qs) ranged_end i)) j ∷ holds_shown is j

pub run_promises : (ws : List ℕ) (s : Setting) (qs : List Request) → RunPromises ws s qs
run_promises ws s qs e =
    (after_made (opened (shut ws) s) qs, promises_hold (history_of ws s qs e), answers_so (opened (shut ws) s) qs, holds_shown ws s qs e (range_with_len 0 (length (run_end ws s qs).words)) ∙ ap (λ (n : ℕ). map (shown_value (run_end ws s qs)) (range_with_len 0 n)) (end_length (opened (shut ws) s) qs))
