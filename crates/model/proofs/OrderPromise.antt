use Rattle.std.proofs.Common.{◌≡◌, ℕ, ◌<◌, List, length, get_or, Some, Option, sym, ap, ◌∙◌, subst, le_refl, arith}
use mathlib.Core.Path.{fun_ext}
use Rattle.model.specs.Shown.{shown_value}
use Rattle.model.specs.Histories.{History, after_calls, opening_of, world_at, world_of}
use Rattle.model.specs.Plain.{Completed, no_operation, Whole, Replays}
use Rattle.model.specs.Promises.{Answers, decided, finished, SomeOrderExplains, PromisesHold}
use Rattle.model.proofs.Moments.{world_past}
use Rattle.model.proofs.InRange.{ranged}
use Rattle.model.proofs.EveryWorld.{invariant}
use Rattle.model.proofs.ShownIs.{shown_is}
use Rattle.model.proofs.Timeline.{timeline, moments, completed_there, moment_there, before, same_moment, timeline_replays}
use Rattle.model.proofs.MarkPromises.{marks_tell_creations_apart, overtaken_is_told_exactly}
use Rattle.model.proofs.Linearization.{values, Told, completed_before}
use Rattle.model.proofs.Ordered.{Ordered, ordered}

-- Some order explains every history: the completed operations by their moments.

-- what the proofs see is what is shown
values_shown : (h : History) (t : ℕ) → values h t ≡ shown_value (world_at h t)
values_shown h t = fun_ext (λ i. sym (shown_is h.setting.first (world_at h t) (ranged h t) (invariant h t) i))

module _ (h : History) where
  abbrev n : ℕ
  n = length h.calls

  g : Ordered h n
  g = ordered h n (le_refl n)

  abbrev f : ℕ → Option Completed
  f = g.completed

  abbrev order : List Completed
  order = timeline f n

  abbrev operation_at : ℕ → Completed
  operation_at j = get_or order j no_operation

  abbrev moment : ℕ → ℕ
  moment j = get_or (moments f n) j 0

  at_moment : (j : ℕ) → j < length order → f (moment j) ≡ Some (operation_at j)
  at_moment j l = (completed_there f n j l).1

  told : (p c a : ℕ) (o : Whole) → Answers h p c o a → Told f p
  told p c a _ (decided {l = l} m x t called lt le dec) = g.covers.decided_told p c m x t l called lt le dec
  told p c a _ (finished {i = i} m t v called fin got) = g.covers.read_told p c m i t called fin fin.finishing_step.there

  listed : (p : ℕ) → Told f p → (j : ℕ) × (j < length order) × ((operation_at j).start_of ≡ p)
  listed p (s, d, e, q) =
      let z = moment_there f n s d (completed_before h f n g.linearization s d e) e in (z.0, z.1, ap (λ (x : Completed). x.start_of) z.2 ∙ q)

  begin_shown : values h 0 ≡ shown_value (opening_of h)
  unfolding after_calls
  begin_shown = values_shown h 0

  end_shown : values h n ≡ shown_value (world_of h)
  end_shown = values_shown h n ∙ ap shown_value (world_past h n (le_refl n))

  pub some_order_explains : SomeOrderExplains h
  some_order_explains = record {
    order = order;
    holds_only = λ j l. (g.linearization.entered (moment j) (operation_at j) (at_moment j l)).answers;
    holds_all = λ p c a o ans. listed p (told p c a o ans);
    each_once = λ i j li lj e. same_moment f n i j li lj (g.linearization.once (moment i) (moment j) (operation_at i) (operation_at j) (at_moment i li) (at_moment j lj) e);
    in_time = λ i j t li lj fin l. before f n i j li lj
        (let x = (g.linearization.entered (moment i) (operation_at i) (at_moment i li)).in_time t fin in let y = (g.linearization.entered (moment j) (operation_at j) (at_moment j lj)).after_start in omega arith);
    replays = subst (λ (v : ℕ → ℕ). Replays order v (shown_value (world_of h))) begin_shown (subst (Replays order (values h 0)) end_shown (timeline_replays f n (values h) g.linearization.effects));
  }

-- All three promises.
pub promises_hold : PromisesHold
promises_hold h = record { marks = marks_tell_creations_apart h; overtaken = overtaken_is_told_exactly h; explained = some_order_explains h }
