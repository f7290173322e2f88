use Rattle.std.proofs.Common.{◌≡◌, ℕ, ◌+◌, ◌<◌, ◌≤◌, ◌⊎◌, get_or, Some, None, Ok, Option, Result, sym, ap, ◌∙◌, subst, inl, inr, ⊎_elim, arith}
use Rattle.std.proofs.lemmas.Bool.{cases_lt}
use Rattle.entries.specs.declared.list.Entries.{Entries}
use Rattle.cores.specs.declared.table.Refusal.{Refusal}
use Rattle.model.specs.Calls.{Call, starts, reads, steps}
use Rattle.model.specs.Perform.{perform}
use Rattle.model.specs.Histories.{History, world_at, Called}
use Rattle.model.specs.Plain.{Completed}
use Rattle.model.specs.Promises.{Finishes, Decided, Answers}
use Rattle.model.proofs.Memory.{Memory, view}
use Rattle.model.proofs.Updates.{upd_is, upd_both}
use Rattle.model.proofs.Showing.{shown_in}
use Rattle.model.proofs.Timeline.{Effect, put_completed}

-- The completed operations of a history so far, each at the moment at which it counts as done.

abbrev pub memory : History → ℕ → Memory
memory h t = view (world_at h t)

abbrev pub values : History → ℕ → ℕ → ℕ
values h t = shown_in (memory h t)

abbrev pub call_at : History → ℕ → Call
call_at h t = get_or h.calls t (steps 0)

-- what is known of a call that is at t
pub called_is : (h : History) (t : ℕ) (x c : Call) (y r : Result ℕ Refusal) → call_at h t ≡ c → (perform (world_at h t) c).answer ≡ r → Called h t x y → (x ≡ c) × (y ≡ r)
called_is h t x c y r e a called =
    let same : x ≡ c = sym called.call ∙ e in
    (same, sym called.answers ∙ ap (λ (z : Call). (perform (world_at h t) z).answer) same ∙ a)

-- d is done at s: after its start, and not after its finish
pub record Entered (h : History) (s : ℕ) (d : Completed) : Type 0 where
  pub answers : Answers h d.start_of d.core_of d.what d.answered
  pub after_start : d.start_of < s
  pub in_time : (q : ℕ) → Finishes h d.start_of d.core_of q → s ≤ q

pub record Linearization (h : History) (f : ℕ → Option Completed) (t : ℕ) : Type 0 where
  pub effects : (s : ℕ) → s < t → Effect (f s) (values h s) (values h (s + 1))
  pub later : (s : ℕ) → t ≤ s → f s ≡ None
  pub entered : (s : ℕ) (d : Completed) → f s ≡ Some d → Entered h s d
  pub once : (s r : ℕ) (d e : Completed) → f s ≡ Some d → f r ≡ Some e → d.start_of ≡ e.start_of → s ≡ r

-- they are of earlier moments
pub completed_before : (h : History) (f : ℕ → Option Completed) (t : ℕ) → Linearization h f t → (s : ℕ) (d : Completed) → f s ≡ Some d → s < t
completed_before h f t g s d e = ⊎_elim (λ l. l) (λ (ge : t ≤ s). let n = g.later s ge in absurd (grind arith)) (cases_lt s t)

-- Nothing is done at t.
pub linearization_stays : (h : History) (f : ℕ → Option Completed) (t : ℕ) → Linearization h f t → values h (t + 1) ≡ values h t → Linearization h f (t + 1)
linearization_stays h f t g same = record {
  effects = λ s l. ⊎_elim (g.effects s)
      (λ (ge : t ≤ s). let q : t ≡ s = omega arith in subst (λ (n : ℕ). Effect (f n) (values h n) (values h (n + 1))) q (subst (λ (o : Option Completed). Effect o (values h t) (values h (t + 1))) (sym (g.later t (omega arith))) same))
      (cases_lt s t);
  later = λ s l. g.later s (omega arith);
  entered = g.entered;
  once = g.once;
}

-- An operation counts as done at s, which is now or, where nothing changes now, an earlier moment that is free.
pub linearization_adds : (h : History) (f : ℕ → Option Completed) (t s : ℕ) (d : Completed) → Linearization h f t → s ≤ t → f s ≡ None → Effect (Some d) (values h s) (values h (s + 1))
    → ((s ≡ t → ⊥) → values h (t + 1) ≡ values h t) → Entered h s d → ((r : ℕ) (e : Completed) → f r ≡ Some e → e.start_of ≡ d.start_of → ⊥) → Linearization h (put_completed f s d) (t + 1)
linearization_adds h f t s d g le free done same new other = record {
  effects = λ r l. upd_both f s r (Some d) (λ o. Effect o (values h r) (values h (r + 1)))
      (λ q. subst (λ (n : ℕ). Effect (Some d) (values h n) (values h (n + 1))) (sym q) done)
      (λ ne. ⊎_elim (g.effects r)
      (λ (ge : t ≤ r). let q : t ≡ r = omega arith in subst (λ (n : ℕ). Effect (f n) (values h n) (values h (n + 1))) q (subst (λ (o : Option Completed). Effect o (values h t) (values h (t + 1))) (sym (g.later t (omega arith))) (same (λ z. ne (sym q ∙ sym z)))))
      (cases_lt r t));
  later = λ r l. upd_both f s r (Some d) (λ o. o ≡ None) (λ q. absurd (omega arith)) (λ _. g.later r (omega arith));
  entered = λ r e z. ⊎_elim (λ (q : (r ≡ s) × (Some d ≡ Some e)). by r e q.0 q.1) (λ (q : (r ≡ s → ⊥) × (f r ≡ Some e)). g.entered r e q.1) (upd_is f s r (Some d) (Some e) z);
  once = λ r u x y zx zy e. both r u x y e (upd_is f s r (Some d) (Some x) zx) (upd_is f s u (Some d) (Some y) zy);
}
  where
    by : (r : ℕ) (e : Completed) → r ≡ s → Some d ≡ Some e → Entered h r e
    by r e q z = let w : d ≡ e = cc in subst (λ (n : ℕ). Entered h n e) (sym q) (subst (Entered h s) w new)

    both : (r u : ℕ) (x y : Completed) → x.start_of ≡ y.start_of → ((r ≡ s) × (Some d ≡ Some x)) ⊎ ((r ≡ s → ⊥) × (f r ≡ Some x)) → ((u ≡ s) × (Some d ≡ Some y)) ⊎ ((u ≡ s → ⊥) × (f u ≡ Some y)) → r ≡ u
    both r u x y e (inl a) (inl b) = a.0 ∙ sym b.0
    both r u x y e (inl a) (inr b) = let z = a.1 in let w : d ≡ x = cc in absurd (other u y b.1 (sym (ap (λ (v : Completed). v.start_of) w ∙ e)))
    both r u x y e (inr a) (inl b) = let z = b.1 in let w : d ≡ y = cc in absurd (other r x a.1 (e ∙ sym (ap (λ (v : Completed). v.start_of) w)))
    both r u x y e (inr a) (inr b) = g.once r u x y a.1 b.1 e

-- the operation started at p counts as done at some moment
abbrev pub Told : (ℕ → Option Completed) → ℕ → Type 0
Told f p = (s : ℕ) × (d : Completed) × (f s ≡ Some d) × (d.start_of ≡ p)

-- every operation answered so far has one
pub record Covers (h : History) (f : ℕ → Option Completed) (t : ℕ) : Type 0 where
  pub decided_told : (p c n a u : ℕ) (l : Entries) → Called h p (starts c l) (Ok n) → p < u → u ≤ t → Decided (world_at h u) c n a → Told f p
  pub read_told : (p c n i q : ℕ) → Called h p (reads c i) (Ok n) → Finishes h p c q → q < t → Told f p

-- none is lost
abbrev pub Within : (ℕ → Option Completed) → (ℕ → Option Completed) → Type 0
Within f f' = (s : ℕ) (d : Completed) → f s ≡ Some d → f' s ≡ Some d

pub within_more : (f : ℕ → Option Completed) (s : ℕ) (d : Completed) → f s ≡ None → Within f (put_completed f s d)
within_more f s d free r e z = upd_both f s r (Some d) (λ o. o ≡ Some e) (λ q. let w : f s ≡ Some e = ap f (sym q) ∙ z in absurd (grind arith)) (λ _. z)

pub covers_next : (h : History) (f f' : ℕ → Option Completed) (t : ℕ) → Covers h f t → Within f f'
    → ((p c n a : ℕ) (l : Entries) → Called h p (starts c l) (Ok n) → p < t + 1 → Decided (world_at h (t + 1)) c n a → Told f' p ⊎ ((p < t) × Decided (world_at h t) c n a))
    → ((p c n i : ℕ) → Called h p (reads c i) (Ok n) → Finishes h p c t → Told f' p) → Covers h f' (t + 1)
covers_next h f f' t g more decided finished = record {
  decided_told = λ p c n a u l called lt le dec. ⊎_elim
      (λ (small : u < t + 1). wider p (g.decided_told p c n a u l called lt (omega arith) dec))
      (λ (ge : t + 1 ≤ u). let q : u ≡ t + 1 = omega arith in
      ⊎_elim (λ z. z) (λ z. wider p (g.decided_told p c n a t l called z.0 (omega arith) z.1)) (decided p c n a l called (omega arith) (subst (λ (v : ℕ). Decided (world_at h v) c n a) q dec)))
      (cases_lt u (t + 1));
  read_told = λ p c n i q called fin lt. ⊎_elim
      (λ (small : q < t). wider p (g.read_told p c n i q called fin small))
      (λ (ge : t ≤ q). let z : q ≡ t = omega arith in finished p c n i called (subst (Finishes h p c) z fin)) (cases_lt q t);
}
  where
    wider : (p : ℕ) → Told f p → Told f' p
    wider p z = (z.0, z.1, more z.0 z.1 z.2, z.3)
