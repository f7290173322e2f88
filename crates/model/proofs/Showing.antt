use Rattle.std.proofs.Common.{◌≡◌, ℕ, zero, suc, ◌<◌, Bool, true, false, cond, eqb, ◌⊎◌, List, [], ◌∷◌, length, Some, None, sym, refl, ap, ◌∙◌, subst, inl, inr, ⊎_elim, arith}
use mathlib.Core.Path.{fun_ext}
use Rattle.std.proofs.lemmas.Bool.{both_ways, eqb-true, eqb-false}
use Rattle.word.specs.declared.Mark.{Mark}
use Rattle.word.specs.declared.Word.{Word}
use Rattle.word.specs.declared.Word.TheVariants as word
use Rattle.entries.specs.declared.Entry.{Entry}
use Rattle.entries.specs.Lists.{entry_at}
use Rattle.descriptor.specs.declared.contents.Outcome.{Outcome}
use Rattle.descriptor.specs.declared.contents.Outcome.TheVariants as outcome
use Rattle.descriptor.specs.declared.contents.Placing.{Placing}
use Rattle.descriptor.specs.Contents.{value_by, value_among, State}
use Rattle.model.specs.Step.{cleared_to, settled_to}
use Rattle.model.specs.Plain.{HoldsExpected, Stored}
use Rattle.model.proofs.Memory.{Memory, entry, upd, put, settled, fresh_pl}
use Rattle.model.proofs.Facts.{Current, Undecided, Apart, places, Live, WordOk, Inv}
use Rattle.model.proofs.Updates.{upd_same, upd_other, upd_both}

-- What each effect does to the shown values: only a decision to succeed changes them.

abbrev pub shown_of : (ℕ → Placing) → (ℕ → State) → (ℕ → List Entry) → ℕ → Word → ℕ
shown_of pl states ents i (word.Plain v) = v
shown_of pl states ents i (word.Placing m) = (pl m.core).expected
shown_of pl states ents i (word.Operation T) = value_among (states T.core) (ents T.core) i
shown_of pl states ents i (word.Foreign n) = 0

abbrev pub shown_says : Memory → ℕ → Word → ℕ
shown_says w i x = shown_of w.pl w.state w.ents i x

abbrev pub shown_in : Memory → ℕ → ℕ
shown_in w i = shown_says w i (w.word i)

-- The entry that names a word, if there is one, gives its value.
named_or_not : (s : State) (es : List Entry) (i : ℕ)
    → ((j : ℕ) × (j < length es) × ((entry_at es j).word ≡ i) × (value_among s es i ≡ value_by s (entry_at es j))) ⊎ ((j : ℕ) → j < length es → (entry_at es j).word ≡ i → ⊥)
unfolding value_among
named_or_not s [] i = inr (λ j lt. absurd (omega arith))
named_or_not s (e ∷ es) i = by (eqb e.word i) refl (named_or_not s es i)
  where
    by : (b : Bool) → eqb e.word i ≡ b
        → ((j : ℕ) × (j < length es) × ((entry_at es j).word ≡ i) × (value_among s es i ≡ value_by s (entry_at es j))) ⊎ ((j : ℕ) → j < length es → (entry_at es j).word ≡ i → ⊥)
        → ((j : ℕ) × (j < length (e ∷ es)) × ((entry_at (e ∷ es) j).word ≡ i) × (cond (eqb e.word i) (value_by s e) (value_among s es i) ≡ value_by s (entry_at (e ∷ es) j))) ⊎ ((j : ℕ) → j < length (e ∷ es) → (entry_at (e ∷ es) j).word ≡ i → ⊥)
    by true q r = inl (0, omega arith, eqb-true _ _ q, rw q)
    by false q (inl r) = inl (suc r.0, omega (arith, r.1), r.2, rw q r.3)
    by false q (inr r) = inr none
      where
        none : (j : ℕ) → j < length (e ∷ es) → (entry_at (e ∷ es) j).word ≡ i → ⊥
        none zero lt h = eqb-false _ _ q h
        none (suc j) lt h = r j (omega arith) h

pub value_found : (s : State) (es : List Entry) (j : ℕ) → Apart es → j < length es → value_among s es (entry_at es j).word ≡ value_by s (entry_at es j)
value_found s es j apart lt =
    ⊎_elim (λ r. r.3 ∙ ap (λ (n : ℕ). value_by s (entry_at es n)) (apart r.0 j r.1 lt r.2)) (λ n. absurd (n j lt refl)) (named_or_not s es (entry_at es j).word)

-- a state that has not succeeded gives the expected value
unsucceeded : (s : State) (e : Entry) → (s ≡ (Some outcome.Succeeded) → ⊥) → value_by s e ≡ e.expected
unsucceeded None e h = refl
unsucceeded (Some outcome.Succeeded) e h = absurd (h refl)
unsucceeded (Some (outcome.Failed i)) e h = refl

among_failed : (es : List Entry) (i n : ℕ) → value_among (Some (outcome.Failed n)) es i ≡ value_among None es i
unfolding value_among
among_failed [] i n = refl
among_failed (e ∷ es) i n = ap (cond (eqb e.word i) e.expected) (among_failed es i n)

-- A word changes to one that shows the same.
pub shown_put : (w : Memory) (i : ℕ) (v : Word) → shown_says w i v ≡ shown_in w i → shown_in (put w i v) ≡ shown_in w
shown_put w i v e = fun_ext (λ j. upd_both w.word i j v (λ x. shown_says w j x ≡ shown_in w j) (λ q. rw q e) (λ _. refl))

-- Settle puts back the expected value, or the mark of an operation that may still be cleared at its entry.
pub shown_settled : (w : Memory) (m : Mark) (d : Placing) (u : Bool) → Inv w → w.pl m.core ≡ d → w.word d.word ≡ word.Placing m → (u ≡ true → Live w m d) → shown_in (put w d.word (settled_to u d)) ≡ shown_in w
shown_settled w m d false inv held here live = shown_put w d.word (word.Plain d.expected) (rw here (sym (ap (λ (p : Placing). p.expected) held)))
shown_settled w m d true inv held here live =
    let h = live refl in
    let es = w.ents d.operation.core in
    shown_put w d.word (word.Operation d.operation)
    (rw (here, ← h.names) (value_found (w.state d.operation.core) es h.index (inv.lists d.operation.core) h.inside
    ∙ unsucceeded (w.state d.operation.core) (entry_at es h.index) h.unfinished ∙ h.value ∙ sym (ap (λ (p : Placing). p.expected) held)))

-- Clear puts back what the operation shows there.
pub shown_cleared : (w : Memory) (T : Mark) (o : Outcome) (j : ℕ) → Inv w → j < length (w.ents T.core) → w.state T.core ≡ Some o
    → w.word (entry w T j).word ≡ word.Operation T → shown_in (put w (entry w T j).word (cleared_to o (entry w T j))) ≡ shown_in w
shown_cleared w T o j inv lt dec here =
    shown_put w (entry w T j).word (cleared_to o (entry w T j)) (by o dec (rw here (value_found (w.state T.core) (w.ents T.core) j (inv.lists T.core) lt)))
  where
    by : (o : Outcome) → w.state T.core ≡ Some o → shown_in w (entry w T j).word ≡ value_by (w.state T.core) (entry w T j) → shown_says w (entry w T j).word (cleared_to o (entry w T j)) ≡ shown_in w (entry w T j).word
    by outcome.Succeeded d h = sym (h ∙ ap (λ (s : State). value_by s (entry w T j)) d)
    by (outcome.Failed i) d h = sym (h ∙ ap (λ (s : State). value_by s (entry w T j)) d)

-- Try places a mark whose contents expect the value seen.
pub shown_placed : (w : Memory) (c i v : ℕ) (m : Mark) → m.core ≡ c → (w.pl c).expected ≡ v → w.word i ≡ word.Plain v → shown_in (put w i (word.Placing m)) ≡ shown_in w
shown_placed w c i v m mine e here = shown_put w i (word.Placing m) (rw (mine, here) e)

-- Make: the core's old mark stands in no word.
pub shown_made : (w : Memory) (c : ℕ) (d : Placing) → Inv w → places (w.place c) ≡ false → shown_in (fresh_pl w c d) ≡ shown_in w
shown_made w c d inv un = fun_ext (λ i. by i (w.word i) (inv.words i))
  where
    by : (i : ℕ) (x : Word) → WordOk w i x → shown_of (upd w.pl c d) w.state w.ents i x ≡ shown_says w i x
    by i (word.Plain v) h = refl
    by i (word.Placing m) h = ap (λ (y : Placing). y.expected) (upd_other w.pl c m.core d (λ q. both_ways (places (w.place c)) un (rw q at h.2)))
    by i (word.Operation T) h = refl
    by i (word.Foreign n) h = refl

-- A decision to fail shows nothing new.
pub shown_failed : (w : Memory) (c n : ℕ) → w.state c ≡ None → shown_in (settled w c (Some (outcome.Failed n))) ≡ shown_in w
shown_failed w c n und = fun_ext (λ i. by i (w.word i))
  where
    by : (i : ℕ) (x : Word) → shown_of w.pl (upd w.state c (Some (outcome.Failed n))) w.ents i x ≡ shown_says w i x
    by i (word.Plain v) = refl
    by i (word.Placing m) = refl
    by i (word.Operation T) =
        upd_both w.state c T.core (Some (outcome.Failed n)) (λ s. value_among s (w.ents T.core) i ≡ value_among (w.state T.core) (w.ents T.core) i)
        (λ q. rw (q, und) (among_failed (w.ents c) i n)) (λ _. refl)
    by i (word.Foreign n) = refl

-- A decision to succeed: every listed word shows its expected value before, and the new values are stored after.
module _ (w : Memory) (T : Mark) (inv : Inv w) (cur : Current w T) (und : Undecided w T) (full : (j : ℕ) → j < length (w.ents T.core) → w.word (entry w T j).word ≡ word.Operation T) where
  pub all_expected : (j : ℕ) → j < length (w.ents T.core) → HoldsExpected (shown_in w) (w.ents T.core) j
  all_expected j lt = rw (full j lt, und) (value_found None (w.ents T.core) j (inv.lists T.core) lt)

  other_word : (i : ℕ) → ((j : ℕ) → j < length (w.ents T.core) → (entry w T j).word ≡ i → ⊥) → (x : Word) → WordOk w i x
      → shown_of w.pl (upd w.state T.core (Some outcome.Succeeded)) w.ents i x ≡ shown_says w i x
  other_word i none (word.Plain v) h = refl
  other_word i none (word.Placing m) h = refl
  other_word i none (word.Operation U) h =
      upd_both w.state T.core U.core (Some outcome.Succeeded) (λ s. value_among s (w.ents U.core) i ≡ value_among (w.state U.core) (w.ents U.core) i)
      (λ q. absurd (none h.1.0 (subst (λ (n : ℕ). h.1.0 < length (w.ents n)) q h.1.1) (subst (λ (n : ℕ). (entry_at (w.ents n) h.1.0).word ≡ i) q h.1.2))) (λ _. refl)
  other_word i none (word.Foreign n) h = refl

  pub new_stored : Stored (w.ents T.core) (shown_in w) (shown_in (settled w T.core (Some outcome.Succeeded)))
  new_stored = record {
    listed_words = λ j lt. rw (full j lt, upd_same w.state T.core (Some outcome.Succeeded)) (value_found (Some outcome.Succeeded) (w.ents T.core) j (inv.lists T.core) lt);
    other_words = λ i none. other_word i none (w.word i) (inv.words i);
  }
