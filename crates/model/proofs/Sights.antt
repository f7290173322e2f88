use Rattle.std.proofs.Common.{◌≡◌, ℕ, true, cond, ltb, ◌⊎◌, length, get_or, set, Some, Ok, Err, Result, sym, refl, ap, ◌∙◌, inl, inr, ⊎_elim, arith}
use Rattle.std.proofs.lemmas.Bool.{lt-ltb, eq-eqb, ne_eqb, ltb-true, cond-true, cond-false, cond_both, cases_lt, cases_eq}
use Rattle.word.specs.declared.Mark.{Mark}
use Rattle.word.specs.declared.Word.{Word}
use Rattle.word.specs.Word.{reading_of, raw_of, Writable}
use Rattle.word.proofs.Readings.{raw_reading, written_back}
use Rattle.bank.specs.Bank.{swapped}
use Rattle.descriptor.specs.declared.Descriptor.{Descriptor}
use Rattle.descriptor.specs.declared.Overtaken.{Overtaken}
use Rattle.descriptor.specs.Descriptors.{reading}
use Rattle.model.specs.World.{World, word_at}
use Rattle.model.specs.Relation.{Sees, Absent, Newest, Older}

-- What a step sees, and what its swap then leaves.

pub sees_word : (w : World) (i : ℕ) (x : Word) → Sees w i x → word_at w i ≡ Some x
sees_word w i x (l, e) = cond-true (ltb i (length w.words)) _ _ (lt-ltb i (length w.words) l) ∙ ap Some e

-- what a read through a mark answers
abbrev pub through : {X : Type 0} → Descriptor X → Mark → Result X Overtaken
through d m = cond (ltb m.core 8) (reading d m.number) (Err (record {}))

pub newest_reads : {X : Type 0} (d : Descriptor X) (m : Mark) (x : X) → Newest d m x → through d m ≡ Ok x
newest_reads d m x (c, n, e) = cond-true _ _ _ (lt-ltb m.core 8 c) ∙ cond-true _ _ _ (eq-eqb m.number d.last n) ∙ ap Ok e

pub older_reads : {X : Type 0} (d : Descriptor X) (m : Mark) → Older d m → through d m ≡ Err (record {})
older_reads {X} d m o = cond_both (ltb m.core 8) (reading d m.number) (Err (record {})) (λ (r : Result X Overtaken). r ≡ Err (record {})) there (λ e. refl)
  where
    there : ltb m.core 8 ≡ true → reading d m.number ≡ Err (record {})
    there c = cond-false _ _ _ (ne_eqb m.number d.last (λ n. o (ltb-true m.core 8 c, n)))

-- a swap that sees its old word stores the new one, and one that sees another word stores nothing
pub swap_stores : (w : World) (i : ℕ) (old : Word) (new : ℕ) → Sees w i old → swapped w.words i (raw_of old) new ≡ set w.words i new
swap_stores w i old new (l, e) =
    let s : get_or w.words i 0 ≡ raw_of old = sym (raw_reading (get_or w.words i 0)) ∙ ap raw_of e in
    cond-true _ _ _ (lt-ltb i (length w.words) l) ∙ cond-true _ _ _ (eq-eqb (get_or w.words i 0) (raw_of old) s)

pub swap_misses : (w : World) (i : ℕ) (old x : Word) (new : ℕ) → Writable old → Sees w i x → (x ≡ old → ⊥) → swapped w.words i (raw_of old) new ≡ w.words
swap_misses w i old x new h (l, e) other =
    let s : get_or w.words i 0 ≡ raw_of old → ⊥ = λ q. other (sym e ∙ written_back old (get_or w.words i 0) q h) in
    cond-true _ _ _ (lt-ltb i (length w.words) l) ∙ cond-false _ _ _ (ne_eqb (get_or w.words i 0) (raw_of old) s)

-- What there is to see.

pub word_or_none : (w : World) (i : ℕ) → Absent w i ⊎ ((x : Word) × Sees w i x)
word_or_none w i = ⊎_elim (λ l. inr (reading_of (get_or w.words i 0), (l, refl))) inl (cases_lt i (length w.words))

pub newest_or_older : {X : Type 0} (d : Descriptor X) (m : Mark) → Older d m ⊎ ((x : X) × Newest d m x)
newest_or_older d m =
    ⊎_elim (λ c. ⊎_elim (λ (n : m.number ≡ d.last). inr (d.contents, (c, n, refl))) (λ (o : m.number ≡ d.last → ⊥). inl (λ h. o h.1)) (cases_eq m.number d.last))
    (λ c. inl (λ h. absurd (omega (arith, h.0)))) (cases_lt m.core 8)

pub same_or_other : (a b : Mark) → (a ≡ b) ⊎ (a ≡ b → ⊥)
same_or_other a b =
    ⊎_elim (λ (p : a.core ≡ b.core). ⊎_elim (λ (q : a.number ≡ b.number). inl (λ i. record { core = p i; number = q i }))
    (λ (n : a.number ≡ b.number → ⊥). inr (λ e. n (ap (λ (m : Mark). m.number) e))) (cases_eq a.number b.number))
    (λ (n : a.core ≡ b.core → ⊥). inr (λ e. n (ap (λ (m : Mark). m.core) e))) (cases_eq a.core b.core)
