use Rattle.std.proofs.Common.{◌≡◌, ℕ, ◌≤◌, length, get_or, Result, sym, refl, ap, ◌∙◌, subst, ⊎_elim}
use Rattle.std.proofs.lemmas.List.{get_or_past}
use Rattle.std.proofs.lemmas.Bool.{cases_lt}
use Rattle.word.specs.declared.Word.{Word}
use Rattle.word.specs.declared.Word.TheVariants as word
use Rattle.word.specs.Word.{reading_of}
use Rattle.descriptor.specs.declared.Overtaken.{Overtaken}
use Rattle.descriptor.specs.declared.contents.Operation.{Operation}
use Rattle.descriptor.specs.declared.contents.Placing.{Placing}
use Rattle.model.specs.World.{World, core_at}
use Rattle.model.specs.Shown.{shown_by_placing, shown_by_operation, shown_word, shown_value}
use Rattle.model.proofs.Memory.{view}
use Rattle.model.proofs.Facts.{WordOk, Inv}
use Rattle.model.proofs.Ranges.{bounds, WordFits, Ranged}
use Rattle.model.proofs.Sights.{newest_reads}
use Rattle.model.proofs.Showing.{shown_says, shown_in}

-- The shown value of a word is the one that the proofs see.

-- a mark found in a word is current, so a read through it answers what its descriptor holds
word_shown : (first : ℕ) (w : World) (i : ℕ) (x : Word) → WordFits (bounds first w) x → WordOk (view w) i x → shown_word w i x ≡ shown_says (view w) i x
word_shown first w i (word.Plain v) fits ok = refl
word_shown first w i (word.Placing m) fits ok =
    let d = (core_at w m.core).placing in
    ap (λ (a : Result Placing Overtaken). shown_by_placing a) (newest_reads d m d.contents (fits.0, sym ok.0, refl))
word_shown first w i (word.Operation m) fits ok =
    let d = (core_at w m.core).operation in
    ap (λ (a : Result Operation Overtaken). shown_by_operation a i) (newest_reads d m d.contents (fits.0, sym ok.0, refl))
word_shown first w i (word.Foreign n) fits ok = refl

-- past the bank a word reads as 0, and both show that
zero_plain : reading_of 0 ≡ word.Plain 0
unfolding reading_of
zero_plain = refl

pub past_plain : (w : World) (i : ℕ) → length w.words ≤ i → reading_of (get_or w.words i 0) ≡ word.Plain 0
past_plain w i l = ap reading_of (get_or_past w.words i 0 l) ∙ zero_plain

pub shown_is : (first : ℕ) (w : World) → Ranged first w → Inv (view w) → (i : ℕ) → shown_value w i ≡ shown_in (view w) i
shown_is first w r inv i =
    ⊎_elim (λ l. word_shown first w i (reading_of (get_or w.words i 0)) (r.words i l) (inv.words i))
    (λ (l : length w.words ≤ i). subst (λ (x : Word). shown_word w i x ≡ shown_says (view w) i x) (sym (past_plain w i l)) refl) (cases_lt i (length w.words))
