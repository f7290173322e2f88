use Rattle.std.proofs.Common.{◌≡◌, ℕ, suc, ◌^◌, ◌<◌, ◌≤◌, Bool, true, false, cond, eqb, ltb, List, [], ◌∷◌, length, get_or, Some, None, Ok, Err, Option, sym, refl, subst, ⊎_elim, arith}
use Rattle.std.proofs.lemmas.Bool.{cases_lt, eqb-true}
use Rattle.word.specs.declared.Mark.{Mark}
use Rattle.word.specs.declared.Word.{Word}
use Rattle.word.specs.declared.Word.TheVariants as word
use Rattle.word.specs.Word.{reading_of, raw_of}
use Rattle.bank.proofs.Laws.{swaps_of}
use Rattle.entries.specs.declared.Entry.{Entry}
use Rattle.entries.specs.Lists.{entry_at}
use Rattle.descriptor.specs.declared.contents.Outcome.TheVariants as outcome
use Rattle.descriptor.specs.Contents.{entries_of, value_by, value_among, State}
use Rattle.cores.specs.declared.table.Refusal.{Refusal}
use Rattle.model.specs.World.{World, core_at, operation_at, placing_at}
use Rattle.model.specs.Step.{Change, nothing, swaps, decides, makes, change_world, step_change}
use Rattle.model.specs.Shown.{shown_by_placing, shown_by_operation, shown_word, shown_value}
use Rattle.model.specs.Calls.{Call, starts, reads, steps, collects, halts, shows, raws, opens}
use Rattle.model.specs.Perform.{perform, granted, unless_refused}
use Rattle.model.specs.Refusals.{refusal_of}
use Rattle.model.proofs.ShownIs.{past_plain}
use Rattle.model.proofs.Ranges.{Bounds, bounds, EntryFits, WordFits, Ranged}

-- What a close finds: as many words as were opened, each of which shows a value in range.

either_length : (b : Bool) (v w : World) (n : ℕ) → length v.words ≡ n → length w.words ≡ n → length (cond b v w).words ≡ n
either_length true v w n p q = p
either_length false v w n p q = q

change_length : (w : World) (k : ℕ) (c : Change) → length (change_world w k c).words ≡ length w.words
change_length w k nothing = refl
change_length w k (swaps i old new) = (swaps_of w.words i (raw_of old) (raw_of new)).same_length
change_length w k (decides m o) = either_length (ltb m.core 8) _ w (length w.words) refl refl
change_length w k (makes p) = refl

granted_length : (w : World) (c : Call) → length (granted w c).world.words ≡ length w.words
granted_length w (starts k l) = refl
granted_length w (reads k i) = refl
granted_length w (steps k) = change_length w k (step_change (core_at w k).place)
granted_length w (collects k) = refl
granted_length w (halts k) = refl
granted_length w (shows i) = refl
granted_length w (raws i) = refl
granted_length w (opens s) = refl

pub perform_length : (w : World) (c : Call) → length (perform w c).world.words ≡ length w.words
unfolding perform
perform_length w c = by (refusal_of w c)
  where
    by : (q : Option Refusal) → length (unless_refused q w c).world.words ≡ length w.words
    by (Some r) = refl
    by None = granted_length w c

-- what each entry gives its word is in range, and so is what a list gives a word
by_fits : (b : Bounds) (s : State) (e : Entry) → EntryFits b e → value_by s e < 2 ^ 61
by_fits b None e fits = fits.1
by_fits b (Some outcome.Succeeded) e fits = fits.2
by_fits b (Some (outcome.Failed i)) e fits = fits.1

among_fits : (b : Bounds) (s : State) (es : List Entry) (i : ℕ) → ((j : ℕ) → j < length es → EntryFits b (entry_at es j)) → value_among s es i < 2 ^ 61
unfolding value_among
among_fits b s [] i fits = omega arith
among_fits b s (e ∷ es) i fits = by (eqb e.word i) (among_fits b s es i (λ j l. fits (suc j) (omega arith)))
  where
    by : (x : Bool) → value_among s es i < 2 ^ 61 → cond x (value_by s e) (value_among s es i) < 2 ^ 61
    by true later = by_fits b s e (fits 0 (omega arith))
    by false later = later

module _ (first : ℕ) (w : World) (r : Ranged first w) where
  placing_shows : (m : Mark) → m.core < 8 → first ≤ m.number → shown_by_placing (placing_at w m) < 2 ^ 61
  placing_shows m there known = by (ltb m.core 8) (eqb m.number (core_at w m.core).placing.last) refl
    where
      by : (a b : Bool) → eqb m.number (core_at w m.core).placing.last ≡ b → shown_by_placing (cond a (cond b (Ok (core_at w m.core).placing.contents) (Err (record {}))) (Err (record {}))) < 2 ^ 61
      by true true e = let q = eqb-true m.number (core_at w m.core).placing.last e in ((r.cores m.core there).contents (omega arith)).2
      by true false e = omega arith
      by false b e = omega arith

  operation_shows : (m : Mark) (i : ℕ) → m.core < 8 → shown_by_operation (operation_at w m) i < 2 ^ 61
  operation_shows m i there = by (ltb m.core 8) (eqb m.number (core_at w m.core).operation.last)
    where
      by : (a b : Bool) → shown_by_operation (cond a (cond b (Ok (core_at w m.core).operation.contents) (Err (record {}))) (Err (record {}))) i < 2 ^ 61
      by true true = among_fits (bounds first w) (core_at w m.core).operation.contents.state (entries_of (core_at w m.core).operation.contents.list) i (r.cores m.core there).entries
      by true false = omega arith
      by false b = omega arith

  word_shows : (i : ℕ) (x : Word) → WordFits (bounds first w) x → shown_word w i x < 2 ^ 61
  word_shows i (word.Plain v) fits = fits
  word_shows i (word.Placing m) fits = placing_shows m fits.0 fits.1
  word_shows i (word.Operation m) fits = operation_shows m i fits.0
  word_shows i (word.Foreign n) fits = absurd fits

  -- every word shows a value in range
  pub shown_fits : (i : ℕ) → shown_value w i < 2 ^ 61
  shown_fits i =
      ⊎_elim (λ l. word_shows i (reading_of (get_or w.words i 0)) (r.words i l))
      (λ (l : length w.words ≤ i). subst (λ (x : Word). shown_word w i x < 2 ^ 61) (sym (past_plain w i l)) (omega arith)) (cases_lt i (length w.words))
