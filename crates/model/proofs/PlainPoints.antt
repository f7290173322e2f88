use Rattle.std.proofs.Common.{◌≡◌, ℕ, zero, suc, ◌+◌, ◌^◌, ◌<◌, true, false, cond, List, [], ◌∷◌, length, Some, Ok, Err, refl, ap, ⊎_elim, add-one, arith}
use Rattle.std.proofs.lemmas.Bool.{cases_Bool, cases_eq}
use Rattle.word.specs.Word.{reading_of}
use Rattle.entries.specs.declared.Entry.{Entry}
use Rattle.entries.specs.Lists.{Lawful, entry_at, lawful}
use Rattle.entries.specs.Listed.{filling}
use Rattle.entries.proofs.Law.{decides_lawful}
use Rattle.cores.specs.declared.table.Setting.{Setting}
use Rattle.cores.specs.declared.table.Refusal.TheVariants.{Tagged}
use Rattle.model.specs.Calls.{opens}
use Rattle.model.specs.Refusals.{refusal_of, setting_fits, first_match, first_tagged}
use Rattle.model.specs.Perform.{Performed, shut}
use Rattle.model.specs.Points.{RawWords, Lists}
use Rattle.model.proofs.Granting.{perform_refused}

-- The points of raw words and of lists.

tagged : (ws : List ℕ) (s : Setting) → setting_fits (length (3 ∷ ws)) s ≡ true → refusal_of (shut (3 ∷ ws)) (opens s) ≡ Some (Tagged 0)
unfolding first_match first_tagged reading_of
tagged ws s fits = grind arith

pub raw_words : RawWords
raw_words =
    record {
      value = refl;
      mark = refl;
      tagged = λ ws s fits. ap (λ (p : Performed). p.answer) (perform_refused (shut (3 ∷ ws)) (opens s) (Tagged 0) (tagged ws s fits));
      numbered = refl;
    }

-- what is not lawful is refused
unlawful : (es : List Entry) → (Lawful es → ⊥) → filling es ≡ Err (record {})
unlawful es never =
    ⊎_elim (λ (t : lawful es ≡ true). absurd (never ((decides_lawful es).0 t))) (λ (f : lawful es ≡ false). rw f refl) (cases_Bool (lawful es))

-- numbers that rise from each to the next are strictly ascending
rising : (w : ℕ → ℕ) (n : ℕ) → ((i : ℕ) → i + 1 < n → w i < w (i + 1)) → (i j : ℕ) → i < j → j < n → w i < w j
rising w n h i zero l m = absurd (omega arith)
rising w n h i (suc j) l m =
    let next : w j < w (suc j) = rw add-one at (h j (omega arith)) in
    ⊎_elim
    (λ (q : i ≡ j). rw q next)
    (λ (ne : i ≡ j → ⊥). let r : w i < w j = rising w n h i j (omega arith) (omega arith) in omega arith)
    (cases_eq i j)

eight : (es : List Entry) → length es ≡ 8 → ((i : ℕ) → i < 8 → ((entry_at es i).expected < 2 ^ 61) × ((entry_at es i).new < 2 ^ 61)) → ((i : ℕ) → i + 1 < 8 → (entry_at es i).word < (entry_at es (i + 1)).word) → Lawful es
eight es n fit rise =
    record {
      some = omega arith;
      few = omega arith;
      expected_fits = λ i l. (fit i (omega arith)).0;
      new_fits = λ i l. (fit i (omega arith)).1;
      ascending = λ i j l m. rising (λ i. (entry_at es i).word) 8 rise i j l (omega arith);
    }

pub lists : Lists
lists =
    record {
      none = unlawful [] (λ q. omega (arith, q.some));
      nine = λ es n. unlawful es (λ q. omega (arith, q.few));
      equal_words = λ a b p r. unlawful (a ∷ (b ∷ [])) (λ q. omega (arith, q.ascending 0 1 (omega arith) (omega arith)));
      eight = λ es n fit rise. ap (λ t. cond t (Ok tt) (Err (record {}))) ((decides_lawful es).1 (eight es n fit rise));
    }
