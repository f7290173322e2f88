use Rattle.std.proofs.Common.{◌≡◌, ℕ, ◌<◌, List, length, get_or, Result, sym, refl, ◌∙◌, ⊎_elim, arith}
use Rattle.bank.specs.Bank.{Swaps, loaded, swapped}
use Rattle.bank.specs.declared.NoWord.{NoWord}
use Rattle.std.proofs.lemmas.List.{ext_get_or, get_or-set_other, get_or-set_same, length-set}
use Rattle.std.proofs.lemmas.Bool.{cases_eq, cases_lt}
use Rattle.std.proofs.lemmas.Bool.Decides.{nat_tests}

-- what answers and leaves as defined keeps the law of the swap
pub swaps_hold : (ws : List ℕ) (i old new : ℕ) (answer : Result ℕ NoWord) (after : List ℕ) → answer ≡ loaded ws i → after ≡ swapped ws i old new → Swaps ws i old new answer after
swaps_hold ws i old new answer after p q =
    record {
      same_length = grind (arith, nat_tests, length-set ws i new);
      others_kept = λ k other. grind (arith, nat_tests, get_or-set_other ws i k new 0 other);
      answers_seen = λ lt. grind (arith, nat_tests);
      stores_new = λ lt same. grind (arith, nat_tests, get_or-set_same ws i new 0 lt);
      keeps_seen = λ lt other. grind (arith, nat_tests);
      refuses = λ past. (grind (arith, nat_tests), grind (arith, nat_tests));
    }

-- the definitions themselves do
pub swaps_of : (ws : List ℕ) (i old new : ℕ) → Swaps ws i old new (loaded ws i) (swapped ws i old new)
swaps_of ws i old new = swaps_hold ws i old new (loaded ws i) (swapped ws i old new) refl refl

-- two swaps that keep it answer and leave the same
pub swaps_same : (ws : List ℕ) (i old new : ℕ) (answer answer' : Result ℕ NoWord) (after after' : List ℕ) → Swaps ws i old new answer after → Swaps ws i old new answer' after' → (answer ≡ answer') × (after ≡ after')
swaps_same ws i old new answer answer' after after' p q =
    ⊎_elim
    (λ lt. (p.answers_seen lt ∙ sym (q.answers_seen lt), ext_get_or 0 after after' (p.same_length ∙ sym q.same_length) (λ k _. each lt k)))
    (λ past. ((p.refuses past).0 ∙ sym (q.refuses past).0, (p.refuses past).1 ∙ sym (q.refuses past).1))
    (cases_lt i (length ws))
  where
    at : i < length ws → get_or after i 0 ≡ get_or after' i 0
    at lt =
        ⊎_elim
        (λ e. p.stores_new lt e ∙ sym (q.stores_new lt e))
        (λ ne. p.keeps_seen lt ne ∙ sym (q.keeps_seen lt ne))
        (cases_eq (get_or ws i 0) old)

    each : i < length ws → (k : ℕ) → get_or after k 0 ≡ get_or after' k 0
    each lt k =
        ⊎_elim (λ e. rw e (at lt)) (λ ne. p.others_kept k ne ∙ sym (q.others_kept k ne)) (cases_eq k i)
