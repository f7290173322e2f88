use Rattle.std.proofs.Common.{◌≡◌, ℕ, ◌<◌, ◌≤◌, cond, eqb, length, get_or, Ok, sym, ◌∙◌, ⊎_elim, arith}
use Rattle.bank.proofs.Laws.{swaps_of, swaps_same}
use Rattle.bank.specs.Bank.{listed, loaded, swapped}
use Rattle.std.proofs.lemmas.List.FromFn.{get_or-map-range_with_len, length-map-range_with_len}
use Rattle.std.proofs.lemmas.List.{get_or_past}
use Rattle.std.proofs.lemmas.Bool.{cases_lt}
use Rattle.std.proofs.lemmas.Bool.Decides.{nat_tests}

pub length_listed : (n : ℕ) (f : ℕ → ℕ) → length (listed n f) ≡ n
length_listed n f = length-map-range_with_len f 0 n

pub getD_listed : (n : ℕ) (f : ℕ → ℕ) (i : ℕ) → i < n → get_or (listed n f) i 0 ≡ f i
getD_listed n f i lt = get_or-map-range_with_len f 0 n i i 0 lt (omega arith)

-- what listed words answer
pub loaded_listed : (n : ℕ) (f : ℕ → ℕ) (i : ℕ) → i < n → loaded (listed n f) i ≡ Ok (f i)
loaded_listed n f i lt = let e = length_listed n f in let s = getD_listed n f i lt in grind (arith, nat_tests)

-- a swap of listed words: word i changes as it should, and no other does
pub swapped_listed : (n m : ℕ) (f g : ℕ → ℕ) (i old new : ℕ) → m ≡ n → i < n → ((k : ℕ) → (k ≡ i → ⊥) → g k ≡ f k) → g i ≡ cond (eqb (f i) old) new (f i) → listed m g ≡ swapped (listed n f) i old new
swapped_listed n m f g i old new e lt others at =
    (swaps_same (listed n f) i old new (loaded (listed n f) i) (loaded (listed n f) i) (listed m g) (swapped (listed n f) i old new)
    (record {
      same_length = length_listed m g ∙ e ∙ sym (length_listed n f);
      others_kept = kept;
      answers_seen = λ h. grind (arith, nat_tests);
      stores_new = λ _ same. grind (arith, nat_tests, getD_listed n f i lt, getD_listed m g i lt');
      keeps_seen = λ _ other. grind (arith, nat_tests, getD_listed n f i lt, getD_listed m g i lt');
      refuses = λ past. let l = length_listed n f in absurd (omega arith);
    })
    (swaps_of (listed n f) i old new)).1
  where
    lt' : i < m
    lt' = omega arith

    beyond : (j : ℕ) (h : ℕ → ℕ) (k : ℕ) → j ≤ k → get_or (listed j h) k 0 ≡ 0
    beyond j h k past = let l = length_listed j h in get_or_past (listed j h) k 0 (omega arith)

    kept : (k : ℕ) → (k ≡ i → ⊥) → get_or (listed m g) k 0 ≡ get_or (listed n f) k 0
    kept k ne =
        ⊎_elim
        (λ h. getD_listed m g k (omega arith) ∙ others k ne ∙ sym (getD_listed n f k h))
        (λ past. beyond m g k (omega arith) ∙ sym (beyond n f k past))
        (cases_lt k n)
