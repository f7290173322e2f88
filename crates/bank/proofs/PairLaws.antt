use Rattle.std.proofs.Common.{◌≡◌, ℕ, ◌*◌, ◌/◌, ◌%◌, ◌^◌, ◌<◌, min, List, length, ap, arith}
use Rattle.bank.proofs.Laws.{swaps_of}
use Rattle.bank.proofs.Listed.{length_listed, loaded_listed, swapped_listed}
use Rattle.bank.specs.Bank.{Swaps, loaded, swapped}
use Rattle.bank.specs.Pairs.{pair_size, pair_word, paired}
use Rattle.std.proofs.lemmas.Bool.Decides.{nat_tests}

pub length_paired : (xs ys : List ℕ) → length (paired xs ys) ≡ pair_size xs ys
length_paired xs ys = length_listed (pair_size xs ys) (pair_word xs ys)

pub load_first : (xs ys : List ℕ) (i : ℕ) → i < length (paired xs ys) → i % 2 ≡ 0 → loaded xs (i / 2) ≡ loaded (paired xs ys) i
load_first xs ys i lt even =
    let e = length_paired xs ys in
    let r = loaded_listed (pair_size xs ys) (pair_word xs ys) i (omega arith) in
    grind (arith, nat_tests)

pub load_second : (xs ys : List ℕ) (i : ℕ) → i < length (paired xs ys) → (i % 2 ≡ 0 → ⊥) → loaded ys (i / 2) ≡ loaded (paired xs ys) i
load_second xs ys i lt odd =
    let e = length_paired xs ys in
    let r = loaded_listed (pair_size xs ys) (pair_word xs ys) i (omega arith) in
    grind (arith, nat_tests)

-- two words of one bank are apart there too
apart : (k i : ℕ) → (k ≡ i → ⊥) → k % 2 ≡ i % 2 → k / 2 ≡ i / 2 → ⊥
apart k i ne half same = ne (omega arith)

pub swap_first : (xs ys : List ℕ) (i old new : ℕ) → i < length (paired xs ys) → i % 2 ≡ 0 → paired (swapped xs (i / 2) old new) ys ≡ swapped (paired xs ys) i old new
swap_first xs ys i old new lt even = by (swapped xs (i / 2) old new) (swaps_of xs (i / 2) old new)
  where
    by : (zs : List ℕ) → Swaps xs (i / 2) old new (loaded xs (i / 2)) zs → paired zs ys ≡ swapped (paired xs ys) i old new
    by zs law =
        let e = length_paired xs ys in
        swapped_listed (pair_size xs ys) (pair_size zs ys) (pair_word xs ys) (pair_word zs ys) i old new
        (ap (λ n. min (2 * min n (length ys)) (2 ^ 63)) law.same_length)
        (omega arith)
        (λ k ne. let o = law.others_kept (k / 2) in let a = apart k i ne in grind (arith, nat_tests))
        (let h : i / 2 < length xs = omega arith in let s = law.stores_new h in let k = law.keeps_seen h in grind (arith, nat_tests))

pub swap_second : (xs ys : List ℕ) (i old new : ℕ) → i < length (paired xs ys) → (i % 2 ≡ 0 → ⊥) → paired xs (swapped ys (i / 2) old new) ≡ swapped (paired xs ys) i old new
swap_second xs ys i old new lt odd = by (swapped ys (i / 2) old new) (swaps_of ys (i / 2) old new)
  where
    by : (zs : List ℕ) → Swaps ys (i / 2) old new (loaded ys (i / 2)) zs → paired xs zs ≡ swapped (paired xs ys) i old new
    by zs law =
        let e = length_paired xs ys in
        swapped_listed (pair_size xs ys) (pair_size xs zs) (pair_word xs ys) (pair_word xs zs) i old new
        (ap (λ n. min (2 * min (length xs) n) (2 ^ 63)) law.same_length)
        (omega arith)
        (λ k ne. let o = law.others_kept (k / 2) in let a = apart k i ne in grind (arith, nat_tests))
        (let h : i / 2 < length ys = omega arith in let s = law.stores_new h in let k = law.keeps_seen h in grind (arith, nat_tests))
