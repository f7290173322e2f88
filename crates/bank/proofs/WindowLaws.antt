use Rattle.std.proofs.Common.{◌≡◌, ℕ, ◌+◌, ◌-◌, ◌<◌, min, List, length, get_or, ap, arith}
use Rattle.bank.proofs.Laws.{swaps_of}
use Rattle.bank.proofs.Listed.{length_listed, loaded_listed, swapped_listed}
use Rattle.bank.specs.Bank.{Swaps, loaded, swapped}
use Rattle.bank.specs.Windows.{window}
use Rattle.std.proofs.lemmas.Bool.Decides.{nat_tests}

pub length_window : (base count : ℕ) (ws : List ℕ) → length (window base count ws) ≡ min count (length ws - base)
length_window base count ws = length_listed (min count (length ws - base)) (λ i. get_or ws (base + i) 0)

pub load_window : (base count : ℕ) (ws : List ℕ) (i : ℕ) → i < length (window base count ws) → loaded ws (base + i) ≡ loaded (window base count ws) i
load_window base count ws i lt =
    let e = length_window base count ws in
    let r = loaded_listed (min count (length ws - base)) (λ i. get_or ws (base + i) 0) i (omega arith) in
    grind (arith, nat_tests)

pub swap_window : (base count : ℕ) (ws : List ℕ) (i old new : ℕ) → i < length (window base count ws) → window base count (swapped ws (base + i) old new) ≡ swapped (window base count ws) i old new
swap_window base count ws i old new lt = by (swapped ws (base + i) old new) (swaps_of ws (base + i) old new)
  where
    by : (zs : List ℕ) → Swaps ws (base + i) old new (loaded ws (base + i)) zs → window base count zs ≡ swapped (window base count ws) i old new
    by zs law =
        let e = length_window base count ws in
        swapped_listed (min count (length ws - base)) (min count (length zs - base)) (λ k. get_or ws (base + k) 0) (λ k. get_or zs (base + k) 0) i old new
        (ap (λ n. min count (n - base)) law.same_length)
        (omega arith)
        (λ k ne. law.others_kept (base + k) (λ same. ne (omega arith)))
        (let h : base + i < length ws = omega arith in let s = law.stores_new h in let k = law.keeps_seen h in grind (arith, nat_tests))
