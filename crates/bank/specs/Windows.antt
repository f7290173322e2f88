use Rattle.std.specs.Prelude.{ℕ, ◌+◌, ◌-◌, min, cond, List, length, nat_lt, slice_index}
use Rattle.bank.specs.Bank.{listed, swapped}

-- The words of a window: at most count, and no more than there are from base on; word i is word base + i below.
abbrev pub window : ℕ → ℕ → List ℕ → List ℕ
window base count ws = listed (min count (length ws - base)) (λ i. slice_index ws (base + i))

-- The words below after a swap of word i of the window: outside the window nothing changes.
abbrev pub below_after : ℕ → ℕ → List ℕ → ℕ → ℕ → ℕ → List ℕ
below_after base count ws i old new = cond (nat_lt i (length (window base count ws))) (swapped ws (base + i) old new) ws
