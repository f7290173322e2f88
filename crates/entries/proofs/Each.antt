use Rattle.std.proofs.Common.{◌≡◌, ℕ, ◌+◌, ◌<◌, Bool, true, false, Decides, refl, ⊎_elim, add-one}
use Rattle.std.proofs.lemmas.Bool.{and_from, cases_Bool, both_ways}
use Rattle.std.proofs.lemmas.Bool.Decides.{Decides-below_and}
use Rattle.entries.specs.Lists.{each}

-- a test of each number below n decides the fact of each
pub decides_each : (p : ℕ → Bool) (P : ℕ → Type 0) → ((k : ℕ) → Decides (p k) (P k)) → (n : ℕ) → Decides (each p n) ((k : ℕ) → k < n → P k)
unfolding each
decides_each p P d = Decides-below_and p P (each p) d refl (λ _. refl)

pub each_none : (p : ℕ → Bool) → each p 0 ≡ true
unfolding each
each_none p = refl

pub each_more : (p : ℕ → Bool) (i : ℕ) → each p i ≡ true → p i ≡ true → each p (i + 1) ≡ true
unfolding each
each_more p i e f = rw (add-one i) (and_from (p i) (each p i) f e)

-- one offender is enough
pub each_false : (p : ℕ → Bool) (n i : ℕ) → i < n → p i ≡ false → each p n ≡ false
each_false p n i h e =
    let all : Decides (each p n) ((k : ℕ) → k < n → p k ≡ true) = decides_each p (λ k. p k ≡ true) (λ k. (λ q. q, λ q. q)) n in
    ⊎_elim (λ (t : each p n ≡ true). absurd (both_ways (p i) e (all.0 t i h))) (λ (f : each p n ≡ false). f) (cases_Bool (each p n))
