use Rattle.std.proofs.Common.{◌≡◌, ℕ, zero, suc, ◌+◌, ◌-◌, ◌<◌, ◌≤◌, Bool, true, false, leb, ◌⊎◌, sym, refl, ap, ◌∙◌, inl, inr, ⊎_elim, add-zero, add-suc, add-one, arith}
use Rattle.std.proofs.lemmas.Bool.{leb-true, leb-false}

-- Numbers that go up by one at a time, or stay.

abbrev pub Rises : (ℕ → ℕ) → Type 0
Rises f = (t : ℕ) → (f (t + 1) ≡ f t) ⊎ (f (t + 1) ≡ f t + 1)

-- the move from t to t + 1 reached n
abbrev pub Reaches : (ℕ → ℕ) → ℕ → ℕ → Type 0
Reaches f t n = (f t + 1 ≡ n) × (f (t + 1) ≡ n)

-- a number at most one above another is at most the other, or the one above
within_one : (x y : ℕ) → y ≤ x + 1 → (y ≤ x) ⊎ (x + 1 ≡ y)
within_one x y h = by (leb y x) refl
  where
    by : (b : Bool) → leb y x ≡ b → (y ≤ x) ⊎ (x + 1 ≡ y)
    by true e = inl (leb-true y x e)
    by false e = let l = leb-false y x e in inr (omega arith)

move_up : (f : ℕ → ℕ) → Rises f → (t : ℕ) → f t ≤ f (t + 1)
move_up f r t = ⊎_elim (λ (q : f (t + 1) ≡ f t). omega arith) (λ (q : f (t + 1) ≡ f t + 1). omega arith) (r t)

rises_by : (f : ℕ → ℕ) → Rises f → (s d : ℕ) → f s ≤ f (s + d)
rises_by f r s zero = let e : f s ≡ f (s + 0) = ap f (sym (add-zero s)) in omega arith
rises_by f r s (suc d) =
    let h = rises_by f r s d in
    let m = move_up f r (s + d) in
    let e : f (s + d + 1) ≡ f (s + suc d) = ap f (add-one (s + d) ∙ sym (add-suc s d)) in omega arith

pub rises_mono : (f : ℕ → ℕ) → Rises f → (s t : ℕ) → s ≤ t → f s ≤ f t
rises_mono f r s t h =
    let b = rises_by f r s (t - s) in
    let p : s + (t - s) ≡ t = omega arith in
    let e = ap f p in omega arith

-- every number between the first and the last was reached by one move
pub reached : (f : ℕ → ℕ) → Rises f → (t n : ℕ) → f 0 < n → n ≤ f t → (c : ℕ) × (c < t) × Reaches f c n
reached f r zero n a b = absurd (omega arith)
reached f r (suc t) n a b = by (r t) (λ l. reached f r t n a l)
  where
    e : f (suc t) ≡ f (t + 1)
    e = ap f (sym (add-one t))

    earlier : (c : ℕ) × (c < t) × Reaches f c n → (c : ℕ) × (c < suc t) × Reaches f c n
    earlier p = (p.0, omega (arith, p.1), p.2)

    now_or : (f (t + 1) ≡ f t + 1) → (n ≤ f t → (c : ℕ) × (c < t) × Reaches f c n) → (n ≤ f t) ⊎ (f t + 1 ≡ n) → (c : ℕ) × (c < suc t) × Reaches f c n
    now_or q k (inl l) = earlier (k l)
    now_or q k (inr l) = (t, omega arith, (l, q ∙ l))

    by : (f (t + 1) ≡ f t) ⊎ (f (t + 1) ≡ f t + 1) → (n ≤ f t → (c : ℕ) × (c < t) × Reaches f c n) → (c : ℕ) × (c < suc t) × Reaches f c n
    by (inl q) k = earlier (k (omega (arith, e, q, b)))
    by (inr q) k = now_or q k (within_one (f t) n (omega (arith, e, q, b)))

-- and by no other
pub reached_once : (f : ℕ → ℕ) → Rises f → (c d n : ℕ) → Reaches f c n → Reaches f d n → c ≡ d
reached_once f r c d n p q = by (leb c d) (leb d c) refl refl
  where
    -- the earlier of the two has n behind it when the later comes
    apart : (a b : ℕ) → a < b → Reaches f a n → Reaches f b n → ⊥
    apart a b l u v = let m = rises_mono f r (a + 1) b (omega arith) in omega (arith, u.1, v.0)

    by : (x y : Bool) → leb c d ≡ x → leb d c ≡ y → c ≡ d
    by true true e g = let l = leb-true c d e in let m = leb-true d c g in omega arith
    by true false e g = absurd (apart c d (leb-false d c g) p q)
    by false y e g = absurd (apart d c (leb-false c d e) q p)
