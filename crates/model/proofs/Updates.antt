use Rattle.std.proofs.Common.{◌≡◌, ℕ, eqb, ◌⊎◌, sym, refl, subst, inl, inr, ⊎_elim}
use Rattle.std.proofs.lemmas.Bool.{eq-eqb, ne_eqb, cases_eq, cond-true, cond-false}
use Rattle.model.proofs.Memory.{upd}

-- Functions changed at one number.

pub upd_at : {A : Type 0} (f : ℕ → A) (i j : ℕ) (a : A) → j ≡ i → upd f i a j ≡ a
upd_at f i j a e = cond-true (eqb j i) a (f j) (eq-eqb j i e)

pub upd_same : {A : Type 0} (f : ℕ → A) (i : ℕ) (a : A) → upd f i a i ≡ a
upd_same f i a = upd_at f i i a refl

pub upd_other : {A : Type 0} (f : ℕ → A) (i j : ℕ) (a : A) → (j ≡ i → ⊥) → upd f i a j ≡ f j
upd_other f i j a ne = cond-false (eqb j i) a (f j) (ne_eqb j i ne)

-- by cases: what holds of the new value at i, and of the old one elsewhere
pub upd_both : {A : Type 0} (f : ℕ → A) (i j : ℕ) (a : A) (P : A → Type 0) → (j ≡ i → P a) → ((j ≡ i → ⊥) → P (f j)) → P (upd f i a j)
upd_both f i j a P here there =
    ⊎_elim (λ e. subst P (sym (upd_at f i j a e)) (here e)) (λ ne. subst P (sym (upd_other f i j a ne)) (there ne)) (cases_eq j i)

pub upd_is : {A : Type 0} (f : ℕ → A) (i j : ℕ) (a x : A) → upd f i a j ≡ x → ((j ≡ i) × (a ≡ x)) ⊎ ((j ≡ i → ⊥) × (f j ≡ x))
upd_is f i j a x = upd_both f i j a (λ y. y ≡ x → ((j ≡ i) × (a ≡ x)) ⊎ ((j ≡ i → ⊥) × (f j ≡ x))) (λ e h. inl (e, h)) (λ ne h. inr (ne, h))

pub upd_map : {A B : Type 0} (g : A → B) (f : ℕ → A) (i : ℕ) (a : A) (j : ℕ) → upd (λ x. g (f x)) i (g a) j ≡ g (upd f i a j)
upd_map {A} {B} g f i a j =
    upd_both f i j a (λ y. upd (λ x. g (f x)) i (g a) j ≡ g y) (upd_at (λ x. g (f x)) i j (g a)) (upd_other (λ x. g (f x)) i j (g a))
