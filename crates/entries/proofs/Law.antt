use Rattle.std.proofs.Common.{◌≡◌, ℕ, zero, suc, ◌-◌, ◌^◌, ◌<◌, ◌≤◌, eqb, leb, ◌⊎◌, List, length, Decides, inl, inr, ⊎_elim, sub-one, arith}
use Rattle.std.proofs.lemmas.Bool.{cases_eq, and_parts, leb-true, le-leb, eqb-true}
use Rattle.std.proofs.lemmas.List.{length-take-le}
use Rattle.std.proofs.lemmas.Bool.Decides.{Decides-and, Decides-or, Decides-ltb, Decides-eqb, Decides-like}
use Rattle.entries.specs.declared.Entry.{Entry}
use Rattle.entries.specs.declared.list.Entries.{Entries}
use Rattle.entries.specs.Lists.{Lawful, entry_at, lawful, may_stand}
use Rattle.entries.specs.Listed.{listed}
use Rattle.entries.proofs.Each.{decides_each}

-- where each number is above the one before it, they are strictly ascending
rising : (w : ℕ → ℕ) (n : ℕ) → ((k : ℕ) → k < n → (k ≡ 0) ⊎ (w (k - 1) < w k)) → (i j : ℕ) → i < j → j < n → w i < w j
rising w n h i zero l m = absurd (omega arith)
rising w n h i (suc j) l m =
    ⊎_elim
    (λ (q : suc j ≡ 0). absurd (omega arith))
    (λ s. let above : w j < w (suc j) = rw sub-one at s in
    ⊎_elim
    (λ (q : i ≡ j). rw q above)
    (λ (ne : i ≡ j → ⊥). let r : w i < w j = rising w n h i j (omega arith) (omega arith) in omega arith)
    (cases_eq i j))
    (h (suc j) m)

abbrev Stands : List Entry → ℕ → Type 0
Stands es i = ((entry_at es i).expected < 2 ^ 61) × ((entry_at es i).new < 2 ^ 61) × ((i ≡ 0) ⊎ ((entry_at es (i - 1)).word < (entry_at es i).word))

decides_stands : (es : List Entry) (i : ℕ) → Decides (may_stand es i) (Stands es i)
decides_stands es i =
    Decides-like (may_stand es i) (λ p. (p.0.0, p.0.1, p.1)) (λ p. ((p.0, p.1), p.2))
    (Decides-and _ _ (Decides-and _ _ (Decides-ltb _ _) (Decides-ltb _ _)) (Decides-or _ _ (Decides-eqb i 0) (Decides-ltb _ _)))

decides_leb : (a b : ℕ) → Decides (leb a b) (a ≤ b)
decides_leb a b = (leb-true a b, le-leb a b)

-- The test by index is the law.
pub decides_lawful : (es : List Entry) → Decides (lawful es) (Lawful es)
decides_lawful es =
    Decides-like (lawful es)
    (λ p. record {
      some = p.0.0;
      few = p.0.1;
      expected_fits = λ i l. (p.1 i l).0;
      new_fits = λ i l. (p.1 i l).1;
      ascending = rising (λ i. (entry_at es i).word) (length es) (λ k l. (p.1 k l).2);
    })
    (λ q. ((q.some, q.few), λ i l. (q.expected_fits i l, q.new_fits i l, ascends q i l)))
    (Decides-and _ _ (Decides-and _ _ (decides_leb _ _) (decides_leb _ _)) (decides_each (may_stand es) (Stands es) (decides_stands es) (length es)))
  where
    ascends : {es : List Entry} → Lawful es → (i : ℕ) → i < length es → (i ≡ 0) ⊎ ((entry_at es (i - 1)).word < (entry_at es i).word)
    ascends q i l = ⊎_elim inl (λ (ne : i ≡ 0 → ⊥). inr (q.ascending (i - 1) i (omega arith) l)) (cases_eq i 0)

-- Every list that can be had is lawful.
pub listed_lawful : (e : Entries) → Lawful (listed e)
listed_lawful e = (decides_lawful (listed e)).0 (and_parts _ (lawful (listed e)) e.fit).1

-- A list has as many entries as it counts.
pub listed_length : (e : Entries) → length (listed e) ≡ e.count
listed_length e =
    let sizes = and_parts (eqb (length e.entries) 8) (leb e.count 8) (and_parts _ (lawful (listed e)) e.fit).0 in
    let l : e.count ≤ length e.entries = omega (arith, eqb-true _ _ sizes.0, leb-true _ _ sizes.1) in
    length-take-le e.count e.entries l
