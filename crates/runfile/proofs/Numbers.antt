use Rattle.std.proofs.Common.{◌≡◌, ℕ, zero, suc, ◌+◌, ◌-◌, ◌*◌, ◌^◌, ◌<◌, ◌≤◌, List, [], ◌∷◌, ◌++◌, length, get_or, take, drop, sym, refl, ap, ◌∙◌, add-one, arith, length-drop}
use Rattle.std.proofs.lemmas.List.{get_or-drop, get_or-take, drop-drop}
use Rattle.entries.specs.declared.Entry.{Entry}
use Rattle.runfile.specs.Reading.{number_at, entry_at, entries_at, first_call, setting_of}

-- a number further on is the number in what is left
pub number_at_drop : (n place k : ℕ) (bs : List ℕ) → number_at place k (drop n bs) ≡ number_at (n + place) k bs
unfolding number_at
number_at_drop n place zero bs = refl
number_at_drop n place (suc k) bs =
    let p = get_or-drop n bs place 0 in
    let q = number_at_drop n (place + 1) k bs in
    let r : n + (place + 1) ≡ n + place + 1 = omega arith in
    rw (p, q, r)

-- a number within the first bytes is read from these alone
number_at_take : (m place k : ℕ) (bs : List ℕ) → place + k ≤ m → number_at place k (take m bs) ≡ number_at place k bs
unfolding number_at
number_at_take m place zero bs h = refl
number_at_take m place (suc k) bs h =
    let p = get_or-take m bs place 0 (omega arith) in
    let q = number_at_take m (place + 1) k bs (omega arith) in
    rw (p, q)

-- numbers of one, two, four and eight bytes, by the bytes that spell them
number_1 : (bs : List ℕ) (place i : ℕ) → i ≡ place → get_or bs i 0 ≡ number_at place 1 bs
unfolding number_at
number_1 bs place i p = rw p (omega arith)

number_2 : (bs : List ℕ) (place i j v : ℕ) → i ≡ place → j ≡ place + 1 → v ≡ get_or bs i 0 * 256 + get_or bs j 0 → v ≡ number_at place 2 bs
unfolding number_at
number_2 bs place i j v p q e = e ∙ rw (p, q) (omega arith)

number_4 : (bs : List ℕ) (place i j k l v : ℕ) → i ≡ place → j ≡ place + 1 → k ≡ place + 1 + 1 → l ≡ place + 1 + 1 + 1
    → v ≡ get_or bs i 0 * 16777216 + get_or bs j 0 * 65536 + get_or bs k 0 * 256 + get_or bs l 0 → v ≡ number_at place 4 bs
unfolding number_at
number_4 bs place i j k l v p q r s e = e ∙ rw (p, q, r, s) (omega arith)

pub number_8 : (bs : List ℕ) (v : ℕ)
    → v ≡ get_or bs 0 0 * 256 ^ 7 + get_or bs 1 0 * 256 ^ 6 + get_or bs 2 0 * 256 ^ 5 + get_or bs 3 0 * 256 ^ 4 + get_or bs 4 0 * 256 ^ 3 + get_or bs 5 0 * 65536 + get_or bs 6 0 * 256 + get_or bs 7 0
    → v ≡ number_at 0 8 bs
unfolding number_at
number_8 bs v e = omega (arith, e)

-- the first n bytes, and what follows them
abbrev pub Cut : ℕ → List ℕ → List ℕ → List ℕ → Type 0
Cut n bs front rest = (front ≡ take n bs) × (rest ≡ drop n bs) × (length rest + n ≡ length bs)

-- an entry is put together from its three numbers
pub entry_made : (bs f₁ f₂ f₃ r₁ r₂ r₃ : List ℕ) (w e v : ℕ) → Cut 2 bs f₁ r₁ → Cut 8 r₁ f₂ r₂ → Cut 8 r₂ f₃ r₃
    → w ≡ get_or f₁ 0 0 * 256 + get_or f₁ 1 0 → e ≡ number_at 0 8 f₂ → v ≡ number_at 0 8 f₃
    → (18 ≤ length bs) × (record { word = w; expected = e; new = v } ≡ entry_at bs) × (r₃ ≡ drop 18 bs)
entry_made bs f₁ f₂ f₃ r₁ r₂ r₃ w e v p q r x y z =
    let d₂ : r₂ ≡ drop 10 bs = q.1 ∙ ap (drop 8) p.1 ∙ drop-drop 8 2 bs in
    let d₃ : r₃ ≡ drop 18 bs = r.1 ∙ ap (drop 8) d₂ ∙ drop-drop 8 10 bs in
    let x' : w ≡ number_at 0 2 bs = number_2 f₁ 0 0 1 w refl refl x ∙ ap (number_at 0 2) p.0 ∙ number_at_take 2 0 2 bs (omega arith) in
    let y' : e ≡ number_at 2 8 bs = y ∙ ap (number_at 0 8) q.0 ∙ number_at_take 8 0 8 r₁ (omega arith) ∙ ap (number_at 0 8) p.1 ∙ number_at_drop 2 0 8 bs in
    let z' : v ≡ number_at 10 8 bs = z ∙ ap (number_at 0 8) r.0 ∙ number_at_take 8 0 8 r₂ (omega arith) ∙ ap (number_at 0 8) d₂ ∙ number_at_drop 10 0 8 bs in
    (omega arith, (λ i. record { word = x' i; expected = y' i; new = z' i }), d₃)

-- one entry more
pub entries_more : (n : ℕ) (bs : List ℕ) → entries_at (suc n) bs ≡ entries_at n bs ++ (entry_at (drop (18 * n) bs) ∷ [])
unfolding entries_at
entries_more zero bs = refl
entries_more (suc n) bs =
    let e = entries_more n (drop 18 bs) in
    let d : drop (18 * n) (drop 18 bs) ≡ drop (18 * suc n) bs = drop-drop (18 * n) 18 bs ∙ ap (λ (k : ℕ). drop k bs) (omega arith) in
    ap (λ (es : List Entry). entry_at bs ∷ es) (e ∙ ap (λ (xs : List ℕ). entries_at n (drop 18 bs) ++ (entry_at xs ∷ [])) d)

-- the first n entries have been read, and this is what follows them
abbrev pub Gathered : ℕ → List ℕ → List Entry → List ℕ → Type 0
Gathered n bs es rest = (18 * n ≤ length bs) × (es ≡ entries_at n bs) × (rest ≡ drop (18 * n) bs)

pub gathered_none : (bs : List ℕ) (es : List Entry) → es ≡ [] → Gathered 0 bs es bs
unfolding entries_at
gathered_none bs es e = (omega arith, e, refl)

pub gathered_more : (n : ℕ) (bs rest rest' : List ℕ) (es es' : List Entry) (e : Entry)
    → Gathered n bs es rest → (18 ≤ length rest) × (e ≡ entry_at rest) × (rest' ≡ drop 18 rest)
    → es' ≡ es ++ (e ∷ []) → Gathered (n + 1) bs es' rest'
gathered_more n bs rest rest' es es' e g h q =
    let l = ap length g.2 ∙ length-drop (18 * n) bs in
    let d : drop 18 (drop (18 * n) bs) ≡ drop (18 * suc n) bs = drop-drop 18 (18 * n) bs ∙ ap (λ (k : ℕ). drop k bs) (omega arith) in
    let i : es' ≡ entries_at (suc n) bs = q ∙ ap (λ (xs : List Entry). xs ++ (e ∷ [])) g.1 ∙ ap (λ (x : Entry). entries_at n bs ++ (x ∷ [])) (h.1 ∙ ap entry_at g.2) ∙ sym (entries_more n bs) in
    rw add-one (omega arith, i, h.2 ∙ ap (drop 18) g.2 ∙ d)

-- where the next entry is cut short, so are the entries counted
pub gathered_cut : (n count : ℕ) (bs rest : List ℕ) (es : List Entry)
    → Gathered n bs es rest → n < count → length rest < 18 → length bs < 18 * count
gathered_cut n count bs rest es g h k = let l = ap length g.2 ∙ length-drop (18 * n) bs in omega arith

-- the trailer is put together from its twelve bytes
pub trailer_made : (bs : List ℕ) (x w p f : ℕ) → 12 ≤ length bs
    → x ≡ get_or bs (length bs - 12) 0 * 256 + get_or bs (length bs - 11) 0
    → w ≡ get_or bs (length bs - 10) 0 * 256 + get_or bs (length bs - 9) 0
    → p ≡ get_or bs (length bs - 6) 0 * 256 + get_or bs (length bs - 5) 0
    → f ≡ get_or bs (length bs - 4) 0 * 16777216 + get_or bs (length bs - 3) 0 * 65536 + get_or bs (length bs - 2) 0 * 256 + get_or bs (length bs - 1) 0
    → (12 ≤ length bs) × (x ≡ first_call bs)
    × (record { words = w; cores = get_or bs (length bs - 8) 0; rights = get_or bs (length bs - 7) 0; protected = p; first = f } ≡ setting_of bs)
trailer_made bs x w p f h a b c d =
    let a' = number_2 bs (length bs - 12) (length bs - 12) (length bs - 11) x refl (omega arith) a in
    let b' = number_2 bs (length bs - 12 + 2) (length bs - 10) (length bs - 9) w (omega arith) (omega arith) b in
    let k' = number_1 bs (length bs - 12 + 4) (length bs - 8) (omega arith) in
    let r' = number_1 bs (length bs - 12 + 5) (length bs - 7) (omega arith) in
    let c' = number_2 bs (length bs - 12 + 6) (length bs - 6) (length bs - 5) p (omega arith) (omega arith) c in
    let d' = number_4 bs (length bs - 12 + 8) (length bs - 4) (length bs - 3) (length bs - 2) (length bs - 1) f (omega arith) (omega arith) (omega arith) (omega arith) d in
    (h, a', λ i. record { words = b' i; cores = k' i; rights = r' i; protected = c' i; first = d' i })
