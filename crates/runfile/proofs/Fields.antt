use Rattle.std.proofs.Common.{◌≡◌, ℕ, zero, suc, ◌+◌, ◌*◌, ◌^◌, ◌<◌, ◌≤◌, List, [], ◌∷◌, ◌++◌, length, drop, sym, refl, ap, ◌∙◌, subst, append_assoc, add-zero, arith, length-append, length-drop}
use Rattle.std.proofs.lemmas.List.{take-append-drop, drop-drop, drop_at, append-nil, drop_all}
use Rattle.entries.specs.declared.Entry.{Entry}
use Rattle.runfile.specs.declared.file.Setting.{Setting}
use Rattle.runfile.specs.Format.{in_bytes, Each, Byte, entry_bytes, entries_bytes, trailer_bytes, EntryFits, SettingFits}
use Rattle.runfile.specs.Reading.{number_at, entry_at, entries_at, trailer_place, first_call, setting_of}
use Rattle.runfile.proofs.Numbers.{number_at_drop}
use Rattle.runfile.proofs.Digits.{length_in_bytes, number_in_bytes, in_bytes_number, number_fits, each_drop}

-- a number behind other bytes is read back
pub field_read : (n k v : ℕ) (bs pre rest : List ℕ) → bs ≡ pre ++ (in_bytes k v ++ rest) → length pre ≡ n → v < 256 ^ k → number_at n k bs ≡ v
field_read n k v bs pre rest e l h =
    ap (λ (i : ℕ). number_at i k bs) (sym (add-zero n)) ∙ sym (number_at_drop n 0 k bs)
    ∙ ap (λ (xs : List ℕ). number_at 0 k (drop n xs)) e ∙ ap (number_at 0 k) (drop_at pre (in_bytes k v ++ rest) n l)
    ∙ number_in_bytes k v rest h

-- the number at a place fits, and what stands there are its bytes
pub field_fits : (n k : ℕ) (bs : List ℕ) → n + k ≤ length bs → Each Byte bs → number_at n k bs < 256 ^ k
field_fits n k bs h e =
    let p : number_at 0 k (drop n bs) ≡ number_at n k bs = number_at_drop n 0 k bs ∙ ap (λ (i : ℕ). number_at i k bs) (add-zero n) in
    subst (λ (v : ℕ). v < 256 ^ k) p (number_fits k (drop n bs) (omega (arith, length-drop n bs)) (each_drop Byte n bs e))

pub field_first : (n k : ℕ) (bs : List ℕ) → n + k ≤ length bs → Each Byte bs → drop n bs ≡ in_bytes k (number_at n k bs) ++ drop (n + k) bs
field_first n k bs h e =
    let p : number_at 0 k (drop n bs) ≡ number_at n k bs = number_at_drop n 0 k bs ∙ ap (λ (i : ℕ). number_at i k bs) (add-zero n) in
    let q = in_bytes_number k (drop n bs) (omega (arith, length-drop n bs)) (each_drop Byte n bs e) in
    sym (take-append-drop k (drop n bs)) ∙ ap (λ (xs : List ℕ). xs ++ drop k (drop n bs)) (sym q)
    ∙ ap (λ (v : ℕ). in_bytes k v ++ drop k (drop n bs)) p ∙ ap (λ (xs : List ℕ). in_bytes k (number_at n k bs) ++ xs) (drop-drop k n bs)

-- Entries.

pub length_entry_bytes : (e : Entry) → length (entry_bytes e) ≡ 18
length_entry_bytes e = simp (length-append, length_in_bytes)

pub entry_read : (e : Entry) (rest : List ℕ) → EntryFits e → entry_at (entry_bytes e ++ rest) ≡ e
entry_read e rest h =
    let a = in_bytes 2 e.word in let b = in_bytes 8 e.expected in let c = in_bytes 8 e.new in
    let bs = entry_bytes e ++ rest in
    let p = field_read 0 2 e.word bs [] ((b ++ c) ++ rest) (append_assoc a (b ++ c) rest) refl h.0 in
    let q = field_read 2 8 e.expected bs a (c ++ rest) (simp append_assoc) (length_in_bytes 2 e.word) h.1 in
    let r = field_read 10 8 e.new bs (a ++ b) rest (simp append_assoc) (simp (length-append, length_in_bytes)) h.2 in
    λ i. record { word = p i; expected = q i; new = r i }

pub entry_written : (bs : List ℕ) → 18 ≤ length bs → Each Byte bs → EntryFits (entry_at bs) × (bs ≡ entry_bytes (entry_at bs) ++ drop 18 bs)
entry_written bs h e =
    let a = in_bytes 2 (number_at 0 2 bs) in let b = in_bytes 8 (number_at 2 8 bs) in let c = in_bytes 8 (number_at 10 8 bs) in (
      (field_fits 0 2 bs (omega arith) e, field_fits 2 8 bs (omega arith) e, field_fits 10 8 bs (omega arith) e),
      field_first 0 2 bs (omega arith) e
          ∙ ap (λ (xs : List ℕ). a ++ xs) (field_first 2 8 bs (omega arith) e ∙ ap (λ (xs : List ℕ). b ++ xs) (field_first 10 8 bs h e) ∙ sym (append_assoc b c (drop 18 bs)))
          ∙ sym (append_assoc a (b ++ c) (drop 18 bs)),
    )

pub length_entries_bytes : (es : List Entry) → length (entries_bytes es) ≡ 18 * length es
unfolding entries_bytes
length_entries_bytes [] = refl
length_entries_bytes (e ∷ es) = omega (arith, length-append (entry_bytes e) (entries_bytes es), length_entry_bytes e, length_entries_bytes es)

pub entries_read : (es : List Entry) (rest : List ℕ) → Each EntryFits es → es ≡ entries_at (length es) (entries_bytes es ++ rest)
unfolding entries_bytes entries_at Each
entries_read [] rest h = refl
entries_read (e ∷ es) rest h =
    let x : entries_bytes (e ∷ es) ++ rest ≡ entry_bytes e ++ (entries_bytes es ++ rest) = append_assoc (entry_bytes e) (entries_bytes es) rest in
    let p = entry_read e (entries_bytes es ++ rest) h.0 in
    let d = drop_at (entry_bytes e) (entries_bytes es ++ rest) 18 (length_entry_bytes e) in
    let q = entries_read es rest h.1 in
    rw x
    (ap (λ (y : Entry). y ∷ es) (sym p)
    ∙ ap (λ (ys : List Entry). entry_at (entry_bytes e ++ (entries_bytes es ++ rest)) ∷ ys) (q ∙ ap (entries_at (length es)) (sym d)))

pub entries_written : (n : ℕ) (bs : List ℕ) → 18 * n ≤ length bs → Each Byte bs
    → Each EntryFits (entries_at n bs) × (length (entries_at n bs) ≡ n) × (bs ≡ entries_bytes (entries_at n bs) ++ drop (18 * n) bs)
unfolding entries_bytes entries_at Each
entries_written zero bs h e = (tt, refl, refl)
entries_written (suc n) bs h e =
    let p = entry_written bs (omega arith) e in
    let q = entries_written n (drop 18 bs) (omega (arith, length-drop 18 bs)) (each_drop Byte 18 bs e) in
    let d : drop (18 * n) (drop 18 bs) ≡ drop (18 * suc n) bs = drop-drop (18 * n) 18 bs ∙ ap (λ (k : ℕ). drop k bs) (omega arith) in (
      (p.0, q.0),
      ap suc q.1,
      p.1 ∙ ap (λ (xs : List ℕ). entry_bytes (entry_at bs) ++ xs) (q.2 ∙ ap (λ (xs : List ℕ). entries_bytes (entries_at n (drop 18 bs)) ++ xs) d)
          ∙ sym (append_assoc (entry_bytes (entry_at bs)) (entries_bytes (entries_at n (drop 18 bs))) (drop (18 * suc n) bs)),
    )

-- The trailer.

pub length_trailer_bytes : (c : ℕ) (s : Setting) → length (trailer_bytes c s) ≡ 12
length_trailer_bytes c s = simp (length-append, length_in_bytes)

pub trailer_read : (bs front : List ℕ) (c : ℕ) (s : Setting) → bs ≡ front ++ trailer_bytes c s → c < 2 ^ 16 → SettingFits s
    → (trailer_place bs ≡ length front) × (first_call bs ≡ c) × (setting_of bs ≡ s)
trailer_read bs front c s e h f =
    let x₁ = in_bytes 2 c in let x₂ = in_bytes 2 s.words in let x₃ = in_bytes 1 s.cores in
    let x₄ = in_bytes 1 s.rights in let x₅ = in_bytes 2 s.protected in let x₆ = in_bytes 4 s.first in
    let l = ap length e ∙ length-append front (trailer_bytes c s) ∙ ap (λ (n : ℕ). length front + n) (length_trailer_bytes c s) in
    let t : trailer_place bs ≡ length front = omega arith in
    let p₁ = field_read (length front) 2 c bs front (x₂ ++ (x₃ ++ (x₄ ++ (x₅ ++ x₆)))) e refl h in
    let p₂ = field_read (length front + 2) 2 s.words bs (front ++ x₁) (x₃ ++ (x₄ ++ (x₅ ++ x₆))) (e ∙ simp append_assoc) (simp (length-append, length_in_bytes)) (omega (arith, f.0)) in
    let p₃ = field_read (length front + 4) 1 s.cores bs (front ++ (x₁ ++ x₂)) (x₄ ++ (x₅ ++ x₆)) (e ∙ simp append_assoc) (simp (length-append, length_in_bytes)) f.1 in
    let p₄ = field_read (length front + 5) 1 s.rights bs (front ++ (x₁ ++ (x₂ ++ x₃))) (x₅ ++ x₆) (e ∙ simp append_assoc) (simp (length-append, length_in_bytes)) f.2 in
    let p₅ = field_read (length front + 6) 2 s.protected bs (front ++ (x₁ ++ (x₂ ++ (x₃ ++ x₄)))) x₆ (e ∙ simp append_assoc) (simp (length-append, length_in_bytes)) f.3 in
    let p₆ = field_read (length front + 8) 4 s.first bs (front ++ (x₁ ++ (x₂ ++ (x₃ ++ (x₄ ++ x₅))))) [] (e ∙ simp (append_assoc, append-nil)) (simp (length-append, length_in_bytes)) f.4 in
    (t, rw t p₁, rw t (λ i. record { words = p₂ i; cores = p₃ i; rights = p₄ i; protected = p₅ i; first = p₆ i }))

pub trailer_written : (bs : List ℕ) → 12 ≤ length bs → Each Byte bs
    → (first_call bs < 2 ^ 16) × ((setting_of bs).words < 2 ^ 16) × Byte (setting_of bs).cores × Byte (setting_of bs).rights × ((setting_of bs).protected < 2 ^ 16) × ((setting_of bs).first < 2 ^ 32)
    × (drop (trailer_place bs) bs ≡ trailer_bytes (first_call bs) (setting_of bs))
trailer_written bs h e = by (trailer_place bs) (omega arith)
  where
    by : (t : ℕ) → t + 12 ≡ length bs → (number_at t 2 bs < 2 ^ 16) × (number_at (t + 2) 2 bs < 2 ^ 16) × Byte (number_at (t + 4) 1 bs) × Byte (number_at (t + 5) 1 bs) × (number_at (t + 6) 2 bs < 2 ^ 16) × (number_at (t + 8) 4 bs < 2 ^ 32)
        × (drop t bs ≡ in_bytes 2 (number_at t 2 bs) ++ (in_bytes 2 (number_at (t + 2) 2 bs) ++ (in_bytes 1 (number_at (t + 4) 1 bs) ++ (in_bytes 1 (number_at (t + 5) 1 bs) ++ (in_bytes 2 (number_at (t + 6) 2 bs) ++ in_bytes 4 (number_at (t + 8) 4 bs))))))
    by t l =
        let step : (n k m : ℕ) → n + k ≡ m → m ≤ length bs → drop n bs ≡ in_bytes k (number_at n k bs) ++ drop m bs
        = λ n k m p q. rw (← p) (field_first n k bs (omega arith) e) in (
          field_fits t 2 bs (omega arith) e,
          field_fits (t + 2) 2 bs (omega arith) e,
          field_fits (t + 4) 1 bs (omega arith) e,
          field_fits (t + 5) 1 bs (omega arith) e,
          field_fits (t + 6) 2 bs (omega arith) e,
          field_fits (t + 8) 4 bs (omega arith) e,
          step t 2 (t + 2) refl (omega arith)
              ∙ ap (λ (xs : List ℕ). in_bytes 2 (number_at t 2 bs) ++ xs) (step (t + 2) 2 (t + 4) (omega arith) (omega arith)
              ∙ ap (λ (xs : List ℕ). in_bytes 2 (number_at (t + 2) 2 bs) ++ xs) (step (t + 4) 1 (t + 5) (omega arith) (omega arith)
              ∙ ap (λ (xs : List ℕ). in_bytes 1 (number_at (t + 4) 1 bs) ++ xs) (step (t + 5) 1 (t + 6) (omega arith) (omega arith)
              ∙ ap (λ (xs : List ℕ). in_bytes 1 (number_at (t + 5) 1 bs) ++ xs) (step (t + 6) 2 (t + 8) (omega arith) (omega arith)
              ∙ ap (λ (xs : List ℕ). in_bytes 2 (number_at (t + 6) 2 bs) ++ xs) (step (t + 8) 4 (t + 12) (omega arith) (omega arith)
              ∙ ap (λ (xs : List ℕ). in_bytes 4 (number_at (t + 8) 4 bs) ++ xs) (drop_all (t + 12) bs (omega arith)) ∙ append-nil (in_bytes 4 (number_at (t + 8) 4 bs))))))),
        )
