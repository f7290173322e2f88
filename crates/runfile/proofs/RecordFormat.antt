use Rattle.std.proofs.Common.{◌≡◌, ℕ, zero, suc, ◌+◌, ◌-◌, ◌*◌, ◌<◌, ◌≤◌, Bool, true, false, cond, eqb, leb, ◌⊎◌, List, [], ◌∷◌, ◌++◌, length, drop, Ok, Err, Result, sym, refl, ap, ◌∙◌, inl, inr, append_assoc, arith, length-append}
use Rattle.std.proofs.lemmas.List.{drop_at, drop-drop}
use Rattle.std.proofs.lemmas.Bool.Decides.{nat_tests}
use Rattle.runfile.specs.Format.{Recorded, a_read, a_list, in_bytes, Each, Byte, RecordFits, entries_bytes, record_bytes, records_bytes}
use Rattle.runfile.specs.Reading.{number_at, entries_at, has_record, record_at, record_size, records_in, after}
use Rattle.runfile.specs.Laws.{NoRecord}
use Rattle.runfile.proofs.Digits.{length_in_bytes, each_drop}
use Rattle.runfile.proofs.Fields.{field_read, field_fits, field_first, length_entries_bytes, entries_read, entries_written}
use Rattle.runfile.proofs.Records.{Front, front_list, records_none, records_more, records_fault}

-- a record that is written is read back
record_read : (r : Recorded) (rest : List ℕ) → RecordFits r → Front (record_bytes r ++ rest) r rest
record_read (a_read w) rest h =
    let l = length-append (in_bytes 2 w) rest in
    let k = length_in_bytes 2 w in
    let p = field_read 1 2 w (0 ∷ (in_bytes 2 w ++ rest)) (0 ∷ []) rest refl refl h in
    (grind (arith, nat_tests), ap a_read (sym p), sym (drop_at (0 ∷ in_bytes 2 w) rest 3 (ap suc (length_in_bytes 2 w))))
record_read (a_list es) rest h =
    let l = length-append (entries_bytes es) rest in
    let k = length_entries_bytes es in
    front_list (length es ∷ (entries_bytes es ++ rest)) (entries_bytes es ++ rest) rest es (omega arith) h.0 h.1 refl
    (omega arith, entries_read es rest h.2, sym (drop_at (entries_bytes es) rest (18 * length es) k))

record_begins : (r : Recorded) (rest : List ℕ) → 0 < length (record_bytes r ++ rest)
record_begins (a_read w) rest = omega arith
record_begins (a_list es) rest = omega arith

pub records_read : (rs : List Recorded) (place : ℕ) → Each RecordFits rs → records_in (length (records_bytes rs)) place (records_bytes rs) ≡ Ok rs
unfolding Each records_bytes
records_read [] place h = records_none place [] refl
records_read (r ∷ rs) place h =
    let bs = record_bytes r ++ records_bytes rs in
    let m = records_more place bs (records_bytes rs) r (record_begins r (records_bytes rs)) (record_read r (records_bytes rs) h.0) in
    m.1 ∙ ap (after r) (records_read rs (place + (length bs - length (records_bytes rs))) h.1)

-- a record that is read is what was written
record_written : (n : ℕ) (bs : List ℕ) → has_record (n ∷ bs) ≡ true → Each Byte (n ∷ bs)
    → RecordFits (record_at (n ∷ bs)) × (n ∷ bs ≡ record_bytes (record_at (n ∷ bs)) ++ drop (record_size n) (n ∷ bs))
unfolding Each
record_written n bs h e = by (eqb n 0) refl
  where
    by : (z : Bool) → eqb n 0 ≡ z
        → RecordFits (cond z (a_read (number_at 1 2 (n ∷ bs))) (a_list (entries_at n bs)))
        × (n ∷ bs ≡ record_bytes (cond z (a_read (number_at 1 2 (n ∷ bs))) (a_list (entries_at n bs))) ++ drop (cond z 3 (1 + 18 * n)) (n ∷ bs))
    by true z =
        let n0 : n ≡ 0 = grind (arith, nat_tests) in
        let l : 1 + 2 ≤ length (n ∷ bs) = grind (arith, nat_tests) in (
          field_fits 1 2 (n ∷ bs) l e,
          ap (λ (xs : List ℕ). n ∷ xs) (field_first 1 2 (n ∷ bs) l e)
              ∙ ap (λ (m : ℕ). m ∷ (in_bytes 2 (number_at 1 2 (n ∷ bs)) ++ drop 3 (n ∷ bs))) n0,
        )
    by false z =
        let l : 18 * n ≤ length bs = grind (arith, nat_tests) in
        let lo : 1 ≤ n = grind (arith, nat_tests) in
        let hi : n ≤ 8 = grind (arith, nat_tests) in
        let p = entries_written n bs l e.1 in (
          (omega (arith, p.1), omega (arith, p.1), p.0),
          ap (λ (xs : List ℕ). n ∷ xs) (p.2 ∙ ap (λ (xs : List ℕ). entries_bytes (entries_at n bs) ++ xs) (drop-drop (18 * n) 1 (n ∷ bs)))
              ∙ ap (λ (m : ℕ). m ∷ (entries_bytes (entries_at n bs) ++ drop (1 + 18 * n) (n ∷ bs))) (sym p.1),
        )

-- where there is no whole record, it is cut short or above 8
no_record : (n : ℕ) (bs : List ℕ) → has_record (n ∷ bs) ≡ false → NoRecord (n ∷ bs)
no_record n bs h = by (leb n 8) refl
  where
    by : (z : Bool) → leb n 8 ≡ z → (8 < n) ⊎ (length (n ∷ bs) < record_size n)
    by false z = inl (grind (arith, nat_tests))
    by true z = inr (grind (arith, nat_tests))

-- what an answer to the reading of records tells of the bytes
abbrev pub RecordsTold : ℕ → List ℕ → Result (List Recorded) ℕ → Type 0
RecordsTold place bs (Ok rs) = Each RecordFits rs × (bs ≡ records_bytes rs)
RecordsTold place bs (Err p) =
    (rs : List Recorded) × (rest : List ℕ) × Each RecordFits rs × (bs ≡ records_bytes rs ++ rest) × NoRecord rest
    × (p ≡ place + length (records_bytes rs))

told_after : (place place' : ℕ) (bs rest : List ℕ) (r : Recorded) (x : Result (List Recorded) ℕ) → RecordFits r → bs ≡ record_bytes r ++ rest
    → place' ≡ place + length (record_bytes r) → RecordsTold place' rest x → RecordsTold place bs (after r x)
unfolding Each records_bytes
told_after place place' bs rest r (Ok rs) f e p t = ((f, t.0), e ∙ ap (λ (xs : List ℕ). record_bytes r ++ xs) t.1)
told_after place place' bs rest r (Err q) f e p t =
    let rs = t.0 in let left = t.1 in (
      r ∷ rs,
      left,
      (f, t.2),
      e ∙ ap (λ (xs : List ℕ). record_bytes r ++ xs) t.3 ∙ sym (append_assoc (record_bytes r) (records_bytes rs) left),
      t.4,
      omega (arith, t.5, length-append (record_bytes r) (records_bytes rs)),
    )

-- reading tells the records that are there, or the first that is not
pub records_told : (fuel place : ℕ) (bs : List ℕ) → length bs ≤ fuel → Each Byte bs → RecordsTold place bs (records_in (length bs) place bs)
unfolding Each records_bytes
records_told fuel place [] h e = rw (records_none place [] refl) (tt, refl)
records_told zero place (n ∷ bs) h e = absurd (omega arith)
records_told (suc fuel) place (n ∷ bs) h e = by (has_record (n ∷ bs)) refl (λ place' rest. records_told fuel place' rest)
  where
    by : (z : Bool) → has_record (n ∷ bs) ≡ z
        → ((place' : ℕ) (rest : List ℕ) → length rest ≤ fuel → Each Byte rest → RecordsTold place' rest (records_in (length rest) place' rest))
        → RecordsTold place (n ∷ bs) (records_in (length (n ∷ bs)) place (n ∷ bs))
    by false z t = rw (records_fault place (n ∷ bs) (omega arith) z) ([], n ∷ bs, tt, refl, no_record n bs z, omega arith)
    by true z t =
        let rest = drop (record_size n) (n ∷ bs) in
        let m = records_more place (n ∷ bs) rest (record_at (n ∷ bs)) (omega arith) (z, refl, refl) in
        let w = record_written n bs z e in
        let place' = place + (length (n ∷ bs) - length rest) in
        let l = ap length w.1 ∙ length-append (record_bytes (record_at (n ∷ bs))) rest in
        rw m.1
        (told_after place place' (n ∷ bs) rest (record_at (n ∷ bs)) (records_in (length rest) place' rest) w.0 w.1 (omega arith)
        (t place' rest (omega arith) (each_drop Byte (record_size n) (n ∷ bs) e)))
