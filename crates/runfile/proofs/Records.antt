use Rattle.std.proofs.Common.{◌≡◌, ℕ, zero, suc, ◌+◌, ◌-◌, ◌*◌, ◌<◌, ◌≤◌, true, false, cond, eqb, List, [], ◌∷◌, ◌++◌, length, get_or, drop, Ok, Err, sym, refl, ap, ◌∙◌, arith, length-drop}
use Rattle.std.proofs.lemmas.List.{drop-drop}
use Rattle.std.proofs.lemmas.Bool.{le-leb, and_from}
use Rattle.std.proofs.lemmas.Bool.Decides.{nat_tests}
use Rattle.entries.specs.declared.Entry.{Entry}
use Rattle.runfile.specs.declared.file.Fault.{Fault}
use Rattle.runfile.specs.declared.file.Fault.TheVariants.{At, Memory}
use Rattle.runfile.specs.Format.{Recorded, a_read, a_list}
use Rattle.runfile.specs.Reading.{number_at, entries_at, has_record, record_at, record_size, records_in, after, FaultIs, FaultAt}
use Rattle.runfile.proofs.Sequences.{ahead, ahead_none, one_more, all_read}

-- the record at the front was read, and this is what follows it
abbrev pub Front : List ℕ → Recorded → List ℕ → Type 0
Front bs r rest = (has_record bs ≡ true) × (r ≡ record_at bs) × (rest ≡ drop (record_size (get_or bs 0 0)) bs)

pub front_read : (bs rest : List ℕ) (w : ℕ) → 3 ≤ length bs → get_or bs 0 0 ≡ 0 → w ≡ get_or bs 1 0 * 256 + get_or bs 2 0 → rest ≡ drop 3 bs → Front bs (a_read w) rest
unfolding number_at
front_read bs rest w l z e d =
    let q : w ≡ number_at 1 2 bs = omega arith in
    (grind (arith, nat_tests), rw z (ap a_read q), rw z d)

pub front_list : (bs tail rest : List ℕ) (es : List Entry) → 1 ≤ length bs → 1 ≤ get_or bs 0 0 → get_or bs 0 0 ≤ 8 → tail ≡ drop 1 bs
    → (18 * get_or bs 0 0 ≤ length tail) × (es ≡ entries_at (get_or bs 0 0) tail) × (rest ≡ drop (18 * get_or bs 0 0) tail)
    → Front bs (a_list es) rest
front_list bs tail rest es l lo hi t h =
    let k = ap length t ∙ length-drop 1 bs in
    let n : eqb (get_or bs 0 0) 0 ≡ false = grind (arith, nat_tests) in
    let d : rest ≡ drop (1 + 18 * get_or bs 0 0) bs = h.2 ∙ ap (drop (18 * get_or bs 0 0)) t ∙ drop-drop (18 * get_or bs 0 0) 1 bs in
    rw n (and_from _ _ (le-leb _ _ hi) (le-leb _ _ (omega arith)), ap a_list (h.1 ∙ ap (entries_at (get_or bs 0 0)) t), d)

-- fuel beyond the count of bytes makes no difference
records_fuel : (f g place : ℕ) (bs : List ℕ) → length bs ≤ f → length bs ≤ g → records_in f place bs ≡ records_in g place bs
unfolding records_in
records_fuel zero zero place bs p q = refl
records_fuel zero (suc g) place [] p q = refl
records_fuel zero (suc g) place (n ∷ bs) p q = absurd (omega arith)
records_fuel (suc f) zero place [] p q = refl
records_fuel (suc f) zero place (n ∷ bs) p q = absurd (omega arith)
records_fuel (suc f) (suc g) place [] p q = refl
records_fuel (suc f) (suc g) place (n ∷ bs) p q =
    let s : 1 ≤ record_size n = grind (arith, nat_tests) in
    let l = length-drop (record_size n) (n ∷ bs) in
    ap (λ r. cond (has_record (n ∷ bs)) (after (record_at (n ∷ bs)) r) (Err place)) (records_fuel f g (place + record_size n) (drop (record_size n) (n ∷ bs)) (omega arith) (omega arith))

pub records_none : (place : ℕ) (bs : List ℕ) → length bs ≡ 0 → records_in (length bs) place bs ≡ Ok []
unfolding records_in
records_none place [] e = refl
records_none place (n ∷ bs) e = absurd (omega arith)

pub records_fault : (place : ℕ) (bs : List ℕ) → 0 < length bs → has_record bs ≡ false → records_in (length bs) place bs ≡ Err place
unfolding records_in
records_fault place [] h e = absurd (omega arith)
records_fault place (n ∷ bs) h e = rw e

pub records_more : (place : ℕ) (bs rest : List ℕ) (r : Recorded) → 0 < length bs → Front bs r rest
    → (length rest < length bs) × (records_in (length bs) place bs ≡ after r (records_in (length rest) (place + (length bs - length rest)) rest))
unfolding records_in
records_more place [] rest r h f = absurd (omega arith)
records_more place (n ∷ bs) rest r h f =
    let s : 1 ≤ record_size n = grind (arith, nat_tests) in
    let k : record_size n ≤ length (n ∷ bs) = grind (arith, nat_tests) in
    let l = ap length f.2 ∙ length-drop (record_size n) (n ∷ bs) in
    let e : place + record_size n ≡ place + (length (n ∷ bs) - length rest) = omega arith in
    let g = records_fuel (length bs) (length rest) (place + record_size n) rest (omega arith) (omega arith) in
    (omega arith, rw (f.0, ← f.1, ← f.2, g, e))

-- these records have been read, and this is what follows
abbrev pub RecordsSoFar : List ℕ → List Recorded → List ℕ → Type 0
RecordsSoFar part rs rest =
    (length rest ≤ length part) × (records_in (length part) 0 part ≡ ahead rs (records_in (length rest) (length part - length rest) rest))

pub records_start : (part : List ℕ) (rs : List Recorded) → rs ≡ [] → RecordsSoFar part rs part
records_start part rs e = let z : length part - length part ≡ 0 = omega arith in (omega arith, rw (e, z) (ahead_none (records_in (length part) 0 part)))

pub records_again : (part rest rest' : List ℕ) (rs rs' : List Recorded) (r : Recorded)
    → RecordsSoFar part rs rest → 0 < length rest → Front rest r rest' → rs' ≡ rs ++ (r ∷ []) → RecordsSoFar part rs' rest'
records_again part rest rest' rs rs' r s h f e =
    let m = records_more (length part - length rest) rest rest' r h f in
    let z : length part - length rest + (length rest - length rest') ≡ length part - length rest' = omega arith in (
      omega arith,
      one_more _ rs rs' r (records_in (length rest) (length part - length rest) rest) (records_in (length rest') (length part - length rest') rest')
          s.1 (rw (← z) m.1) e,
    )

pub records_end : (part rest : List ℕ) (rs : List Recorded) → RecordsSoFar part rs rest → length rest ≡ 0 → records_in (length part) 0 part ≡ Ok rs
records_end part rest rs s e = all_read _ rs _ s.1 (records_none (length part - length rest) rest e)

pub records_broken : (part rest : List ℕ) (rs : List Recorded) (f : Fault) → RecordsSoFar part rs rest → 0 < length rest
    → FaultAt f (length part - length rest) (has_record rest ≡ false) → FaultIs f (records_in (length part) 0 part)
records_broken part rest rs (At place) s h e =
    s.1 ∙ ap (ahead rs) (records_fault (length part - length rest) rest h e.1) ∙ ap Err (sym e.0)
records_broken part rest rs Memory s h e = tt
