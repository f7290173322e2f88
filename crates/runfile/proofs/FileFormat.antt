use Rattle.std.proofs.Common.{◌≡◌, ℕ, ◌-◌, ◌≤◌, Bool, true, false, cond, ◌||◌, ltb, List, ◌++◌, length, take, drop, Some, None, Ok, Err, Option, Result, sym, refl, ap, ◌∙◌, subst, inl, inr, append_assoc, arith, length-append, length-take}
use Rattle.std.proofs.lemmas.List.{take_at, drop_at, drop-drop, take-append-drop}
use Rattle.std.proofs.lemmas.Bool.{ltb-true, ltb-false}
use Rattle.std.proofs.lemmas.Bool.Decides.{nat_tests}
use Rattle.runfile.specs.declared.file.Call.{Call}
use Rattle.runfile.specs.declared.file.Setting.{Setting}
use Rattle.runfile.specs.declared.file.RunFile.{RunFile}
use Rattle.runfile.specs.declared.file.Fault.{Fault}
use Rattle.runfile.specs.declared.file.Fault.TheVariants.{At, Memory}
use Rattle.runfile.specs.Format.{Recorded, Contents, Each, Byte, Sound, records_bytes, calls_bytes, trailer_bytes, written}
use Rattle.runfile.specs.Reading.{outer_fault, trailer_place, first_call, setting_of, records_part, calls_part, records_in, calls_in, with_calls, with_records, reading, contents, Answers, FaultIs}
use Rattle.runfile.specs.Laws.{FaultFirst, ReadOrFirst, ReadsBack, SoundTrailer, FirstOffender, too_short, too_long, in_trailer, in_records, in_calls}
use Rattle.runfile.proofs.Digits.{each_take, each_drop}
use Rattle.runfile.proofs.Fields.{length_trailer_bytes, trailer_read, trailer_written}
use Rattle.runfile.proofs.RecordFormat.{RecordsTold, records_read, records_told}
use Rattle.runfile.proofs.CallFormat.{CallsTold, calls_read, calls_told}
use Rattle.runfile.proofs.Whole.{reading_parts, reading_outer, no_outer_fault, all_sound}

no_fault : (bs : List ℕ) → SoundTrailer bs → outer_fault bs ≡ None
no_fault bs h = grind (arith, nat_tests)

-- whatever sound contents are written are read back
pub reads_back : (f : Contents) → Sound f → reading (written f) ≡ Ok f
reads_back f s =
    let R = records_bytes f.records in
    let C = calls_bytes f.calls in
    let T = trailer_bytes (length R) f.setting in
    let bs = written f in
    let lt = length_trailer_bytes (length R) f.setting in
    let lr = length-append R (C ++ T) in
    let lc = length-append C T in
    let lf = length-append R C in
    let long = s.not_too_long in
    let t = trailer_read bs (R ++ C) (length R) f.setting (sym (append_assoc R C T)) (omega arith) s.setting_fits in
    let words : (setting_of bs).words ≤ 256 = subst (λ (x : Setting). x.words ≤ 256) (sym t.2) s.setting_fits.0 in
    let o = no_fault bs (omega arith, omega arith, words, omega (arith, t.0, t.1)) in
    let r : R ≡ records_part bs = sym (take_at R (C ++ T) (first_call bs) (sym t.1)) in
    let d : drop (first_call bs) bs ≡ C ++ T = drop_at R (C ++ T) (first_call bs) (sym t.1) in
    let c : C ≡ calls_part bs = sym (ap (take (trailer_place bs - first_call bs)) d ∙ take_at C T (trailer_place bs - first_call bs) (omega (arith, t.0, t.1))) in
    all_sound bs R C f.setting f.records (length f.records) f.calls (o, r, c, sym t.2)
    (records_read f.records 0 s.records_fit) refl (calls_read f.calls (length R) (length f.records) s.enough_records)

-- what an answer tells of the bytes
abbrev pub Told : List ℕ → Result Contents ℕ → Type 0
Told bs (Ok f) = Sound f × (bs ≡ written f)
Told bs (Err place) = FirstOffender bs place

outer_told : (bs : List ℕ) (place : ℕ) → outer_fault bs ≡ Some place → FirstOffender bs place
outer_told bs place e = by (ltb (length bs) 12) (ltb 65536 (length bs)) (ltb 256 (setting_of bs).words) (ltb (trailer_place bs) (first_call bs)) refl refl refl refl e
  where
    by : (p q r s : Bool) → ltb (length bs) 12 ≡ p → ltb 65536 (length bs) ≡ q → ltb 256 (setting_of bs).words ≡ r → ltb (trailer_place bs) (first_call bs) ≡ s
        → cond p (Some 0) (cond q (Some 65536) (cond (r || s) (Some (trailer_place bs)) None)) ≡ Some place → FirstOffender bs place
    by true q r s a b c d e = too_short (ltb-true _ _ a) (cc)
    by false true r s a b c d e = too_long (ltb-true _ _ b) (cc)
    by false false true s a b c d e = in_trailer (ltb-false _ _ a) (ltb-false _ _ b) (inl (ltb-true _ _ c)) (cc)
    by false false false true a b c d e = in_trailer (ltb-false _ _ a) (ltb-false _ _ b) (inr (ltb-true _ _ d)) (cc)
    by false false false false a b c d e = let z : ◌≡◌ {A = ℕ} 0 1 = cc in absurd (omega arith)

-- the bytes are their records part, their calls part and what stands at the trailer's place
in_three : (bs : List ℕ) → first_call bs ≤ trailer_place bs → bs ≡ records_part bs ++ (calls_part bs ++ drop (trailer_place bs) bs)
in_three bs h =
    let c = first_call bs in
    let t = trailer_place bs in
    let d : drop (t - c) (drop c bs) ≡ drop t bs = drop-drop (t - c) c bs ∙ ap (λ (n : ℕ). drop n bs) (omega arith) in
    sym (take-append-drop c bs)
    ∙ ap (λ (xs : List ℕ). take c bs ++ xs) (sym (take-append-drop (t - c) (drop c bs)) ∙ ap (λ (xs : List ℕ). take (t - c) (drop c bs) ++ xs) d)

-- where records and calls are sound, so are the contents, and the bytes are theirs
sound_told : (bs : List ℕ) (rs : List Recorded) (cs : List Call) → Each Byte bs → SoundTrailer bs
    → RecordsTold 0 (records_part bs) (Ok rs) → CallsTold (length (records_part bs)) (length rs) (calls_part bs) (Ok cs)
    → Told bs (Ok (record { records = rs; calls = cs; setting = setting_of bs }))
sound_told bs rs cs e h r c =
    let t = trailer_written bs h.0 e in
    let l : first_call bs ≡ length (records_bytes rs) = omega (arith, length-take (first_call bs) bs, ap length r.1, h.3) in
    let w : bs ≡ records_bytes rs ++ (calls_bytes cs ++ trailer_bytes (length (records_bytes rs)) (setting_of bs))
    = in_three bs h.3 ∙ ap (λ (xs : List ℕ). xs ++ (calls_part bs ++ drop (trailer_place bs) bs)) r.1
    ∙ ap (λ (xs : List ℕ). records_bytes rs ++ (xs ++ drop (trailer_place bs) bs)) c.1
    ∙ ap (λ (xs : List ℕ). records_bytes rs ++ (calls_bytes cs ++ xs)) t.6
    ∙ ap (λ (n : ℕ). records_bytes rs ++ (calls_bytes cs ++ trailer_bytes n (setting_of bs))) l in (
      record { records_fit = r.0; cores_fit = c.0; setting_fits = (h.2, t.2, t.3, t.4, t.5); enough_records = c.2; not_too_long = omega (arith, ap length w, h.1) },
      w,
    )

pub told : (bs : List ℕ) → Each Byte bs → Told bs (reading bs)
told bs e = by (outer_fault bs) refl
  where
    calls : SoundTrailer bs → (rs : List Recorded) → RecordsTold 0 (records_part bs) (Ok rs)
        → (x : Result (List Call) ℕ) → CallsTold (length (records_part bs)) (length rs) (calls_part bs) x → Told bs (with_calls rs (setting_of bs) x)
    calls h rs r (Ok cs) t = sound_told bs rs cs e h r t
    calls h rs r (Err p) t =
        in_calls h rs r.0 r.1 t.0 t.1 t.3 t.2 t.4 (omega (arith, t.5, length-take (first_call bs) bs, h.3))

    records : SoundTrailer bs → (x : Result (List Recorded) ℕ) → RecordsTold 0 (records_part bs) x
        → Told bs (with_records x (setting_of bs) (length (records_part bs)) (calls_part bs))
    records h (Ok rs) r = calls h rs r (calls_in (length (records_part bs)) (length rs) (calls_part bs)) (calls_told (length (records_part bs)) (length rs) (calls_part bs) (each_take Byte (trailer_place bs - first_call bs) (drop (first_call bs) bs) (each_drop Byte (first_call bs) bs e)))
    records h (Err p) r = in_records h r.0 r.1 r.2 r.3 r.4 (omega (arith, r.5))

    by : (o : Option ℕ) → outer_fault bs ≡ o → Told bs (reading bs)
    by (Some place) o = rw (reading_outer bs place o) (outer_told bs place o)
    by None o = rw (reading_parts bs (records_part bs) (calls_part bs) (setting_of bs) (o, refl, refl, refl)) (records (no_outer_fault bs o) (records_in (length (records_part bs)) 0 (records_part bs)) (records_told (length (records_part bs)) 0 (records_part bs) (omega arith) (each_take Byte (first_call bs) bs e)))

-- The laws, of the program's answer.

fault_first : (bs : List ℕ) (f : Fault) → Each Byte bs → FaultIs f (reading bs) → FaultFirst bs f
fault_first bs (At place) e a = subst (Told bs) a (told bs e)
fault_first bs Memory e a = tt

pub read_or_first : (bs : List ℕ) (r : Result RunFile Fault) → Each Byte bs → Answers contents r (reading bs) → ReadOrFirst bs r
read_or_first bs (Ok f) e a = subst (Told bs) a (told bs e)
read_or_first bs (Err f) e a = fault_first bs f e a

pub answer_back : (bs : List ℕ) (r : Result RunFile Fault) → Answers contents r (reading bs) → ReadsBack bs r
answer_back bs r a f s e = subst (Answers contents r) (ap reading e ∙ reads_back f s) a
