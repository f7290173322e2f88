use Rattle.std.proofs.Common.{◌≡◌, ℕ, ◌+◌, ◌-◌, ◌≤◌, List, map, length, drop, Some, None, Ok, Err, Option, Result, IsErrAnd, sym, subst, ap, ◌∙◌, arith, length-take}
use Rattle.std.proofs.lemmas.Bool.Decides.{nat_tests}
use Rattle.std.proofs.lemmas.List.{length-map}
use Rattle.std.specs.Option.{option_map}
use Rattle.runfile.specs.declared.file.Call.{Call}
use Rattle.runfile.specs.declared.file.Record.{Record}
use Rattle.runfile.specs.declared.file.Setting.{Setting}
use Rattle.runfile.specs.declared.file.Fault.{Fault}
use Rattle.runfile.specs.declared.file.Fault.TheVariants.{At, Memory}
use Rattle.runfile.specs.Format.{Recorded}
use Rattle.runfile.specs.Reading.{outer_fault, first_call, trailer_place, records_part, calls_part, setting_of, records_in, calls_in, with_calls, with_records, joined, unless, reading, recorded, Answers, FaultIs}

-- what a `?` answers where a part is at fault
pub handed_on : {X Y : Type 0} (view : X → Y) (r : Result X Fault) (s : Result Y ℕ) (f : Fault) → IsErrAnd r (λ g. g ≡ f) → FaultIs f s → Answers view r s
handed_on view (Ok x) s f e h = absurd e
handed_on view (Err g) s f e h = subst (λ (x : Fault). FaultIs x s) (sym e) h

-- neither the length nor the trailer is at fault, and these are the parts
abbrev pub InParts : List ℕ → List ℕ → List ℕ → Setting → Type 0
InParts bs records calls s =
    (outer_fault bs ≡ None) × (records ≡ records_part bs) × (calls ≡ calls_part bs) × (s ≡ setting_of bs)

pub reading_parts : (bs records calls : List ℕ) (s : Setting) → InParts bs records calls s → reading bs ≡ joined records calls s
unfolding reading
reading_parts bs records calls s p =
    ap (λ o. unless o (joined (records_part bs) (calls_part bs) (setting_of bs))) p.0 ∙ rw (p.1, p.2, p.3)

pub reading_outer : (bs : List ℕ) (place : ℕ) → outer_fault bs ≡ Some place → reading bs ≡ Err place
unfolding reading
reading_outer bs place e = ap (λ o. unless o (joined (records_part bs) (calls_part bs) (setting_of bs))) e

-- where the length and the trailer are sound, the parts lie before the trailer
pub no_outer_fault : (bs : List ℕ) → outer_fault bs ≡ None
    → (12 ≤ length bs) × (length bs ≤ 65536) × ((setting_of bs).words ≤ 256) × (first_call bs ≤ trailer_place bs)
no_outer_fault bs e = (grind (arith, nat_tests), grind (arith, nat_tests), grind (arith, nat_tests), grind (arith, nat_tests))

pub parts_fit : (bs records calls : List ℕ) (s : Setting) → InParts bs records calls s → length records + length calls ≤ 65536
parts_fit bs records calls s p =
    let h = no_outer_fault bs p.0 in
    let r = ap length p.1 ∙ length-take (first_call bs) bs in
    let k = ap length p.2 ∙ length-take (trailer_place bs - first_call bs) (drop (first_call bs) bs) in
    omega arith

pub outer_broken : (bs : List ℕ) (f : Fault) → option_map At (outer_fault bs) ≡ Some f → FaultIs f (reading bs)
unfolding reading
outer_broken bs f e = by (outer_fault bs) f e
  where
    by : (o : Option ℕ) (f : Fault) → option_map At o ≡ Some f → FaultIs f (unless o (joined (records_part bs) (calls_part bs) (setting_of bs)))
    by None f e = let z : ◌≡◌ {A = ℕ} 0 1 = cc in absurd (omega arith)
    by (Some place) (At p) e = let q : place ≡ p = cc in ap Err q
    by (Some place) Memory e = tt

pub records_part_broken : (bs records calls : List ℕ) (s : Setting) (f : Fault) → InParts bs records calls s
    → FaultIs f (records_in (length records) 0 records) → FaultIs f (reading bs)
records_part_broken bs records calls s (At place) p e =
    reading_parts bs records calls s p ∙ ap (λ r. with_records r s (length records) calls) e
records_part_broken bs records calls s Memory p e = tt

-- the records are sound, so what is read hangs on the calls
pub reading_calls : (bs records calls : List ℕ) (s : Setting) (rs : List Recorded) (n : ℕ) → InParts bs records calls s
    → records_in (length records) 0 records ≡ Ok rs → n ≡ length rs
    → reading bs ≡ with_calls rs s (calls_in (length records) n calls)
reading_calls bs records calls s rs n p e l =
    reading_parts bs records calls s p ∙ ap (λ r. with_records r s (length records) calls) e
    ∙ ap (λ (k : ℕ). with_calls rs s (calls_in (length records) k calls)) (sym l)

pub calls_part_broken : (bs records calls : List ℕ) (s : Setting) (rs : List Recorded) (n : ℕ) (f : Fault) → InParts bs records calls s
    → records_in (length records) 0 records ≡ Ok rs → n ≡ length rs → FaultIs f (calls_in (length records) n calls) → FaultIs f (reading bs)
calls_part_broken bs records calls s rs n (At place) p e l k = reading_calls bs records calls s rs n p e l ∙ ap (with_calls rs s) k
calls_part_broken bs records calls s rs n Memory p e l k = tt

pub all_sound : (bs records calls : List ℕ) (s : Setting) (rs : List Recorded) (n : ℕ) (cs : List Call) → InParts bs records calls s
    → records_in (length records) 0 records ≡ Ok rs → n ≡ length rs → calls_in (length records) n calls ≡ Ok cs
    → reading bs ≡ Ok (record { records = rs; calls = cs; setting = s })
all_sound bs records calls s rs n cs p e l k = reading_calls bs records calls s rs n p e l ∙ ap (with_calls rs s) k

-- the records are as many as the program's values
pub recorded_count : (n : ℕ) (rs : List Record) → n ≡ length rs → n ≡ length (map recorded rs)
recorded_count n rs e = e ∙ sym (length-map rs recorded)
