use Rattle.std.specs.Prelude.{◌≡◌, ℕ, ◌+◌, ◌-◌, ◌<◌, ◌≤◌, ◌⊎◌, List, [], ◌∷◌, ◌++◌, length, Ok, Err, Result, ◌≢◌}
use Rattle.runfile.specs.declared.file.Action.{Action}
use Rattle.runfile.specs.declared.file.Call.{Call}
use Rattle.runfile.specs.declared.file.RunFile.{RunFile}
use Rattle.runfile.specs.declared.file.Fault.{Fault}
use Rattle.runfile.specs.declared.file.Fault.TheVariants.{At, Memory}
use Rattle.runfile.specs.Format.{Recorded, Contents, Each, RecordFits, Sound, records_bytes, calls_bytes, letter, used, written}
use Rattle.runfile.specs.Reading.{record_size, trailer_place, first_call, setting_of, records_part, calls_part, contents, Answers}

-- The laws of reading, in the words of the format.

-- no record stands at the front of what is left: its first byte is above 8, or it is cut short
abbrev pub NoRecord : List ℕ → Type 0
NoRecord [] = ⊥
NoRecord (n ∷ bs) = (8 < n) ⊎ (length (n ∷ bs) < record_size n)

-- no call stands at the front of what is left: it is cut short, its letter is unknown, or it is a b with no record left
abbrev pub NoCall : ℕ → List ℕ → Type 0
NoCall left [] = ⊥
NoCall left (b ∷ []) = Unit {0}
NoCall left (b ∷ (core ∷ bs)) = ((a : Action) → b ≢ letter a) ⊎ ((b ≡ 98) × (left ≡ 0))

-- the length and the trailer are sound
abbrev pub SoundTrailer : List ℕ → Type 0
SoundTrailer bs =
    (12 ≤ length bs) × (length bs ≤ 65536) × ((setting_of bs).words ≤ 256) × (first_call bs ≤ trailer_place bs)

-- The place of the first offender: everything that is sought before it is sound.
pub data FirstOffender (bs : List ℕ) (place : ℕ) : Type 0 where
  too_short : length bs < 12 → place ≡ 0 → FirstOffender bs place
  too_long : 65536 < length bs → place ≡ 65536 → FirstOffender bs place
  in_trailer : 12 ≤ length bs → length bs ≤ 65536 → (256 < (setting_of bs).words) ⊎ (trailer_place bs < first_call bs) → place ≡ trailer_place bs → FirstOffender bs place
  in_records : SoundTrailer bs → (rs : List Recorded) (rest : List ℕ) → Each RecordFits rs → records_part bs ≡ records_bytes rs ++ rest → NoRecord rest → place ≡ length (records_bytes rs) → FirstOffender bs place
  in_calls : SoundTrailer bs → (rs : List Recorded) → Each RecordFits rs → records_part bs ≡ records_bytes rs → (cs : List Call) (rest : List ℕ) → used cs ≤ length rs → calls_part bs ≡ calls_bytes cs ++ rest → NoCall (length rs - used cs) rest → place ≡ first_call bs + length (calls_bytes cs) → FirstOffender bs place

-- what is read is what was written, and a fault is at the first offender
abbrev pub FaultFirst : List ℕ → Fault → Type 0
FaultFirst bs (At place) = FirstOffender bs place
FaultFirst bs Memory = Unit {0}

abbrev pub ReadOrFirst : List ℕ → Result RunFile Fault → Type 0
ReadOrFirst bs (Ok f) = Sound (contents f) × (bs ≡ written (contents f))
ReadOrFirst bs (Err f) = FaultFirst bs f

-- whatever sound contents were written are read back
abbrev pub ReadsBack : List ℕ → Result RunFile Fault → Type 0
ReadsBack bs r = (f : Contents) → Sound f → bs ≡ written f → Answers contents r (Ok f)
