use Rattle.std.specs.Prelude.{◌≡◌, ℕ, zero, suc, ◌+◌, ◌-◌, ◌*◌, ◌^◌, Bool, false, if◌then◌else◌, ◌&&◌, ◌||◌, List, [], ◌∷◌, map, length, take, drop, Some, None, Ok, Err, vec_items, Option, Result, MatchResult, ◌==◌, nat_le, nat_lt, slice_index, ◌++◌, codes, decimal}
use Rattle.std.specs.Option.{unwrap_or}
use Rattle.entries.specs.declared.Entry.{Entry}
use Rattle.runfile.specs.declared.file.Action.{Action}
use Rattle.runfile.specs.declared.file.Action.TheVariants.{Start, Step, Collect, Halt}
use Rattle.runfile.specs.declared.file.UnknownLetter.{UnknownLetter}
use Rattle.runfile.specs.declared.file.Call.{Call}
use Rattle.runfile.specs.declared.file.Setting.{Setting}
use Rattle.runfile.specs.declared.file.Record.{Record}
use Rattle.runfile.specs.declared.file.Record.TheVariants.{Read, List as Listed}
use Rattle.runfile.specs.declared.file.RunFile.{RunFile}
use Rattle.runfile.specs.declared.file.Fault.{Fault}
use Rattle.runfile.specs.declared.file.Fault.TheVariants.{At, Memory}
use Rattle.runfile.specs.Format.{Recorded, a_read, a_list, Contents, used_by}

-- What reading a run file answers: its contents, or the place of the first offender.

-- the number in the k bytes from a place on, the most significant first
unfoldable pub number_at : ℕ → ℕ → List ℕ → ℕ
number_at place zero bs = 0
number_at place (suc k) bs = slice_index bs place * 256 ^ k + number_at (place + 1) k bs

-- one element and those after it, unless there is a fault among these
abbrev pub after : {X : Type 0} → X → Result (List X) ℕ → Result (List X) ℕ
after x (Ok xs) = Ok (x ∷ xs)
after x (Err place) = Err place

-- Records.

abbrev pub entry_at : List ℕ → Entry
entry_at bs = record { word = number_at 0 2 bs; expected = number_at 2 8 bs; new = number_at 10 8 bs }

unfoldable pub entries_at : ℕ → List ℕ → List Entry
entries_at zero bs = []
entries_at (suc n) bs = entry_at bs ∷ entries_at n (drop 18 bs)

-- how many bytes a record has, by its first
abbrev pub record_size : ℕ → ℕ
record_size n = if n == 0 then 3 else (1 + 18 * n)

-- whether a whole record stands at the front: neither cut short nor above 8
abbrev pub has_record : List ℕ → Bool
has_record bs = nat_le (slice_index bs 0) 8 && nat_le (record_size (slice_index bs 0)) (length bs)

-- the record at the front, where there is one
abbrev pub record_at : List ℕ → Recorded
record_at bs =
    if slice_index bs 0 == 0 then a_read (number_at 1 2 bs)
    else a_list (entries_at (slice_index bs 0) (drop 1 bs))

-- the records in bytes whose first stands at a place; the fuel is at least the count of bytes
unfoldable pub records_in : ℕ → ℕ → List ℕ → Result (List Recorded) ℕ
records_in zero place bs = Ok []
records_in (suc fuel) place [] = Ok []
records_in (suc fuel) place (n ∷ bs) =
    if has_record (n ∷ bs) then after (record_at (n ∷ bs)) (records_in fuel (place + record_size n) (drop (record_size n) (n ∷ bs)))
    else Err place

-- Calls.

abbrev pub action_of : ℕ → Option Action
action_of b =
    if b == 98 then Some Start else (if b == 115 then Some Step else (if b == 99 then Some Collect else (if b == 104 then Some Halt else None)))

-- the result is the action that the letter stands for, or the letter where it stands for none
abbrev pub Decodes : ℕ → Result Action UnknownLetter → Type 0
Decodes b r = MatchResult r (λ a. action_of b ≡ Some a) (λ e. (e.0 ≡ b) × (action_of b ≡ None))

-- an unknown letter is no call, nor is one that uses up more records than are left
abbrev pub may_call : ℕ → Option Action → Bool
may_call left None = false
may_call left (Some a) = nat_le (used_by a) left

-- whether a whole call stands at the front, where so many records are left
abbrev pub has_call : ℕ → List ℕ → Bool
has_call left bs = nat_le 2 (length bs) && may_call left (action_of (slice_index bs 0))

-- the call at the front, where there is one
abbrev pub call_at : List ℕ → Call
call_at bs = record { action = unwrap_or (action_of (slice_index bs 0)) Start; core = slice_index bs 1 }

-- the calls in bytes whose first stands at a place, where so many records are left
unfoldable pub calls_in : ℕ → ℕ → List ℕ → Result (List Call) ℕ
calls_in place left [] = Ok []
calls_in place left (b ∷ []) = Err place
calls_in place left (b ∷ (core ∷ bs)) =
    if has_call left (b ∷ (core ∷ bs))
    then after (call_at (b ∷ (core ∷ bs))) (calls_in (place + 2) (left - used_by (call_at (b ∷ (core ∷ bs))).action) bs)
    else Err place

-- The trailer and the whole.

abbrev pub trailer_place : List ℕ → ℕ
trailer_place bs = length bs - 12

abbrev pub first_call : List ℕ → ℕ
first_call bs = number_at (trailer_place bs) 2 bs

abbrev pub setting_at : ℕ → List ℕ → Setting
setting_at place bs =
    record { words = number_at (place + 2) 2 bs; cores = number_at (place + 4) 1 bs; rights = number_at (place + 5) 1 bs; protected = number_at (place + 6) 2 bs; first = number_at (place + 8) 4 bs }

abbrev pub setting_of : List ℕ → Setting
setting_of bs = setting_at (trailer_place bs) bs

abbrev pub records_part : List ℕ → List ℕ
records_part bs = take (first_call bs) bs

abbrev pub calls_part : List ℕ → List ℕ
calls_part bs = take (trailer_place bs - first_call bs) (drop (first_call bs) bs)

abbrev pub with_calls : List Recorded → Setting → Result (List Call) ℕ → Result Contents ℕ
with_calls rs s (Ok cs) = Ok (record { records = rs; calls = cs; setting = s })
with_calls rs s (Err place) = Err place

abbrev pub with_records : Result (List Recorded) ℕ → Setting → ℕ → List ℕ → Result Contents ℕ
with_records (Ok rs) s place calls = with_calls rs s (calls_in place (length rs) calls)
with_records (Err fault) s place calls = Err fault

-- what the records part, the calls part and the setting come to
abbrev pub joined : List ℕ → List ℕ → Setting → Result Contents ℕ
joined records calls s = with_records (records_in (length records) 0 records) s (length records) calls

-- the fault of the length or of the trailer
abbrev pub outer_fault : List ℕ → Option ℕ
outer_fault bs =
    if nat_lt (length bs) 12 then Some 0
    else (if nat_lt 65536 (length bs) then Some 65536
    else (if nat_lt 256 (setting_of bs).words || nat_lt (trailer_place bs) (first_call bs) then Some (trailer_place bs) else None))

abbrev pub unless : Option ℕ → Result Contents ℕ → Result Contents ℕ
unless (Some place) inner = Err place
unless None inner = inner

-- what the bytes of a file come to: its contents, or the place of its first fault
unfoldable pub reading : List ℕ → Result Contents ℕ
reading bs = unless (outer_fault bs) (joined (records_part bs) (calls_part bs) (setting_of bs))

-- What the program's values hold.

abbrev pub recorded : Record → Recorded
recorded (Read w) = a_read w
recorded (Listed es) = a_list (vec_items es)

abbrev pub contents : RunFile → Contents
contents f = record { records = map recorded (vec_items f.records); calls = vec_items f.calls; setting = f.setting }

-- a fault is f and its place, and want of memory is told in words
abbrev pub fault_text : Fault → List ℕ
fault_text (At place) = codes "f " ++ decimal place
fault_text Memory = codes "no memory for the run file"

-- the program's answer is the one defined, unless it found no memory
abbrev pub FaultIs : {Y : Type 0} → Fault → Result Y ℕ → Type 0
FaultIs (At place) s = s ≡ Err place
FaultIs Memory s = Unit {0}

abbrev pub Answers : {X Y : Type 0} → (X → Y) → Result X Fault → Result Y ℕ → Type 0
Answers view (Ok x) s = s ≡ Ok (view x)
Answers view (Err f) s = FaultIs f s

-- a fault at this place, for this reason, or want of memory
abbrev pub FaultAt : Fault → ℕ → Type 0 → Type 0
FaultAt (At p) place Reason = (p ≡ place) × Reason
FaultAt Memory place Reason = Unit {0}
