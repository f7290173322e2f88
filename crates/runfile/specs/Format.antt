use Rattle.std.specs.Prelude.{ℕ, zero, suc, ◌+◌, ◌/◌, ◌%◌, ◌^◌, ◌<◌, ◌≤◌, List, [], ◌∷◌, ◌++◌, length}
use Rattle.entries.specs.declared.Entry.{Entry}
use Rattle.runfile.specs.declared.file.Action.{Action}
use Rattle.runfile.specs.declared.file.Action.TheVariants.{Start, Step, Collect, Halt}
use Rattle.runfile.specs.declared.file.Call.{Call}
use Rattle.runfile.specs.declared.file.Setting.{Setting}

-- The run file as it is written: the records, the calls, the trailer.

-- an operation record: a read of a word, or a list of entries
pub data Recorded : Type 0 where
  a_read : ℕ → Recorded
  a_list : List Entry → Recorded

-- what a run file holds
pub record Contents : Type 0 where
  pub records : List Recorded
  pub calls : List Call
  pub setting : Setting

-- a number in k bytes, the most significant first
unfoldable pub in_bytes : ℕ → ℕ → List ℕ
in_bytes zero v = []
in_bytes (suc k) v = v / 256 ^ k % 256 ∷ in_bytes k v

-- an entry is its word in 2 bytes, then its expected and its new value in 8 bytes each
abbrev pub entry_bytes : Entry → List ℕ
entry_bytes e = in_bytes 2 e.word ++ (in_bytes 8 e.expected ++ in_bytes 8 e.new)

unfoldable pub entries_bytes : List Entry → List ℕ
entries_bytes [] = []
entries_bytes (e ∷ es) = entry_bytes e ++ entries_bytes es

-- a read is a 0 and its word in 2 bytes; a list is the count of its entries, then these
abbrev pub record_bytes : Recorded → List ℕ
record_bytes (a_read w) = 0 ∷ in_bytes 2 w
record_bytes (a_list es) = length es ∷ entries_bytes es

unfoldable pub records_bytes : List Recorded → List ℕ
records_bytes [] = []
records_bytes (r ∷ rs) = record_bytes r ++ records_bytes rs

-- the letters b, s, c and h
abbrev pub letter : Action → ℕ
letter Start = 98
letter Step = 115
letter Collect = 99
letter Halt = 104

-- a call is its letter and its core
unfoldable pub calls_bytes : List Call → List ℕ
calls_bytes [] = []
calls_bytes (c ∷ cs) = letter c.action ∷ (c.core ∷ calls_bytes cs)

-- the trailer: the place of the first call in 2 bytes, words in 2, cores in 1, right bits in 1, protected count in 2, first number in 4
abbrev pub trailer_bytes : ℕ → Setting → List ℕ
trailer_bytes first_call s =
    in_bytes 2 first_call ++ (in_bytes 2 s.words ++ (in_bytes 1 s.cores
    ++ (in_bytes 1 s.rights ++ (in_bytes 2 s.protected ++ in_bytes 4 s.first))))

-- the whole file
abbrev pub written : Contents → List ℕ
written f =
    records_bytes f.records ++ (calls_bytes f.calls ++ trailer_bytes (length (records_bytes f.records)) f.setting)

-- Which contents can be written.

-- a start uses up a record
abbrev pub used_by : Action → ℕ
used_by Start = 1
used_by Step = 0
used_by Collect = 0
used_by Halt = 0

unfoldable pub used : List Call → ℕ
used [] = 0
used (c ∷ cs) = used_by c.action + used cs

abbrev pub Byte : ℕ → Type 0
Byte b = b < 256

-- the fact holds of each element
unfoldable pub Each : {X : Type 0} → (X → Type 0) → List X → Type 0
Each P [] = Unit {0}
Each P (x ∷ xs) = P x × Each P xs

abbrev pub EntryFits : Entry → Type 0
EntryFits e = (e.word < 2 ^ 16) × (e.expected < 2 ^ 64) × (e.new < 2 ^ 64)

abbrev pub RecordFits : Recorded → Type 0
RecordFits (a_read w) = w < 2 ^ 16
RecordFits (a_list es) = (1 ≤ length es) × (length es ≤ 8) × Each EntryFits es

abbrev pub SettingFits : Setting → Type 0
SettingFits s =
    (s.words ≤ 256) × Byte s.cores × Byte s.rights × (s.protected < 2 ^ 16) × (s.first < 2 ^ 32)

pub record Sound (f : Contents) : Type 0 where
  pub records_fit : Each RecordFits f.records
  pub cores_fit : Each (λ (c : Call). Byte c.core) f.calls
  pub setting_fits : SettingFits f.setting
  pub enough_records : used f.calls ≤ length f.records
  pub not_too_long : length (written f) ≤ 65536
