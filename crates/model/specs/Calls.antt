use Rattle.std.specs.Prelude.{ℕ, List, [], ◌∷◌, map, Some, None, Option}
use Rattle.entries.specs.declared.Entry.{Entry}
use Rattle.entries.specs.declared.list.Entries.{Entries}
use Rattle.entries.specs.Listed.{listed}
use Rattle.cores.specs.declared.table.Setting.{Setting}

-- The calls of a machine, but for close, which ends a run.
pub data Call : Type 0 where
  -- start core k with a lawful list
  starts : ℕ → Entries → Call
  -- start core k with a read of a word
  reads : ℕ → ℕ → Call
  steps : ℕ → Call
  collects : ℕ → Call
  halts : ℕ → Call
  -- look at a word: its shown value, its raw word
  shows : ℕ → Call
  raws : ℕ → Call
  opens : Setting → Call

-- the core that a call names
abbrev pub core_of : Call → Option ℕ
core_of (starts k l) = Some k
core_of (reads k i) = Some k
core_of (steps k) = Some k
core_of (collects k) = Some k
core_of (halts k) = Some k
core_of (shows i) = None
core_of (raws i) = None
core_of (opens s) = None

-- the words that a call names
abbrev pub words_of : Call → List ℕ
words_of (starts k l) = map (λ (e : Entry). e.word) (listed l)
words_of (reads k i) = i ∷ []
words_of (steps k) = []
words_of (collects k) = []
words_of (halts k) = []
words_of (shows i) = i ∷ []
words_of (raws i) = i ∷ []
words_of (opens s) = []

-- the core that a call is to start
abbrev pub started_core : Call → Option ℕ
started_core (starts k l) = Some k
started_core (reads k i) = Some k
started_core (steps k) = None
started_core (collects k) = None
started_core (halts k) = None
started_core (shows i) = None
started_core (raws i) = None
started_core (opens s) = None

-- what an opening is given
abbrev pub setting_of : Call → Option Setting
setting_of (opens s) = Some s
setting_of (starts k l) = None
setting_of (reads k i) = None
setting_of (steps k) = None
setting_of (collects k) = None
setting_of (halts k) = None
setting_of (shows i) = None
setting_of (raws i) = None

-- the core that a call steps, and the one that it collects from
abbrev pub stepped_core : Call → Option ℕ
stepped_core (steps k) = Some k
stepped_core (starts k l) = None
stepped_core (reads k i) = None
stepped_core (collects k) = None
stepped_core (halts k) = None
stepped_core (shows i) = None
stepped_core (raws i) = None
stepped_core (opens s) = None

abbrev pub collected_core : Call → Option ℕ
collected_core (collects k) = Some k
collected_core (starts k l) = None
collected_core (reads k i) = None
collected_core (steps k) = None
collected_core (halts k) = None
collected_core (shows i) = None
collected_core (raws i) = None
collected_core (opens s) = None
