use Rattle.std.specs.Prelude.{ℕ, ◌+◌, ◌/◌, ◌%◌, ◌^◌, Bool, true, false, cond, not, ◌&&◌, ◌||◌, List, [], ◌∷◌, length, is_some, Some, None, Option, ◌==◌, nat_le, nat_lt}
use Rattle.word.specs.declared.Word.{Word}
use Rattle.word.specs.declared.Word.TheVariants as word
use Rattle.word.specs.Word.{reading_of}
use Rattle.descriptor.specs.Descriptors.{last_number}
use Rattle.cores.specs.Cores.{is_idle, is_finished, is_making}
use Rattle.cores.specs.declared.table.Setting.{Setting}
use Rattle.cores.specs.declared.table.Refusal.{Refusal}
use Rattle.cores.specs.declared.table.Refusal.TheVariants.{Closed, Open, Setting as BadSetting, Tagged, NoCore, Halted, Busy, AtRest, NoWord, NoRight, UsedUp, NoAnswer}
use Rattle.model.specs.World.{World, core_at}
use Rattle.model.specs.Calls.{Call, core_of, words_of, started_core, stepped_core, collected_core, setting_of}

-- The refusals, as a table that is tested from the top.

-- whether a word is a plain value
abbrev pub is_plain : Word → Bool
is_plain (word.Plain v) = true
is_plain (word.Placing m) = false
is_plain (word.Operation m) = false
is_plain (word.Foreign n) = false

-- the number of the first word that is not plain, counted from i
unfoldable pub first_tagged : ℕ → List ℕ → Option ℕ
first_tagged i [] = None
first_tagged i (n ∷ ns) = cond (is_plain (reading_of n)) (first_tagged (i + 1) ns) (Some i)

-- whether the test passes at some element, and whether it passes at something that is there
unfoldable pub some_of : {X : Type 0} → (X → Bool) → List X → Bool
some_of p [] = false
some_of p (x ∷ xs) = p x || some_of p xs

abbrev pub if_there : {X : Type 0} → Option X → (X → Bool) → Bool
if_there (Some x) p = p x
if_there None p = false

-- whether a setting may be opened on a bank of this size
abbrev pub setting_fits : ℕ → Setting → Bool
setting_fits size s =
    (nat_le 1 s.cores && nat_le s.cores 8) && (nat_le 1 s.first && nat_le s.first last_number)
    && (nat_le 1 size && nat_le size 256) && (nat_le s.protected size && s.rights / 2 ^ s.cores == 0)

-- whether core k has the right to protected words
abbrev pub has_right : World → ℕ → Bool
has_right w k = w.table.rights / 2 ^ k % 2 == 1

-- the refusal of an opening for a word that is not plain
abbrev pub tagged_at : Option ℕ → Refusal
tagged_at (Some i) = Tagged i
tagged_at None = Tagged 0

-- a row of the table: a test, and the refusal where it passes
pub record Row : Type 0 where
  pub test : Bool
  pub refusal : Refusal

-- The table for one call.
abbrev pub table_for : World → Call → List Row
table_for w c =
    record { test = not w.table.running && not (is_some (setting_of c)); refusal = Closed }
    ∷ (record { test = w.table.running && is_some (setting_of c); refusal = Open }
    ∷ (record { test = if_there (setting_of c) (λ s. not (setting_fits (length w.words) s)); refusal = BadSetting }
    ∷ (record { test = is_some (setting_of c) && is_some (first_tagged 0 w.words); refusal = tagged_at (first_tagged 0 w.words) }
    ∷ (record { test = if_there (core_of c) (λ k. nat_le w.table.count k || nat_le 8 k); refusal = NoCore }
    ∷ (record { test = if_there (core_of c) (λ k. (core_at w k).halted); refusal = Halted }
    ∷ (record { test = if_there (started_core c) (λ k. not (is_idle (core_at w k).place)); refusal = Busy }
    ∷ (record { test = if_there (stepped_core c) (λ k. is_idle (core_at w k).place || is_finished (core_at w k).place); refusal = AtRest }
    ∷ (record { test = some_of (λ i. nat_le (length w.words) i) (words_of c); refusal = NoWord }
    ∷ (record { test = if_there (started_core c) (λ k. not (has_right w k) && some_of (λ i. nat_lt i w.table.protected) (words_of c)); refusal = NoRight }
    ∷ (record { test = if_there (started_core c) (λ k. nat_le last_number (core_at w k).operation.last) || if_there (stepped_core c) (λ k. is_making (core_at w k).place && nat_le last_number (core_at w k).placing.last); refusal = UsedUp }
    ∷ (record { test = if_there (collected_core c) (λ k. not (is_finished (core_at w k).place)); refusal = NoAnswer }
    ∷ [])))))))))))

-- the first row whose test passes
unfoldable pub first_match : List Row → Option Refusal
first_match [] = None
first_match (r ∷ rs) = cond r.test (Some r.refusal) (first_match rs)

abbrev pub refusal_of : World → Call → Option Refusal
refusal_of w c = first_match (table_for w c)
