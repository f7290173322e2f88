use Rattle.std.specs.Prelude.{◌≡◌, ℕ, ◌+◌, ◌*◌, ◌^◌, ◌<◌, ◌≤◌, true, List, [], ◌∷◌, ◌++◌, length, replicate, Some, None, Ok, Err, slice_index}
use Rattle.word.specs.declared.Word.TheVariants.{Plain, Operation}
use Rattle.word.specs.Word.{raw_of}
use Rattle.entries.specs.declared.Entry.{Entry}
use Rattle.entries.specs.declared.list.Entries.{Entries}
use Rattle.entries.specs.Lists.{entry_at}
use Rattle.entries.specs.Listed.{listed, filling}
use Rattle.descriptor.specs.Descriptors.{last_number}
use Rattle.cores.specs.declared.table.Setting.{Setting}
use Rattle.cores.specs.declared.table.Refusal.TheVariants.{Tagged, NoRight, UsedUp}
use Rattle.cores.specs.Refusals.{number_of}
use Rattle.model.specs.World.{World}
use Rattle.model.specs.Calls.{starts, reads, steps, collects, opens}
use Rattle.model.specs.Refusals.{refusal_of, setting_fits}
use Rattle.model.specs.Perform.{perform, opened, shut}
use Rattle.model.specs.Histories.{answers_of}

-- Worked points: what the definitions come to in cases that can be told by hand.

-- Value 7 is raw 28; the operation mark of core 3, number 5, is raw 327,694; raw 3 at word 0 refuses opening with 4 and place 0.
pub record RawWords : Type 0 where
  pub value : raw_of (Plain 7) ≡ 28
  pub mark : raw_of (Operation (record { core = 3; number = 5 })) ≡ 327694
  pub tagged : (ws : List ℕ) (s : Setting) → setting_fits (length (3 ∷ ws)) s ≡ true → (perform (shut (3 ∷ ws)) (opens s)).answer ≡ Err (Tagged 0)
  pub numbered : number_of (Tagged 0) ≡ 4

-- 0 and 9 entries give 9, as do words 2, 2; 8 ascending entries pass.
pub record Lists : Type 0 where
  pub none : filling [] ≡ Err (record {})
  pub nine : (es : List Entry) → length es ≡ 9 → filling es ≡ Err (record {})
  pub equal_words : (a b : Entry) → a.word ≡ 2 → b.word ≡ 2 → filling (a ∷ (b ∷ [])) ≡ Err (record {})
  pub eight : (es : List Entry) → length es ≡ 8 → ((i : ℕ) → i < 8 → ((entry_at es i).expected < 2 ^ 61) × ((entry_at es i).new < 2 ^ 61)) → ((i : ℕ) → i + 1 < 8 → (entry_at es i).word < (entry_at es (i + 1)).word) → filling es ≡ Ok tt

-- A newly opened machine on which a start of this list is accepted, with numbers left for each of its entries.
pub record Alone (ws : List ℕ) (s : Setting) (k : ℕ) (l : Entries) : Type 0 where
  pub opens_well : refusal_of (shut ws) (opens s) ≡ None
  pub starts_well : refusal_of (opened (shut ws) s) (starts k l) ≡ None
  pub numbers_left : s.first + length (listed l) ≤ last_number + 1

-- the world after the start
abbrev pub after_start : List ℕ → Setting → ℕ → Entries → World
after_start ws s k l = (perform (opened (shut ws) s) (starts k l)).world

-- entry i's word holds its expected value
abbrev pub Matches : List ℕ → Entries → ℕ → Type 0
Matches ws l i = slice_index ws (entry_at (listed l) i).word ≡ raw_of (Plain (entry_at (listed l) i).expected)

-- Alone, n matching entries finish on granted step 2 + 9 * n and answer 0; the steps before that answer "working".
abbrev pub Matching : Type 0
Matching = (ws : List ℕ) (s : Setting) (k : ℕ) (l : Entries) → Alone ws s k l → ((i : ℕ) → i < length (listed l) → Matches ws l i)
    → answers_of (after_start ws s k l) (replicate (2 + 9 * length (listed l)) (steps k) ++ (collects k ∷ []))
    ≡ replicate (1 + 9 * length (listed l)) (Ok 0) ++ (Ok 1 ∷ (Ok 0 ∷ []))

-- Alone, entry 2 of 2 differing finishes on step 17 and answers 2.
abbrev pub Differing : Type 0
Differing = (ws : List ℕ) (s : Setting) (k : ℕ) (l : Entries) → Alone ws s k l → length (listed l) ≡ 2 → Matches ws l 0 → (Matches ws l 1 → ⊥)
    → answers_of (after_start ws s k l) (replicate 17 (steps k) ++ (collects k ∷ [])) ≡ replicate 16 (Ok 0) ++ (Ok 1 ∷ (Ok 2 ∷ []))

-- With the first number 2^47 - 1 a list of two is started, but its second Make refuses with 12.
abbrev pub SecondMakeUsedUp : Type 0
SecondMakeUsedUp = (ws : List ℕ) (s : Setting) (k : ℕ) (l : Entries) → s.first ≡ last_number
    → refusal_of (shut ws) (opens s) ≡ None → refusal_of (opened (shut ws) s) (starts k l) ≡ None → length (listed l) ≡ 2 → Matches ws l 0
    → ((perform (opened (shut ws) s) (starts k l)).answer ≡ Ok last_number)
    × (answers_of (after_start ws s k l) (replicate 9 (steps k)) ≡ replicate 8 (Ok 0) ++ (Err UsedUp ∷ []))

-- With that first number the next start after a collected read refuses with 12.
abbrev pub StartAfterReadUsedUp : Type 0
StartAfterReadUsedUp = (ws : List ℕ) (s : Setting) (k i : ℕ) (l : Entries) → s.first ≡ last_number
    → refusal_of (shut ws) (opens s) ≡ None → refusal_of (opened (shut ws) s) (reads k i) ≡ None → refusal_of (opened (shut ws) s) (starts k l) ≡ None
    → (v : ℕ) → slice_index ws i ≡ raw_of (Plain v) → v < 2 ^ 61
    → answers_of (opened (shut ws) s) (reads k i ∷ (steps k ∷ (collects k ∷ (starts k l ∷ [])))) ≡ Ok last_number ∷ (Ok 1 ∷ (Ok v ∷ (Err UsedUp ∷ [])))

-- A start refused with 11 leaves the next accepted start its number.
abbrev pub RefusedStartTakesNoNumber : Type 0
RefusedStartTakesNoNumber = (ws : List ℕ) (s : Setting) (k : ℕ) (l l' : Entries) → refusal_of (shut ws) (opens s) ≡ None
    → refusal_of (opened (shut ws) s) (starts k l) ≡ Some NoRight → refusal_of (opened (shut ws) s) (starts k l') ≡ None
    → answers_of (opened (shut ws) s) (starts k l ∷ (starts k l' ∷ [])) ≡ Err NoRight ∷ (Ok s.first ∷ [])
