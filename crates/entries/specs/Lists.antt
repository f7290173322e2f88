use Rattle.std.specs.Prelude.{ℕ, zero, suc, ◌-◌, ◌^◌, ◌<◌, ◌≤◌, Bool, true, ◌&&◌, ◌||◌, List, length, take, ◌==◌, nat_le, nat_lt, slice_index_or}
use Rattle.entries.specs.declared.Entry.{Entry}

-- the entry of a new list: word 0, where 0 is expected and stored
abbrev pub zero_entry : Entry
zero_entry = record { word = 0; expected = 0; new = 0 }

-- the entry at i
abbrev pub entry_at : List Entry → ℕ → Entry
entry_at es i = slice_index_or es i zero_entry

-- A lawful list has 1 to 8 entries, whose values are below 2^61 and whose words are strictly ascending.
pub record Lawful (es : List Entry) : Type 0 where
  pub some : 1 ≤ length es
  pub few : length es ≤ 8
  pub expected_fits : (i : ℕ) → i < length es → (entry_at es i).expected < 2 ^ 61
  pub new_fits : (i : ℕ) → i < length es → (entry_at es i).new < 2 ^ 61
  pub ascending : (i j : ℕ) → i < j → j < length es → (entry_at es i).word < (entry_at es j).word

-- whether the test passes at each number below n
unfoldable pub each : (ℕ → Bool) → ℕ → Bool
each p zero = true
each p (suc n) = p n && each p n

-- whether the entry at i may stand there: its values fit, and its word is above that of the entry before it
abbrev pub may_stand : List Entry → ℕ → Bool
may_stand es i = nat_lt (entry_at es i).expected (2 ^ 61) && nat_lt (entry_at es i).new (2 ^ 61) && (i == 0 || nat_lt (entry_at es (i - 1)).word (entry_at es i).word)

-- whether the list is lawful, entry by entry
abbrev pub lawful : List Entry → Bool
lawful es = nat_le 1 (length es) && nat_le (length es) 8 && each (may_stand es) (length es)

-- whether the first count of these eight entries are a lawful list
abbrev pub holds : List Entry → ℕ → Bool
holds es count = length es == 8 && nat_le count 8 && lawful (take count es)
