use Rattle.std.specs.Prelude.{ℕ, cond, List, length, take, Some, None, Ok, Err, Decides, Option, Result, nat_lt}
use Rattle.entries.specs.declared.Entry.{Entry}
use Rattle.entries.specs.declared.Unlawful.{Unlawful}
use Rattle.entries.specs.declared.list.Entries.{Entries}
use Rattle.entries.specs.Lists.{entry_at, lawful, Lawful}

-- the entries of a list: the first of its array, as many as it counts
abbrev pub listed : Entries → List Entry
listed e = take e.count e.entries

-- the entry at i of a list, if it has that many
abbrev pub entry_of : Entries → ℕ → Option Entry
entry_of e i = cond (nat_lt i (length (listed e))) (Some (entry_at (listed e) i)) None

-- what filling a list with these entries answers
abbrev pub filling : List Entry → Result (Unit {0}) Unlawful
filling es = cond (lawful es) (Ok tt) (Err (record {}))

-- The test by index passes exactly the lawful lists, of any length.
abbrev pub TestIsLaw : Type 0
TestIsLaw = (es : List Entry) → Decides (lawful es) (Lawful es)

-- Every list that can be had is lawful.
abbrev pub AlwaysLawful : Type 0
AlwaysLawful = (e : Entries) → Lawful (listed e)
