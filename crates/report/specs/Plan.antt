use Rattle.std.specs.Prelude.{◌≡◌, ℕ, true, false, List, [], ◌∷◌, ◌++◌, map, Some, None, Option}
use Rattle.std.specs.Borrow.{Bor}
use Rattle.std.specs.List.{AllZip}
use Rattle.std.specs.Slice.Iter.{iter_rest}
use Rattle.std.specs.Option.{option_map}
use Rattle.entries.specs.declared.Entry.{Entry}
use Rattle.entries.specs.declared.list.Entries.{Entries}
use Rattle.entries.specs.Listed.{listed}
use Rattle.entries.specs.Lists.{lawful}
use Rattle.machine.specs.declared.run.Request.{Request}
use Rattle.machine.specs.declared.run.Request.TheVariants as request
use Rattle.runfile.specs.declared.file.Action.{Action}
use Rattle.runfile.specs.declared.file.Action.TheVariants as action
use Rattle.runfile.specs.declared.file.Call.{Call}
use Rattle.runfile.specs.Format.{Recorded, a_read, a_list}
use Rattle.runfile.specs.Reading.{recorded}
use Rattle.report.specs.declared.plan.Left.{Left}

-- A run file's records and calls, as the requests of a run.

-- the list that is made of some entries, or none where they are no lawful list
abbrev pub Makes : Option Entries → List Entry → Type 0
Makes (Some l) es = (lawful es ≡ true) × (listed l ≡ es)
Makes None es = lawful es ≡ false

-- the entries of the records that are lists, in order
unfoldable pub lists_in : List Recorded → List (List Entry)
lists_in [] = []
lists_in (a_read w ∷ rs) = lists_in rs
lists_in (a_list es ∷ rs) = es ∷ lists_in rs

-- the lists before and after a record
abbrev pub Added : Recorded → List (Option Entries) → List (Option Entries) → Type 0
Added (a_read w) before after = after ≡ before
Added (a_list es) before after = (l : Option Entries) × Makes l es × (after ≡ before ++ (l ∷ []))

-- These records are left, and of those that are lists the lists that their entries make.
abbrev pub Leaves : Left → List Recorded → Type 0
Leaves l rs = (map recorded (iter_rest l.records) ≡ rs) × AllZip Makes (iter_rest l.lists) (lists_in rs)

-- The request of a call, where these records are left. A start takes the next record: a read of its word, or the list that its entries make. One that
-- finds no record has no list.
abbrev pub IsStart : Request → ℕ → List Recorded → Type 0
IsStart q k [] = q ≡ request.Start k None
IsStart q k (a_read w ∷ rs) = q ≡ request.Read k w
IsStart q k (a_list es ∷ rs) = (l : Option (Bor Entries)) × (q ≡ request.Start k l) × Makes (option_map (λ b. b.now) l) es

abbrev pub IsAsked : Request → ℕ → List Recorded → Action → Type 0
IsAsked q k rs action.Start = IsStart q k rs
IsAsked q k rs action.Step = q ≡ request.Step k
IsAsked q k rs action.Collect = q ≡ request.Collect k
IsAsked q k rs action.Halt = q ≡ request.Halt k

-- the records that are left after a call
abbrev pub rest_of : List Recorded → List Recorded
rest_of [] = []
rest_of (r ∷ rs) = rs

abbrev pub next_record : List Recorded → Action → List Recorded
next_record rs action.Start = rest_of rs
next_record rs action.Step = rs
next_record rs action.Collect = rs
next_record rs action.Halt = rs

-- The requests are those of the calls, in order.
abbrev pub AsksAll : List Request → List Recorded → List Call → Type 0
AsksAll [] rs [] = Unit {0}
AsksAll [] rs (c ∷ cs) = ⊥
AsksAll (q ∷ qs) rs [] = ⊥
AsksAll (q ∷ qs) rs (c ∷ cs) = IsAsked q c.core rs c.action × AsksAll qs (next_record rs c.action) cs
