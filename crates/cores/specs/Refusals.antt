use Rattle.std.specs.Prelude.{ℕ, Some, None, Ok, Err, Option, Result}
use Rattle.cores.specs.declared.table.Refusal.{Refusal}
use Rattle.cores.specs.declared.table.Refusal.TheVariants.{Closed, Open, Setting as BadSetting, Tagged, NoCore, Halted, Busy, AtRest, List as BadList, NoWord, NoRight, UsedUp, NoAnswer, File}

-- why something is refused, by what a test of it answers
abbrev pub refusal_in : {X : Type 0} → Result X Refusal → Option Refusal
refusal_in (Ok x) = None
refusal_in (Err q) = Some q

-- each refusal's number
abbrev pub number_of : Refusal → ℕ
number_of Closed = 1
number_of Open = 2
number_of BadSetting = 3
number_of (Tagged i) = 4
number_of NoCore = 5
number_of Halted = 6
number_of Busy = 7
number_of AtRest = 8
number_of BadList = 9
number_of NoWord = 10
number_of NoRight = 11
number_of UsedUp = 12
number_of NoAnswer = 13
number_of (File place) = 14
