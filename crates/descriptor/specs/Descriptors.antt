use Rattle.std.specs.Prelude.{ℕ, ◌+◌, ◌-◌, cond, Ok, Err, Result, ◌==◌, nat_lt}
use Rattle.std.specs.Borrow.{Bor}
use Rattle.descriptor.specs.declared.Descriptor.{Descriptor}
use Rattle.descriptor.specs.declared.UsedUp.{UsedUp}
use Rattle.descriptor.specs.declared.Overtaken.{Overtaken}

-- the last number that a creation can take, 2^47 - 1
abbrev pub last_number : ℕ
last_number = 140737488355327

-- nothing is created yet, and the first creation takes the number first
abbrev pub fresh : {T : Type 0} → ℕ → T → Descriptor T
fresh first x = record { last = first - 1; contents = x }

-- what a creation answers: the next number, or that all are taken
abbrev pub creation : {T : Type 0} → Descriptor T → Result ℕ UsedUp
creation d = cond (nat_lt d.last last_number) (Ok (d.last + 1)) (Err (record {}))

-- what a creation leaves: the contents put in under the next number, or nothing changed
abbrev pub created : {T : Type 0} → Descriptor T → T → Descriptor T
created d x = cond (nat_lt d.last last_number) (record { last = d.last + 1; contents = x }) d

-- what a read through the number n answers
abbrev pub reading : {T : Type 0} → Descriptor T → ℕ → Result T Overtaken
reading d n = cond (n == d.last) (Ok d.contents) (Err (record {}))

-- a read's answer with the contents themselves for the reference to them
abbrev pub seen : {T : Type 0} → Result (Bor T) Overtaken → Result T Overtaken
seen (Ok x) = Ok x.now
seen (Err e) = Err e

-- what a change through the number n answers
abbrev pub change_answer : {T : Type 0} → Descriptor T → ℕ → Result (Unit {0}) Overtaken
change_answer d n = cond (n == d.last) (Ok tt) (Err (record {}))

-- what a change f through the number n leaves
abbrev pub changed : {T : Type 0} → (T → T) → Descriptor T → ℕ → Descriptor T
changed f d n = record { last = d.last; contents = cond (n == d.last) (f d.contents) d.contents }
