use Rattle.std.specs.Prelude.{◌≡◌, true, List, [], ◌∷◌, ◌++◌, replicate, Ok, refl}
use Rattle.word.specs.declared.Mark.{Mark}
use Rattle.entries.specs.declared.list.Entries.{Entries}
use Rattle.entries.specs.Lists.{each, zero_entry}
use Rattle.descriptor.specs.declared.contents.Placing.{Placing}
use Rattle.cores.specs.declared.place.Then.{Then}
use Rattle.cores.specs.declared.place.Settling.TheVariants as settling
use Rattle.cores.specs.declared.place.Place.TheVariants.{Settle}
use Rattle.model.specs.World.{World, core_at}
use Rattle.model.specs.Calls.{Call, starts, reads, steps, collects, raws}
use Rattle.model.specs.Perform.{opened, shut}
use Rattle.model.specs.Histories.{after_calls, answers_of}

-- The case of the late helper. Words are 0 and 9, and core 0's list is 0 to 1 on both. After its 10th step, core 2 turns word 1 from 9 to 0.
-- Core 1, reading word 0, takes 10 steps, which end with an undecided state read for word 1. Core 0 finishes on its 20th step with 2; word 1 is
-- raw 0, and core 1's due swap stores nothing.

unfoldable pub both_words : Entries
unfolding each
both_words =
    record { entries = record { word = 0; expected = 0; new = 1 } ∷ (record { word = 1; expected = 0; new = 1 } ∷ replicate 6 zero_entry); count = 2; fit = refl }

unfoldable pub word_one : Entries
unfolding each
word_one = record { entries = record { word = 1; expected = 9; new = 0 } ∷ replicate 7 zero_entry; count = 1; fit = refl }

abbrev pub at_first : World
at_first = opened (shut (0 ∷ (36 ∷ []))) (record { cores = 3; first = 1; protected = 0; rights = 0 })

-- core 0 up to its 10th step, core 2 whole, core 1 up to its 10th step
abbrev pub first_part : List Call
first_part =
    starts 0 both_words ∷ (replicate 10 (steps 0) ++ (starts 2 word_one ∷ (replicate 11 (steps 2) ++ (collects 2 ∷ (reads 1 0 ∷ replicate 10 (steps 1))))))

-- core 0 up to its 20th step, its answer, word 1, core 1's swap, word 1
abbrev pub second_part : List Call
second_part = replicate 10 (steps 0) ++ (collects 0 ∷ (raws 1 ∷ (steps 1 ∷ (raws 1 ∷ []))))

pub record LateHelper : Type 0 where
  -- core 1 stands before the swap of its own mark, made for core 0's operation, with the state read undecided
  pub undecided_read : (m : Mark) × (p : Placing) × (k : Then) × ((core_at (after_calls at_first first_part) 1).place ≡ Settle m (settling.Swap p true) k) × (p.word ≡ 1) × (p.operation ≡ record { core = 0; number = 1 })
  pub answers_before : answers_of at_first first_part ≡ Ok 1 ∷ (replicate 10 (Ok 0) ++ (Ok 1 ∷ (replicate 10 (Ok 0) ++ (Ok 1 ∷ (Ok 0 ∷ (Ok 1 ∷ replicate 10 (Ok 0)))))))
  pub answers_after : answers_of (after_calls at_first first_part) second_part ≡ replicate 9 (Ok 0) ++ (Ok 1 ∷ (Ok 2 ∷ (Ok 0 ∷ (Ok 0 ∷ (Ok 0 ∷ [])))))
