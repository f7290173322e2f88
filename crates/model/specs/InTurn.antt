use Rattle.std.specs.Prelude.{◌≡◌, ℕ, ◌<◌, List, [], ◌∷◌, ◌++◌, length, replicate, refl}
use Rattle.word.specs.Word.{reading_of}
use Rattle.entries.specs.declared.list.Entries.{Entries}
use Rattle.entries.specs.Lists.{each, zero_entry}
use Rattle.model.specs.Calls.{Call, starts, reads, steps, collects}
use Rattle.model.specs.Refusals.{first_match, some_of, first_tagged}
use Rattle.model.specs.Histories.{History}
use Rattle.model.specs.Plain.{nth}
use Rattle.model.specs.Promises.{SomeOrderExplains}

-- One core runs three operations in turn on a word that is 0: a k-CAS from 0 to 5, one from 5 to 7, and a read.

unfoldable pub zero_to_five : Entries
unfolding each
zero_to_five = record { entries = record { word = 0; expected = 0; new = 5 } ∷ replicate 7 zero_entry; count = 1; fit = refl }

unfoldable pub five_to_seven : Entries
unfolding each
five_to_seven = record { entries = record { word = 0; expected = 5; new = 7 } ∷ replicate 7 zero_entry; count = 1; fit = refl }

-- calls 0 to 12, 13 to 25, 26 and 27
abbrev pub calls_in_turn : List Call
calls_in_turn =
    starts 0 zero_to_five ∷ (replicate 11 (steps 0) ++ (collects 0 ∷ (starts 0 five_to_seven ∷ (replicate 11 (steps 0) ++ (collects 0 ∷ (reads 0 0 ∷ (steps 0 ∷ [])))))))

unfoldable pub in_turn : History
unfolding first_match some_of first_tagged reading_of
in_turn = record { words = 0 ∷ []; setting = record { cores = 1; first = 1; protected = 0; rights = 0 }; granted = refl; calls = calls_in_turn }

-- Whatever order explains that run has the three in it, in their turn.
abbrev pub OrderIsTold : Type 0
OrderIsTold =
    (o : SomeOrderExplains in_turn) → (a b c : ℕ) × (a < b) × (b < c) × (c < length o.order)
    × ((nth o.order a).start_of ≡ 0) × ((nth o.order b).start_of ≡ 13) × ((nth o.order c).start_of ≡ 26)
