use Rattle.std.specs.Prelude.{ℕ, List, map, length, Ok, Err, Result, slice_index}
use Rattle.std.specs.List.{range_with_len}
use Rattle.word.specs.declared.Word.{Word}
use Rattle.word.specs.declared.Word.TheVariants as word
use Rattle.word.specs.Word.{reading_of, raw_of}
use Rattle.descriptor.specs.declared.Overtaken.{Overtaken}
use Rattle.descriptor.specs.declared.contents.Operation.{Operation}
use Rattle.descriptor.specs.declared.contents.Placing.{Placing}
use Rattle.descriptor.specs.Contents.{entries_of, value_among}
use Rattle.model.specs.World.{World, operation_at, placing_at}

-- The shown value of a word. A plain word shows its value; under a placing mark it is that descriptor's expected value; under an operation
-- mark it is the entry's new value if the operation succeeded, and otherwise its expected value. (Where no run comes, it is 0.)

abbrev pub shown_by_placing : Result Placing Overtaken → ℕ
shown_by_placing (Ok p) = p.expected
shown_by_placing (Err e) = 0

abbrev pub shown_by_operation : Result Operation Overtaken → ℕ → ℕ
shown_by_operation (Ok o) i = value_among o.state (entries_of o.list) i
shown_by_operation (Err e) i = 0

abbrev pub shown_word : World → ℕ → Word → ℕ
shown_word w i (word.Plain v) = v
shown_word w i (word.Placing m) = shown_by_placing (placing_at w m)
shown_word w i (word.Operation m) = shown_by_operation (operation_at w m) i
shown_word w i (word.Foreign n) = 0

abbrev pub shown_value : World → ℕ → ℕ
shown_value w i = shown_word w i (reading_of (slice_index w.words i))

-- the words that a close leaves: each word's shown value as a plain value
abbrev pub plain_words : World → List ℕ
plain_words w = map (λ i. raw_of (word.Plain (shown_value w i))) (range_with_len 0 (length w.words))
