use Rattle.std.proofs.Common.{refl}
use Rattle.entries.specs.Lists.{each}
use Rattle.word.specs.Word.{reading_of}
use Rattle.model.specs.Refusals.{first_match, some_of, first_tagged}
use Rattle.model.specs.Perform.{perform}
use Rattle.model.specs.Histories.{after_calls, answers_of}
use Rattle.descriptor.specs.Contents.{value_among}
use Rattle.model.specs.Scenario.{both_words, word_one, LateHelper}

-- The whole run is of known words and lists, so it computes.
pub late_helper : LateHelper
unfolding perform first_match some_of first_tagged answers_of after_calls reading_of value_among each both_words word_one
late_helper = record { undecided_read = (_, _, _, refl, refl, refl); answers_before = refl; answers_after = refl }
