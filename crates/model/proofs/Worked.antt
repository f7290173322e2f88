use Rattle.model.specs.Worked.{WorkedPoints}
use Rattle.model.proofs.LateHelper.{late_helper}
use Rattle.model.proofs.LonePoints.{matching, differing, second_make_used_up, refused_start}
use Rattle.model.proofs.LoneRead.{start_after_read}
use Rattle.model.proofs.PlainPoints.{raw_words, lists}

-- The worked points, together.
pub worked_points : WorkedPoints
worked_points =
    record {
      raw_words = raw_words;
      lists = lists;
      matching = matching;
      differing = differing;
      second_make = second_make_used_up;
      start_after_read = start_after_read;
      refused_start = refused_start;
      late_helper = late_helper;
    }
