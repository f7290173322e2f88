use Rattle.model.specs.Points.{RawWords, Lists, Matching, Differing, SecondMakeUsedUp, StartAfterReadUsedUp, RefusedStartTakesNoNumber}
use Rattle.model.specs.Scenario.{LateHelper}

-- The worked points, together.
pub record WorkedPoints : Type 0 where
  pub raw_words : RawWords
  pub lists : Lists
  pub matching : Matching
  pub differing : Differing
  pub second_make : SecondMakeUsedUp
  pub start_after_read : StartAfterReadUsedUp
  pub refused_start : RefusedStartTakesNoNumber
  pub late_helper : LateHelper
