use Rattle.std.proofs.Common.{map, length, vec_items}
use Rattle.runfile.specs.Reading.{recorded}
use Rattle.runfile.proofs.Records.{RecordsSoFar}
use Rattle.runfile.proofs.reader.records.Given as goal

abbrev pub invariant-loop-rest : goal.invariant-loop-rest
invariant-loop-rest l = RecordsSoFar l.part (map recorded (vec_items l.all)) l.rest

abbrev pub decreases-loop-rest : goal.decreases-loop-rest
decreases-loop-rest l = length l.rest
