use Rattle.std.proofs.Common.{arith, rules, ltb-false}
use Rattle.std.proofs.lemmas.Slice.{between_to_end}
use Rattle.runfile.proofs.Records.{front_read, front_list}
use Rattle.runfile.proofs.reader.record.Goals as goal

pub returns-in-0 : goal.returns-in-0
returns-in-0 c =
    front_read c.args.bytes.now _ _ (omega (arith, ltb-false)) (search rules) c.from_be_bytes.ensures (between_to_end c.args.bytes.now 3 _ (omega (arith, ltb-false)))

pub returns-in_ok-list-in-1-to-8 : goal.returns-in_ok-list-in-1-to-8
returns-in_ok-list-in-1-to-8 c =
    front_list c.args.bytes.now _ _ _ (search rules) (search rules) (search rules) (between_to_end c.args.bytes.now 1 _ (search rules)) c.in_ok-list-in-1-to-8.ensures
