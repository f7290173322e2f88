use Rattle.std.proofs.Common.{[], ◌∷◌, map, vec_items, ap, ◌∙◌, rules}
use Rattle.std.proofs.lemmas.List.{map-append}
use Rattle.runfile.specs.Reading.{recorded}
use Rattle.runfile.proofs.Records.{records_again, records_end, records_broken}
use Rattle.runfile.proofs.Whole.{handed_on}
use Rattle.runfile.proofs.reader.records.Goals as goal

pub returns-in_err-next : goal.returns-in_err-next
returns-in_err-next c =
    handed_on _ _ _ _ c.from_residual.ensures.1 (records_broken _ _ _ _ c.loop-rest.invariant (search rules) c.in_err-next.ensures)

pub loop-rest-preserved : goal.loop-rest-preserved
loop-rest-preserved c =
    records_again _ _ _ _ _ _ c.loop-rest.invariant (search rules) c.in_ok-next.ensures (ap (map recorded) c.in_ok-push.ensures.items ∙ map-append recorded (vec_items c.loop-rest.all) (c.in_ok-next.next ∷ []))

pub returns : goal.returns
returns c = records_end _ _ _ c.loop-rest.invariant (search rules)
