use Rattle.std.proofs.Common.{List, Ok, vec_items, ap, ◌∙◌}
use Rattle.runfile.specs.declared.file.Call.{Call}
use Rattle.runfile.specs.Reading.{contents}
use Rattle.listing.specs.Listing.{listing}
use Rattle.report.specs.Text.{Lists}
use Rattle.report.proofs.Told.{made_so, told_run}
use Rattle.report.proofs.run_text.Goals as goal

pub returns-in-Ok : goal.returns-in-Ok
returns-in-Ok c =
    let f = contents c.args.file.now in
    made_so c.granted_text.result _ (λ t. Lists f (vec_items t)) c.granted_text.ensures
    (λ t e. told_run f c.in-Ok.report (vec_items t) c.in-Ok.ensures (e ∙ ap (λ (cs : List Call). listing (Ok tt) cs (vec_items c.in-Ok.report.answers) (vec_items c.in-Ok.report.words)) c.as_slice.ensures.value))
