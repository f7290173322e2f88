use Rattle.runfile.specs.Reading.{contents}
use Rattle.report.proofs.Told.{wanted_run, run_made, asked_of}
use Rattle.report.proofs.run_of.Goals as goal

pub returns-in_err-lists : goal.returns-in_err-lists
returns-in_err-lists c = wanted_run (contents c.args.file.now) c.from_residual.result c.from_residual.ensures

pub returns-in_err-requests : goal.returns-in_err-requests
returns-in_err-requests c = wanted_run (contents c.args.file.now) c.from_residual-in_err-requests.result c.from_residual-in_err-requests.ensures

pub returns : goal.returns
returns c =
    run_made (contents c.args.file.now) c.machine_setting-setting.result c.as_slice-3.result.now c.run_on_zeros.result c.machine_setting-setting.ensures
    (asked_of c.as_slice-3.result.now _ c.as_slice.result.now _ _ _ _ _ c.as_slice-3.ensures.value c.as_slice.ensures.value c.as_slice-records.ensures.value c.as_slice-2.ensures.value c.in_ok-lists.ensures c.in_ok-requests.ensures) c.run_on_zeros.ensures.ran
