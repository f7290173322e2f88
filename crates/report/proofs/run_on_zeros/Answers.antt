use Rattle.std.proofs.Common.{replicate}
use Rattle.machine.proofs.RunPromises.{run_promises}
use Rattle.report.proofs.Told.{wanted}
use Rattle.report.proofs.run_on_zeros.Goals as goal

pub returns-in_err-zeros-clause-ran : goal.returns-in_err-zeros-clause-ran
returns-in_err-zeros-clause-ran c = wanted c.args.words c.args.setting c.args.requests.now c.from_residual.result c.from_residual.ensures

pub returns-in_err-zeros-clause-promises : goal.returns-in_err-zeros-clause-promises
returns-in_err-zeros-clause-promises c = run_promises (replicate c.args.words 0) c.args.setting c.args.requests.now

pub returns-clause-promises : goal.returns-clause-promises
returns-clause-promises c = run_promises (replicate c.args.words 0) c.args.setting c.args.requests.now
