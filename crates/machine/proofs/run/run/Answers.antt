use Rattle.machine.proofs.RunPromises.{run_promises}
use Rattle.machine.proofs.run.run.Goals as goal

pub returns-in-Ok-clause-promises : goal.returns-in-Ok-clause-promises
returns-in-Ok-clause-promises g c = run_promises (g.B.Bank.words c.args.bank) c.args.setting c.args.requests.now

pub returns-in-Err-clause-promises : goal.returns-in-Err-clause-promises
returns-in-Err-clause-promises g c = run_promises (g.B.Bank.words c.args.bank) c.args.setting c.args.requests.now
