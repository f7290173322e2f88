use Rattle.std.proofs.Common.{Result, subst, vec_items, arith}
use Rattle.cores.specs.declared.table.Refusal.{Refusal}
use Rattle.machine.specs.Runs.{Played}
use Rattle.machine.proofs.Played.{left_length}
use Rattle.machine.proofs.run.run_into.Goals as goal

pub read_all-requires-clause-room : goal.read_all-requires-clause-room
read_all-requires-clause-room g c =
    let words = g.B.Bank.words in
    let p = subst (λ (x : Result (Unit {0}) Refusal). Played (words c.args.bank) c.args.setting c.args.requests.now x (vec_items c.play-bank.new.answers) (words c.play-bank.result.0)) c.in-Ok.is c.play-bank.ensures.played in
    let left = left_length (words c.args.bank) (words c.play-bank.result.0) c.args.setting c.args.requests.now p.0 p.2 in
    let room = c.requires.3 in
    omega arith
