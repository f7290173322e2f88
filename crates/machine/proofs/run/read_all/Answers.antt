use Rattle.std.proofs.Common.{vec_items, arith, rules}
use Rattle.machine.proofs.Reported.{read_more}
use Rattle.machine.proofs.run.read_all.Goals as goal

pub loop-at-preserved : goal.loop-at-preserved
loop-at-preserved g c =
    let grown = c.push.ensures.capacity in
    let room = c.loop-at.invariant.room in
    record {
      read = read_more (g.B.Bank.words c.args.bank.now) (vec_items c.loop-at.values) (vec_items c.push.new.self) c.loop-at.at c.value.result c.loop-at.invariant.read (omega arith) c.value.ensures (search rules);
      room = omega arith;
    }
