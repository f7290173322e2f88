use Rattle.std.proofs.Common.{◌<◌, ◌≤◌, length, refl, arith}
use Rattle.machine.specs.View.{view}
use Rattle.machine.proofs.Closed.{plain_none, plain_more, shut_comes}
use Rattle.machine.proofs.machine.Machine.shut.Goals as goal

pub loop-i-init : goal.loop-i-init
loop-i-init g c = (refl, plain_none (view g.B.Bank.words c.args.self.now))

pub loop-i-preserved : goal.loop-i-preserved
loop-i-preserved g c =
    let h : c.loop-i.i < length (g.B.Bank.words c.args.self.now.bank) = omega arith in
    plain_more (view g.B.Bank.words c.args.self.now) (view g.B.Bank.words c.loop-i.self) (view g.B.Bank.words c.store_shown.new.self) c.loop-i.i c.loop-i.invariant.0 c.loop-i.invariant.1 h c.store_shown.ensures

pub returns : goal.returns
returns g c =
    let h : length (g.B.Bank.words c.args.self.now.bank) ≤ c.loop-i.i = omega arith in
    shut_comes (view g.B.Bank.words c.args.self.now) (view g.B.Bank.words c.loop-i.self) _ c.loop-i.i c.loop-i.invariant.1 h refl c.closed_table-self.ensures
