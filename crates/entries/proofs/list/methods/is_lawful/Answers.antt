use Rattle.std.proofs.Common.{◌≡◌, ◌<◌, true, false, length, sym, arith, rules}
use Rattle.std.proofs.lemmas.Bool.{and_right}
use Rattle.entries.specs.Lists.{may_stand}
use Rattle.entries.proofs.Each.{each_none, each_more, each_false}
use Rattle.entries.proofs.list.methods.is_lawful.Goals as goal

pub loop-i-init : goal.loop-i-init
loop-i-init c = each_none _

pub returns-then-not-fits : goal.returns-then-not-fits
returns-then-not-fits c =
    let h : c.loop-i.i < length c.args.entries.now = omega arith in
    let k : may_stand c.args.entries.now c.loop-i.i ≡ false = search rules in
    sym (and_right _ _ (each_false _ _ _ h k))

pub loop-i-preserved : goal.loop-i-preserved
loop-i-preserved c =
    let k : may_stand c.args.entries.now c.loop-i.i ≡ true = search rules in
    each_more _ _ c.loop-i.invariant k
