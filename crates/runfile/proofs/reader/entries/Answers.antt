use Rattle.runfile.proofs.Numbers.{gathered_none, gathered_more}
use Rattle.runfile.proofs.reader.entries.Goals as goal

pub loop-init : goal.loop-init
loop-init c = gathered_none c.args.bytes.now _ c.new-list.ensures.items

pub loop-preserved : goal.loop-preserved
loop-preserved c =
    gathered_more _ _ _ _ _ _ _ c.loop.invariant c.in-Some.ensures c.in_ok-push.ensures.items
