use Rattle.std.proofs.Common.{rules}
use Rattle.machine.proofs.Tagged.{tagged_more, tagged_here, tagged_none}
use Rattle.machine.proofs.machine.opening.first_tagged.Goals as goal

pub returns-then-not-holds_plain : goal.returns-then-not-holds_plain
returns-then-not-holds_plain g c = search (rules, tagged_here)

pub loop-i-preserved : goal.loop-i-preserved
loop-i-preserved g c = search (rules, tagged_more)

pub returns : goal.returns
returns g c = search (rules, tagged_none)
