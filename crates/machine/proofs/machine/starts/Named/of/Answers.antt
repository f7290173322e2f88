use Rattle.std.proofs.Common.{ℕ, ltb, leb, rules}
use Rattle.entries.specs.Listed.{listed}
use Rattle.model.specs.Refusals.{some_of}
use Rattle.machine.proofs.Named.{some_word}
use Rattle.machine.proofs.machine.starts.Named.of.Goals as goal

pub returns-in-List : goal.returns-in-List
unfolding some_of
returns-in-List c =
    let missing = some_word (leb c.args.size) (listed c.in-List.list.now) in
    let protected = some_word (λ (i : ℕ). ltb i c.args.protected) (listed c.in-List.list.now) in
    search (rules, missing, protected)

pub returns-in-Read : goal.returns-in-Read
unfolding some_of
returns-in-Read c = search rules
