use Rattle.std.proofs.Common.{leb, rules, tests}
use Rattle.std.proofs.lemmas.Iterator.{YieldsList-from_slice}
use Rattle.std.proofs.lemmas.Iterator.Search.{any_from_yields_List}
use Rattle.entries.specs.declared.Entry.{Entry}
use Rattle.machine.proofs.machine.starts.Named.of_entries.Goals as goal

pub returns-clause-missing : goal.returns-clause-missing
returns-clause-missing c = any_from_yields_List (λ (e : Entry). leb c.args.size e.word) _ _ c.any.result c.any.ensures.ran (YieldsList-from_slice c.args.entries.now cc) (λ x b q k. search (rules, tests))
