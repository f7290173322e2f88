use Rattle.std.proofs.Common.{vec_items}
use Rattle.runfile.proofs.Numbers.{Gathered}
use Rattle.runfile.proofs.reader.entries.Given as goal

abbrev pub invariant-loop : goal.invariant-loop
invariant-loop l = Gathered l.counter l.bytes (vec_items l.list) l.rest
