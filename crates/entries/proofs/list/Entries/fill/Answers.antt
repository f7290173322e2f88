use Rattle.std.proofs.Common.{rules}
use Rattle.std.proofs.lemmas.Bool.Decides.{Decides-at}
use Rattle.entries.proofs.Law.{decides_lawful}
use Rattle.entries.proofs.list.Entries.fill.Goals as goal

pub returns-then-not-is_lawful-clause-law : goal.returns-then-not-is_lawful-clause-law
returns-then-not-is_lawful-clause-law c = search (rules, decides_lawful, Decides-at)

pub returns-clause-law : goal.returns-clause-law
returns-clause-law c = search (rules, decides_lawful, Decides-at)
