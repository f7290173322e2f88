use Rattle.entries.proofs.Law.{decides_lawful, listed_lawful}
use Rattle.entries.proofs.list.methods.law_stands.Goals as goal

pub returns : goal.returns
returns c = record { test = decides_lawful; lists = listed_lawful }
