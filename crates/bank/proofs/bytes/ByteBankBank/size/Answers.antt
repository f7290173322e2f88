use Rattle.bank.proofs.ByteLaws.{length_byte_words}
use Rattle.bank.proofs.bytes.ByteBankBank.size.Goals as goal
use Rattle.std.proofs.Common.{rules}

pub returns : goal.returns
returns c = search (rules, length_byte_words)
