use Rattle.runfile.proofs.Numbers.{number_8, entry_made}
use Rattle.runfile.proofs.reader.entry.Goals as goal
use Rattle.std.proofs.Common.{◌∙◌}

pub returns : goal.returns
returns c =
    entry_made _ _ _ _ _ _ _ _ _ _ c.in_ok-word.ensures.cases c.in_ok-expected.ensures.cases c.in_ok-new.ensures.cases
    (c.from.ensures ∙ c.from_be_bytes.ensures) (number_8 _ _ c.from_be_bytes-2.ensures) (number_8 _ _ c.from_be_bytes-3.ensures)
