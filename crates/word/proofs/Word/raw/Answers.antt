use Rattle.word.proofs.Readings.{written_says, written_back}
use Rattle.word.proofs.Word.raw.Goals as goal

pub returns : goal.returns
returns c = let e = c.encoded.ensures in record { is = e; says = written_says _ _ e; back = written_back _ _ e }
