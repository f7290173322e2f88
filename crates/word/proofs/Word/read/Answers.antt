use Rattle.word.specs.Word.{reading_of}
use Rattle.word.proofs.Readings.{read_says, read_only, read_back}
use Rattle.word.proofs.Word.read.Goals as goal

pub returns : goal.returns
unfolding reading_of
returns c =
    let e = c.decoded.ensures in
    record { is = e; says = read_says _ _ e; only = read_only _ _ e; back = read_back _ _ e }
