use Rattle.runfile.proofs.Digits.{each_byte}
use Rattle.runfile.proofs.FileFormat.{read_or_first, answer_back}
use Rattle.runfile.proofs.reader.read.Goals as goal

pub returns : goal.returns
returns c =
    let bs = c.args.bytes.now in
    let a = c.joined_parts.ensures in
    record { answer = a; told = read_or_first bs c.joined_parts.result (each_byte bs (λ i. (c.type_inv.bytes i).fits)) a; back = answer_back bs c.joined_parts.result a }
