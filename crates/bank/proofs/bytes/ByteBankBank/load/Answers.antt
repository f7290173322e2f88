use Rattle.bank.proofs.ByteLaws.{length_byte_words, load_chunk}
use Rattle.bank.proofs.bytes.ByteBankBank.load.Goals as goal
use Rattle.std.proofs.Common.{◌≡◌, ◌<◌, [], length, get_or, rules}

pub returns : goal.returns
returns c =
    let lt : c.args.i < length c.as_chunks.result.0.now = search rules in
    let w : c.in_ok-word.word ≡ get_or c.as_chunks.result.0.now c.args.i [] = search rules in
    search (rules, load_chunk)

pub returns-in_err-word : goal.returns-in_err-word
returns-in_err-word c =
    search (rules, length_byte_words)
