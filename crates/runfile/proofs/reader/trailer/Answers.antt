use Rattle.std.proofs.Common.{◌∙◌, rules}
use Rattle.runfile.proofs.Numbers.{trailer_made}
use Rattle.runfile.proofs.reader.trailer.Goals as goal

pub returns : goal.returns
returns c =
    trailer_made c.args.bytes.now _ _ _ _ (search rules) (c.from-place.ensures ∙ c.from_be_bytes.ensures) c.from_be_bytes-words.ensures c.from_be_bytes-protected.ensures c.from_be_bytes-first.ensures
