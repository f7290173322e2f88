use Rattle.runfile.proofs.Taken.{first_read}
use Rattle.runfile.proofs.input.bytes_of.Goals as goal

pub returns : goal.returns
returns g c =
    let limit = c.take.ensures.limit in
    let inner = c.take.ensures.inner in
    first_read (g.R.Read.remaining c.args.input) 65537 _ _ c.new-bytes.ensures.items (rw (limit, inner) at c.in_ok-read_to_end.ensures.bytes)
