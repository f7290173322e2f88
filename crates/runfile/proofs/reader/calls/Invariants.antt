use Rattle.std.proofs.Common.{◌≡◌, vec_items}
use Rattle.std.specs.Iterator.Adapters.{enumerate_source, enumerate_count}
use Rattle.std.specs.Slice.Iter.{chunks_rest, chunks_size}
use Rattle.runfile.proofs.Calls.{CallsSoFar}
use Rattle.runfile.proofs.reader.calls.Given as goal

abbrev pub invariant-loop-i : goal.invariant-loop-i
invariant-loop-i l =
    (chunks_size (enumerate_source l.i-iterator) ≡ 2)
    × CallsSoFar l.place l.records l.part (vec_items l.all) l.left (enumerate_count l.i-iterator) (chunks_rest (enumerate_source l.i-iterator))
