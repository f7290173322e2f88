use Rattle.std.proofs.Common.{◌++◌, vec_items, ap, ◌∙◌}
use Rattle.std.specs.Slice.Iter.{iter_rest}
use Rattle.std.specs.Iterator.Adapters.{zip_first, zip_second}
use Rattle.std.specs.List.{flat_map}
use Rattle.std.proofs.lemmas.Iterator.{YieldsList-from_slice, YieldsList-from_zip}
use Rattle.std.proofs.lemmas.Iterator.Consumers.{YieldsList-end}
use Rattle.listing.specs.Listing.{answered_line}
use Rattle.listing.proofs.pushes.Text.push_calls.Goals as goal

pub returns : goal.returns
returns c =
    let whole = c.into_iter-call-iterator.ensures.into_iter_gives in
    let road = YieldsList-from_zip {s = c.into_iter-call-iterator.result}
    (YieldsList-from_slice c.args.calls.now (ap (λ z. iter_rest (zip_first z)) whole ∙ ap iter_rest c.zip-call-items.ensures.first ∙ c.iter.ensures.rest))
    (YieldsList-from_slice c.args.answers.now (ap (λ z. iter_rest (zip_second z)) whole ∙ c.zip-call-items.ensures.second.0)) in
    c.loop-call.invariant ∙ ap (λ zs. vec_items c.args.self.now.bytes ++ flat_map answered_line zs) (YieldsList-end road c.loop-call.yielded c.loop-call.call-iterator c.loop-call.yielded_by _ c.next.new.self c.in-None.is c.next.ensures.steps).0
