use Rattle.std.proofs.Common.{◌≡◌, ◌++◌, map, vec_items}
use Rattle.std.specs.List.{flat_map}
use Rattle.listing.specs.Listing.{answered_line}
use Rattle.listing.proofs.pushes.Text.push_calls.Given as goal

abbrev pub invariant-loop-call : goal.invariant-loop-call
invariant-loop-call l =
    vec_items l.self.bytes ≡ vec_items l.initial.self.bytes ++ flat_map answered_line (map (λ p. (p.0.now, p.1.now)) l.yielded)
