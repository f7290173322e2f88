use Rattle.std.proofs.Common.{◌≡◌, List, [], ◌∷◌, Some, None, refl}
use Rattle.descriptor.specs.declared.contents.Outcome.{Outcome}
use Rattle.descriptor.specs.Contents.{State, after_all, DecidedOnce}

-- a decided state stays through any list of outcomes
stays : (x : Outcome) (os : List Outcome) → after_all (Some x) os ≡ Some x
unfolding after_all
stays x [] = refl
stays x (o ∷ os) = stays x os

decided_stays : (s : State) (os : List Outcome) → (s ≡ None → ⊥) → after_all s os ≡ s
decided_stays None os h = absurd (h refl)
decided_stays (Some x) os h = stays x os

first_stays : (o : Outcome) (os : List Outcome) → after_all None (o ∷ os) ≡ Some o
unfolding after_all
first_stays o os = stays o os

pub decided_once : DecidedOnce
decided_once = record { first_stays = first_stays; decided_stays = decided_stays }
