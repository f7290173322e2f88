use Rattle.std.proofs.Common.{◌≡◌, ℕ, ◌+◌, ◌<◌, ◌≤◌, List, [], ◌∷◌, ◌++◌, length, get_or, take, refl, ap, ◌∙◌}
use Rattle.std.proofs.lemmas.List.{take_all, take_more}
use Rattle.model.specs.World.{World}
use Rattle.model.specs.Calls.{Call, steps}
use Rattle.model.specs.Perform.{perform}
use Rattle.model.specs.Histories.{History, after_calls, opening_of, world_at, world_of}

-- The worlds of a history, one after another.

pub after_more : (w : World) (cs : List Call) (c : Call) → after_calls w (cs ++ (c ∷ [])) ≡ (perform (after_calls w cs) c).world
unfolding after_calls
after_more w [] c = refl
after_more w (x ∷ xs) c = after_more (perform w x).world xs c

pub world_next : (h : History) (t : ℕ) → t < length h.calls → world_at h (t + 1) ≡ (perform (world_at h t) (get_or h.calls t (steps 0))).world
world_next h t l =
    ap (after_calls (opening_of h)) (take_more h.calls t (steps 0) l) ∙ after_more (opening_of h) (take t h.calls) (get_or h.calls t (steps 0))

pub world_past : (h : History) (t : ℕ) → length h.calls ≤ t → world_at h t ≡ world_of h
world_past h t l = ap (after_calls (opening_of h)) (take_all t h.calls l)
