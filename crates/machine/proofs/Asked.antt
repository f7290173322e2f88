use Rattle.std.proofs.Common.{◌≡◌, ℕ, suc, ◌+◌, ◌<◌, ◌≤◌, List, [], ◌∷◌, ◌++◌, length, get_or, take, Result, sym, refl, ap, ◌∙◌, add-one, take-suc}
use Rattle.std.proofs.lemmas.List.{take_all}
use Rattle.cores.specs.declared.table.Refusal.{Refusal}
use Rattle.model.specs.World.{World}
use Rattle.machine.specs.declared.run.Request.{Request}
use Rattle.machine.specs.Runs.{asked, answers_to, after_requests}

-- A run's requests, one by one.

-- the first n requests are made, and their answers put down
abbrev pub AskedTo : World → World → List Request → List (Result ℕ Refusal) → ℕ → Type 0
AskedTo w v qs rs n = (rs ≡ answers_to w (take n qs)) × (v ≡ after_requests w (take n qs))

answers_more : (w : World) (qs : List Request) (q : Request) → answers_to w (qs ++ (q ∷ [])) ≡ answers_to w qs ++ ((asked (after_requests w qs) q).answer ∷ [])
unfolding answers_to after_requests
answers_more w [] q = refl
answers_more w (x ∷ qs) q = ap (λ rs. (asked w x).answer ∷ rs) (answers_more (asked w x).world qs q)

after_more : (w : World) (qs : List Request) (q : Request) → after_requests w (qs ++ (q ∷ [])) ≡ (asked (after_requests w qs) q).world
unfolding after_requests
after_more w [] q = refl
after_more w (x ∷ qs) q = after_more (asked w x).world qs q

-- each request has one answer
pub length-answers_to : (w : World) (qs : List Request) → length (answers_to w qs) ≡ length qs
unfolding answers_to
length-answers_to w [] = refl
length-answers_to w (q ∷ qs) = ap suc (length-answers_to (asked w q).world qs)

pub asked_none : (w : World) (qs : List Request) (rs : List (Result ℕ Refusal)) → rs ≡ [] → AskedTo w w qs rs 0
unfolding answers_to after_requests
asked_none w qs rs e = (e, refl)

pub asked_more : (w v u : World) (qs : List Request) (rs ss : List (Result ℕ Refusal)) (i : ℕ) (d : Request) (r : Result ℕ Refusal) → AskedTo w v qs rs i → i < length qs
    → r ≡ (asked v (get_or qs i d)).answer → u ≡ (asked v (get_or qs i d)).world → ss ≡ rs ++ (r ∷ []) → AskedTo w u qs ss (i + 1)
asked_more w v u qs rs ss i d r so_far h answers leaves put = (
  put ∙ ap (λ xs. xs ++ (r ∷ [])) so_far.0 ∙ ap (λ x. answers_to w (take i qs) ++ (x ∷ [])) (answers ∙ ap (λ (x : World). (asked x (get_or qs i d)).answer) so_far.1) ∙ sym (answers_more w (take i qs) (get_or qs i d)) ∙ ap (answers_to w) (sym next),
  leaves ∙ ap (λ (x : World). (asked x (get_or qs i d)).world) so_far.1 ∙ sym (after_more w (take i qs) (get_or qs i d)) ∙ ap (after_requests w) (sym next),
)
  where
    next : take (i + 1) qs ≡ take i qs ++ (get_or qs i d ∷ [])
    next = ap (λ (n : ℕ). take n qs) (add-one i) ∙ take-suc qs i d h

pub asked_all : (w v : World) (qs : List Request) (rs : List (Result ℕ Refusal)) (i : ℕ) → AskedTo w v qs rs i → length qs ≤ i → (rs ≡ answers_to w qs) × (v ≡ after_requests w qs)
asked_all w v qs rs i so_far h = (so_far.0 ∙ ap (answers_to w) (take_all i qs h), so_far.1 ∙ ap (after_requests w) (take_all i qs h))
