use Rattle.std.proofs.Common.{◌≡◌, ℕ, List, [], ◌∷◌, ◌++◌, Ok, Err, Result, sym, refl, ap, ◌∙◌, append_assoc}
use Rattle.std.proofs.lemmas.List.{append-nil}
use Rattle.runfile.specs.Reading.{after}

-- the elements read so far, ahead of what is still to be read
abbrev pub ahead : {X : Type 0} → List X → Result (List X) ℕ → Result (List X) ℕ
ahead xs (Ok ys) = Ok (xs ++ ys)
ahead xs (Err place) = Err place

pub ahead_none : {X : Type 0} (r : Result (List X) ℕ) → r ≡ ahead [] r
ahead_none (Ok ys) = refl
ahead_none (Err place) = refl

pub ahead_more : {X : Type 0} (xs : List X) (x : X) (r : Result (List X) ℕ) → ahead xs (after x r) ≡ ahead (xs ++ (x ∷ [])) r
ahead_more xs x (Ok ys) = ap Ok (sym (append_assoc xs (x ∷ []) ys))
ahead_more xs x (Err place) = refl

-- one element more has been read
pub one_more : {X : Type 0} (whole : Result (List X) ℕ) (xs xs' : List X) (x : X) (rest rest' : Result (List X) ℕ)
    → whole ≡ ahead xs rest → rest ≡ after x rest' → xs' ≡ xs ++ (x ∷ []) → whole ≡ ahead xs' rest'
one_more whole xs xs' x rest rest' p q e =
    p ∙ ap (ahead xs) q ∙ ahead_more xs x rest' ∙ ap (λ ys. ahead ys rest') (sym e)

-- all elements have been read
pub all_read : {X : Type 0} (whole : Result (List X) ℕ) (xs : List X) (rest : Result (List X) ℕ) → whole ≡ ahead xs rest → rest ≡ Ok [] → whole ≡ Ok xs
all_read whole xs rest p q = p ∙ ap (ahead xs) q ∙ ap Ok (append-nil xs)
