use Rattle.std.proofs.Common.{◌≡◌, ℕ, ◌+◌, ◌-◌, ◌*◌, min, ◌<◌, ◌≤◌, ◌&&◌, true, false, List, [], ◌∷◌, ◌++◌, length, get_or, drop, Some, Ok, Err, refl, ap, ◌∙◌, arith, length-drop}
use Rattle.std.proofs.lemmas.Bool.Decides.{nat_tests}
use Rattle.std.proofs.lemmas.Bool.{and_from, le-leb}
use Rattle.runfile.specs.declared.file.Action.{Action}
use Rattle.runfile.specs.declared.file.Call.{Call}
use Rattle.runfile.specs.declared.file.Fault.{Fault}
use Rattle.runfile.specs.declared.file.Fault.TheVariants.{At}
use Rattle.runfile.specs.Format.{used_by}
use Rattle.runfile.specs.Reading.{action_of, may_call, has_call, call_at, calls_in, after, FaultIs}
use Rattle.runfile.proofs.Sequences.{ahead, ahead_none, one_more, all_read}

-- the call at the front was read, and this is what follows it
abbrev pub FrontCall : ℕ → List ℕ → Call → List ℕ → Type 0
FrontCall left bs c rest = (has_call left bs ≡ true) × (c ≡ call_at bs) × (rest ≡ drop 2 bs)

pub call_made : (left : ℕ) (bs rest : List ℕ) (a : Action) → 2 ≤ length bs → Some a ≡ action_of (get_or bs 0 0) → used_by a ≤ left → rest ≡ drop 2 bs
    → FrontCall left bs (record { action = a; core = get_or bs 1 0 }) rest
call_made left bs rest a l e u d =
    (rw (← e) (and_from _ _ (le-leb _ _ l) (le-leb _ _ u)), rw (← e), d)

pub calls_none : (place left : ℕ) (bs : List ℕ) → length bs ≡ 0 → calls_in place left bs ≡ Ok []
unfolding calls_in
calls_none place left [] e = refl
calls_none place left (b ∷ bs) e = absurd (omega arith)

pub calls_fault : (place left : ℕ) (bs : List ℕ) → 0 < length bs → has_call left bs ≡ false → calls_in place left bs ≡ Err place
unfolding calls_in
calls_fault place left [] h e = absurd (omega arith)
calls_fault place left (b ∷ []) h e = refl
calls_fault place left (b ∷ (core ∷ bs)) h e = rw e

pub calls_more : (place left : ℕ) (bs rest : List ℕ) (c : Call) → FrontCall left bs c rest
    → calls_in place left bs ≡ after c (calls_in (place + 2) (left - used_by c.action) rest)
unfolding calls_in
calls_more place left [] rest c f = absurd (grind (arith, nat_tests))
calls_more place left (b ∷ []) rest c f = absurd (grind (arith, nat_tests))
calls_more place left (b ∷ (core ∷ bs)) rest c f = rw (f.0, f.1, f.2)

-- what follows the first two bytes has no say in whether they are a call
pub same_call : (left b core : ℕ) (bs : List ℕ) → has_call left (b ∷ (core ∷ bs)) ≡ has_call left (b ∷ (core ∷ []))
same_call left b core bs = ap (λ x. x && may_call left (action_of b)) (le-leb _ _ (omega arith))

-- these are the first two bytes or the last one, and what follows them
abbrev pub FrontPair : List ℕ → List ℕ → List ℕ → Type 0
FrontPair bs pair rest = (bs ≡ pair ++ rest) × (length pair ≡ min 2 (length bs)) × (0 < length bs)

pub pair_call : (left : ℕ) (bs pair rest : List ℕ) (c : Call) → FrontPair bs pair rest → (has_call left pair ≡ true) × (c ≡ call_at pair)
    → FrontCall left bs c rest
pair_call left bs [] rest c p h = absurd (grind (arith, nat_tests))
pair_call left bs (b ∷ []) rest c p h = absurd (grind (arith, nat_tests))
pair_call left bs (b ∷ (core ∷ [])) rest c p h = rw p.0 (same_call left b core rest ∙ h.0, h.1, refl)
pair_call left bs (b ∷ (core ∷ (d ∷ pair))) rest c p h = absurd (omega arith)

pub pair_fault : (left : ℕ) (bs pair rest : List ℕ) → FrontPair bs pair rest → has_call left pair ≡ false → has_call left bs ≡ false
pair_fault left bs [] rest p h = absurd (omega arith)
pair_fault left bs (b ∷ []) rest p h = grind (arith, nat_tests)
pair_fault left bs (b ∷ (core ∷ [])) rest p h = rw p.0 (same_call left b core rest ∙ h)
pair_fault left bs (b ∷ (core ∷ (d ∷ pair))) rest p h = absurd (omega arith)

-- these calls have been read, of so many pairs, so many records are left, and this is what follows
abbrev pub CallsSoFar : ℕ → ℕ → List ℕ → List Call → ℕ → ℕ → List ℕ → Type 0
CallsSoFar place records part cs left n rest =
    (2 * n + length rest ≡ length part) × (calls_in place records part ≡ ahead cs (calls_in (place + 2 * n) left rest))

pub calls_start : (place records : ℕ) (part : List ℕ) (cs : List Call) → cs ≡ [] → CallsSoFar place records part cs records 0 part
calls_start place records part cs e =
    let z : place + 2 * 0 ≡ place = omega arith in (omega arith, rw (e, z) (ahead_none (calls_in place records part)))

pub calls_again : (place records left used n n' : ℕ) (part rest pair rest' : List ℕ) (cs cs' : List Call) (c : Call)
    → CallsSoFar place records part cs left n rest → FrontPair rest pair rest' → n' ≡ n + 1 → (has_call left pair ≡ true) × (c ≡ call_at pair)
    → cs' ≡ cs ++ (c ∷ []) → used ≡ used_by c.action → CallsSoFar place records part cs' (left - used) n' rest'
calls_again place records left used n n' part rest pair rest' cs cs' c s p m h e u =
    let f = pair_call left rest pair rest' c p h in
    let k : 2 ≤ length rest = grind (arith, nat_tests) in
    let l = ap length f.2 ∙ length-drop 2 rest in
    let z : place + 2 * n + 2 ≡ place + 2 * n' = omega arith in (
      omega arith,
      one_more _ cs cs' c (calls_in (place + 2 * n) left rest) (calls_in (place + 2 * n') (left - used) rest')
          s.1 (rw (u, ← z) (calls_more (place + 2 * n) left rest rest' c f)) e,
    )

pub calls_end : (place records left n : ℕ) (part rest : List ℕ) (cs : List Call) → CallsSoFar place records part cs left n rest → length rest ≡ 0
    → calls_in place records part ≡ Ok cs
calls_end place records left n part rest cs s e = all_read _ cs _ s.1 (calls_none (place + 2 * n) left rest e)

pub calls_broken : (place records left n i : ℕ) (part rest pair rest' : List ℕ) (cs : List Call) (f : Fault) → CallsSoFar place records part cs left n rest
    → FrontPair rest pair rest' → i ≡ n → (f ≡ At (place + 2 * i)) × (has_call left pair ≡ false) → FaultIs f (calls_in place records part)
calls_broken place records left n i part rest pair rest' cs f s p m e =
    rw (e.0, m) (s.1 ∙ ap (ahead cs) (calls_fault (place + 2 * n) left rest p.2 (pair_fault left rest pair rest' p e.1)))
