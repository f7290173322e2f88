use Rattle.std.proofs.Common.{◌≡◌, ℕ, ◌+◌, ◌-◌, ◌<◌, ◌≤◌, Bool, true, false, leb, List, [], ◌∷◌, ◌++◌, length, Some, None, Ok, Err, Option, Result, sym, refl, ap, ◌∙◌, inl, inr, arith}
use Rattle.std.proofs.lemmas.Bool.Decides.{nat_tests}
use Rattle.std.proofs.lemmas.Bool.{leb-true, and_right}
use Rattle.runfile.specs.declared.file.Action.{Action}
use Rattle.runfile.specs.declared.file.Action.TheVariants.{Start, Step, Collect, Halt}
use Rattle.runfile.specs.declared.file.Call.{Call}
use Rattle.runfile.specs.Format.{Each, Byte, letter, calls_bytes, used_by, used}
use Rattle.runfile.specs.Reading.{action_of, may_call, has_call, calls_in, after}
use Rattle.runfile.specs.Laws.{NoCall}
use Rattle.runfile.proofs.Calls.{call_made, calls_more, calls_fault}

-- letters and actions stand for each other
pub action_of_letter : (a : Action) → action_of (letter a) ≡ Some a
action_of_letter Start = refl
action_of_letter Step = refl
action_of_letter Collect = refl
action_of_letter Halt = refl

letter_of_action : (b : ℕ) (a : Action) → action_of b ≡ Some a → b ≡ letter a
letter_of_action b Start e = grind (arith, nat_tests)
letter_of_action b Step e = grind (arith, nat_tests)
letter_of_action b Collect e = grind (arith, nat_tests)
letter_of_action b Halt e = grind (arith, nat_tests)

-- calls that are written are read back
pub calls_read : (cs : List Call) (place left : ℕ) → used cs ≤ left → calls_in place left (calls_bytes cs) ≡ Ok cs
unfolding calls_bytes used calls_in
calls_read [] place left h = refl
calls_read (c ∷ cs) place left h =
    let bs = calls_bytes (c ∷ cs) in
    let f = call_made left (letter c.action ∷ (c.core ∷ calls_bytes cs)) (calls_bytes cs) c.action (omega arith) (sym (action_of_letter c.action)) (omega arith) refl in
    calls_more place left (letter c.action ∷ (c.core ∷ calls_bytes cs)) (calls_bytes cs) c f
    ∙ ap (after c) (calls_read cs (place + 2) (left - used_by c.action) (omega arith))

-- what an answer to the reading of calls tells of the bytes
abbrev pub CoreFits : Call → Type 0
CoreFits c = Byte c.core

abbrev pub CallsTold : ℕ → ℕ → List ℕ → Result (List Call) ℕ → Type 0
CallsTold place left bs (Ok cs) = Each CoreFits cs × (bs ≡ calls_bytes cs) × (used cs ≤ left)
CallsTold place left bs (Err p) =
    (cs : List Call) × (rest : List ℕ) × (bs ≡ calls_bytes cs ++ rest) × (used cs ≤ left) × NoCall (left - used cs) rest
    × (p ≡ place + length (calls_bytes cs))

told_after : (place left b core : ℕ) (bs : List ℕ) (a : Action) (x : Result (List Call) ℕ) → b ≡ letter a → used_by a ≤ left → Byte core
    → CallsTold (place + 2) (left - used_by a) bs x → CallsTold place left (b ∷ (core ∷ bs)) (after (record { action = a; core = core }) x)
unfolding Each calls_bytes used
told_after place left b core bs a (Ok cs) e u f t =
    ((f, t.0), ap (λ (y : ℕ). y ∷ (core ∷ bs)) e ∙ ap (λ (xs : List ℕ). letter a ∷ (core ∷ xs)) t.1, omega (arith, t.2))
told_after place left b core bs a (Err q) e u f t =
    let cs = t.0 in
    let z : left - used_by a - used cs ≡ left - (used_by a + used cs) = omega arith in (
      record { action = a; core = core } ∷ cs,
      t.1,
      ap (λ (y : ℕ). y ∷ (core ∷ bs)) e ∙ ap (λ (xs : List ℕ). letter a ∷ (core ∷ xs)) t.2,
      omega (arith, t.3),
      rw (← z) t.4,
      omega (arith, t.5),
    )

-- reading tells the calls that are there, or the first that is not
unknown : (b : ℕ) → action_of b ≡ None → (a : Action) → b ≡ letter a → ⊥
unknown b e a p =
    let q : Some a ≡ None = sym (action_of_letter a) ∙ ap action_of (sym p) ∙ e in
    let z : ◌≡◌ {A = ℕ} 0 1 = cc in omega arith

none_left : (b left : ℕ) (a : Action) → action_of b ≡ Some a → left < used_by a → (b ≡ 98) × (left ≡ 0)
none_left b left Start e h = (letter_of_action b Start e, omega arith)
none_left b left Step e h = absurd (omega arith)
none_left b left Collect e h = absurd (omega arith)
none_left b left Halt e h = absurd (omega arith)

fault_told : (place left b core : ℕ) (bs : List ℕ) → may_call left (action_of b) ≡ false → NoCall left (b ∷ (core ∷ bs))
    → CallsTold place left (b ∷ (core ∷ bs)) (calls_in place left (b ∷ (core ∷ bs)))
unfolding calls_bytes used
fault_told place left b core bs h n =
    let z : left - 0 ≡ left = omega arith in
    let f : has_call left (b ∷ (core ∷ bs)) ≡ false = rw h (and_right (leb 2 (length (b ∷ (core ∷ bs)))) false refl) in
    rw (calls_fault place left (b ∷ (core ∷ bs)) (omega arith) f) ([], b ∷ (core ∷ bs), refl, omega arith, rw z n, omega arith)

call_told : (place left b core : ℕ) (bs : List ℕ) (a : Action) → action_of b ≡ Some a → Byte core
    → ((left' : ℕ) → CallsTold (place + 2) left' bs (calls_in (place + 2) left' bs))
    → CallsTold place left (b ∷ (core ∷ bs)) (calls_in place left (b ∷ (core ∷ bs)))
call_told place left b core bs a e f t = by (leb (used_by a) left) refl
  where
    by : (z : Bool) → leb (used_by a) left ≡ z → CallsTold place left (b ∷ (core ∷ bs)) (calls_in place left (b ∷ (core ∷ bs)))
    by false z = fault_told place left b core bs (rw e z) (inr (none_left b left a e (grind (arith, nat_tests))))
    by true z =
        let u = leb-true (used_by a) left z in
        rw (calls_more place left (b ∷ (core ∷ bs)) bs (record { action = a; core = core }) (call_made left (b ∷ (core ∷ bs)) bs a (omega arith) (sym e) u refl))
        (told_after place left b core bs a (calls_in (place + 2) (left - used_by a) bs) (letter_of_action b a e) u f (t (left - used_by a)))

pub calls_told : (place left : ℕ) (bs : List ℕ) → Each Byte bs → CallsTold place left bs (calls_in place left bs)
unfolding Each calls_bytes used calls_in
calls_told place left [] e = (tt, refl, omega arith)
calls_told place left (b ∷ []) e = ([], b ∷ [], refl, omega arith, tt, omega arith)
calls_told place left (b ∷ (core ∷ bs)) e = by (action_of b) refl (λ left'. calls_told (place + 2) left' bs e.1.1)
  where
    by : (o : Option Action) → action_of b ≡ o → ((left' : ℕ) → CallsTold (place + 2) left' bs (calls_in (place + 2) left' bs))
        → CallsTold place left (b ∷ (core ∷ bs)) (calls_in place left (b ∷ (core ∷ bs)))
    by None p t = fault_told place left b core bs (rw p) (inl (unknown b p))
    by (Some a) p t = call_told place left b core bs a p e.1.0 t
