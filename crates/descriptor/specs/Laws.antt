use Rattle.std.specs.Prelude.{◌≡◌, ℕ, ◌+◌, ◌<◌, ◌≤◌, List, [], ◌∷◌, Ok, Err, ◌≢◌}
use Rattle.descriptor.specs.declared.Descriptor.{Descriptor}
use Rattle.descriptor.specs.Descriptors.{last_number, fresh, creation, created, reading, change_answer, changed}

-- what can be done to a descriptor: a creation with these contents, or a change through a number
pub data Act (T : Type 0) : Type 0 where
  create : T → Act T
  change : (T → T) → ℕ → Act T

-- the descriptor after these acts, the first of the list first
unfoldable pub after : {T : Type 0} → Descriptor T → List (Act T) → Descriptor T
after d [] = d
after d (create x ∷ acts) = after (created d x) acts
after d (change f n ∷ acts) = after (changed f d n) acts

-- The laws of descriptors with contents of one type, whatever it is.
pub record Laws (T : Type 0) : Type 0 where
  -- Where nothing is created yet, the first creation takes the first number.
  pub first_number : (first : ℕ) (x : T) → 1 ≤ first → first ≤ last_number → creation (fresh first x) ≡ Ok first
  -- Numbers rise by one with each creation.
  pub numbers_rise : (d : Descriptor T) (x : T) (n : ℕ) → creation d ≡ Ok n → (n ≡ d.last + 1) × ((created d x).last ≡ n)
  -- Before the last number is taken, a creation is never refused.
  pub numbers_left : (d : Descriptor T) → d.last < last_number → creation d ≡ Ok (d.last + 1)
  -- From then on every creation is refused, and changes nothing.
  pub used_up : (d : Descriptor T) (x : T) → last_number ≤ d.last → (creation d ≡ Err (record {})) × (created d x ≡ d)
  -- A read through the number that a creation took gives exactly the contents put in.
  pub newest_read : (d : Descriptor T) (x : T) (n : ℕ) → creation d ≡ Ok n → reading (created d x) n ≡ Ok x
  -- A creation overtakes every other number.
  pub others_overtaken : (d : Descriptor T) (x : T) (n m : ℕ) → creation d ≡ Ok n → (m ≢ n) → reading (created d x) m ≡ Err (record {})
  -- Once overtaken, a number stays so, whatever is done.
  pub stays_overtaken : (d : Descriptor T) (acts : List (Act T)) (n : ℕ) → n < d.last → reading (after d acts) n ≡ Err (record {})
  -- Through a number that is not the newest, a read and a change are overtaken, and nothing is altered.
  pub stale : (d : Descriptor T) (f : T → T) (n : ℕ) → (n ≢ d.last) → (reading d n ≡ Err (record {})) × (change_answer d n ≡ Err (record {})) × (changed f d n ≡ d)
  -- Through the newest number a change is made, and a read gives the changed contents.
  pub change_made : (d : Descriptor T) (f : T → T) (x : T) (n : ℕ) → reading d n ≡ Ok x → (change_answer d n ≡ Ok tt) × (reading (changed f d n) n ≡ Ok (f x))
  -- A change keeps the number.
  pub number_kept : (d : Descriptor T) (f : T → T) (n : ℕ) → (changed f d n).last ≡ d.last
