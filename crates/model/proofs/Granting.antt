use Rattle.std.proofs.Common.{◌≡◌, ℕ, zero, suc, ◌+◌, ◌<◌, ◌≤◌, Bool, true, false, cond, not, ◌&&◌, ltb, leb, List, [], ◌∷◌, map, length, get_or, is_some, Some, None, Err, refl, ap, arith}
use Rattle.std.proofs.lemmas.Bool.{or_parts}
use Rattle.std.proofs.lemmas.Bool.Decides.{nat_tests}
use Rattle.word.specs.Word.{reading_of}
use Rattle.entries.specs.declared.list.Entries.{Entries}
use Rattle.descriptor.specs.Descriptors.{last_number}
use Rattle.cores.specs.declared.table.Refusal.{Refusal}
use Rattle.cores.specs.declared.table.Refusal.TheVariants.{UsedUp}
use Rattle.model.specs.World.{World, core_at}
use Rattle.model.specs.Calls.{Call, starts, steps, collects, words_of}
use Rattle.model.specs.Refusals.{Row, first_match, some_of, refusal_of, is_plain, has_right, first_tagged}
use Rattle.cores.specs.Cores.{is_idle, is_finished, is_making}
use Rattle.model.specs.Perform.{perform, unless_refused, granted}

-- What is refused and what is granted.

pub perform_granted : (w : World) (c : Call) → refusal_of w c ≡ None → perform w c ≡ granted w c
unfolding perform
perform_granted w c e = ap (λ r. unless_refused r w c) e

pub perform_refused : (w : World) (c : Call) (r : Refusal) → refusal_of w c ≡ Some r → perform w c ≡ record { answer = Err r; world = w }
unfolding perform
perform_refused w c r e = ap (λ x. unless_refused x w c) e

-- where no row matches, the first row's test fails, and no later one matches
first_fails : (r : Row) (rs : List Row) → first_match (r ∷ rs) ≡ None → (r.test ≡ false) × (first_match rs ≡ None)
unfolding first_match
first_fails r rs e = by r.test refl e
  where
    by : (b : Bool) → r.test ≡ b → cond b (Some r.refusal) (first_match rs) ≡ None → (r.test ≡ false) × (first_match rs ≡ None)
    by true p q = absurd (grind arith)
    by false p q = (p, q)

-- so each test fails
pub test_fails : (i : ℕ) (rs : List Row) → first_match rs ≡ None → get_or (map (λ (r : Row). r.test) rs) i false ≡ false
test_fails i [] e = refl
test_fails zero (r ∷ rs) e = (first_fails r rs e).0
test_fails (suc i) (r ∷ rs) e = test_fails i rs (first_fails r rs e).1

-- A step is granted to a core that is there, not halted and at work, and that has a number left where it creates.
pub step_granted : (w : World) (k : ℕ) → w.table.running ≡ true → k < w.table.count → k < 8 → (core_at w k).halted ≡ false
    → is_idle (core_at w k).place ≡ false → is_finished (core_at w k).place ≡ false
    → (is_making (core_at w k).place && leb last_number (core_at w k).placing.last) ≡ false → refusal_of w (steps k) ≡ None
unfolding first_match some_of
step_granted w k run there eight unhalted busy unfinished left = grind (arith, nat_tests)

-- A collect is granted of a finished core.
pub collect_granted : (w : World) (k : ℕ) → w.table.running ≡ true → k < w.table.count → k < 8 → (core_at w k).halted ≡ false
    → is_finished (core_at w k).place ≡ true → refusal_of w (collects k) ≡ None
unfolding first_match some_of
collect_granted w k run there eight unhalted finished = grind (arith, nat_tests)

-- Make is refused where the core has taken the last number.
pub make_refused : (w : World) (k : ℕ) → w.table.running ≡ true → k < w.table.count → k < 8 → (core_at w k).halted ≡ false
    → is_idle (core_at w k).place ≡ false → is_finished (core_at w k).place ≡ false → is_making (core_at w k).place ≡ true
    → last_number ≤ (core_at w k).placing.last → refusal_of w (steps k) ≡ Some UsedUp
unfolding first_match some_of
make_refused w k run there eight unhalted busy unfinished making taken = grind (arith, nat_tests)

-- So is a start on words that the core may use.
pub start_refused : (w : World) (k : ℕ) (l : Entries) → w.table.running ≡ true → k < w.table.count → k < 8 → (core_at w k).halted ≡ false
    → is_idle (core_at w k).place ≡ true → some_of (λ i. leb (length w.words) i) (words_of (starts k l)) ≡ false
    → (not (has_right w k) && some_of (λ i. ltb i w.table.protected) (words_of (starts k l))) ≡ false
    → last_number ≤ (core_at w k).operation.last → refusal_of w (starts k l) ≡ Some UsedUp
unfolding first_match
start_refused w k l run there eight unhalted idle words rights taken = grind (arith, nat_tests)

-- a test that passes at no element fails at each
pub fails_at : (p : ℕ → Bool) (xs : List ℕ) → some_of p xs ≡ false → (j : ℕ) → j < length xs → p (get_or xs j 0) ≡ false
unfolding some_of
fails_at p [] e j l = absurd (omega arith)
fails_at p (x ∷ xs) e zero l = (or_parts (p x) (some_of p xs) e).0
fails_at p (x ∷ xs) e (suc j) l = fails_at p xs (or_parts (p x) (some_of p xs) e).1 j (omega arith)

zero_plain : is_plain (reading_of 0) ≡ true
unfolding reading_of
zero_plain = refl

plain_first : (i n : ℕ) (ns : List ℕ) → is_some (first_tagged i (n ∷ ns)) ≡ false → (is_plain (reading_of n) ≡ true) × (is_some (first_tagged (i + 1) ns) ≡ false)
unfolding first_tagged
plain_first i n ns e = by (is_plain (reading_of n)) refl e
  where
    by : (b : Bool) → is_plain (reading_of n) ≡ b → is_some (cond b (first_tagged (i + 1) ns) (Some i)) ≡ false → (is_plain (reading_of n) ≡ true) × (is_some (first_tagged (i + 1) ns) ≡ false)
    by true p q = (p, q)
    by false p q = absurd (grind arith)

-- where no tagged word is found, every word is plain
pub all_plain : (i : ℕ) (ws : List ℕ) → is_some (first_tagged i ws) ≡ false → (x : ℕ) → is_plain (reading_of (get_or ws x 0)) ≡ true
all_plain i [] e x = zero_plain
all_plain i (n ∷ ns) e zero = (plain_first i n ns e).0
all_plain i (n ∷ ns) e (suc x) = all_plain (i + 1) ns (plain_first i n ns e).1 x
