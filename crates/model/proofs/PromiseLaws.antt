use Rattle.std.proofs.Common.{◌≡◌, ℕ, suc, ◌+◌, ◌<◌, List, [], ◌∷◌, length, get_or, sym, refl, subst, arith}
use Rattle.cores.specs.declared.place.Place.{Place}
use Rattle.cores.specs.declared.place.Place.TheVariants.{Settle}
use Rattle.cores.specs.declared.place.Settling.{Settling}
use Rattle.cores.specs.declared.place.Settling.TheVariants as settling
use Rattle.cores.specs.declared.place.Then.{Then}
use Rattle.word.specs.declared.Mark.{Mark}
use Rattle.entries.specs.declared.Entry.{Entry}
use Rattle.model.specs.World.{World, core_at}
use Rattle.model.specs.Marks.{Marked, placing, operation, marks_in, marks_in_then, Found, in_word, in_place, own_operation, Creates, placings, operations, AnswersOvertaken}
use Rattle.model.specs.Plain.{swap_all, look_at, HoldsExpected, Done, succeeds, fails, sees, Completed, Replays, all_done, then_done}
use Rattle.model.proofs.InTurns.{order_is_told}
use Rattle.model.specs.PromiseLaw.{MarksAreFound, OvertakingIsTold, PromiseLaw}
use Rattle.model.specs.Histories.{after_calls, world_at}
use Rattle.model.specs.InTurn.{zero_to_five, five_to_seven, in_turn}
use Rattle.model.specs.Perform.{perform}
use Rattle.model.specs.Refusals.{first_match, some_of, first_tagged}
use Rattle.entries.specs.Lists.{each, entry_at}
use Rattle.word.specs.Word.{reading_of}

-- The promises speak of every mark and of whole operations.

held : (w : World) (k j : ℕ) (p : Place) (m : Marked) → k < 8 → (core_at w k).place ≡ p → j < length (marks_in p) → get_or (marks_in p) j m ≡ m → Found w m
held w k j p m k8 e l is = in_place k j k8 (subst (λ (x : Place). j < length (marks_in x)) (sym e) l) (subst (λ (x : Place). get_or (marks_in x) j m ≡ m) (sym e) is)

-- what stands after the contents of a Settle
held_then : (w : World) (k j : ℕ) (m : Mark) (c : Settling) (t : Then) (x : Marked) → k < 8 → (core_at w k).place ≡ Settle m c t → j < length (marks_in_then t) → get_or (marks_in_then t) j x ≡ x → Found w x
held_then w k j m settling.Read t x k8 e l is = held w k (suc j) (Settle m settling.Read t) x k8 e (omega arith) is
held_then w k j m (settling.State p) t x k8 e l is = held w k (suc (suc j)) (Settle m (settling.State p) t) x k8 e (omega arith) is
held_then w k j m (settling.Swap p u) t x k8 e l is = held w k (suc (suc j)) (Settle m (settling.Swap p u) t) x k8 e (omega arith) is

all_hold : (es : List Entry) (v v' : ℕ → ℕ) (a : ℕ) → ((j : ℕ) → j < length es → HoldsExpected v es j) → Done (swap_all es) v a v' → (a ≡ 0)
    × ((j : ℕ) → j < length es → v' (entry_at es j).word ≡ (entry_at es j).new) × ((i : ℕ) → ((j : ℕ) → j < length es → (entry_at es j).word ≡ i → ⊥) → v' i ≡ v i)
all_hold es v v' a all (succeeds h s) = (refl, s.listed_words, s.other_words)
all_hold es v v' a all (fails j l no_match) = absurd (no_match (all j l))

one_differs : (es : List Entry) (v v' : ℕ → ℕ) (a i : ℕ) → i < length es → (HoldsExpected v es i → ⊥) → Done (swap_all es) v a v'
    → (0 < a) × (v' ≡ v) × (j : ℕ) × (j + 1 ≡ a) × (j < length es) × (HoldsExpected v es j → ⊥)
one_differs es v v' a i l other (succeeds h s) = absurd (other (h i l))
one_differs es v v' a i l other (fails j m no_match) = (omega arith, refl, j, refl, m, no_match)

reads_value : (i : ℕ) (v v' : ℕ → ℕ) (a : ℕ) → Done (look_at i) v a v' → (a ≡ v i) × (v' ≡ v)
reads_value i v v' a sees = (refl, refl)

none_left : (v v' : ℕ → ℕ) → Replays [] v v' → v' ≡ v
none_left v v' all_done = refl

one_by_one : (d : Completed) (ds : List Completed) (v v' : ℕ → ℕ) → Replays (d ∷ ds) v v' → (u : ℕ → ℕ) × Done d.what v d.answered u × Replays ds u v'
one_by_one d ds v v' (then_done done rest) = (_, done, rest)

first_created : Creates in_turn 0 (operation (record { core = 0; number = 1 }))
unfolding perform first_match some_of first_tagged after_calls reading_of each in_turn zero_to_five five_to_seven
first_created = record { there = omega arith; next = refl; taken = refl }

second_created : Creates in_turn 13 (operation (record { core = 0; number = 2 }))
unfolding perform first_match some_of first_tagged after_calls reading_of each in_turn zero_to_five five_to_seven
second_created = record { there = omega arith; next = refl; taken = refl }

answers_then : AnswersOvertaken (world_at in_turn 14) (operation (record { core = 0; number = 1 }))
unfolding perform first_match some_of first_tagged after_calls reading_of each in_turn zero_to_five five_to_seven
answers_then = (refl, refl)

current_before : AnswersOvertaken (world_at in_turn 13) (operation (record { core = 0; number = 1 })) → ⊥
unfolding perform first_match some_of first_tagged after_calls reading_of each in_turn zero_to_five five_to_seven
current_before e = let f = e.1 in grind arith

overtaking_is_told : OvertakingIsTold
overtaking_is_told = record {
  later_operation = λ h a b t m n e x y l k. record { made_at = a; made = x; overtaker = operation n; same_descriptor = operations e; overtaken_at = b; overtook = y; in_order = (l, k) };
  later_placing = λ h a b t m n e x y l k. record { made_at = a; made = x; overtaker = placing n; same_descriptor = placings e; overtaken_at = b; overtook = y; in_order = (l, k) };
  overtaken_then = (record { made_at = 0; made = first_created; overtaker = operation (record { core = 0; number = 2 }); same_descriptor = operations refl; overtaken_at = 13; overtook = second_created; in_order = (omega arith, omega arith) }, answers_then);
  current_before = current_before;
}

marks_are_found : MarksAreFound
marks_are_found = record {
  in_words = λ w i m l e. in_word i l e;
  at_begin = λ w k m k8 e. held w k 0 _ _ k8 e (omega arith) refl;
  at_fetch = λ w k t k8 e. held w k 0 _ _ k8 e (omega arith) refl;
  at_make = λ w k t x k8 e. held w k 0 _ _ k8 e (omega arith) refl;
  at_try = λ w k t x m k8 e. (held w k 0 _ _ k8 e (omega arith) refl, held w k 1 _ _ k8 e (omega arith) refl);
  at_decide = λ w k t o k8 e. held w k 0 _ _ k8 e (omega arith) refl;
  at_clear = λ w k t o c k8 e. held w k 0 _ _ k8 e (omega arith) refl;
  at_settle = λ w k m c j k8 e. held w k 0 _ _ k8 e (omega arith) refl;
  settling_contents = λ w k m p j k8 e. held w k 1 _ _ k8 e (omega arith) refl;
  swapping_contents = λ w k m p u j k8 e. held w k 1 _ _ k8 e (omega arith) refl;
  then_next = λ w k m c t k8 e. held_then w k 0 m c _ _ k8 e (omega arith) refl;
  then_try = λ w k m c t x n k8 e. (held_then w k 0 m c _ _ k8 e (omega arith) refl, held_then w k 1 m c _ _ k8 e (omega arith) refl);
  then_clear = λ w k m c t o x k8 e. held_then w k 0 m c _ _ k8 e (omega arith) refl;
  own_read = λ w k i k8 e. own_operation k k8 (λ f. grind arith);
  own_list = λ w k m k8 e. own_operation k k8 (λ f. grind arith);
}

pub promise_law : PromiseLaw
promise_law = record { found = marks_are_found; whole = record { all_hold = all_hold; one_differs = one_differs; reads_value = reads_value; none_left = none_left; one_by_one = one_by_one }; overtaking = overtaking_is_told; order = order_is_told }
