use Rattle.std.proofs.Common.{◌≡◌, ℕ, zero, suc, ◌+◌, ◌-◌, ◌<◌, List, [], ◌∷◌, ◌++◌, length, get_or, replicate, Ok, sym, refl, ap, ◌∙◌, subst, arith, get_or-append-add}
use lib.ListN.{get_or-replicate, get_or-append}
use Rattle.word.specs.Word.{reading_of}
use Rattle.entries.specs.declared.list.Entries.{Entries}
use Rattle.entries.specs.Lists.{each}
use Rattle.entries.specs.Listed.{listed}
use Rattle.descriptor.specs.declared.contents.Outcome.TheVariants as outcome
use Rattle.model.specs.Calls.{Call, starts, reads, steps, collects}
use Rattle.model.specs.Refusals.{first_match, some_of, first_tagged}
use Rattle.model.specs.Perform.{perform}
use Rattle.model.specs.Histories.{after_calls, Called}
use Rattle.model.specs.Plain.{Whole, swap_all, look_at, nth}
use Rattle.model.specs.Promises.{Answers, decided, finished, Finishes, Starts, list, word, SomeOrderExplains}
use Rattle.model.specs.InTurn.{zero_to_five, five_to_seven, calls_in_turn, in_turn, OrderIsTold}

-- The three operations, computed.

first_started : Called in_turn 0 (starts 0 zero_to_five) (Ok 1)
unfolding perform first_match some_of first_tagged after_calls reading_of each in_turn zero_to_five
first_started = record { there = omega arith; call = refl; answers = refl }

first_answers : Answers in_turn 0 0 (swap_all (listed zero_to_five)) 0
unfolding perform first_match some_of first_tagged after_calls reading_of each in_turn zero_to_five
first_answers = decided 1 0 13 first_started (omega arith) (omega arith) (record { current = refl; outcome = outcome.Succeeded; state = refl; answer = refl })

second_started : Called in_turn 13 (starts 0 five_to_seven) (Ok 2)
unfolding perform first_match some_of first_tagged after_calls reading_of each in_turn zero_to_five five_to_seven
second_started = record { there = omega arith; call = refl; answers = refl }

second_answers : Answers in_turn 13 0 (swap_all (listed five_to_seven)) 0
unfolding perform first_match some_of first_tagged after_calls reading_of each in_turn zero_to_five five_to_seven
second_answers = decided 2 0 26 second_started (omega arith) (omega arith) (record { current = refl; outcome = outcome.Succeeded; state = refl; answer = refl })

third_finishes : Finishes in_turn 26 0 27
unfolding perform first_match some_of first_tagged after_calls reading_of each in_turn zero_to_five five_to_seven
third_finishes = record { later = omega arith; finishing_step = record { there = omega arith; call = refl; answers = refl }; no_other_start = λ q o l m s. omega arith }

third_answers : Answers in_turn 26 0 (look_at 0) 7
unfolding perform first_match some_of first_tagged after_calls reading_of each in_turn zero_to_five five_to_seven
third_answers = finished 3 27 7 (record { there = omega arith; call = refl; answers = refl }) third_finishes refl

-- between a start and its last step there are only steps
abbrev rest_one : List Call
rest_one = collects 0 ∷ (starts 0 five_to_seven ∷ (replicate 11 (steps 0) ++ (collects 0 ∷ (reads 0 0 ∷ (steps 0 ∷ [])))))

abbrev front : List Call
front = starts 0 zero_to_five ∷ (replicate 11 (steps 0) ++ (collects 0 ∷ (starts 0 five_to_seven ∷ [])))

abbrev rest_two : List Call
rest_two = replicate 11 (steps 0) ++ (collects 0 ∷ (reads 0 0 ∷ (steps 0 ∷ [])))

eleven : (i : ℕ) (more : List Call) → i < 11 → get_or (replicate 11 (steps 0) ++ more) i (steps 0) ≡ steps 0
eleven i more l = get_or-append (replicate 11 (steps 0)) more (steps 0) i l ∙ get_or-replicate 11 i (steps 0) (steps 0) l

steps_of_first : (q : ℕ) → 0 < q → q < 11 → get_or calls_in_turn q (steps 0) ≡ steps 0
steps_of_first zero l m = absurd (omega arith)
steps_of_first (suc i) l m = eleven i rest_one (omega arith)

steps_of_second : (q : ℕ) → 13 < q → q < 24 → get_or calls_in_turn q (steps 0) ≡ steps 0
steps_of_second q l m =
    let e : q ≡ 14 + (q - 14) = omega arith in
    ap (λ (n : ℕ). get_or (front ++ rest_two) n (steps 0)) e ∙ get_or-append-add front rest_two (q - 14) (steps 0) ∙ eleven (q - 14) (collects 0 ∷ (reads 0 0 ∷ (steps 0 ∷ []))) (omega arith)

no_start : (q : ℕ) (o : Whole) → get_or in_turn.calls q (steps 0) ≡ steps 0 → Starts in_turn q 0 o → ⊥
no_start q o e (list n c) = let f = c.call in grind arith
no_start q o e (word n c) = let f = c.call in grind arith

first_finishes : Finishes in_turn 0 0 11
unfolding perform first_match some_of first_tagged after_calls reading_of each in_turn zero_to_five five_to_seven
first_finishes = record { later = omega arith; finishing_step = record { there = omega arith; call = refl; answers = refl }; no_other_start = λ q o l m s. no_start q o (steps_of_first q l m) s }

second_finishes : Finishes in_turn 13 0 24
unfolding perform first_match some_of first_tagged after_calls reading_of each in_turn zero_to_five five_to_seven
second_finishes = record { later = omega arith; finishing_step = record { there = omega arith; call = refl; answers = refl }; no_other_start = λ q o l m s. no_start q o (steps_of_second q l m) s }

-- an operation that core 0 started is core 0's
its_core : (p c x : ℕ) (l : Entries) (o : Whole) → get_or in_turn.calls p (steps 0) ≡ starts 0 l → Answers in_turn p c o x → c ≡ 0
its_core p c x l o e (decided n a t called m b d) = let f = called.call in cc
its_core p c x l o e (finished n t v called f v-is) = let g = called.call in absurd (grind arith)

finishes_too : (p q c d t : ℕ) → q ≡ p → d ≡ c → Finishes in_turn p c t → Finishes in_turn q d t
finishes_too p q c d t e f x = subst (λ (k : ℕ). Finishes in_turn k d t) (sym e) (subst (λ (k : ℕ). Finishes in_turn p k t) (sym f) x)

-- one of core 0 that finished stands ahead of what was started after
ahead : (o : SomeOrderExplains in_turn) (i j p q t : ℕ) (l : Entries) → i < length o.order → j < length o.order → (nth o.order i).start_of ≡ p → (nth o.order j).start_of ≡ q
    → get_or in_turn.calls p (steps 0) ≡ starts 0 l → Finishes in_turn p 0 t → t < q → i < j
ahead o i j p q t l i-in j-in i-is j-is started fin before =
    o.in_time i j t i-in j-in (finishes_too p _ 0 _ t i-is mine fin) (rw (j-is) before)
  where
    mine : (nth o.order i).core_of ≡ 0
    mine = its_core p _ _ l _ started (subst (λ (k : ℕ). Answers in_turn k (nth o.order i).core_of (nth o.order i).what (nth o.order i).answered) i-is (o.holds_only i i-in))

pub order_is_told : OrderIsTold
order_is_told o =
    let a = o.holds_all 0 0 0 _ first_answers in
    let b = o.holds_all 13 0 0 _ second_answers in
    let c = o.holds_all 26 0 7 _ third_answers in
    (a.0, b.0, c.0, ahead o a.0 b.0 0 13 11 zero_to_five a.1 b.1 a.2 b.2 first_started.call first_finishes (omega arith), ahead o b.0 c.0 13 26 24 five_to_seven b.1 c.1 b.2 c.2 second_started.call second_finishes (omega arith), c.1, a.2, b.2, c.2)
