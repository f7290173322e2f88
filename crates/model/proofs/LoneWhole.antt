use Rattle.std.proofs.Common.{◌≡◌, ℕ, zero, suc, ◌+◌, ◌-◌, ◌*◌, ◌^◌, ◌<◌, ◌≤◌, true, false, eqb, ltb, List, [], ◌∷◌, ◌++◌, length, get_or, set, replicate, Some, None, Ok, sym, refl, ap, ◌∙◌, subst, append_assoc, arith}
use lib.ListN.{replicate-append-replicate}
use Rattle.std.proofs.lemmas.List.{get_or-set_same, get_or-set_other, set-set, length-set}
use Rattle.std.proofs.lemmas.Bool.{cond-true, cond-false, cond_both, lt-ltb, le-ltb}
use Rattle.std.proofs.lemmas.Bool.Decides.{nat_tests}
use Rattle.word.specs.declared.Word.TheVariants as word
use Rattle.word.specs.Word.{reading_of, raw_of}
use Rattle.word.proofs.Readings.{written_back}
use Rattle.bank.specs.Bank.{swapped}
use Rattle.bank.proofs.Laws.{swaps_of}
use Rattle.entries.specs.declared.Entry.{Entry}
use Rattle.entries.proofs.Law.{listed_lawful}
use Rattle.descriptor.specs.declared.Descriptor.{Descriptor}
use Rattle.descriptor.specs.declared.contents.Outcome.{Outcome}
use Rattle.descriptor.specs.declared.contents.Outcome.TheVariants as outcome
use Rattle.descriptor.specs.declared.contents.Placing.{Placing}
use Rattle.descriptor.specs.Descriptors.{last_number}
use Rattle.descriptor.specs.Contents.{State}
use Rattle.cores.specs.declared.place.Work.{Work}
use Rattle.cores.specs.declared.place.Then.TheVariants as then
use Rattle.cores.specs.declared.place.Clearing.TheVariants as clearing
use Rattle.cores.specs.declared.place.Settling.TheVariants as settling
use Rattle.cores.specs.declared.place.Place.{Place}
use Rattle.cores.specs.declared.place.Place.TheVariants.{Finished, Begin, Fetch, Decide, Clear, Settle}
use Rattle.cores.specs.declared.place.Own.TheVariants as own
use Rattle.model.specs.World.{World}
use Rattle.model.specs.Rules.{next_entry, after_clear_swap, answer_of}
use Rattle.model.specs.Step.{cleared_to}
use Rattle.model.specs.Calls.{Call, steps, collects}
use Rattle.cores.specs.Cores.{is_finished}
use Rattle.model.specs.Perform.{Performed}
use Rattle.model.specs.Histories.{answers_of}
use Rattle.model.proofs.LoneRun.{Run, Runs, own_mark, run_length, run_entry, run_work, runner, lone, collect_by}
use Rattle.model.proofs.LoneSteps.{Working, is_placing, placing_for, made_for, placing_mark, cleared, begins, fetches, makes_mark, places, reads_placing, reads_state, settles, decides_outcome, reads_entry, loads_word, clears}

-- A lone run from its start to its end: the steps of each entry, then all entries by induction.

-- n steps, each answered "working", lead from w to v
pub record Works (r : Run) (n : ℕ) (w v : World) : Type 0 where
  pub answers : (cs : List Call) → answers_of w (replicate n (steps r.core) ++ cs) ≡ replicate n (Ok 0) ++ answers_of v cs

pub none_works : (r : Run) (w : World) → Works r 0 w w
none_works r w = record { answers = λ cs. refl }

pub step_works : {w v u : World} (r : Run) (n : ℕ) → Working r w v → Works r n v u → Works r (suc n) w u
unfolding answers_of
step_works r n e h =
    record { answers = λ cs. ap (λ (p : Performed). p.answer ∷ answers_of p.world (replicate n (steps r.core) ++ cs)) e.performed ∙ ap (λ x. Ok 0 ∷ x) (h.answers cs) }

-- a list of a + b times x, and what follows it
split : {X : Type 0} (a b : ℕ) (x : X) (xs : List X) → replicate (a + b) x ++ xs ≡ replicate a x ++ (replicate b x ++ xs)
split a b x xs = ap (λ ys. ys ++ xs) (sym (replicate-append-replicate a b x)) ∙ append_assoc (replicate a x) (replicate b x) xs

pub works_on : {w v u : World} (r : Run) (a b : ℕ) → Works r a w v → Works r b v u → Works r (a + b) w u
works_on {w = w} {u = u} r a b h g =
    record { answers = λ cs. ap (answers_of w) (split a b (steps r.core) cs) ∙ h.answers (replicate b (steps r.core) ++ cs) ∙ ap (λ x. replicate a (Ok 0) ++ x) (g.answers cs) ∙ sym (split a b (Ok 0) (answers_of u cs)) }

-- from w, n steps are answered "working", the next one finishes, and the answer then collected is a
pub record Ends (r : Run) (n : ℕ) (w : World) (a : ℕ) : Type 0 where
  pub answers : answers_of w (replicate (n + 1) (steps r.core) ++ (collects r.core ∷ [])) ≡ replicate n (Ok 0) ++ (Ok 1 ∷ (Ok a ∷ []))

pub works_ends : {w v : World} (r : Run) (a b x : ℕ) → Works r a w v → Ends r b v x → Ends r (a + b) w x
works_ends {w = w} r a b x h g =
    record {
      answers =
          ap (λ n. answers_of w (replicate n (steps r.core) ++ (collects r.core ∷ []))) {x = a + b + 1} {y = a + (b + 1)} (omega arith)
          ∙ ap (answers_of w) (split a (b + 1) (steps r.core) (collects r.core ∷ []))
          ∙ h.answers (replicate (b + 1) (steps r.core) ++ (collects r.core ∷ []))
          ∙ ap (λ y. replicate a (Ok 0) ++ y) g.answers
          ∙ sym (split a b (Ok 0) (Ok 1 ∷ (Ok x ∷ [])));
    }

-- What is kept of the words.

-- every entry's word is there
abbrev pub Within : Run → List ℕ → Type 0
Within r ws = (j : ℕ) → j < run_length r → (run_entry r j).word < length ws

-- no word holds a placing mark
abbrev pub Unplaced : List ℕ → Type 0
Unplaced ws = (x : ℕ) → is_placing (reading_of (get_or ws x 0)) ≡ false

-- from entry i on, each word holds its expected value
abbrev pub MatchFrom : Run → List ℕ → ℕ → Type 0
MatchFrom r ws i = (j : ℕ) → i ≤ j → j < run_length r → get_or ws (run_entry r j).word 0 ≡ raw_of (word.Plain (run_entry r j).expected)

-- what holds of each word holds after a store of which it holds
each_set : (P : ℕ → Type 0) (ws : List ℕ) (i v : ℕ) → P v → ((x : ℕ) → P (get_or ws x 0)) → (x : ℕ) → P (get_or (set ws i v) x 0)
each_set P [] i v p h x = h x
each_set P (a ∷ ws) zero v p h zero = p
each_set P (a ∷ ws) zero v p h (suc x) = h (suc x)
each_set P (a ∷ ws) (suc i) v p h zero = h zero
each_set P (a ∷ ws) (suc i) v p h (suc x) = each_set P ws i v p (λ y. h (suc y)) x

each_swapped : (P : ℕ → Type 0) (ws : List ℕ) (i old new : ℕ) → P new → ((x : ℕ) → P (get_or ws x 0)) → (x : ℕ) → P (get_or (swapped ws i old new) x 0)
each_swapped P ws i old new p h x =
    cond_both (ltb i (length ws)) _ _ (λ ys. P (get_or ys x 0))
    (λ _. cond_both (eqb (get_or ws i 0) old) _ _ (λ ys. P (get_or ys x 0)) (λ _. each_set P ws i new p h x) (λ _. h x))
    (λ _. h x)

-- the operation's own mark, and the values of its list, are no placing marks
mark_unplaced : (r : Run) → Runs r → is_placing (reading_of (raw_of (word.Operation (own_mark r)))) ≡ false
mark_unplaced r f =
    ap is_placing (written_back (word.Operation (own_mark r)) _ refl (f.eight, f.numbered, omega (arith, f.number_fits)))

value_unplaced : (v : ℕ) → v < 2 ^ 61 → is_placing (reading_of (raw_of (word.Plain v))) ≡ false
value_unplaced v l = ap is_placing (written_back (word.Plain v) _ refl l)

-- placing T's mark leaves no placing mark
pub stored_unplaced : (r : Run) → Runs r → (ws : List ℕ) (i : ℕ) → Unplaced ws → Unplaced (set ws i (raw_of (word.Operation (own_mark r))))
stored_unplaced r f ws i unplaced =
    each_set (λ x. is_placing (reading_of x) ≡ false) ws i (raw_of (word.Operation (own_mark r))) (mark_unplaced r f) unplaced

cleared_unplaced : (r : Run) (i : ℕ) (o : Outcome) → i < run_length r → is_placing (reading_of (raw_of (cleared_to o (run_entry r i)))) ≡ false
cleared_unplaced r i outcome.Succeeded l = value_unplaced (run_entry r i).new ((listed_lawful r.list).new_fits i l)
cleared_unplaced r i (outcome.Failed j) l = value_unplaced (run_entry r i).expected ((listed_lawful r.list).expected_fits i l)

-- The six steps of an entry whose word matches: T's mark is there after.

unfinished_next : (t : Work) → is_finished (next_entry t) ≡ false
unfinished_next t = cond_both (ltb (t.index + 1) t.count) _ _ (λ p. is_finished p ≡ false) (λ _. refl) (λ _. refl)

pub entry_placed : (r : Run) → Runs r → (ws : List ℕ) (d : Descriptor Placing) (i : ℕ) (p : Place) → i < run_length r → d.last < last_number → (run_entry r i).word < length ws
    → get_or ws (run_entry r i).word 0 ≡ raw_of (word.Plain (run_entry r i).expected) → next_entry (run_work r i) ≡ p
    → Works r 6 (lone r ws (Fetch (run_work r i)) None d) (lone r (set ws (run_entry r i).word (raw_of (word.Operation (own_mark r)))) p None (made_for r (run_entry r i) d))
entry_placed r f ws d i p l left there raw next =
    let e : Entry = run_entry r i in
    let d' : Descriptor Placing = made_for r e d in
    let placed : List ℕ = set ws e.word (raw_of (word.Placing (placing_mark r d'))) in
    let says : reading_of (get_or ws e.word 0) ≡ word.Plain e.expected = written_back (word.Plain e.expected) (get_or ws e.word 0) raw ((listed_lawful r.list).expected_fits i l) in
    let settled : Works r 1 (lone r placed (Settle (placing_mark r d') (settling.Swap (placing_for r e) true) (then.Next (run_work r i))) None d') (lone r (set placed e.word (raw_of (word.Operation (own_mark r)))) (next_entry (run_work r i)) None d') =
    step_works r 0 (settles r f placed d' (placing_mark r d') e (then.Next (run_work r i)) (unfinished_next (run_work r i)) (rw length-set there) (get_or-set_same ws e.word (raw_of (word.Placing (placing_mark r d'))) 0 there)) (none_works r _) in
    let tidied : Works r 1 (lone r placed (Settle (placing_mark r d') (settling.Swap (placing_for r e) true) (then.Next (run_work r i))) None d') (lone r (set ws e.word (raw_of (word.Operation (own_mark r)))) p None d') =
    subst (λ q. Works r 1 (lone r placed (Settle (placing_mark r d') (settling.Swap (placing_for r e) true) (then.Next (run_work r i))) None d') (lone r (set ws e.word (raw_of (word.Operation (own_mark r)))) q None d')) next
    (subst (λ xs. Works r 1 (lone r placed (Settle (placing_mark r d') (settling.Swap (placing_for r e) true) (then.Next (run_work r i))) None d') (lone r xs (next_entry (run_work r i)) None d')) (set-set ws e.word (raw_of (word.Placing (placing_mark r d'))) (raw_of (word.Operation (own_mark r)))) settled) in
    step_works r 5 (fetches r f ws d i l)
    (step_works r 4 (makes_mark r f ws d i e left)
    (step_works r 3 (places r f ws d' (run_work r i) e (placing_mark r d') there raw says)
    (step_works r 2 (reads_placing r f placed d' (then.Next (run_work r i)))
    (step_works r 1 (reads_state r f placed d' (placing_mark r d') e (then.Next (run_work r i))) tidied))))

-- All entries placed: the core is to decide, and no placing mark is left.
pub record AllPlaced (r : Run) (n : ℕ) (ws : List ℕ) (w : World) : Type 0 where
  pub words : List ℕ
  pub placing : Descriptor Placing
  pub last : ℕ
  pub kept : length words ≡ length ws
  pub unplaced : Unplaced words
  pub works : Works r n w (lone r words (Decide (run_work r last) outcome.Succeeded) None placing)

-- the six steps of one more entry first
placed_on : {w v : World} (r : Run) (n : ℕ) (ws ws' : List ℕ) → length ws' ≡ length ws → Works r 6 w v → AllPlaced r n ws' v → AllPlaced r (6 + n) ws w
placed_on r n ws ws' same_size first rest =
    record {
      words = rest.words;
      placing = rest.placing;
      last = rest.last;
      kept = rest.kept ∙ same_size;
      unplaced = rest.unplaced;
      works = works_on r 6 n first rest.works;
    }

-- a store to entry i's word leaves the words of the later entries
match_later : (r : Run) (ws : List ℕ) (i v : ℕ) → MatchFrom r ws i → MatchFrom r (set ws (run_entry r i).word v) (i + 1)
match_later r ws i v h j l m =
    let above : (run_entry r i).word < (run_entry r j).word = (listed_lawful r.list).ascending i j (omega arith) m in
    get_or-set_other ws (run_entry r i).word (run_entry r j).word v 0 (λ q. omega arith) ∙ h j (omega arith) m

pub all_placed : (r : Run) → Runs r → (left i : ℕ) → i + left + 1 ≡ run_length r → (ws : List ℕ) (d : Descriptor Placing) → d.last + left < last_number
    → Within r ws → Unplaced ws → MatchFrom r ws i → AllPlaced r (6 * (left + 1)) ws (lone r ws (Fetch (run_work r i)) None d)
all_placed r f zero i n ws d numbers within unplaced match =
    record {
      words = set ws (run_entry r i).word (raw_of (word.Operation (own_mark r)));
      placing = made_for r (run_entry r i) d;
      last = i;
      kept = length-set ws (run_entry r i).word (raw_of (word.Operation (own_mark r)));
      unplaced = stored_unplaced r f ws (run_entry r i).word unplaced;
      works = entry_placed r f ws d i (Decide (run_work r i) outcome.Succeeded) (omega arith) (omega arith) (within i (omega arith)) (match i (omega arith) (omega arith)) (cond-false (ltb (i + 1) (run_length r)) _ _ (le-ltb (i + 1) (run_length r) (omega arith)));
    }
all_placed r f (suc left) i n ws d numbers within unplaced match =
    let ws' : List ℕ = set ws (run_entry r i).word (raw_of (word.Operation (own_mark r))) in
    let d' : Descriptor Placing = made_for r (run_entry r i) d in
    let first : Works r 6 (lone r ws (Fetch (run_work r i)) None d) (lone r ws' (Fetch (run_work r (i + 1))) None d') =
    entry_placed r f ws d i (Fetch (run_work r (i + 1))) (omega arith) (omega arith) (within i (omega arith)) (match i (omega arith) (omega arith)) (cond-true (ltb (i + 1) (run_length r)) _ _ (lt-ltb (i + 1) (run_length r) (omega arith))) in
    let rest : AllPlaced r (6 * (left + 1)) ws' (lone r ws' (Fetch (run_work r (i + 1))) None d') =
    all_placed r f left (i + 1) (omega arith) ws' d' (omega arith)
    (λ j l. rw length-set (within j l))
    (stored_unplaced r f ws (run_entry r i).word unplaced)
    (match_later r ws i (raw_of (word.Operation (own_mark r))) match) in
    let count : 6 + 6 * (left + 1) ≡ 6 * (suc left + 1) = omega arith in
    subst (λ a. AllPlaced r a ws (lone r ws (Fetch (run_work r i)) None d)) count
    (placed_on r (6 * (left + 1)) ws ws' (length-set ws (run_entry r i).word (raw_of (word.Operation (own_mark r)))) first rest)

-- Clearing: two steps of each entry whatever comes after, and the third to the next entry or to the end.
entry_loaded : (r : Run) → Runs r → (ws : List ℕ) (s : State) (d : Descriptor Placing) (i : ℕ) (o : Outcome) → i < run_length r → Within r ws → Unplaced ws
    → Works r 2 (lone r ws (Clear (run_work r i) o clearing.Read) s d) (lone r ws (Clear (run_work r i) o (clearing.Swap (run_entry r i))) s d)
entry_loaded r f ws s d i o l within unplaced =
    step_works r 1 (reads_entry r f ws s d i o l)
    (step_works r 0 (loads_word r f ws s d (run_work r i) o (run_entry r i) (within i l) (unplaced (run_entry r i).word)) (none_works r _))

-- the swap of the last entry finishes
last_cleared : (r : Run) → Runs r → (ws : List ℕ) (s : State) (d : Descriptor Placing) (i : ℕ) (o : Outcome) → i + 1 ≡ run_length r → Within r ws
    → Ends r 0 (lone r ws (Clear (run_work r i) o (clearing.Swap (run_entry r i))) s d) (answer_of o)
unfolding answers_of
last_cleared r f ws s d i o n within =
    let finished : after_clear_swap (run_work r i) o (own.List (own_mark r)) ≡ Finished (answer_of o) = grind (arith, nat_tests) in
    record {
      answers =
          ap (λ (p : Performed). p.answer ∷ answers_of p.world (collects r.core ∷ [])) (clears r f ws s d i o (run_entry r i) (Finished (answer_of o)) (within i (omega arith)) finished)
          ∙ ap (λ x. Ok 1 ∷ (x ∷ [])) (ap (λ (p : Performed). p.answer) (collect_by r f (cleared r ws o (run_entry r i)) (runner r (Finished (answer_of o)) s d) refl refl));
    }

-- All entries cleared, from entry i on.
pub all_cleared : (r : Run) → Runs r → (left i : ℕ) → i + left + 1 ≡ run_length r → (ws : List ℕ) (s : State) (d : Descriptor Placing) (o : Outcome)
    → Within r ws → Unplaced ws → Ends r (3 * left + 2) (lone r ws (Clear (run_work r i) o clearing.Read) s d) (answer_of o)
all_cleared r f zero i n ws s d o within unplaced =
    works_ends r 2 0 (answer_of o) (entry_loaded r f ws s d i o (omega arith) within unplaced) (last_cleared r f ws s d i o (omega arith) within)
all_cleared r f (suc left) i n ws s d o within unplaced =
    let e : Entry = run_entry r i in
    let ws' : List ℕ = cleared r ws o e in
    let same_size : length ws' ≡ length ws = (swaps_of ws e.word (raw_of (word.Operation (own_mark r))) (raw_of (cleared_to o e))).same_length in
    let on : after_clear_swap (run_work r i) o (own.List (own_mark r)) ≡ Clear (run_work r (i + 1)) o clearing.Read = cond-true (ltb (i + 1) (run_length r)) _ _ (lt-ltb (i + 1) (run_length r) (omega arith)) in
    let swap : Works r 1 (lone r ws (Clear (run_work r i) o (clearing.Swap e)) s d) (lone r ws' (Clear (run_work r (i + 1)) o clearing.Read) s d) =
    step_works r 0 (record { performed = clears r f ws s d i o e (Clear (run_work r (i + 1)) o clearing.Read) (within i (omega arith)) on }) (none_works r _) in
    let rest : Ends r (3 * left + 2) (lone r ws' (Clear (run_work r (i + 1)) o clearing.Read) s d) (answer_of o) =
    all_cleared r f left (i + 1) (omega arith) ws' s d o (λ j l. omega (arith, within j l))
    (each_swapped (λ x. is_placing (reading_of x) ≡ false) ws e.word (raw_of (word.Operation (own_mark r))) (raw_of (cleared_to o e)) (cleared_unplaced r i o (omega arith)) unplaced) in
    let count : 3 + (3 * left + 2) ≡ 3 * suc left + 2 = omega arith in
    subst (λ a. Ends r a (lone r ws (Clear (run_work r i) o clearing.Read) s d) (answer_of o)) count
    (works_ends r 3 (3 * left + 2) (answer_of o) (works_on r 2 1 (entry_loaded r f ws s d i o (omega arith) within unplaced) swap) rest)

-- A run from a decision to its end.
pub decided_ends : (r : Run) → Runs r → (ws : List ℕ) (d : Descriptor Placing) (i : ℕ) (o : Outcome) → Within r ws → Unplaced ws → Ends r (3 * run_length r) (lone r ws (Decide (run_work r i) o) None d) (answer_of o)
decided_ends r f ws d i o within unplaced =
    let some : 1 ≤ run_length r = (listed_lawful r.list).some in
    let count : 1 + (3 * (run_length r - 1) + 2) ≡ 3 * run_length r = omega arith in
    subst (λ n. Ends r n (lone r ws (Decide (run_work r i) o) None d) (answer_of o)) count
    (works_ends r 1 (3 * (run_length r - 1) + 2) (answer_of o) (step_works r 0 (decides_outcome r f ws d i o) (none_works r _)) (all_cleared r f (run_length r - 1) 0 (omega arith) ws (Some o) d o within unplaced))

placed_ends : {w : World} (r : Run) → Runs r → (n : ℕ) (ws : List ℕ) → Within r ws → AllPlaced r n ws w → Ends r (n + 3 * run_length r) w 0
placed_ends r f n ws within placed =
    works_ends r n (3 * run_length r) 0 placed.works
    (decided_ends r f placed.words placed.placing placed.last outcome.Succeeded (λ j m. omega (arith, within j m, placed.kept)) placed.unplaced)

pub begun : (r : Run) → Runs r → (ws : List ℕ) (d : Descriptor Placing) → Works r 1 (lone r ws (Begin (own_mark r)) None d) (lone r ws (Fetch (run_work r 0)) None d)
begun r f ws d = step_works r 0 (begins r f ws d) (none_works r _)

-- The whole run, where every entry matches.
pub matched_ends : (r : Run) → Runs r → (ws : List ℕ) (d : Descriptor Placing) → d.last + run_length r ≤ last_number → Within r ws → Unplaced ws → MatchFrom r ws 0
    → Ends r (1 + 9 * run_length r) (lone r ws (Begin (own_mark r)) None d) 0
matched_ends r f ws d numbers within unplaced match =
    let some : 1 ≤ run_length r = (listed_lawful r.list).some in
    let count : 1 + (6 * (run_length r - 1 + 1) + 3 * run_length r) ≡ 1 + 9 * run_length r = omega arith in
    subst (λ n. Ends r n (lone r ws (Begin (own_mark r)) None d) 0) count
    (works_ends r 1 (6 * (run_length r - 1 + 1) + 3 * run_length r) 0 (begun r f ws d)
    (placed_ends r f (6 * (run_length r - 1 + 1)) ws within (all_placed r f (run_length r - 1) 0 (omega arith) ws d (omega arith) within unplaced match)))
