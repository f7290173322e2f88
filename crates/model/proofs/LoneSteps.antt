use Rattle.std.proofs.Common.{◌≡◌, ℕ, ◌+◌, ◌<◌, Bool, true, false, cond, ◌&&◌, eqb, ltb, leb, List, length, get_or, set, Some, None, Ok, refl, ap, ◌∙◌, arith}
use Rattle.std.proofs.lemmas.Bool.Decides.{nat_tests}
use Rattle.std.proofs.lemmas.Bool.{cond-true, cond-false, lt-ltb, eq-eqb, lt-leb, ne_eqb}
use Rattle.word.specs.declared.Mark.{Mark}
use Rattle.word.specs.declared.Word.{Word}
use Rattle.word.specs.declared.Word.TheVariants as word
use Rattle.word.specs.Word.{reading_of, raw_of}
use Rattle.bank.specs.Bank.{swapped}
use Rattle.entries.specs.declared.Entry.{Entry}
use Rattle.descriptor.specs.declared.Descriptor.{Descriptor}
use Rattle.descriptor.specs.declared.contents.Outcome.{Outcome}
use Rattle.descriptor.specs.declared.contents.Outcome.TheVariants as outcome
use Rattle.descriptor.specs.declared.contents.Placing.{Placing}
use Rattle.descriptor.specs.Descriptors.{last_number, creation}
use Rattle.descriptor.specs.Contents.{count_of, entry_in, State}
use Rattle.cores.specs.declared.place.Work.{Work}
use Rattle.cores.specs.declared.place.Then.{Then}
use Rattle.cores.specs.declared.place.Then.TheVariants as then
use Rattle.cores.specs.declared.place.Clearing.TheVariants as clearing
use Rattle.cores.specs.declared.place.Settling.TheVariants as settling
use Rattle.cores.specs.declared.place.Place.{Place}
use Rattle.cores.specs.declared.place.Place.TheVariants.{Begin, Fetch, Make, Try, Decide, Clear, Settle}
use Rattle.cores.specs.declared.place.Own.TheVariants as own
use Rattle.cores.specs.declared.table.Core.{Core}
use Rattle.model.specs.World.{World}
use Rattle.model.specs.Rules.{by_sight, through_mark, after_begin, after_try, after_decide, outcome_after, after_clear_load, after_clear_swap, resume, is_undecided}
use Rattle.model.specs.Step.{after_make, cleared_to, change_world, step_change, step_place}
use Rattle.model.specs.Calls.{steps}
use Rattle.cores.specs.Cores.{is_idle, is_finished, is_making}
use Rattle.model.specs.Perform.{perform}
use Rattle.model.proofs.LoneRun.{Run, Runs, own_mark, run_length, run_entry, run_work, runner, lone, runner_at, operation_here, placing_here, made, settled_outcome, step_to}

-- The steps of a lone run, rule by rule. The core is at work before and after.

pub record Working (r : Run) (w v : World) : Type 0 where
  pub performed : perform w (steps r.core) ≡ record { answer = Ok 0; world = v }

works_to : (r : Run) → Runs r → (ws : List ℕ) (p : Place) (s : State) (d : Descriptor Placing) (ws' : List ℕ) (p' : Place) (s' : State) (d' : Descriptor Placing)
    → is_finished p' ≡ false → is_idle p ≡ false → is_finished p ≡ false → (is_making p && leb last_number d.last) ≡ false
    → change_world (lone r ws p s d) r.core (step_change p) ≡ lone r ws' p s' d'
    → step_place (lone r ws p s d) r.core (own.List (own_mark r)) p ≡ p'
    → Working r (lone r ws p s d) (lone r ws' p' s' d')
works_to r f ws p s d ws' p' s' d' on busy unfinished left change place =
    record {
      performed =
          step_to r f ws p s d ws' p' s' d' busy unfinished left change place
          ∙ ap (λ b. record { answer = Ok (cond b 1 0); world = lone r ws' p' s' d' }) on;
    }

-- the word that a raw word says, where there is one
pub word_there : (ws : List ℕ) (i : ℕ) (x : Word) → i < length ws → reading_of (get_or ws i 0) ≡ x → cond (ltb i (length ws)) (Some (reading_of (get_or ws i 0))) None ≡ Some x
word_there ws i x l e = cond-true (ltb i (length ws)) _ _ (lt-ltb i (length ws) l) ∙ ap Some e

-- a swap from what is there stores, and another keeps
swap_stores : (ws : List ℕ) (i old new : ℕ) → i < length ws → get_or ws i 0 ≡ old → swapped ws i old new ≡ set ws i new
swap_stores ws i old new l e =
    cond-true (ltb i (length ws)) _ _ (lt-ltb i (length ws) l) ∙ cond-true (eqb (get_or ws i 0) old) _ _ (eq-eqb (get_or ws i 0) old e)

swap_keeps : (ws : List ℕ) (i old new : ℕ) → (get_or ws i 0 ≡ old → ⊥) → swapped ws i old new ≡ ws
swap_keeps ws i old new ne = grind (arith, nat_tests)

-- the entry at i is there
entry_there : (r : Run) (i : ℕ) → i < run_length r → entry_in (Some r.list) i ≡ Some (run_entry r i)
entry_there r i l = cond-true (ltb i (run_length r)) _ _ (lt-ltb i (run_length r) l)

pub begins : (r : Run) → Runs r → (ws : List ℕ) (d : Descriptor Placing) → Working r (lone r ws (Begin (own_mark r)) None d) (lone r ws (Fetch (run_work r 0)) None d)
begins r f ws d =
    works_to r f ws (Begin (own_mark r)) None d ws (Fetch (run_work r 0)) None d refl refl refl refl refl
    (ap (λ x. through_mark x (Begin (own_mark r)) (λ o. after_begin (own_mark r) (count_of o.list) o.state)) (operation_here r f ws (Begin (own_mark r)) None d))

pub fetches : (r : Run) → Runs r → (ws : List ℕ) (d : Descriptor Placing) (i : ℕ) → i < run_length r → Working r (lone r ws (Fetch (run_work r i)) None d) (lone r ws (Make (run_work r i) (run_entry r i)) None d)
fetches r f ws d i l =
    works_to r f ws (Fetch (run_work r i)) None d ws (Make (run_work r i) (run_entry r i)) None d refl refl refl refl refl
    (ap (λ x. through_mark x (Begin (own_mark r)) (λ o. by_sight (entry_in o.list i) (Fetch (run_work r i)) (Make (run_work r i)))) (operation_here r f ws (Fetch (run_work r i)) None d)
    ∙ ap (λ x. by_sight x (Fetch (run_work r i)) (Make (run_work r i))) (entry_there r i l))

-- the contents of the placing descriptor for an entry
abbrev pub placing_for : Run → Entry → Placing
placing_for r e = record { operation = own_mark r; word = e.word; expected = e.expected }

-- the descriptor that Make leaves, and its mark
abbrev pub made_for : Run → Entry → Descriptor Placing → Descriptor Placing
made_for r e d = record { last = d.last + 1; contents = placing_for r e }

abbrev pub placing_mark : Run → Descriptor Placing → Mark
placing_mark r d = record { core = r.core; number = d.last }

pub makes_mark : (r : Run) → Runs r → (ws : List ℕ) (d : Descriptor Placing) (i : ℕ) (e : Entry) → d.last < last_number
    → Working r (lone r ws (Make (run_work r i) e) None d) (lone r ws (Try (run_work r i) e (placing_mark r (made_for r e d))) None (made_for r e d))
makes_mark r f ws d i e l =
    works_to r f ws (Make (run_work r i) e) None d ws (Try (run_work r i) e (placing_mark r (made_for r e d))) None (made_for r e d) refl refl refl
    (lt-leb last_number d.last l)
    (made r f ws (Make (run_work r i) e) None d (placing_for r e) ∙ ap (λ x. lone r ws (Make (run_work r i) e) None x) (cond-true (ltb d.last last_number) _ _ (lt-ltb d.last last_number l)))
    (ap (λ (c : Core). after_make r.core (run_work r i) e (creation c.placing)) (runner_at r f ws (runner r (Make (run_work r i) e) None d))
    ∙ ap (after_make r.core (run_work r i) e) (cond-true (ltb d.last last_number) _ _ (lt-ltb d.last last_number l)))

-- Try, where the word holds the expected value
pub places : (r : Run) → Runs r → (ws : List ℕ) (d : Descriptor Placing) (t : Work) (e : Entry) (m : Mark) → e.word < length ws → get_or ws e.word 0 ≡ raw_of (word.Plain e.expected) → reading_of (get_or ws e.word 0) ≡ word.Plain e.expected
    → Working r (lone r ws (Try t e m) None d) (lone r (set ws e.word (raw_of (word.Placing m))) (Settle m settling.Read (then.Next t)) None d)
places r f ws d t e m l raw says =
    works_to r f ws (Try t e m) None d (set ws e.word (raw_of (word.Placing m))) (Settle m settling.Read (then.Next t)) None d refl refl refl refl
    (ap (λ x. lone r x (Try t e m) None d) (swap_stores ws e.word (raw_of (word.Plain e.expected)) (raw_of (word.Placing m)) l raw))
    (ap (λ x. by_sight x (Try t e m) (after_try t e m)) (word_there ws e.word (word.Plain e.expected) l says)
    ∙ cond-true (eqb e.expected e.expected) _ _ (eq-eqb e.expected e.expected refl))

-- Try, where it holds another value
pub differs : (r : Run) → Runs r → (ws : List ℕ) (d : Descriptor Placing) (t : Work) (e : Entry) (m : Mark) (v : ℕ) → e.word < length ws → (get_or ws e.word 0 ≡ raw_of (word.Plain e.expected) → ⊥) → reading_of (get_or ws e.word 0) ≡ word.Plain v → (v ≡ e.expected → ⊥)
    → Working r (lone r ws (Try t e m) None d) (lone r ws (Decide t (outcome.Failed t.index)) None d)
differs r f ws d t e m v l raw says ne =
    works_to r f ws (Try t e m) None d ws (Decide t (outcome.Failed t.index)) None d refl refl refl refl
    (ap (λ x. lone r x (Try t e m) None d) (swap_keeps ws e.word (raw_of (word.Plain e.expected)) (raw_of (word.Placing m)) raw))
    (ap (λ x. by_sight x (Try t e m) (after_try t e m)) (word_there ws e.word (word.Plain v) l says)
    ∙ cond-false (eqb v e.expected) _ _ (ne_eqb v e.expected ne))

-- Settle of the core's own mark, where its operation is undecided
pub reads_placing : (r : Run) → Runs r → (ws : List ℕ) (d : Descriptor Placing) (k : Then)
    → Working r (lone r ws (Settle (placing_mark r d) settling.Read k) None d) (lone r ws (Settle (placing_mark r d) (settling.State d.contents) k) None d)
reads_placing r f ws d k =
    works_to r f ws (Settle (placing_mark r d) settling.Read k) None d ws (Settle (placing_mark r d) (settling.State d.contents) k) None d refl refl refl refl refl
    (ap (λ x. through_mark x (resume k) (λ p. Settle (placing_mark r d) (settling.State p) k)) (placing_here r f ws (Settle (placing_mark r d) settling.Read k) None d))

pub reads_state : (r : Run) → Runs r → (ws : List ℕ) (d : Descriptor Placing) (m : Mark) (e : Entry) (k : Then)
    → Working r (lone r ws (Settle m (settling.State (placing_for r e)) k) None d) (lone r ws (Settle m (settling.Swap (placing_for r e) true) k) None d)
reads_state r f ws d m e k =
    works_to r f ws (Settle m (settling.State (placing_for r e)) k) None d ws (Settle m (settling.Swap (placing_for r e) true) k) None d refl refl refl refl refl
    (ap (λ x. through_mark x (Settle m (settling.Swap (placing_for r e) false) k) (λ o. Settle m (settling.Swap (placing_for r e) (is_undecided o.state)) k)) (operation_here r f ws (Settle m (settling.State (placing_for r e)) k) None d))

pub settles : (r : Run) → Runs r → (ws : List ℕ) (d : Descriptor Placing) (m : Mark) (e : Entry) (k : Then) → is_finished (resume k) ≡ false → e.word < length ws → get_or ws e.word 0 ≡ raw_of (word.Placing m)
    → Working r (lone r ws (Settle m (settling.Swap (placing_for r e) true) k) None d) (lone r (set ws e.word (raw_of (word.Operation (own_mark r)))) (resume k) None d)
settles r f ws d m e k on l raw =
    works_to r f ws (Settle m (settling.Swap (placing_for r e) true) k) None d (set ws e.word (raw_of (word.Operation (own_mark r)))) (resume k) None d on refl refl refl
    (ap (λ x. lone r x (Settle m (settling.Swap (placing_for r e) true) k) None d) (swap_stores ws e.word (raw_of (word.Placing m)) (raw_of (word.Operation (own_mark r))) l raw))
    (ap (λ x. by_sight x (Settle m (settling.Swap (placing_for r e) true) k) (λ seen. resume k)) (word_there ws e.word (reading_of (get_or ws e.word 0)) l refl))

pub decides_outcome : (r : Run) → Runs r → (ws : List ℕ) (d : Descriptor Placing) (i : ℕ) (o : Outcome)
    → Working r (lone r ws (Decide (run_work r i) o) None d) (lone r ws (Clear (run_work r 0) o clearing.Read) (Some o) d)
decides_outcome r f ws d i o =
    works_to r f ws (Decide (run_work r i) o) None d ws (Clear (run_work r 0) o clearing.Read) (Some o) d refl refl refl refl
    (settled_outcome r f ws (Decide (run_work r i) o) None d o)
    (ap (λ x. through_mark x (Begin (own_mark r)) (λ p. after_decide (run_work r i) (outcome_after p.state o))) (operation_here r f ws (Decide (run_work r i) o) None d))

-- Clear
pub reads_entry : (r : Run) → Runs r → (ws : List ℕ) (s : State) (d : Descriptor Placing) (i : ℕ) (o : Outcome) → i < run_length r
    → Working r (lone r ws (Clear (run_work r i) o clearing.Read) s d) (lone r ws (Clear (run_work r i) o (clearing.Load (run_entry r i))) s d)
reads_entry r f ws s d i o l =
    works_to r f ws (Clear (run_work r i) o clearing.Read) s d ws (Clear (run_work r i) o (clearing.Load (run_entry r i))) s d refl refl refl refl refl
    (ap (λ x. through_mark x (Begin (own_mark r)) (λ p. by_sight (entry_in p.list i) (Clear (run_work r i) o clearing.Read) (λ e. Clear (run_work r i) o (clearing.Load e)))) (operation_here r f ws (Clear (run_work r i) o clearing.Read) s d)
    ∙ ap (λ x. by_sight x (Clear (run_work r i) o clearing.Read) (λ e. Clear (run_work r i) o (clearing.Load e))) (entry_there r i l))

abbrev pub is_placing : Word → Bool
is_placing (word.Plain v) = false
is_placing (word.Placing m) = true
is_placing (word.Operation m) = false
is_placing (word.Foreign n) = false

-- with no placing mark to settle, the swap is next
loads_on : (t : Work) (o : Outcome) (e : Entry) (x : Word) → is_placing x ≡ false → after_clear_load t o e x ≡ Clear t o (clearing.Swap e)
loads_on t o e (word.Plain v) h = refl
loads_on t o e (word.Placing m) h = absurd (grind arith)
loads_on t o e (word.Operation m) h = refl
loads_on t o e (word.Foreign n) h = refl

pub loads_word : (r : Run) → Runs r → (ws : List ℕ) (s : State) (d : Descriptor Placing) (t : Work) (o : Outcome) (e : Entry) → e.word < length ws → is_placing (reading_of (get_or ws e.word 0)) ≡ false
    → Working r (lone r ws (Clear t o (clearing.Load e)) s d) (lone r ws (Clear t o (clearing.Swap e)) s d)
loads_word r f ws s d t o e l h =
    works_to r f ws (Clear t o (clearing.Load e)) s d ws (Clear t o (clearing.Swap e)) s d refl refl refl refl refl
    (ap (λ x. by_sight x (Clear t o (clearing.Load e)) (after_clear_load t o e)) (word_there ws e.word (reading_of (get_or ws e.word 0)) l refl)
    ∙ loads_on t o e (reading_of (get_or ws e.word 0)) h)

-- the words after an entry is cleared
abbrev pub cleared : Run → List ℕ → Outcome → Entry → List ℕ
cleared r ws o e = swapped ws e.word (raw_of (word.Operation (own_mark r))) (raw_of (cleared_to o e))

pub clears : (r : Run) → Runs r → (ws : List ℕ) (s : State) (d : Descriptor Placing) (i : ℕ) (o : Outcome) (e : Entry) (p : Place) → e.word < length ws → after_clear_swap (run_work r i) o (own.List (own_mark r)) ≡ p
    → perform (lone r ws (Clear (run_work r i) o (clearing.Swap e)) s d) (steps r.core) ≡ record { answer = Ok (cond (is_finished p) 1 0); world = lone r (cleared r ws o e) p s d }
clears r f ws s d i o e p l q =
    step_to r f ws (Clear (run_work r i) o (clearing.Swap e)) s d (cleared r ws o e) p s d refl refl refl refl
    (ap (λ x. by_sight x (Clear (run_work r i) o (clearing.Swap e)) (λ seen. after_clear_swap (run_work r i) o (own.List (own_mark r)))) (word_there ws e.word (reading_of (get_or ws e.word 0)) l refl)
    ∙ q)
