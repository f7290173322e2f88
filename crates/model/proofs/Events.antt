use Rattle.std.proofs.Common.{◌≡◌, ℕ, ◌<◌, Bool, true, false, length, Some, None, sym, refl, ◌∙◌, subst, arith}
use Rattle.std.proofs.lemmas.Bool.{cond_both, false≢true}
use Rattle.word.specs.declared.Mark.{Mark}
use Rattle.word.specs.declared.Word.{Word}
use Rattle.word.specs.declared.Word.TheVariants as word
use Rattle.entries.specs.declared.Entry.{Entry}
use Rattle.descriptor.specs.declared.contents.Outcome.{Outcome}
use Rattle.descriptor.specs.declared.contents.Outcome.TheVariants as outcome
use Rattle.descriptor.specs.declared.contents.Placing.{Placing}
use Rattle.cores.specs.declared.place.Work.{Work}
use Rattle.cores.specs.declared.place.Then.{Then}
use Rattle.cores.specs.declared.place.Then.TheVariants as then
use Rattle.cores.specs.declared.place.Clearing.TheVariants as clearing
use Rattle.cores.specs.declared.place.Settling.TheVariants as settling
use Rattle.cores.specs.declared.place.Place.{Place}
use Rattle.cores.specs.declared.place.Place.TheVariants.{Idle, Finished, Look, Begin, Fetch, Make, Try, Decide, Clear, Settle}
use Rattle.cores.specs.declared.place.Own.{Own}
use Rattle.cores.specs.declared.place.Own.TheVariants as own
use Rattle.model.specs.Rules.{same_mark, first_entry, entry_after, has_more, next_entry, resume, answer_of, after_last, after_clear_swap}
use Rattle.cores.specs.Cores.{home, is_finished}
use Rattle.model.specs.Step.{cleared_to, settled_to}
use Rattle.model.specs.Plain.{HoldsExpected}
use Rattle.model.proofs.Memory.{Memory, entry, upd, move, put, settled, fresh_pl}
use Rattle.model.proofs.Facts.{Made, Current, Undecided, PlCurrent, PlaceOk, OwnOk, Inv}
use Rattle.model.proofs.Updates.{upd_same, upd_other}
use Rattle.model.proofs.Go.{same_mark_eq, next_is}
use Rattle.model.proofs.Showing.{shown_in, value_found, shown_settled, shown_cleared, shown_placed, shown_made}

-- What an order of operations has to know of a step: whether it decides an operation, finishes one, or sees a value that differs.

-- whether a core is about to decide that an operation failed
abbrev pub fails : Place → Bool
fails Idle = false
fails (Finished v) = false
fails (Look i) = false
fails (Begin m) = false
fails (Fetch t) = false
fails (Make t e) = false
fails (Try t e m) = false
fails (Decide t outcome.Succeeded) = false
fails (Decide t (outcome.Failed i)) = true
fails (Clear t o c) = false
fails (Settle m c k) = false

-- neither finished nor about to decide a failure
abbrev pub Ordinary : Place → Type 0
Ordinary p = (is_finished p ≡ false) × (fails p ≡ false)

-- of T's entries, i is the first that shows another value than it expects
pub record Sight (w : Memory) (T : Mark) (i : ℕ) : Type 0 where
  pub inside : i < length (w.ents T.core)
  pub other : HoldsExpected (shown_in w) (w.ents T.core) i → ⊥
  pub earlier : Undecided w T → (j : ℕ) → j < i → HoldsExpected (shown_in w) (w.ents T.core) j

pub data Event (w w' : Memory) (c : ℕ) : Type 0 where
  ordinary : shown_in w' ≡ shown_in w → w'.state ≡ w.state → Ordinary (w'.place c) → Event w w' c
  -- a read sees its word plain
  read_done : (i v : ℕ) → w.place c ≡ Look i → w'.place c ≡ Finished v → shown_in w i ≡ v → shown_in w' ≡ shown_in w → w'.state ≡ w.state → Event w w' c
  -- a core clears the last entry of its own operation
  own_done : (M : Mark) (o : Outcome) → w.own c ≡ own.List M → w.state c ≡ Some o → w'.place c ≡ Finished (answer_of o) → shown_in w' ≡ shown_in w → w'.state ≡ w.state → Event w w' c
  -- Try sees another value than entry i expects, while the entries before it, of an undecided operation, show what they expect
  differs : (t : Work) (i : ℕ) → w'.place c ≡ Decide t (outcome.Failed i) → Made w t.operation → (Current w t.operation → Sight w t.operation i)
      → shown_in w' ≡ shown_in w → w'.state ≡ w.state → Event w w' c
  -- Decide changes a state
  decides : (t : Work) (o : Outcome) → w.place c ≡ Decide t o → Current w t.operation → Undecided w t.operation
      → w' ≡ move (settled w t.operation.core (Some o)) c (Clear (first_entry t.operation t.count) o clearing.Read) → Event w w' c

-- numbers, lists and what cores run stay; so do the places of other cores
pub record Stepped (w w' : Memory) (c : ℕ) : Type 0 where
  pub nums : w'.num ≡ w.num
  pub lists : w'.ents ≡ w.ents
  pub owns : w'.own ≡ w.own
  pub others : (k : ℕ) → (k ≡ c → ⊥) → w'.place k ≡ w.place k
  pub event : Event w w' c

-- Places that are ordinary.
home_ordinary : (o : Own) → Ordinary (home o)
home_ordinary own.Nothing = (refl, refl)
home_ordinary (own.Read i) = (refl, refl)
home_ordinary (own.List m) = (refl, refl)

next_ordinary : (t : Work) → Ordinary (next_entry t)
next_ordinary t = next_is t Ordinary (λ _. (refl, refl)) (λ _. (refl, refl))

resume_ordinary : (k : Then) → Ordinary (resume k)
resume_ordinary (then.Look i) = (refl, refl)
resume_ordinary (then.Next t) = next_ordinary t
resume_ordinary (then.Try t e m) = (refl, refl)
resume_ordinary (then.Clear t o e) = (refl, refl)

-- Steps that only move the core, or also change a word or make a placing, and go to an ordinary place.
pub stepped_move : (w : Memory) (c : ℕ) (p : Place) → Ordinary p → Stepped w (move w c p) c
stepped_move w c p h =
    record { nums = refl; lists = refl; owns = refl; others = λ k ne. upd_other w.place c k p ne; event = ordinary refl refl (subst Ordinary (sym (upd_same w.place c p)) h) }

pub stepped_put : (w : Memory) (c i : ℕ) (x : Word) (p : Place) → shown_in (put w i x) ≡ shown_in w → Ordinary p → Stepped w (move (put w i x) c p) c
stepped_put w c i x p s h =
    record { nums = refl; lists = refl; owns = refl; others = λ k ne. upd_other w.place c k p ne; event = ordinary s refl (subst Ordinary (sym (upd_same w.place c p)) h) }

pub stepped_home : (w : Memory) (c : ℕ) → Stepped w (move w c (home (w.own c))) c
stepped_home w c = stepped_move w c (home (w.own c)) (home_ordinary (w.own c))

pub stepped_next : (w : Memory) (c : ℕ) (t : Work) → Stepped w (move w c (next_entry t)) c
stepped_next w c t = stepped_move w c (next_entry t) (next_ordinary t)

pub stepped_resume : (w : Memory) (c : ℕ) (k : Then) → Stepped w (move w c (resume k)) c
stepped_resume w c k = stepped_move w c (resume k) (resume_ordinary k)

pub stepped_made : (w : Memory) (c : ℕ) (t : Work) (e : Entry) (d : Placing) (m : Mark) → Inv w → w.place c ≡ Make t e → Stepped w (move (fresh_pl w c d) c (Try t e m)) c
stepped_made w c t e d m inv here =
    record { nums = refl; lists = refl; owns = refl; others = λ k ne. upd_other w.place c k (Try t e m) ne; event = ordinary (shown_made w c d inv (rw here)) refl (subst Ordinary (sym (upd_same w.place c (Try t e m))) (refl, refl)) }

pub stepped_placed : (w : Memory) (c : ℕ) (t : Work) (e : Entry) (m : Mark) → Inv w → w.place c ≡ Try t e m → w.word e.word ≡ word.Plain e.expected
    → Stepped w (move (put w e.word (word.Placing m)) c (Settle m settling.Read (then.Next t))) c
stepped_placed w c t e m inv here s =
    let h : PlaceOk w c (Try t e m) = rw here at (inv.places_ok c) in
    stepped_put w c e.word (word.Placing m) _ (shown_placed w c e.word e.expected m h.1.mine h.1.expected s) (refl, refl)

pub stepped_settled : (w : Memory) (c : ℕ) (m : Mark) (d : Placing) (u : Bool) (k : Then) → Inv w → w.place c ≡ Settle m (settling.Swap d u) k → w.word d.word ≡ word.Placing m
    → Stepped w (move (put w d.word (settled_to u d)) c (resume k)) c
stepped_settled w c m d u k inv here s = stepped_put w c d.word (settled_to u d) (resume k) (by u (rw here at (inv.places_ok c))) (resume_ordinary k)
  where
    held : PlCurrent w m
    held = (rw s at (inv.words d.word)).0

    by : (u : Bool) → PlaceOk w c (Settle m (settling.Swap d u) k) → shown_in (put w d.word (settled_to u d)) ≡ shown_in w
    by true h = shown_settled w m d true inv (h.2.1 held) s (λ _. h.2.2 s)
    by false h = shown_settled w m d false inv (h.2.1 held) s (λ z. absurd (false≢true z))

-- The steps that an order has to know.
pub stepped_look : (w : Memory) (c i v : ℕ) → w.place c ≡ Look i → w.word i ≡ word.Plain v → Stepped w (move w c (Finished v)) c
stepped_look w c i v here s =
    record { nums = refl; lists = refl; owns = refl; others = λ k ne. upd_other w.place c k (Finished v) ne; event = read_done i v here (upd_same w.place c (Finished v)) (rw s) refl refl }

pub stepped_differs : (w : Memory) (c : ℕ) (t : Work) (e : Entry) (m : Mark) (v : ℕ) → Inv w → w.place c ≡ Try t e m → w.word e.word ≡ word.Plain v → (v ≡ e.expected → ⊥)
    → Stepped w (move w c (Decide t (outcome.Failed t.index))) c
stepped_differs w c t e m v inv here s ne =
    let h : PlaceOk w c (Try t e m) = rw here at (inv.places_ok c) in
    record {
      nums = refl;
      lists = refl;
      owns = refl;
      others = λ k n. upd_other w.place c k (Decide t (outcome.Failed t.index)) n;
      event = differs t t.index (upd_same w.place c (Decide t (outcome.Failed t.index))) h.0.made
          (λ cur. record { inside = inside h cur; other = λ z. ne (shown_differs (h.1.matches cur) z); earlier = before h cur }) refl refl;
    }
  where
    inside : PlaceOk w c (Try t e m) → Current w t.operation → t.index < length (w.ents t.operation.core)
    inside h cur = let n = h.0.counted cur in let l = h.0.inside in omega arith

    before : PlaceOk w c (Try t e m) → Current w t.operation → Undecided w t.operation → (j : ℕ) → j < t.index → HoldsExpected (shown_in w) (w.ents t.operation.core) j
    before h cur und j l =
        rw (h.0.passed cur und j l, und) (value_found None (w.ents t.operation.core) j (inv.lists t.operation.core) (omega (arith, inside h cur)))

    shown_differs : entry w t.operation t.index ≡ e → shown_in w (entry w t.operation t.index).word ≡ (entry w t.operation t.index).expected → v ≡ e.expected
    shown_differs q z = let y : shown_in w e.word ≡ e.expected = subst (λ (x : Entry). shown_in w x.word ≡ x.expected) q z in rw s at y

pub stepped_decides : (w : Memory) (c : ℕ) (t : Work) (o : Outcome) → w.place c ≡ Decide t o → Current w t.operation → Undecided w t.operation
    → Stepped w (move (settled w t.operation.core (Some o)) c (Clear (first_entry t.operation t.count) o clearing.Read)) c
stepped_decides w c t o here cur und =
    record { nums = refl; lists = refl; owns = refl; others = λ k ne. upd_other w.place c k (Clear (first_entry t.operation t.count) o clearing.Read) ne; event = decides t o here cur und refl }

-- the memory with other words
abbrev with_word : Memory → (ℕ → Word) → Memory
with_word w x = record { word = x; num = w.num; ents = w.ents; state = w.state; pnum = w.pnum; pl = w.pl; place = w.place; own = w.own }

-- The end of a Clear, where a word may have changed to one that shows the same: next entry, finish, or home.
cleared : (w : Memory) (c : ℕ) (t : Work) (o : Outcome) (e : Entry) (w' : ℕ → Word) → Inv w → w.place c ≡ Clear t o (clearing.Swap e) → shown_in (with_word w w') ≡ shown_in w
    → Stepped w (move (with_word w w') c (after_clear_swap t o (w.own c))) c
cleared w c t o e w' inv here s =
    cond_both (has_more t) (Clear (entry_after t) o clearing.Read) (after_last t.operation o (w.own c)) (λ p. Stepped w (move (with_word w w') c p) c) (λ _. goes_to _ (refl, refl)) (λ _. last (w.own c) refl (inv.owns c))
  where
    h : PlaceOk w c (Clear t o (clearing.Swap e))
    h = rw here at (inv.places_ok c)

    goes_to : (p : Place) → Ordinary p → Stepped w (move (with_word w w') c p) c
    goes_to p q =
        record { nums = refl; lists = refl; owns = refl; others = λ k ne. upd_other w.place c k p ne; event = ordinary s refl (subst Ordinary (sym (upd_same w.place c p)) q) }

    last : (x : Own) → w.own c ≡ x → OwnOk w c x → Stepped w (move (with_word w w') c (after_last t.operation o x)) c
    last own.Nothing q ok = goes_to Idle (refl, refl)
    last (own.Read i) q ok = goes_to (Look i) (refl, refl)
    last (own.List M) q ok =
        cond_both (same_mark M t.operation) (Finished (answer_of o)) (Begin M) (λ p. Stepped w (move (with_word w w') c p) c)
        (λ y. let T-is : t.operation ≡ record { core = c; number = w.num c } = sym (same_mark_eq M t.operation y) ∙ ok.1 in
        let decided : w.state t.operation.core ≡ Some o = h.0.decided (subst (Current w) (sym T-is) refl) in
        record {
          nums = refl;
          lists = refl;
          owns = refl;
          others = λ k ne. upd_other w.place c k (Finished (answer_of o)) ne;
          event = own_done M o q (subst (λ (T : Mark). w.state T.core ≡ Some o) T-is decided) (upd_same w.place c (Finished (answer_of o))) s refl;
        })
        (λ _. goes_to (Begin M) (refl, refl))

pub stepped_clear_misses : (w : Memory) (c : ℕ) (t : Work) (o : Outcome) (e : Entry) → Inv w → w.place c ≡ Clear t o (clearing.Swap e) → Stepped w (move w c (after_clear_swap t o (w.own c))) c
stepped_clear_misses w c t o e inv here = cleared w c t o e w.word inv here refl

pub stepped_clear_takes_out : (w : Memory) (c : ℕ) (t : Work) (o : Outcome) (e : Entry) → Inv w → w.place c ≡ Clear t o (clearing.Swap e) → w.word e.word ≡ word.Operation t.operation
    → Stepped w (move (put w e.word (cleared_to o e)) c (after_clear_swap t o (w.own c))) c
stepped_clear_takes_out w c t o e inv here s = cleared w c t o e (upd w.word e.word (cleared_to o e)) inv here same
  where
    h : PlaceOk w c (Clear t o (clearing.Swap e))
    h = rw here at (inv.places_ok c)

    cur : Current w t.operation
    cur = (rw s at (inv.words e.word)).0

    e_is : entry w t.operation t.index ≡ e
    e_is = h.1 cur

    inside : t.index < length (w.ents t.operation.core)
    inside = let n = h.0.counted cur in let l = h.0.inside in omega arith

    same : shown_in (put w e.word (cleared_to o e)) ≡ shown_in w
    same =
        subst (λ (x : Entry). shown_in (put w x.word (cleared_to o x)) ≡ shown_in w) e_is
        (shown_cleared w t.operation o t.index inv inside (h.0.decided cur) (subst (λ (x : Entry). w.word x.word ≡ word.Operation t.operation) (sym e_is) s))
