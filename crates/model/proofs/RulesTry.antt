use Rattle.std.proofs.Common.{◌≡◌, ℕ, ◌+◌, ◌<◌, ◌≤◌, true, false, eqb, [], length, Some, sym, refl, ap, ◌∙◌, subst, inl, arith}
use Rattle.std.proofs.lemmas.Bool.{false≢true, and_right, le-ltb}
use Rattle.word.specs.declared.Mark.{Mark}
use Rattle.word.specs.declared.Word.TheVariants as word
use Rattle.entries.specs.declared.Entry.{Entry}
use Rattle.descriptor.specs.declared.contents.Outcome.{Outcome}
use Rattle.descriptor.specs.declared.contents.Outcome.TheVariants as outcome
use Rattle.descriptor.specs.declared.contents.Placing.{Placing}
use Rattle.cores.specs.declared.place.Work.{Work}
use Rattle.cores.specs.declared.place.Then.TheVariants as then
use Rattle.cores.specs.declared.place.Clearing.TheVariants as clearing
use Rattle.cores.specs.declared.place.Settling.TheVariants as settling
use Rattle.cores.specs.declared.place.Place.{Place}
use Rattle.cores.specs.declared.place.Place.TheVariants.{Finished, Look, Begin, Fetch, Make, Try, Decide, Clear, Settle}
use Rattle.cores.specs.declared.place.Own.TheVariants as own
use Rattle.model.specs.Rules.{same_mark, first_entry, next_entry}
use Rattle.cores.specs.Cores.{is_idle}
use Rattle.model.proofs.Memory.{Memory, entry, move, put, settled, fresh_pl}
use Rattle.model.proofs.Facts.{Made, Current, Undecided, Counted, DecidedAs, wants, places, past, due, Unplaced, DecideOk, PlaceOk, Inv}
use Rattle.model.proofs.Updates.{upd_same, upd_at}
use Rattle.model.proofs.Stable.{works_on}
use Rattle.model.proofs.Effects.{Fair, Calm, rely_put, rely_move}
use Rattle.model.proofs.Keep.{inv_move, inv_settled, inv_made, inv_placed}
use Rattle.model.proofs.Go.{no, busy, go, go_next, saw_placing, saw_operation, next_ok}

-- The invariants are kept by Look, Begin, Fetch, Make, Try and Decide, for each thing that they may see. Each core here stands at the place named.

-- Look.
pub keeps_look_plain : (w : Memory) (c i v : ℕ) → Inv w → w.place c ≡ Look i → Inv (move w c (Finished v))
keeps_look_plain w c i v inv here =
    inv_move w c (Finished v) inv
    (record { wanted = no; placed = λ i m q e z. no (rw here at z); passed = λ T j q _ lt _ _. absurd (none j c refl lt); live_past = λ m d q _ h. absurd (none h.index d.operation.core q h.inside); live_due = λ m d _ _ h. refl })
    (λ z. absurd (busy w c inv (rw here) z)) (λ _. empty)
  where
    reading : w.own c ≡ own.Read i
    reading = rw here at (inv.places_ok c)

    empty : w.ents c ≡ []
    empty = rw reading at (inv.owns c)

    none : (j n : ℕ) → n ≡ c → j < length (w.ents n) → ⊥
    none j n q lt = let l : j < length {A = Entry} [] = rw (q, empty) at lt in omega arith

pub keeps_look_placing : (w : Memory) (c i : ℕ) (m : Mark) → Inv w → w.place c ≡ Look i → w.word i ≡ word.Placing m → Inv (move w c (Settle m settling.Read (then.Look i)))
keeps_look_placing w c i m inv here s =
    let r = saw_placing w i m inv s in
    go w c (Settle m settling.Read (then.Look i)) inv (rw here) (rw here) no (λ _ _. refl) (λ _ _ _. refl) (r.0, r.1, (λ _. tt), rw here at (inv.places_ok c))

pub keeps_look_operation : (w : Memory) (c i : ℕ) (T : Mark) → Inv w → w.place c ≡ Look i → w.word i ≡ word.Operation T → Inv (move w c (Begin T))
keeps_look_operation w c i T inv here s = go w c (Begin T) inv (rw here) (rw here) no (λ _ _. refl) (λ _ _ _. refl) (saw_operation w i T inv s)

-- To the clearing of the first entry.
past_first : (U : Mark) (n : ℕ) (o : Outcome) (T : Mark) (j : ℕ) → past T j (Clear (first_entry U n) o clearing.Read) ≡ false
past_first U n o T j = and_right _ _ (le-ltb j 0 (omega arith))

due_read : (t : Work) (o : Outcome) (T : Mark) (j : ℕ) (m : Mark) → due T j m (Clear t o clearing.Read) ≡ false
due_read t o T j m = and_right (same_mark t.operation T) _ (and_right (eqb t.index j) _ refl)

go_clear : (w : Memory) (c : ℕ) (T : Mark) (n : ℕ) (o : Outcome) → Inv w → is_idle (w.place c) ≡ false → places (w.place c) ≡ false → Made w T → Counted w T n → 0 < n → DecidedAs w T o
    → Inv (move w c (Clear (first_entry T n) o clearing.Read))
go_clear w c T n o inv b un made counted pos dec =
    go w c (Clear (first_entry T n) o clearing.Read) inv b un no (past_first T n o) (due_read (first_entry T n) o)
    (record { made = made; counted = counted; inside = pos; decided = dec }, tt)

-- Begin.
pub keeps_begin_undecided : (w : Memory) (c : ℕ) (T : Mark) → Inv w → w.place c ≡ Begin T → Current w T → Inv (move w c (Fetch (first_entry T (length (w.ents T.core)))))
keeps_begin_undecided w c T inv here cur =
    let h : PlaceOk w c (Begin T) = rw here at (inv.places_ok c) in
    go w c (Fetch (first_entry T (length (w.ents T.core)))) inv (rw here) (rw here) no (λ _ _. refl) (λ _ _ _. refl)
    (record { made = h.0; counted = λ _. refl; inside = h.1 cur; passed = λ _ _ j lt. absurd (omega arith) })

pub keeps_begin_decided : (w : Memory) (c : ℕ) (T : Mark) (o : Outcome) → Inv w → w.place c ≡ Begin T → Current w T → w.state T.core ≡ Some o
    → Inv (move w c (Clear (first_entry T (length (w.ents T.core))) o clearing.Read))
keeps_begin_decided w c T o inv here cur e =
    let h : PlaceOk w c (Begin T) = rw here at (inv.places_ok c) in
    go_clear w c T (length (w.ents T.core)) o inv (rw here) (rw here) h.0 (λ _. refl) (h.1 cur) (λ _. e)

-- Fetch.
pub keeps_fetch : (w : Memory) (c : ℕ) (t : Work) → Inv w → w.place c ≡ Fetch t → Inv (move w c (Make t (entry w t.operation t.index)))
keeps_fetch w c t inv here =
    go w c (Make t (entry w t.operation t.index)) inv (rw here) (rw here) no (λ _ _. refl) (λ _ _ _. refl) (rw here at (inv.places_ok c), λ _. refl)

-- Make: the new mark is the core's own, and its contents are for the entry.
pub keeps_make : (w : Memory) (c : ℕ) (t : Work) (e : Entry) → Inv w → w.place c ≡ Make t e
    → Inv (move (fresh_pl w c (record { operation = t.operation; word = e.word; expected = e.expected })) c (Try t e (record { core = c; number = w.pnum c + 1 })))
keeps_make w c t e inv here =
    inv_made w c d p (λ _ _. refl) (λ _ _ _. refl) (rw here) inv (busy w c inv (rw here)) h.0.made (
      record { made = h.0.made; counted = h.0.counted; inside = h.0.inside; passed = h.0.passed },
      record { mine = refl; current = upd_same w.pnum c (w.pnum c + 1); matches = h.1; operation = ap (λ (x : Placing). x.operation) held; names = ap (λ (x : Placing). x.word) held; expected = ap (λ (x : Placing). x.expected) held },
    )
  where
    d : Placing
    d = record { operation = t.operation; word = e.word; expected = e.expected }

    p : Place
    p = Try t e (record { core = c; number = w.pnum c + 1 })

    h : PlaceOk w c (Make t e)
    h = rw here at (inv.places_ok c)

    held : (fresh_pl w c d).pl c ≡ d
    held = upd_same w.pl c d

-- Try.
pub keeps_try_placed : (w : Memory) (c : ℕ) (t : Work) (e : Entry) (m : Mark) → Inv w → w.place c ≡ Try t e m → w.word e.word ≡ word.Plain e.expected
    → Inv (move (put w e.word (word.Placing m)) c (Settle m settling.Read (then.Next t)))
keeps_try_placed w c t e m inv here s =
    inv_placed w c e.word m p inv fair calm (busy w c inv (rw here)) mine h.1.current h.1.names refl (
      pl_made,
      (λ u. false≢true (subst (λ x. wants x ≡ true) (upd_at w.place c m.core p mine) u.1)),
      (λ _. tt),
      (
        works_on w1 w2 c (rely_move w1 c p c calm) t (works_on w w1 c (rely_put w e.word (word.Placing m) c fair) t h.0),
        record {
          mine = mine;
          current = h.1.current;
          operation = h.1.operation;
          names = λ cur. ap (λ (x : Entry). x.word) (h.1.matches cur) ∙ sym h.1.names;
          expected = λ cur. ap (λ (x : Entry). x.expected) (h.1.matches cur) ∙ sym h.1.expected;
          here = λ _ _. inl (upd_at w.word e.word (w.pl c).word (word.Placing m) h.1.names);
        },
      ),
    )
  where
    h : PlaceOk w c (Try t e m)
    h = rw here at (inv.places_ok c)

    mine : m.core ≡ c
    mine = h.1.mine

    p : Place
    p = Settle m settling.Read (then.Next t)

    w1 : Memory
    w1 = put w e.word (word.Placing m)

    w2 : Memory
    w2 = move w1 c p

    pl_made : m.number ≤ w.pnum m.core
    pl_made = let z = h.1.current in omega arith

    still_wanted : Unplaced w m
    still_wanted = (h.1.current, rw (mine, here))

    fair : Fair w e.word (word.Placing m)
    fair = record { free = λ T _ _ z. grind arith; placed = λ n z. let q : m ≡ n = cc in subst (Unplaced w) q still_wanted; kept = λ n z _ _. absurd (grind arith) }

    calm : Calm w1 c p
    calm = record { wanted = no; placed = λ i m q e z. refl; passed = λ T j _ _ _ _ _. refl; live_past = λ m d _ _ h. refl; live_due = λ m d _ _ h. refl }

pub keeps_try_placing : (w : Memory) (c : ℕ) (t : Work) (e : Entry) (m n : Mark) → Inv w → w.place c ≡ Try t e m → w.word e.word ≡ word.Placing n
    → Inv (move w c (Settle n settling.Read (then.Try t e m)))
keeps_try_placing w c t e m n inv here s =
    let r = saw_placing w e.word n inv s in
    go w c (Settle n settling.Read (then.Try t e m)) inv (rw here) (rw here) (λ _. rw here) (λ _ _. refl) (λ _ _ _. refl) (r.0, r.1, (λ _. tt), rw here at (inv.places_ok c))

pub keeps_try_own : (w : Memory) (c : ℕ) (t : Work) (e : Entry) (m : Mark) → Inv w → w.place c ≡ Try t e m → w.word e.word ≡ word.Operation t.operation
    → Inv (move w c (next_entry t))
keeps_try_own w c t e m inv here s =
    let h : PlaceOk w c (Try t e m) = rw here at (inv.places_ok c) in
    go_next w c t inv (rw here) (rw here) (next_ok w c t h.0 (λ cur und. rw (h.1.matches cur) s))

pub keeps_try_operation : (w : Memory) (c : ℕ) (t : Work) (e : Entry) (m u : Mark) → Inv w → w.place c ≡ Try t e m → w.word e.word ≡ word.Operation u → Inv (move w c (Begin u))
keeps_try_operation w c t e m u inv here s = go w c (Begin u) inv (rw here) (rw here) no (λ _ _. refl) (λ _ _ _. refl) (saw_operation w e.word u inv s)

pub keeps_try_differs : (w : Memory) (c : ℕ) (t : Work) (e : Entry) (m : Mark) → Inv w → w.place c ≡ Try t e m → Inv (move w c (Decide t (outcome.Failed t.index)))
keeps_try_differs w c t e m inv here =
    let h : PlaceOk w c (Try t e m) = rw here at (inv.places_ok c) in
    go w c (Decide t (outcome.Failed t.index)) inv (rw here) (rw here) no (λ _ _. refl) (λ _ _ _. refl)
    (h.0.made, h.0.counted, (λ cur. let n = h.0.counted cur in let l = h.0.inside in rw n (omega arith)), (h.0.passed, h.0.inside))

-- Decide.
counted_some : (w : Memory) (c : ℕ) (t : Work) (o : Outcome) → Inv w → w.place c ≡ Decide t o → Current w t.operation → 0 < t.count
counted_some w c t o inv here cur =
    let h : PlaceOk w c (Decide t o) = rw here at (inv.places_ok c) in let a = h.2 cur in rw (h.1 cur) at a

pub keeps_decide_first : (w : Memory) (c : ℕ) (t : Work) (o : Outcome) → Inv w → w.place c ≡ Decide t o → Current w t.operation → Undecided w t.operation
    → Inv (move (settled w t.operation.core (Some o)) c (Clear (first_entry t.operation t.count) o clearing.Read))
keeps_decide_first w c t o inv here cur und =
    go_clear (settled w t.operation.core (Some o)) c t.operation t.count o
    (inv_settled w t.operation (Some o) inv cur und (full o h.3)) (rw here) (rw here) h.0 h.1 (counted_some w c t o inv here cur) (λ _. upd_same w.state t.operation.core (Some o))
  where
    h : PlaceOk w c (Decide t o)
    h = rw here at (inv.places_ok c)

    full : (x : Outcome) → DecideOk w t x → Some x ≡ (Some outcome.Succeeded) → (j : ℕ) → j < length (w.ents t.operation.core) → w.word (entry w t.operation j).word ≡ word.Operation t.operation
    full outcome.Succeeded z e j lt = z cur und j (rw (h.1 cur) at lt)
    full (outcome.Failed i) z e j lt = let bad : ◌≡◌ {A = ℕ} 0 1 = cc in absurd (omega arith)

pub keeps_decide_later : (w : Memory) (c : ℕ) (t : Work) (o x : Outcome) → Inv w → w.place c ≡ Decide t o → Current w t.operation → w.state t.operation.core ≡ Some x
    → Inv (move w c (Clear (first_entry t.operation t.count) x clearing.Read))
keeps_decide_later w c t o x inv here cur e =
    let h : PlaceOk w c (Decide t o) = rw here at (inv.places_ok c) in
    go_clear w c t.operation t.count x inv (rw here) (rw here) h.0 h.1 (counted_some w c t o inv here cur) (λ _. e)
