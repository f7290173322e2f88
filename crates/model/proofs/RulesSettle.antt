use Rattle.std.proofs.Common.{◌≡◌, ℕ, ◌<◌, Bool, true, false, not, ◌&&◌, eqb, [], length, sym, refl, ap, ◌∙◌, subst, inl, inr, arith}
use Rattle.std.proofs.lemmas.Bool.{both_ways, and_parts, and_from, cases_Bool}
use Rattle.word.specs.declared.Mark.{Mark}
use Rattle.word.specs.declared.Word.TheVariants as word
use Rattle.entries.specs.declared.Entry.{Entry}
use Rattle.descriptor.specs.declared.contents.Outcome.{Outcome}
use Rattle.descriptor.specs.declared.contents.Placing.{Placing}
use Rattle.cores.specs.declared.place.Work.{Work}
use Rattle.cores.specs.declared.place.Then.{Then}
use Rattle.cores.specs.declared.place.Then.TheVariants as then
use Rattle.cores.specs.declared.place.Clearing.TheVariants as clearing
use Rattle.cores.specs.declared.place.Settling.{Settling}
use Rattle.cores.specs.declared.place.Settling.TheVariants as settling
use Rattle.cores.specs.declared.place.Place.{Place}
use Rattle.cores.specs.declared.place.Place.TheVariants.{Idle, Finished, Look, Begin, Fetch, Make, Try, Decide, Clear, Settle}
use Rattle.model.specs.Rules.{same_mark, next_entry, resume}
use Rattle.model.specs.Step.{settled_to}
use Rattle.model.proofs.Memory.{Memory, move, put}
use Rattle.model.proofs.Facts.{Current, Undecided, PlCurrent, wants, places, past, due, due_then, Live, Clears, Arrives, ThenOk, SettlingOk, PlaceOk, WordOk, Inv}
use Rattle.model.proofs.Updates.{upd_is}
use Rattle.model.proofs.Stable.{not_undecided}
use Rattle.model.proofs.Keep.{inv_move, inv_put}
use Rattle.model.proofs.Go.{no, mark_eq, same_mark_eq, and_false, busy, go, next_ok, next_is}

-- The invariants are kept by the three steps of Settle.

-- The core of an undecided operation has not begun to clear it.
clear_free : (w : Memory) (t : Work) (o : Outcome) (T : Mark) (b : Bool) → Clears w t o → Current w T → Undecided w T → (same_mark t.operation T && b) ≡ false
clear_free w t o T b h cur und =
    and_false (same_mark t.operation T) b
    (λ e _. let q = same_mark_eq t.operation T e in
    let cur2 : Current w t.operation = rw q cur in
    let und2 : Undecided w t.operation = rw q und in not_undecided o (sym (h.decided cur2) ∙ und2))

not_past : (w : Memory) (T : Mark) (j : ℕ) → Current w T → Undecided w T → j < length (w.ents T.core) → (p : Place) → PlaceOk w T.core p → past T j p ≡ false
not_past w T j cur und lt Idle h = let l : j < length {A = Entry} [] = rw (h und) at lt in absurd (omega arith)
not_past w T j cur und lt (Finished v) h = let l : j < length {A = Entry} [] = rw (h und) at lt in absurd (omega arith)
not_past w T j cur und lt (Look i) h = refl
not_past w T j cur und lt (Begin m) h = refl
not_past w T j cur und lt (Fetch t) h = refl
not_past w T j cur und lt (Make t e) h = refl
not_past w T j cur und lt (Try t e m) h = refl
not_past w T j cur und lt (Decide t o) h = refl
not_past w T j cur und lt (Clear t o c) h = clear_free w t o T _ h.0 cur und
not_past w T j cur und lt (Settle m c (then.Look i)) h = refl
not_past w T j cur und lt (Settle m c (then.Next t)) h = refl
not_past w T j cur und lt (Settle m c (then.Try t e n)) h = refl
not_past w T j cur und lt (Settle m c (then.Clear t o e)) h = clear_free w t o T _ h.3.0 cur und

not_due : (w : Memory) (T : Mark) (j : ℕ) (m : Mark) → Current w T → Undecided w T → (p : Place) → PlaceOk w T.core p → due T j m p ≡ false
not_due w T j m cur und Idle h = refl
not_due w T j m cur und (Finished v) h = refl
not_due w T j m cur und (Look i) h = refl
not_due w T j m cur und (Begin u) h = refl
not_due w T j m cur und (Fetch t) h = refl
not_due w T j m cur und (Make t e) h = refl
not_due w T j m cur und (Try t e u) h = refl
not_due w T j m cur und (Decide t o) h = refl
not_due w T j m cur und (Clear t o c) h = clear_free w t o T _ h.0 cur und
not_due w T j m cur und (Settle n c (then.Look i)) h = refl
not_due w T j m cur und (Settle n c (then.Next t)) h = refl
not_due w T j m cur und (Settle n c (then.Try t e u)) h = refl
not_due w T j m cur und (Settle n c (then.Clear t o e)) h = clear_free w t o T _ h.3.0 cur und

-- A placing mark in a word whose operation is undecided may still turn into that operation's mark.
live_now : (w : Memory) (m : Mark) (d : Placing) → Inv w → w.pl m.core ≡ d → Current w d.operation → Undecided w d.operation → (p : Place) → PlaceOk w m.core p → places p ≡ true → Live w m d
live_now w m d inv held cur und Idle h z = no z
live_now w m d inv held cur und (Finished v) h z = no z
live_now w m d inv held cur und (Look i) h z = no z
live_now w m d inv held cur und (Begin u) h z = no z
live_now w m d inv held cur und (Fetch t) h z = no z
live_now w m d inv held cur und (Make t e) h z = no z
live_now w m d inv held cur und (Try t e u) h z = no z
live_now w m d inv held cur und (Decide t o) h z = no z
live_now w m d inv held cur und (Clear t o c) h z = no z
live_now w m d inv held cur und (Settle n c (then.Look i)) h z = no z
live_now w m d inv held cur und (Settle n c (then.Try t e u)) h z = no z
live_now w m d inv held cur und (Settle n c (then.Clear t o e)) h z = no z
live_now w m d inv held cur und (Settle n c (then.Next t)) h z =
    let a : Arrives w m.core n t = h.3.1 in
    let q : t.operation ≡ d.operation = sym a.operation ∙ ap (λ (x : Placing). x.operation) held in
    let cur2 : Current w t.operation = rw q cur in
    let lt : t.index < length (w.ents d.operation.core) = rw (← q) (let l = h.3.0.inside in let n = h.3.0.counted cur2 in omega arith) in
    record {
      current = cur;
      unfinished = λ e. grind arith;
      index = t.index;
      inside = lt;
      names = rw (← q) (a.names cur2 ∙ ap (λ (x : Placing). x.word) held);
      value = rw (← q) (a.expected cur2 ∙ ap (λ (x : Placing). x.expected) held);
      not_past = not_past w d.operation t.index cur und lt (w.place d.operation.core) (inv.places_ok d.operation.core);
      not_due = not_due w d.operation t.index m cur und (w.place d.operation.core) (inv.places_ok d.operation.core);
    }

-- From one step of Settle to the next.
stage : (w : Memory) (c : ℕ) (m : Mark) (a b : Settling) (k : Then) → Inv w → w.place c ≡ Settle m a k → PlaceOk w c (Settle m b k) → Inv (move w c (Settle m b k))
stage w c m a b k inv here ok =
    inv_move w c (Settle m b k) inv
    (record {
      wanted = λ z. rw here z;
      placed = λ i n q e z. rw here at z;
      passed = λ T j _ _ _ _ z. rw here at z;
      live_past = λ n d q _ h. rw here at (subst (λ x. past d.operation h.index (w.place x) ≡ false) q h.not_past);
      live_due = λ n d q _ h. rw here at (subst (λ x. due d.operation h.index n (w.place x) ≡ false) q h.not_due);
    })
    (λ z. absurd (busy w c inv (rw here) z)) ok

-- Settle ends: the mark stands in no word.
settle_ends : (w : Memory) (c : ℕ) (m : Mark) (a : Settling) (k : Then) → Inv w → w.place c ≡ Settle m a k → ((i : ℕ) → w.word i ≡ word.Placing m → ⊥) → ThenOk w c m k → Inv (move w c (resume k))
settle_ends w c m a (then.Look i) inv here gone ok = go w c (Look i) inv (rw here) (rw here) no (λ _ _. refl) (λ _ _ _. refl) ok
settle_ends w c m a (then.Try t e n) inv here gone ok = go w c (Try t e n) inv (rw here) (rw here) (λ _. rw here) (λ _ _. refl) (λ _ _ _. refl) ok
settle_ends w c m a (then.Next t) inv here gone ok =
    inv_move w c (next_entry t) inv
    (record {
      wanted = λ z. no (sym (next_is t (λ p. wants p ≡ false) (λ _. refl) (λ _. refl)) ∙ z);
      placed = λ i n q e z. let h : WordOk w i (word.Placing n) = rw e at (inv.words i) in
          let k : n.core ≡ m.core = q ∙ sym ok.1.mine in
          absurd (gone i (e ∙ ap word.Placing (mark_eq n m k (sym h.0 ∙ ap w.pnum k ∙ ok.1.current))));
      passed = λ T j _ _ _ _ _. next_is t (λ p. past T j p ≡ false) (λ _. refl) (λ _. refl);
      live_past = λ n d _ _ h. next_is t (λ p. past d.operation h.index p ≡ false) (λ _. refl) (λ _. refl);
      live_due = λ n d _ _ h. next_is t (λ p. due d.operation h.index n p ≡ false) (λ _. refl) (λ _. refl);
    })
    (λ z. absurd (busy w c inv (rw here) z))
    (next_ok w c t ok.0 (λ cur und. rw (ok.1.names cur) (elim (ok.1.here cur und) [ inl e ↦ absurd (gone (w.pl c).word e) | inr e ↦ e ])))
settle_ends w c m a (then.Clear t o e) inv here gone ok =
    inv_move w c (Clear t o (clearing.Swap e)) inv
    (record {
      wanted = no;
      placed = λ i n q e z. no (rw here at z);
      passed = λ T j _ _ _ _ z. rw here at z;
      live_past = λ n d q _ h. rw here at (subst (λ x. past d.operation h.index (w.place x) ≡ false) q h.not_past);
      live_due = λ n d q z h. and_false (same_mark t.operation d.operation) _ (λ a b.
          let nd : due_then d.operation h.index n m (then.Clear t o e) ≡ false = rw here at (subst (λ x. due d.operation h.index n (w.place x) ≡ false) q h.not_due) in
          elim (cases_Bool (same_mark m n)) [
            | inl y ↦ gone d.word (z ∙ ap word.Placing (sym (same_mark_eq m n y)))
            | inr y ↦ let f : not (same_mark m n) ≡ true = rw y in both_ways _ nd (and_from _ _ a (and_from _ _ (and_parts (eqb t.index h.index) true b).0 f))
          ]);
    })
    (λ z. absurd (busy w c inv (rw here) z)) ok

-- A placing mark stands only in the word of its contents.
only : (w : Memory) (m : Mark) (d : Placing) (i : ℕ) → Inv w → (PlCurrent w m → w.pl m.core ≡ d) → w.word i ≡ word.Placing m → d.word ≡ i
only w m d i inv held e =
    let h : WordOk w i (word.Placing m) = rw e at (inv.words i) in sym (ap (λ (x : Placing). x.word) (held h.0)) ∙ h.1

-- First step: read m's contents.
pub keeps_settle_read : (w : Memory) (c : ℕ) (m : Mark) (k : Then) → Inv w → w.place c ≡ Settle m settling.Read k → PlCurrent w m → Inv (move w c (Settle m (settling.State (w.pl m.core)) k))
keeps_settle_read w c m k inv here cur =
    let h : PlaceOk w c (Settle m settling.Read k) = rw here at (inv.places_ok c) in
    stage w c m settling.Read (settling.State (w.pl m.core)) k inv here (h.0, h.1, (h.2 cur, (λ _. refl), inv.pl_ops m.core), h.3)

pub keeps_settle_overtaken : (w : Memory) (c : ℕ) (m : Mark) (k : Then) → Inv w → w.place c ≡ Settle m settling.Read k → (PlCurrent w m → ⊥) → Inv (move w c (resume k))
keeps_settle_overtaken w c m k inv here over =
    let h : PlaceOk w c (Settle m settling.Read k) = rw here at (inv.places_ok c) in
    settle_ends w c m settling.Read k inv here (λ j e. let x : WordOk w j (word.Placing m) = rw e at (inv.words j) in over x.0) h.3

-- Second step: read the state of the operation that they name.
pub keeps_settle_undecided : (w : Memory) (c : ℕ) (m : Mark) (d : Placing) (k : Then) → Inv w → w.place c ≡ Settle m (settling.State d) k → Current w d.operation → Undecided w d.operation
    → Inv (move w c (Settle m (settling.Swap d true) k))
keeps_settle_undecided w c m d k inv here cur und =
    let h : PlaceOk w c (Settle m (settling.State d) k) = rw here at (inv.places_ok c) in
    stage w c m (settling.State d) (settling.Swap d true) k inv here
    (h.0, h.1, (h.2.0, h.2.1, λ e. let x : WordOk w d.word (word.Placing m) = rw e at (inv.words d.word) in live_now w m d inv (h.2.1 x.0) cur und (w.place m.core) (inv.places_ok m.core) x.2), h.3)

pub keeps_settle_decided : (w : Memory) (c : ℕ) (m : Mark) (d : Placing) (k : Then) → Inv w → w.place c ≡ Settle m (settling.State d) k
    → (Current w d.operation → Undecided w d.operation → ⊥) → Inv (move w c (Settle m (settling.Swap d false) k))
keeps_settle_decided w c m d k inv here f =
    let h : PlaceOk w c (Settle m (settling.State d) k) = rw here at (inv.places_ok c) in
    stage w c m (settling.State d) (settling.Swap d false) k inv here (h.0, h.1, (h.2.0, h.2.1, h.2.2, f), h.3)

-- Third step: the swap.
held_by : (w : Memory) (m : Mark) (d : Placing) (k : Then) (b : Bool) → SettlingOk w m k (settling.Swap d b) → PlCurrent w m → w.pl m.core ≡ d
held_by w m d k true h = h.1
held_by w m d k false h = h.1

pub keeps_settle_misses : (w : Memory) (c : ℕ) (m : Mark) (d : Placing) (b : Bool) (k : Then) → Inv w → w.place c ≡ Settle m (settling.Swap d b) k
    → (w.word d.word ≡ word.Placing m → ⊥) → Inv (move w c (resume k))
keeps_settle_misses w c m d b k inv here ne =
    let h : PlaceOk w c (Settle m (settling.Swap d b) k) = rw here at (inv.places_ok c) in
    settle_ends w c m (settling.Swap d b) k inv here (λ i e. ne (subst (λ x. w.word x ≡ word.Placing m) (sym (only w m d i inv (held_by w m d k b h.2) e)) e)) h.3

pub keeps_settle_replaces : (w : Memory) (c : ℕ) (m : Mark) (d : Placing) (b : Bool) (k : Then) → Inv w → w.place c ≡ Settle m (settling.Swap d b) k
    → w.word d.word ≡ word.Placing m → Inv (move (put w d.word (settled_to b d)) c (resume k))
keeps_settle_replaces w c m d b k inv here e =
    settle_ends w1 c m (settling.Swap d b) k inv1 here
    (λ i z. elim (upd_is w.word d.word i (settled_to b d) (word.Placing m) z) [ inl q ↦ other b m q.1 | inr q ↦ q.0 (sym (only w m d i inv (held_by w m d k b h.2) q.1)) ])
    h1.3
  where
    h : PlaceOk w c (Settle m (settling.Swap d b) k)
    h = rw here at (inv.places_ok c)

    kept : (b : Bool) → SettlingOk w m k (settling.Swap d b) → Current w d.operation → Undecided w d.operation → settled_to b d ≡ word.Operation d.operation
    kept true z cur und = refl
    kept false z cur und = absurd (z.3 cur und)

    said : (b : Bool) → SettlingOk w m k (settling.Swap d b) → WordOk w d.word (settled_to b d)
    said true z = let x = z.2 e in (x.current, (x.index, x.inside, x.names, x.not_past))
    said false z = tt

    other : (b : Bool) (n : Mark) → settled_to b d ≡ word.Placing n → ⊥
    other true n e = grind arith
    other false n e = grind arith

    w1 : Memory
    w1 = put w d.word (settled_to b d)

    x : WordOk w d.word (word.Placing m)
    x = rw e at (inv.words d.word)

    inv1 : Inv w1
    inv1 =
        inv_put w d.word (settled_to b d) inv
        (record {
          free = λ T _ _ z. grind arith;
          placed = λ n z. absurd (other b n z);
          kept = λ n z cur und. let q : n ≡ m = cc in
              let o : (w.pl n.core).operation ≡ d.operation = ap (λ (y : Mark). (w.pl y.core).operation) q ∙ ap (λ (y : Placing). y.operation) (held_by w m d k b h.2 x.0) in
              kept b h.2 (subst (Current w) o cur) (subst (Undecided w) o und) ∙ ap word.Operation (sym o);
        })
        (said b h.2)

    h1 : PlaceOk w1 c (Settle m (settling.Swap d b) k)
    h1 = rw here at (inv1.places_ok c)
