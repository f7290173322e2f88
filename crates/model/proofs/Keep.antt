use Rattle.std.proofs.Common.{◌≡◌, ℕ, ◌+◌, ◌<◌, ◌≤◌, true, false, List, length, Some, sym, refl, ◌∙◌, subst, arith}
use Rattle.std.proofs.lemmas.Bool.{both_ways, true≢false, false≢true}
use Rattle.word.specs.declared.Mark.{Mark}
use Rattle.word.specs.declared.Word.{Word}
use Rattle.word.specs.declared.Word.TheVariants as word
use Rattle.entries.specs.declared.Entry.{Entry}
use Rattle.descriptor.specs.declared.contents.Outcome.TheVariants as outcome
use Rattle.descriptor.specs.Contents.{State}
use Rattle.descriptor.specs.declared.contents.Placing.{Placing}
use Rattle.cores.specs.declared.place.Place.{Place}
use Rattle.cores.specs.declared.place.Place.TheVariants.{Idle}
use Rattle.cores.specs.declared.place.Own.{Own}
use Rattle.cores.specs.declared.place.Own.TheVariants as own
use Rattle.model.proofs.Memory.{Memory, entry, move, put, settled, fresh_pl, fresh_op}
use Rattle.model.proofs.Facts.{Made, Current, Undecided, PlCurrent, wants, places, past, due, Apart, PlaceOk, WordOk, OwnOk, Inv}
use Rattle.model.proofs.Updates.{upd_at, upd_other, upd_both}
use Rattle.model.proofs.Stable.{place_on}
use Rattle.model.proofs.Effects.{Fair, Calm, rely_put, rely_move, rely_settled, rely_made, rely_start}

-- The invariants are kept by each effect.

-- A place changes.
word_moved : (w : Memory) (c : ℕ) (p : Place) → Calm w c p → (i : ℕ) (x : Word) → w.word i ≡ x → WordOk w i x → WordOk (move w c p) i x
word_moved w c p f i (word.Plain v) e h = tt
word_moved w c p f i (word.Placing m) e h =
    (h.0, h.1, upd_both w.place c m.core p (λ y. places y ≡ true) (λ q. f.placed i m q e (rw q at h.2)) (λ _. h.2))
word_moved w c p f i (word.Operation T) e h = (
  h.0,
  (
    h.1.0,
    h.1.1,
    h.1.2,
    upd_both w.place c T.core p (λ y. past T h.1.0 y ≡ false)
        (λ q. f.passed T h.1.0 q h.0 (rw q at h.1.1) (rw h.1.2 e) (subst (λ x. past T h.1.0 (w.place x) ≡ false) q h.1.3)) (λ _. h.1.3),
  ),
)
word_moved w c p f i (word.Foreign n) e h = h

own_moved : (w : Memory) (c : ℕ) (p : Place) → (w.own c ≡ own.Nothing → p ≡ Idle) → (k : ℕ) (o : Own) → w.own k ≡ o → OwnOk w k o → OwnOk (move w c p) k o
own_moved w c p f k own.Nothing e h = upd_both w.place c k p (λ y. y ≡ Idle) (λ q. f (rw (← q) e)) (λ _. h)
own_moved w c p f k (own.Read i) e h = h
own_moved w c p f k (own.List m) e h = h

pub inv_move : (w : Memory) (c : ℕ) (p : Place) → Inv w → Calm w c p → (w.own c ≡ own.Nothing → p ≡ Idle) → PlaceOk w c p → Inv (move w c p)
inv_move w c p inv f o ok = record {
  words = λ i. word_moved w c p f i (w.word i) refl (inv.words i);
  places_ok = λ k. upd_both w.place c k p (PlaceOk (move w c p) k)
      (λ q. place_on w (move w c p) k (rely_move w c p k f) p (rw q ok))
      (λ _. place_on w (move w c p) k (rely_move w c p k f) (w.place k) (inv.places_ok k));
  owns = λ k. own_moved w c p o k (w.own k) refl (inv.owns k);
  lists = inv.lists;
  pl_ops = inv.pl_ops;
}

-- A word changes.
word_put : (w : Memory) (i : ℕ) (v : Word) (j : ℕ) (x : Word) → WordOk w j x → WordOk (put w i v) j x
word_put w i v j (word.Plain n) h = h
word_put w i v j (word.Placing m) h = h
word_put w i v j (word.Operation T) h = h
word_put w i v j (word.Foreign n) h = h

own_put : (w : Memory) (i : ℕ) (v : Word) (k : ℕ) (o : Own) → OwnOk w k o → OwnOk (put w i v) k o
own_put w i v k own.Nothing h = h
own_put w i v k (own.Read j) h = h
own_put w i v k (own.List m) h = h

pub inv_put : (w : Memory) (i : ℕ) (v : Word) → Inv w → Fair w i v → WordOk w i v → Inv (put w i v)
inv_put w i v inv f ok = record {
  words = λ j. upd_both w.word i j v (WordOk (put w i v) j) (λ q. rw q (word_put w i v i v ok)) (λ _. word_put w i v j (w.word j) (inv.words j));
  places_ok = λ k. place_on w (put w i v) k (rely_put w i v k f) (w.place k) (inv.places_ok k);
  owns = λ k. own_put w i v k (w.own k) (inv.owns k);
  lists = inv.lists;
  pl_ops = inv.pl_ops;
}

-- An operation is decided.
word_settled : (w : Memory) (c : ℕ) (s : State) (j : ℕ) (x : Word) → WordOk w j x → WordOk (settled w c s) j x
word_settled w c s j (word.Plain n) h = h
word_settled w c s j (word.Placing m) h = h
word_settled w c s j (word.Operation T) h = h
word_settled w c s j (word.Foreign n) h = h

own_settled : (w : Memory) (c : ℕ) (s : State) (k : ℕ) (o : Own) → OwnOk w k o → OwnOk (settled w c s) k o
own_settled w c s k own.Nothing h = h
own_settled w c s k (own.Read j) h = h
own_settled w c s k (own.List m) h = h

pub inv_settled : (w : Memory) (T : Mark) (s : State) → Inv w → Current w T → Undecided w T
    → (s ≡ (Some outcome.Succeeded) → (j : ℕ) → j < length (w.ents T.core) → w.word (entry w T j).word ≡ word.Operation T) → Inv (settled w T.core s)
inv_settled w T s inv cur und full = record {
  words = λ j. word_settled w T.core s j (w.word j) (inv.words j);
  places_ok = λ k. place_on w (settled w T.core s) k (rely_settled w T s k cur und full) (w.place k) (inv.places_ok k);
  owns = λ k. own_settled w T.core s k (w.own k) (inv.owns k);
  lists = inv.lists;
  pl_ops = inv.pl_ops;
}

-- A placing descriptor is made.
module _ (w : Memory) (c : ℕ) (d : Placing) (p : Place) (fresh : (T : Mark) (j : ℕ) → past T j p ≡ false) (free : (T : Mark) (j : ℕ) (m : Mark) → due T j m p ≡ false) (unplaced : places (w.place c) ≡ false) where
  word_made : (i : ℕ) (x : Word) → WordOk w i x → WordOk (move (fresh_pl w c d) c p) i x
  word_made i (word.Plain v) h = tt
  word_made i (word.Placing m) h =
      let ne : m.core ≡ c → ⊥ = λ q. both_ways (places (w.place c)) unplaced (rw q at h.2) in
      (upd_other w.pnum c m.core (w.pnum c + 1) ne ∙ h.0, rw (upd_other w.pl c m.core d ne) h.1, rw (upd_other w.place c m.core p ne) h.2)
  word_made i (word.Operation T) h =
      (h.0, (h.1.0, h.1.1, h.1.2, upd_both w.place c T.core p (λ y. past T h.1.0 y ≡ false) (λ _. fresh T h.1.0) (λ _. h.1.3)))
  word_made i (word.Foreign n) h = h

  own_made : (w.own c ≡ own.Nothing → ⊥) → (k : ℕ) (o : Own) → w.own k ≡ o → OwnOk w k o → OwnOk (move (fresh_pl w c d) c p) k o
  own_made f k own.Nothing e h = upd_both w.place c k p (λ y. y ≡ Idle) (λ q. absurd (f (rw (← q) e))) (λ _. h)
  own_made f k (own.Read i) e h = h
  own_made f k (own.List m) e h = h

  pub inv_made : Inv w → (w.own c ≡ own.Nothing → ⊥) → Made w d.operation → PlaceOk (move (fresh_pl w c d) c p) c p → Inv (move (fresh_pl w c d) c p)
  inv_made inv o made ok = record {
    words = λ i. word_made i (w.word i) (inv.words i);
    places_ok = λ k. upd_both w.place c k p (PlaceOk (move (fresh_pl w c d) c p) k)
        (λ q. rw q ok)
        (λ ne. place_on w (move (fresh_pl w c d) c p) k (rely_made w c d p k ne fresh free) (w.place k) (inv.places_ok k));
    owns = λ k. own_made o k (w.own k) refl (inv.owns k);
    lists = inv.lists;
    pl_ops = λ k. upd_both w.pl c k d (λ y. Made w y.operation) (λ _. made) (λ _. inv.pl_ops k);
  }

-- An operation is started by an idle core.
module _ (w : Memory) (c : ℕ) (es : List Entry) (o : Own) (p : Place) (at_rest : w.place c ≡ Idle) where
  word_start : (i : ℕ) (x : Word) → WordOk w i x → WordOk (move (fresh_op w c es o) c p) i x
  word_start i (word.Plain v) h = tt
  word_start i (word.Placing m) h =
      let ne : m.core ≡ c → ⊥ = λ q. false≢true (rw (q, at_rest) at h.2) in
      (h.0, h.1, rw (upd_other w.place c m.core p ne) h.2)
  word_start i (word.Operation T) h =
      let ne : T.core ≡ c → ⊥ = λ q. true≢false (rw (q, at_rest) at h.1.3) in (
        upd_other w.num c T.core (w.num c + 1) ne ∙ h.0,
        (h.1.0, rw (upd_other w.ents c T.core es ne) h.1.1, rw (upd_other w.ents c T.core es ne) h.1.2, rw (upd_other w.place c T.core p ne) h.1.3),
      )
  word_start i (word.Foreign n) h = h

  own_start : (k : ℕ) (x : Own) → (k ≡ c → ⊥) → OwnOk w k x → OwnOk (move (fresh_op w c es o) c p) k x
  own_start k own.Nothing ne h = upd_other w.place c k p ne ∙ h
  own_start k (own.Read i) ne h = upd_other w.ents c k es ne ∙ h
  own_start k (own.List m) ne h = (rw (upd_other w.ents c k es ne) h.0, rw (upd_other w.num c k (w.num c + 1) ne) h.1)

  pub inv_start : Inv w → wants p ≡ false → Apart es → OwnOk (move (fresh_op w c es o) c p) c o → PlaceOk (move (fresh_op w c es o) c p) c p → Inv (move (fresh_op w c es o) c p)
  inv_start inv un apart own-ok ok = record {
    words = λ i. word_start i (w.word i) (inv.words i);
    places_ok = λ k. upd_both w.place c k p (PlaceOk (move (fresh_op w c es o) c p) k)
        (λ q. rw q ok)
        (λ ne. place_on w (move (fresh_op w c es o) c p) k (rely_start w c es o p k ne at_rest un) (w.place k) (inv.places_ok k));
    owns = λ k. upd_both w.own c k o (OwnOk (move (fresh_op w c es o) c p) k) (λ q. rw q own-ok) (λ ne. own_start k (w.own k) ne (inv.owns k));
    lists = λ k. upd_both w.ents c k es Apart (λ _. apart) (λ _. inv.lists k);
    pl_ops = λ k. upd_both w.num c (w.pl k).operation.core (w.num c + 1) (λ x. (w.pl k).operation.number ≤ x)
        (λ q. let l = inv.pl_ops k in let l2 : (w.pl k).operation.number ≤ w.num c = rw (← q) l in omega arith) (λ _. inv.pl_ops k);
  }

-- A placing mark is placed by its owner: the word and the place change at once, since the world between breaks the invariant.
pub inv_placed : (w : Memory) (c : ℕ) (i : ℕ) (m : Mark) (p : Place) → Inv w → Fair w i (word.Placing m) → Calm (put w i (word.Placing m)) c p → (w.own c ≡ own.Nothing → ⊥)
    → m.core ≡ c → PlCurrent w m → (w.pl c).word ≡ i → places p ≡ true → PlaceOk (move (put w i (word.Placing m)) c p) c p → Inv (move (put w i (word.Placing m)) c p)
inv_placed w c i m p inv f calm o mine cur here placed ok = record {
  words = λ j. upd_both w.word i j (word.Placing m) (WordOk w2 j)
      (λ q. (cur, rw (mine, q) here, subst (λ x. places x ≡ true) (sym (upd_at w.place c m.core p mine)) placed))
      (λ ne. word_moved w1 c p calm j (w.word j) (upd_other w.word i j (word.Placing m) ne) (word_put w i (word.Placing m) j (w.word j) (inv.words j)));
  places_ok = λ k. upd_both w.place c k p (PlaceOk w2 k)
      (λ q. rw q ok)
      (λ _. place_on w1 w2 k (rely_move w1 c p k calm) (w.place k) (place_on w w1 k (rely_put w i (word.Placing m) k f) (w.place k) (inv.places_ok k)));
  owns = λ k. own_moved w1 c p (λ e. absurd (o e)) k (w.own k) refl (own_put w i (word.Placing m) k (w.own k) (inv.owns k));
  lists = inv.lists;
  pl_ops = inv.pl_ops;
}
  where
    w1 : Memory
    w1 = put w i (word.Placing m)

    w2 : Memory
    w2 = move (put w i (word.Placing m)) c p
