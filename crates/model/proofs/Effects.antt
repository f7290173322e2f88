use Rattle.std.proofs.Common.{◌≡◌, ℕ, ◌+◌, ◌<◌, ◌≤◌, true, false, ◌⊎◌, List, length, Some, None, sym, refl, ◌∙◌, subst, inl, inr, le_refl, arith}
use Rattle.std.proofs.lemmas.Bool.{both_ways, true≢false}
use Rattle.word.specs.declared.Mark.{Mark}
use Rattle.word.specs.declared.Word.{Word}
use Rattle.word.specs.declared.Word.TheVariants as word
use Rattle.entries.specs.declared.Entry.{Entry}
use Rattle.descriptor.specs.declared.contents.Outcome.TheVariants as outcome
use Rattle.descriptor.specs.Contents.{State}
use Rattle.descriptor.specs.declared.contents.Placing.{Placing}
use Rattle.cores.specs.declared.place.Place.{Place}
use Rattle.cores.specs.declared.place.Place.TheVariants.{Idle}
use Rattle.cores.specs.declared.place.Own.{Own}
use Rattle.model.proofs.Memory.{Memory, entry, move, put, settled, fresh_pl, fresh_op}
use Rattle.model.proofs.Facts.{Made, Current, Undecided, PlMade, PlCurrent, wants, places, past, due, Unplaced, Live, Rely}
use Rattle.model.proofs.Updates.{upd_map, upd_at, upd_other, upd_both, upd_is}

-- What each effect on shared memory leaves standing for the other cores.

-- A word changes: it held no undecided operation's mark, and a placing mark that it held turns into its operation's mark while that is undecided.
pub record Fair (w : Memory) (i : ℕ) (v : Word) : Type 0 where
  pub free : (T : Mark) → Current w T → Undecided w T → w.word i ≡ word.Operation T → ⊥
  pub placed : (m : Mark) → v ≡ word.Placing m → Unplaced w m
  pub kept : (m : Mark) → w.word i ≡ word.Placing m → Current w (w.pl m.core).operation → Undecided w (w.pl m.core).operation → v ≡ word.Operation (w.pl m.core).operation

pub rely_put : (w : Memory) (i : ℕ) (v : Word) (k : ℕ) → Fair w i v → Rely w (put w i v) k
rely_put w i v k f = record {
  nums = λ c. le_refl (w.num c);
  still = λ T m c. c;
  ents = λ T c0 c. refl;
  states = λ T c0 c. inl refl;
  pnums = λ c. le_refl (w.pnum c);
  pl_still = λ m md c. c;
  pls = λ m c0 c. refl;
  mine_pnum = refl;
  mine_pl = refl;
  mine_num = refl;
  mine_own = refl;
  marks = λ j T c u e. upd_both w.word i j v (λ x. x ≡ word.Operation T) (λ q. absurd (f.free T c u (subst (λ n. w.word n ≡ word.Operation T) q e))) (λ _. e);
  arrives = λ j m T mk op e c u _ _. upd_both w.word i j v (λ x. (x ≡ word.Placing m) ⊎ (x ≡ word.Operation T))
      (λ q. inr (rw (mk, op) at (f.kept m (subst (λ n. w.word n ≡ word.Placing m) q e) (rw (mk, op) c) (rw (mk, op) u)))) (λ _. inl e);
  unplaced = λ m md u. u;
  lives = λ m d md un h e. elim (upd_is w.word i d.word v (word.Placing m) e) [ inl q ↦ absurd (un (f.placed m q.1)) | inr q ↦ h q.1 ];
}

-- A core's place changes, and nothing else.
pub record Calm (w : Memory) (c : ℕ) (p : Place) : Type 0 where
  pub wanted : wants p ≡ true → wants (w.place c) ≡ true
  pub placed : (i : ℕ) (m : Mark) → m.core ≡ c → w.word i ≡ word.Placing m → places (w.place c) ≡ true → places p ≡ true
  pub passed : (T : Mark) (j : ℕ) → T.core ≡ c → Current w T → j < length (w.ents c) → w.word (entry w T j).word ≡ word.Operation T → past T j (w.place c) ≡ false → past T j p ≡ false
  pub live_past : (m : Mark) (d : Placing) → d.operation.core ≡ c → w.word d.word ≡ word.Placing m → (h : Live w m d) → past d.operation h.index p ≡ false
  pub live_due : (m : Mark) (d : Placing) → d.operation.core ≡ c → w.word d.word ≡ word.Placing m → (h : Live w m d) → due d.operation h.index m p ≡ false

pub rely_move : (w : Memory) (c : ℕ) (p : Place) (k : ℕ) → Calm w c p → Rely w (move w c p) k
rely_move w c p k f = record {
  nums = λ c. le_refl (w.num c);
  still = λ T m c. c;
  ents = λ T c0 c. refl;
  states = λ T c0 c. inl refl;
  pnums = λ c. le_refl (w.pnum c);
  pl_still = λ m md c. c;
  pls = λ m c0 c. refl;
  mine_pnum = refl;
  mine_pl = refl;
  mine_num = refl;
  mine_own = refl;
  marks = λ j T c u e. e;
  arrives = λ j m T mk op e c u _ _. inl e;
  unplaced = λ m md u. (
    u.0,
    elim (upd_is (λ x. wants (w.place x)) c m.core (wants p) true (upd_map wants w.place c p m.core ∙ u.1)) [
      | inl q ↦ rw q.0 (f.wanted q.1)
      | inr q ↦ q.1
    ],
  );
  lives = λ m d md un h e. let h0 = h e in record {
    current = h0.current;
    unfinished = h0.unfinished;
    index = h0.index;
    inside = h0.inside;
    names = h0.names;
    value = h0.value;
    not_past = upd_both w.place c d.operation.core p (λ x. past d.operation h0.index x ≡ false) (λ q. f.live_past m d q e h0) (λ _. h0.not_past);
    not_due = upd_both w.place c d.operation.core p (λ x. due d.operation h0.index m x ≡ false) (λ q. f.live_due m d q e h0) (λ _. h0.not_due);
  };
}

-- An operation is decided; to succeed, all its words hold its mark.
pub rely_settled : (w : Memory) (T : Mark) (s : State) (k : ℕ) → Current w T → Undecided w T
    → (s ≡ (Some outcome.Succeeded) → (j : ℕ) → j < length (w.ents T.core) → w.word (entry w T j).word ≡ word.Operation T) → Rely w (settled w T.core s) k
rely_settled w T s k cur und full = record {
  nums = λ c. le_refl (w.num c);
  still = λ T m c. c;
  ents = λ T c0 c. refl;
  states = λ U c0 c. upd_both w.state T.core U.core s (λ x. (x ≡ w.state U.core) ⊎ (w.state U.core ≡ None)) (λ q. inr (rw q und)) (λ _. inl refl);
  pnums = λ c. le_refl (w.pnum c);
  pl_still = λ m md c. c;
  pls = λ m c0 c. refl;
  mine_pnum = refl;
  mine_pl = refl;
  mine_num = refl;
  mine_own = refl;
  marks = λ j T c u e. e;
  arrives = λ j m T mk op e c u _ _. inl e;
  unplaced = λ m md u. u;
  lives = λ m d md un h e. let h0 = h e in record {
    current = h0.current;
    unfinished = upd_both w.state T.core d.operation.core s (λ x. x ≡ (Some outcome.Succeeded) → ⊥)
        (λ q z. let x = full z h0.index (rw (← q) h0.inside) in let bad : ◌≡◌ {A = ℕ} 0 1 = cc h0.names in omega arith)
        (λ _. h0.unfinished);
    index = h0.index;
    inside = h0.inside;
    names = h0.names;
    value = h0.value;
    not_past = h0.not_past;
    not_due = h0.not_due;
  };
}

-- A core makes a placing descriptor, and is to place it.
pub rely_made : (w : Memory) (c : ℕ) (d : Placing) (p : Place) (k : ℕ) → (k ≡ c → ⊥)
    → ((T : Mark) (j : ℕ) → past T j p ≡ false) → ((T : Mark) (j : ℕ) (m : Mark) → due T j m p ≡ false) → Rely w (move (fresh_pl w c d) c p) k
rely_made w c d p k ne fresh free = record {
  nums = λ c. le_refl (w.num c);
  still = λ T m c. c;
  ents = λ T c0 c. refl;
  states = λ T c0 c. inl refl;
  pnums = λ a. upd_both w.pnum c a (w.pnum c + 1) (λ x. w.pnum a ≤ x) (λ q. rw q (omega arith)) (λ _. le_refl (w.pnum a));
  pl_still = old;
  pls = λ m c0 c1. upd_other w.pl c m.core d (λ q. other m q (omega (arith, c0)) c1);
  mine_pnum = upd_other w.pnum c k (w.pnum c + 1) ne;
  mine_pl = upd_other w.pl c k d ne;
  mine_num = refl;
  mine_own = refl;
  marks = λ j T c u e. e;
  arrives = λ j m T mk op e c u _ _. inl e;
  unplaced = λ m md u. (old m md u.0, subst (λ x. wants x ≡ true) (upd_other w.place c m.core p (λ q. other m q md u.0)) u.1);
  lives = λ m b md un h e. let h0 = h e in record {
    current = h0.current;
    unfinished = h0.unfinished;
    index = h0.index;
    inside = h0.inside;
    names = h0.names;
    value = h0.value;
    not_past = upd_both w.place c b.operation.core p (λ x. past b.operation h0.index x ≡ false) (λ _. fresh b.operation h0.index) (λ _. h0.not_past);
    not_due = upd_both w.place c b.operation.core p (λ x. due b.operation h0.index m x ≡ false) (λ _. free b.operation h0.index m) (λ _. h0.not_due);
  };
}
  where
    other : (m : Mark) → m.core ≡ c → PlMade w m → PlCurrent (move (fresh_pl w c d) c p) m → ⊥
    other m q md c1 =
        let e : w.pnum c + 1 ≡ m.number = sym (upd_at w.pnum c m.core (w.pnum c + 1) q) ∙ c1 in
        let l : m.number ≤ w.pnum c = rw (← q) md in omega arith

    old : (m : Mark) → PlMade w m → PlCurrent (move (fresh_pl w c d) c p) m → PlCurrent w m
    old m md c1 = sym (upd_other w.pnum c m.core (w.pnum c + 1) (λ q. other m q md c1)) ∙ c1

-- A core that is idle starts an operation.
pub rely_start : (w : Memory) (c : ℕ) (es : List Entry) (o : Own) (p : Place) (k : ℕ) → (k ≡ c → ⊥) → w.place c ≡ Idle → wants p ≡ false → Rely w (move (fresh_op w c es o) c p) k
rely_start w c es o p k ne at_rest unwanted = record {
  nums = λ a. upd_both w.num c a (w.num c + 1) (λ x. w.num a ≤ x) (λ q. rw q (omega arith)) (λ _. le_refl (w.num a));
  still = λ T md c1. sym (upd_other w.num c T.core (w.num c + 1) (λ q. other T q md c1)) ∙ c1;
  ents = λ T c0 c1. upd_other w.ents c T.core es (λ q. other T q (omega (arith, c0)) c1);
  states = λ T c0 c1. inl (upd_other w.state c T.core None (λ q. other T q (omega (arith, c0)) c1));
  pnums = λ c. le_refl (w.pnum c);
  pl_still = λ m md c. c;
  pls = λ m c0 c. refl;
  mine_pnum = refl;
  mine_pl = refl;
  mine_num = upd_other w.num c k (w.num c + 1) ne;
  mine_own = upd_other w.own c k o ne;
  marks = λ j T c u e. e;
  arrives = λ j m T mk op e c u _ _. inl e;
  unplaced = λ m md u. (
    u.0,
    elim (upd_is (λ x. wants (w.place x)) c m.core (wants p) true (upd_map wants w.place c p m.core ∙ u.1)) [
      | inl q ↦ absurd (both_ways (wants p) unwanted q.1)
      | inr q ↦ q.1
    ],
  );
  lives = λ m b md un h e. let h0 = h e in
      let ne : b.operation.core ≡ c → ⊥ = λ q. true≢false (rw (q, at_rest) at h0.not_past) in record {
        current = upd_other w.num c b.operation.core (w.num c + 1) ne ∙ h0.current;
        unfinished = λ z. h0.unfinished (sym (upd_other w.state c b.operation.core None ne) ∙ z);
        index = h0.index;
        inside = rw (upd_other w.ents c b.operation.core es ne) h0.inside;
        names = rw (upd_other w.ents c b.operation.core es ne) h0.names;
        value = rw (upd_other w.ents c b.operation.core es ne) h0.value;
        not_past = rw (upd_other w.place c b.operation.core p ne) h0.not_past;
        not_due = rw (upd_other w.place c b.operation.core p ne) h0.not_due;
      };
}
  where
    other : (T : Mark) → T.core ≡ c → Made w T → Current (move (fresh_op w c es o) c p) T → ⊥
    other T q md c1 =
        let e : w.num c + 1 ≡ T.number = sym (upd_at w.num c T.core (w.num c + 1) q) ∙ c1 in
        let l : T.number ≤ w.num c = rw (← q) md in omega arith
