use Rattle.std.proofs.Common.{◌≡◌, ℕ, ◌+◌, ◌<◌, ◌≤◌, true, false, not, ◌&&◌, eqb, ltb, length, sym, refl, ap, ◌∙◌, subst, arith}
use Rattle.std.proofs.lemmas.Bool.{both_ways, and_parts, and_from, and_right, eqb-true, eq-eqb, ltb-true, ltb-false, cond_both}
use Rattle.word.specs.declared.Mark.{Mark}
use Rattle.word.specs.declared.Word.TheVariants as word
use Rattle.entries.specs.declared.Entry.{Entry}
use Rattle.descriptor.specs.declared.contents.Outcome.{Outcome}
use Rattle.descriptor.specs.declared.contents.Outcome.TheVariants as outcome
use Rattle.descriptor.specs.declared.contents.Placing.{Placing}
use Rattle.cores.specs.declared.place.Work.{Work}
use Rattle.cores.specs.declared.place.Then.TheVariants as then
use Rattle.cores.specs.declared.place.Clearing.{Clearing}
use Rattle.cores.specs.declared.place.Clearing.TheVariants as clearing
use Rattle.cores.specs.declared.place.Settling.TheVariants as settling
use Rattle.cores.specs.declared.place.Place.TheVariants.{Finished, Begin, Clear, Settle}
use Rattle.cores.specs.declared.place.Own.{Own}
use Rattle.cores.specs.declared.place.Own.TheVariants as own
use Rattle.model.specs.Rules.{same_mark, entry_after, has_more, answer_of, after_last, after_clear_swap}
use Rattle.cores.specs.Cores.{home}
use Rattle.model.specs.Step.{cleared_to}
use Rattle.model.proofs.Memory.{Memory, entry, move, put}
use Rattle.model.proofs.Facts.{Current, Undecided, Matches, past, due, Live, PlaceOk, OwnOk, Inv}
use Rattle.model.proofs.Updates.{upd_same}
use Rattle.model.proofs.Stable.{not_undecided}
use Rattle.model.proofs.Keep.{inv_move, inv_put}
use Rattle.model.proofs.Go.{no, mark_eq, same_mark_eq, same_mark_refl, and_false, busy, go_home, saw_placing}

-- The invariants are kept by the three steps of Clear.

-- The next place of clearing leaves behind what it has done with.
was_past : (w : Memory) (c : ℕ) (t : Work) (o : Outcome) (a : Clearing) → w.place c ≡ Clear t o a → (T : Mark) (j : ℕ) → past T j (w.place c) ≡ false → (same_mark t.operation T && ltb j t.index) ≡ false
was_past w c t o a here T j z = rw here at z

live_was : (w : Memory) (c : ℕ) (t : Work) (o : Outcome) (a : Clearing) → w.place c ≡ Clear t o a → (m : Mark) (d : Placing) → d.operation.core ≡ c → (h : Live w m d) → (same_mark t.operation d.operation && ltb h.index t.index) ≡ false
live_was w c t o a here m d q h = was_past w c t o a here d.operation h.index (subst (λ x. past d.operation h.index (w.place x) ≡ false) q h.not_past)

-- First step: read the entry.
pub keeps_clear_read : (w : Memory) (c : ℕ) (t : Work) (o : Outcome) → Inv w → w.place c ≡ Clear t o clearing.Read → Inv (move w c (Clear t o (clearing.Load (entry w t.operation t.index))))
keeps_clear_read w c t o inv here =
    let h : PlaceOk w c (Clear t o clearing.Read) = rw here at (inv.places_ok c) in
    inv_move w c (Clear t o (clearing.Load (entry w t.operation t.index))) inv
    (record {
      wanted = no;
      placed = λ i m q e z. no (rw here at z);
      passed = λ T j _ _ _ _ z. was_past w c t o clearing.Read here T j z;
      live_past = λ m d q _ h. live_was w c t o clearing.Read here m d q h;
      live_due = λ m d q _ h. and_right (same_mark t.operation d.operation) _ (and_right (eqb t.index h.index) _ refl);
    })
    (λ z. absurd (busy w c inv (rw here) z)) (h.0, λ _. refl)

-- A mark that may still turn into the operation's, at the entry that the operation's core clears, stands in that entry's word.
live_here : (w : Memory) (t : Work) (e : Entry) (d : Placing) (m : Mark) → Matches w t.operation t.index e → (h : Live w m d) → same_mark t.operation d.operation ≡ true → eqb t.index h.index ≡ true → d.word ≡ e.word
live_here w t e d m match h a b =
    let q : t.operation ≡ d.operation = same_mark_eq t.operation d.operation a in
    let i : t.index ≡ h.index = eqb-true _ _ b in
    let cur : Current w t.operation = subst (Current w) (sym q) h.current in
    sym h.names ∙ sym (ap (λ (T : Mark). (entry w T h.index).word) q) ∙ sym (ap (λ (n : ℕ). (entry w t.operation n).word) i) ∙ ap (λ (x : Entry). x.word) (match cur)

-- Second step: load the word, and settle any placing mark seen.
pub keeps_clear_load : (w : Memory) (c : ℕ) (t : Work) (o : Outcome) (e : Entry) → Inv w → w.place c ≡ Clear t o (clearing.Load e)
    → ((m : Mark) → w.word e.word ≡ word.Placing m → ⊥) → Inv (move w c (Clear t o (clearing.Swap e)))
keeps_clear_load w c t o e inv here none =
    let h : PlaceOk w c (Clear t o (clearing.Load e)) = rw here at (inv.places_ok c) in
    inv_move w c (Clear t o (clearing.Swap e)) inv
    (record {
      wanted = no;
      placed = λ i m q e z. no (rw here at z);
      passed = λ T j _ _ _ _ z. was_past w c t o (clearing.Load e) here T j z;
      live_past = λ m d q _ k. live_was w c t o (clearing.Load e) here m d q k;
      live_due = λ m d q z k. and_false (same_mark t.operation d.operation) (eqb t.index k.index && true) (λ a b. none m (rw (← (live_here w t e d m h.1 k a (and_parts (eqb t.index k.index) true b).0)) z));
    })
    (λ z. absurd (busy w c inv (rw here) z)) h

pub keeps_clear_placing : (w : Memory) (c : ℕ) (t : Work) (o : Outcome) (e : Entry) (n : Mark) → Inv w → w.place c ≡ Clear t o (clearing.Load e) → w.word e.word ≡ word.Placing n
    → Inv (move w c (Settle n settling.Read (then.Clear t o e)))
keeps_clear_placing w c t o e n inv here y =
    let h : PlaceOk w c (Clear t o (clearing.Load e)) = rw here at (inv.places_ok c) in
    let r = saw_placing w e.word n inv y in
    inv_move w c (Settle n settling.Read (then.Clear t o e)) inv
    (record {
      wanted = no;
      placed = λ i m q e z. no (rw here at z);
      passed = λ T j _ _ _ _ z. was_past w c t o (clearing.Load e) here T j z;
      live_past = λ m d q _ k. live_was w c t o (clearing.Load e) here m d q k;
      live_due = λ m d q z k. and_false (same_mark t.operation d.operation) (eqb t.index k.index && not (same_mark n m)) (λ a b.
          let r = and_parts (eqb t.index k.index) (not (same_mark n m)) b in
          let g : d.word ≡ e.word = live_here w t e d m h.1 k a r.0 in
          let z2 : w.word e.word ≡ word.Placing m = rw (← g) z in
          let f : n ≡ m = cc in
          let f2 : same_mark n m ≡ true = rw f (same_mark_refl m) in
          let f3 : not (same_mark n m) ≡ false = rw f2 in both_ways _ f3 r.1);
    })
    (λ z. absurd (busy w c inv (rw here) z)) (r.0, r.1, (λ _. r.2), h)

-- Third step: the swap is done, and the word holds T no more.
clear_ends : (w : Memory) (c : ℕ) (t : Work) (o : Outcome) (e : Entry) → Inv w → w.place c ≡ Clear t o (clearing.Swap e) → (w.word e.word ≡ word.Operation t.operation → ⊥) → Inv (move w c (after_clear_swap t o (w.own c)))
clear_ends w c t o e inv here gone =
    cond_both (has_more t) (Clear (entry_after t) o clearing.Read) (after_last t.operation o (w.own c)) (λ p. Inv (move w c p))
    (λ z. inv_move w c (Clear (entry_after t) o clearing.Read) inv
    (record {
      wanted = no;
      placed = λ i m q e z. no (rw here at z);
      passed = λ T j q cur lt e z. and_false (same_mark t.operation T) (ltb j (t.index + 1)) (λ a b. let l : j < t.index + 1 = ltb-true _ _ b in let l2 = later T j cur z e a in omega arith);
      live_past = λ m d q z k. and_false (same_mark t.operation d.operation) (ltb k.index (t.index + 1)) (λ a b. let l : k.index < t.index + 1 = ltb-true _ _ b in let l2 = live_later m d q k a in omega arith);
      live_due = λ m d q _ k. and_right (same_mark t.operation d.operation) _ (and_right (eqb (t.index + 1) k.index) _ refl);
    })
    (λ z. absurd (busy w c inv (rw here) z))
    (record { made = h.0.made; counted = h.0.counted; inside = ltb-true _ _ z; decided = h.0.decided }, tt))
    (λ z. last (w.own c) refl (inv.owns c) (ltb-false _ _ z))
  where
    h : PlaceOk w c (Clear t o (clearing.Swap e))
    h = rw here at (inv.places_ok c)

    later : (T : Mark) (j : ℕ) → Current w T → past T j (w.place c) ≡ false → w.word (entry w T j).word ≡ word.Operation T → same_mark t.operation T ≡ true → t.index < j
    later T j cur z y a =
        let q : t.operation ≡ T = same_mark_eq t.operation T a in
        let p : (same_mark t.operation T && ltb j t.index) ≡ false = was_past w c t o (clearing.Swap e) here T j z in
        let p2 : ltb j t.index ≡ false = rw a at p in
        let l : t.index ≤ j = ltb-false _ _ p2 in
        let ne : t.index ≡ j → ⊥ = λ i. let mm = h.1 (subst (Current w) (sym q) cur) in gone (cc) in
        omega arith

    live_later : (m : Mark) (d : Placing) → d.operation.core ≡ c → (k : Live w m d) → same_mark t.operation d.operation ≡ true → t.index < k.index
    live_later m d q k a =
        let p : (same_mark t.operation d.operation && ltb k.index t.index) ≡ false = live_was w c t o (clearing.Swap e) here m d q k in
        let p2 : ltb k.index t.index ≡ false = rw a at p in
        let l : t.index ≤ k.index = ltb-false _ _ p2 in
        let nd : (same_mark t.operation d.operation && (eqb t.index k.index && true)) ≡ false = rw here at (subst (λ x. due d.operation k.index m (w.place x) ≡ false) q k.not_due) in
        let ne : t.index ≡ k.index → ⊥ = λ i. both_ways _ nd (and_from _ _ a (and_from _ _ (eq-eqb _ _ i) refl)) in
        omega arith

    finish : (M : Mark) → M ≡ record { core = c; number = w.num c } → t.count ≤ t.index + 1 → M ≡ t.operation → Inv (move w c (Finished (answer_of o)))
    finish M m-is last_one y =
        let mine : (T : Mark) → T.core ≡ c → Current w T → t.operation ≡ T = λ T q cur. sym y ∙ m-is ∙ mark_eq (record { core = c; number = w.num c }) T (sym q) (ap w.num (sym q) ∙ cur) in
        let count : (T : Mark) → T.core ≡ c → Current w T → length (w.ents T.core) ≡ t.count = λ T q cur. let g = mine T q cur in subst (λ (U : Mark). length (w.ents U.core) ≡ t.count) g (h.0.counted (subst (Current w) (sym g) cur)) in
        let own-current : Current w t.operation = subst (Current w) (sym m-is ∙ y) refl in
        inv_move w c (Finished (answer_of o)) inv
        (record {
          wanted = no;
          placed = λ i m q e z. no (rw here at z);
          passed = λ T j q cur lt e z. let a : same_mark t.operation T ≡ true = rw (mine T q cur) (same_mark_refl T) in let l2 = later T j cur z e a in let n = count T q cur in let l3 : j < length (w.ents T.core) = rw q lt in absurd (omega arith);
          live_past = λ m d q z k. let g = mine d.operation q k.current in let a : same_mark t.operation d.operation ≡ true = rw g (same_mark_refl d.operation) in let l2 = live_later m d q k a in let n = count d.operation q k.current in let l3 = k.inside in absurd (omega arith);
          live_due = λ m d q _ k. refl;
        })
        (λ z. absurd (busy w c inv (rw here) z))
        (λ und. absurd (not_undecided o (sym (h.0.decided own-current) ∙ ap w.state (ap (λ (T : Mark). T.core) (sym y ∙ m-is)) ∙ und)))

    last : (x : Own) → w.own c ≡ x → OwnOk w c x → t.count ≤ t.index + 1 → Inv (move w c (after_last t.operation o x))
    last own.Nothing e ok l = absurd (busy w c inv (rw here) e)
    last (own.Read i) e ok l = subst (λ (x : Own). Inv (move w c (home x))) e (go_home w c inv (rw here) (rw here))
    last (own.List M) e ok l =
        cond_both (same_mark M t.operation) (Finished (answer_of o)) (Begin M) (λ p. Inv (move w c p))
        (λ y. finish M ok.1 l (same_mark_eq M t.operation y))
        (λ _. subst (λ (x : Own). Inv (move w c (home x))) e (go_home w c inv (rw here) (rw here)))

pub keeps_clear_misses : (w : Memory) (c : ℕ) (t : Work) (o : Outcome) (e : Entry) → Inv w → w.place c ≡ Clear t o (clearing.Swap e)
    → (w.word e.word ≡ word.Operation t.operation → ⊥) → Inv (move w c (after_clear_swap t o (w.own c)))
keeps_clear_misses w c t o e inv here gone = clear_ends w c t o e inv here gone

plain_to : (o : Outcome) (e : Entry) → (v : ℕ) × (cleared_to o e ≡ word.Plain v)
plain_to outcome.Succeeded e = (e.new, refl)
plain_to (outcome.Failed i) e = (e.expected, refl)

pub keeps_clear_takes_out : (w : Memory) (c : ℕ) (t : Work) (o : Outcome) (e : Entry) → Inv w → w.place c ≡ Clear t o (clearing.Swap e)
    → w.word e.word ≡ word.Operation t.operation → Inv (move (put w e.word (cleared_to o e)) c (after_clear_swap t o (w.own c)))
keeps_clear_takes_out w c t o e inv here y =
    let h : PlaceOk w c (Clear t o (clearing.Swap e)) = rw here at (inv.places_ok c) in
    let p = plain_to o e in
    rw p.1
    (clear_ends (put w e.word (word.Plain p.0)) c t o e
    (inv_put w e.word (word.Plain p.0) inv
    (record {
      free = λ T cur und k. let g : t.operation ≡ T = cc in not_undecided o (sym (h.0.decided (subst (Current w) (sym g) cur)) ∙ subst (Undecided w) (sym g) und);
      placed = λ m k. absurd (grind arith);
      kept = λ m k _ _. absurd (grind arith);
    }) tt) here
    (λ k. let k2 : word.Plain p.0 ≡ word.Operation t.operation = sym (upd_same w.word e.word (word.Plain p.0)) ∙ k in grind arith))
