use Rattle.std.proofs.Common.{◌≡◌, ℕ, ◌+◌, ◌<◌, ◌≤◌, [], length, None, Option, sym, refl, ap, ◌∙◌, subst, inl, ⊎_elim, le_refl, arith}
use Rattle.std.proofs.lemmas.Bool.{cases_eq, cases_lt, true≢false, false≢true}
use Rattle.word.specs.declared.Mark.{Mark}
use Rattle.word.specs.declared.Word.{Word}
use Rattle.word.specs.declared.Word.TheVariants as word
use Rattle.entries.specs.declared.list.Entries.{Entries}
use Rattle.entries.specs.Listed.{listed}
use Rattle.entries.proofs.Law.{listed_lawful}
use Rattle.descriptor.specs.declared.Descriptor.{Descriptor}
use Rattle.descriptor.specs.declared.contents.Operation.{Operation}
use Rattle.descriptor.specs.Descriptors.{last_number}
use Rattle.descriptor.specs.Contents.{undecided, entries_of}
use Rattle.cores.specs.declared.place.Place.TheVariants.{Idle, Finished, Look, Begin}
use Rattle.cores.specs.declared.place.Own.{Own}
use Rattle.cores.specs.declared.place.Own.TheVariants as own
use Rattle.model.specs.World.{World, core_at, with_core}
use Rattle.cores.specs.Cores.{home, started, collected, halted}
use Rattle.model.proofs.Memory.{Memory, view, upd, move, fresh_op, disown}
use Rattle.model.proofs.Facts.{Apart, PlaceOk, WordOk, OwnOk, Inv, Rely}
use Rattle.model.proofs.Updates.{upd_same, upd_other, upd_both}
use Rattle.model.proofs.Stable.{place_on}
use Rattle.model.proofs.Keep.{inv_move, inv_start}
use Rattle.model.proofs.Views.{view_core, with_record, upd_self}
use Rattle.model.proofs.InRange.{created_left}

-- The calls that are no steps keep the invariants.

-- A collect: the core rests, and runs nothing.
module _ (w : Memory) (c : ℕ) where
  abbrev without : Memory
  without = disown w c own.Nothing

  rely_disown : (k : ℕ) → (k ≡ c → ⊥) → Rely w without k
  rely_disown k ne = record {
    nums = λ c. le_refl (w.num c);
    still = λ T m c. c;
    ents = λ T c0 c. refl;
    states = λ T c0 c. inl refl;
    pnums = λ c. le_refl (w.pnum c);
    pl_still = λ m md c. c;
    pls = λ m c0 c. refl;
    mine_pnum = refl;
    mine_pl = refl;
    mine_num = refl;
    mine_own = upd_other w.own c k own.Nothing ne;
    marks = λ j T c u e. e;
    arrives = λ j m T mk op e c u _ _. inl e;
    unplaced = λ m md u. u;
    lives = λ m d md un h e. h e;
  }

  word_disown : (j : ℕ) (x : Word) → WordOk w j x → WordOk without j x
  word_disown j (word.Plain v) h = h
  word_disown j (word.Placing m) h = h
  word_disown j (word.Operation T) h = h
  word_disown j (word.Foreign n) h = h

  own_disown : (k : ℕ) (o : Own) → OwnOk w k o → OwnOk without k o
  own_disown k own.Nothing h = h
  own_disown k (own.Read i) h = h
  own_disown k (own.List m) h = h

  inv_disown : w.place c ≡ Idle → Inv w → Inv without
  inv_disown here inv = record {
    words = λ j. word_disown j (w.word j) (inv.words j);
    places_ok = λ k. ⊎_elim
        (λ (q : k ≡ c). let e : w.place k ≡ Idle = rw q here in let h : PlaceOk w k Idle = rw e at (inv.places_ok k) in subst (PlaceOk without k) (sym e) h)
        (λ (ne : k ≡ c → ⊥). place_on w without k (rely_disown k ne) (w.place k) (inv.places_ok k)) (cases_eq k c);
    owns = λ k. upd_both w.own c k own.Nothing (OwnOk without k) (λ q. rw q here) (λ _. own_disown k (w.own k) (inv.owns k));
    lists = inv.lists;
    pl_ops = inv.pl_ops;
  }

pub inv_collect : (w : Memory) (c v : ℕ) → Inv w → w.place c ≡ Finished v → Inv (disown (move w c Idle) c own.Nothing)
inv_collect w c v inv here =
    inv_disown (move w c Idle) c (upd_same w.place c Idle)
    (inv_move w c Idle inv
    (record {
      wanted = λ z. absurd (false≢true z);
      placed = λ i m q e z. absurd (false≢true (rw here at z));
      passed = λ T j _ _ _ _ z. absurd (true≢false (rw here at z));
      live_past = λ m d q _ h. absurd (true≢false (rw (q, here) at h.not_past));
      live_due = λ m d q _ h. refl;
    })
    (λ _. refl) (rw here at (inv.places_ok c)))

-- A start, where a number is left.
pub view_started : (w : World) (k : ℕ) (mine : Own) (l : Option Entries) → k < length w.table.cores → (core_at w k).operation.last < last_number
    → view (with_core w k (started (core_at w k) mine l)) ≡ move (fresh_op (view w) k (entries_of l) mine) k (home mine)
view_started w k mine l lt left =
    view_core w k (started (core_at w k) mine l) lt
    ∙ ap (λ (d : Descriptor Operation). with_record (view w) k (record { place = home mine; own = mine; halted = (core_at w k).halted; operation = d; placing = (core_at w k).placing })) (created_left (core_at w k).operation (undecided l) left)
    ∙ (λ i. record { word = (view w).word; num = upd (view w).num k ((view w).num k + 1); ents = upd (view w).ents k (entries_of l); state = upd (view w).state k None; pnum = upd_self (view w).pnum k _ refl i; pl = upd_self (view w).pl k _ refl i; place = upd (view w).place k (home mine); own = upd (view w).own k mine })

pub view_collected : (w : World) (k : ℕ) → k < length w.table.cores → view (with_core w k (collected (core_at w k))) ≡ disown (move (view w) k Idle) k own.Nothing
view_collected w k lt =
    view_core w k (collected (core_at w k)) lt
    ∙ (λ i. record { word = (view w).word; num = upd_self (view w).num k _ refl i; ents = upd_self (view w).ents k _ refl i; state = upd_self (view w).state k _ refl i; pnum = upd_self (view w).pnum k _ refl i; pl = upd_self (view w).pl k _ refl i; place = upd (view w).place k Idle; own = upd (view w).own k own.Nothing })

pub view_halted : (w : World) (k : ℕ) → k < length w.table.cores → view (with_core w k (halted (core_at w k))) ≡ view w
view_halted w k lt =
    view_core w k (halted (core_at w k)) lt
    ∙ (λ i. record { word = (view w).word; num = upd_self (view w).num k _ refl i; ents = upd_self (view w).ents k _ refl i; state = upd_self (view w).state k _ refl i; pnum = upd_self (view w).pnum k _ refl i; pl = upd_self (view w).pl k _ refl i; place = upd_self (view w).place k _ refl i; own = upd_self (view w).own k _ refl i })

-- the mark of core k's next operation
abbrev pub next_mark : Memory → ℕ → Mark
next_mark a k = record { core = k; number = a.num k + 1 }

pub inv_list_start : (a : Memory) (k : ℕ) (l : Entries) → Inv a → a.place k ≡ Idle → Inv (move (fresh_op a k (listed l) (own.List (next_mark a k))) k (Begin (next_mark a k)))
inv_list_start a k l inv idle =
    inv_start a k (listed l) (own.List M) (Begin M) idle inv refl apart (rw (upd_same a.ents k (listed l)) some, rw (upd_same a.num k (a.num k + 1)))
    (rw (upd_same a.num k (a.num k + 1)) (le_refl _), λ _. rw (upd_same a.ents k (listed l)) some)
  where
    M : Mark
    M = next_mark a k

    some : 0 < length (listed l)
    some = omega (arith, (listed_lawful l).some)

    apart : Apart (listed l)
    apart i j li lj e =
        ⊎_elim (λ (lt : i < j). let up = (listed_lawful l).ascending i j lt lj in absurd (omega (arith, e)))
        (λ (ge : j ≤ i). ⊎_elim (λ (lt : j < i). let up = (listed_lawful l).ascending j i lt li in absurd (omega (arith, e))) (λ (le : i ≤ j). omega arith) (cases_lt j i)) (cases_lt i j)

pub inv_read_start : (a : Memory) (k i : ℕ) → Inv a → a.place k ≡ Idle → Inv (move (fresh_op a k [] (own.Read i)) k (Look i))
inv_read_start a k i inv idle =
    inv_start a k [] (own.Read i) (Look i) idle inv refl (λ i j l _ _. absurd (omega arith)) (upd_same a.ents k []) (upd_same a.own k (own.Read i))
