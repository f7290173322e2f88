use Rattle.std.proofs.Common.{◌≡◌, ℕ, ◌+◌, ◌<◌, List, length, get_or, set, Some, sym, refl, ap, ◌∙◌, length-set, get_or-set_other, get_or-set_same}
use mathlib.Core.Path.{fun_ext}
use Rattle.word.specs.declared.Mark.{Mark}
use Rattle.word.specs.declared.Word.{Word}
use Rattle.word.specs.Word.{reading_of, raw_of, Writable}
use Rattle.word.proofs.Readings.{written_back}
use Rattle.descriptor.specs.declared.contents.Operation.{Operation}
use Rattle.descriptor.specs.declared.contents.Outcome.{Outcome}
use Rattle.descriptor.specs.declared.contents.Placing.{Placing}
use Rattle.descriptor.specs.Contents.{entries_of}
use Rattle.cores.specs.declared.place.Place.{Place}
use Rattle.cores.specs.declared.table.Core.{Core}
use Rattle.model.specs.World.{World, core_at, with_core}
use Rattle.cores.specs.Cores.{new_core, with_place}
use Rattle.model.specs.Relation.{goes, stores, decides_on, creates, Current}
use Rattle.model.proofs.Memory.{Memory, view, upd, move, put, settled, fresh_pl}
use Rattle.model.proofs.Updates.{upd_both}

-- The changes of the rules, as changes of what the proofs see.

-- a list with one element stored, as a function of the number
stored_at : {A B : Type 0} (g : A → B) (l : List A) (i : ℕ) (a d : A) → i < length l → (j : ℕ) → g (get_or (set l i a) j d) ≡ upd (λ x. g (get_or l x d)) i (g a) j
stored_at g l i a d lt j =
    upd_both (λ x. g (get_or l x d)) i j (g a) (λ y. g (get_or (set l i a) j d) ≡ y) (λ q. ap g (rw q (get_or-set_same l i a d lt))) (λ ne. ap g (get_or-set_other l i j a d ne))

-- a change to what is there already is none
pub upd_self : {A : Type 0} (f : ℕ → A) (i : ℕ) (a : A) → a ≡ f i → upd f i a ≡ f
upd_self f i a e = fun_ext (λ j. upd_both f i j a (λ y. y ≡ f j) (λ q. e ∙ ap f (sym q)) (λ _. refl))

-- every core's record, with core k's replaced
abbrev pub with_record : Memory → ℕ → Core → Memory
with_record m k c =
    record { word = m.word; num = upd m.num k c.operation.last; ents = upd m.ents k (entries_of c.operation.contents.list); state = upd m.state k c.operation.contents.state; pnum = upd m.pnum k c.placing.last; pl = upd m.pl k c.placing.contents; place = upd m.place k c.place; own = upd m.own k c.own }

pub view_core : (w : World) (k : ℕ) (c : Core) → k < length w.table.cores → view (with_core w k c) ≡ with_record (view w) k c
view_core w k c lt = λ i. record {
  word = (view w).word;
  num = fun_ext (at_core (λ x. x.operation.last)) i;
  ents = fun_ext (at_core (λ x. entries_of x.operation.contents.list)) i;
  state = fun_ext (at_core (λ x. x.operation.contents.state)) i;
  pnum = fun_ext (at_core (λ x. x.placing.last)) i;
  pl = fun_ext (at_core (λ x. x.placing.contents)) i;
  place = fun_ext (at_core (λ x. x.place)) i;
  own = fun_ext (at_core (λ x. x.own)) i;
}
  where
    at_core : {B : Type 0} (g : Core → B) → (j : ℕ) → g (core_at (with_core w k c) j) ≡ upd (λ x. g (core_at w x)) k (g c) j
    at_core g j = stored_at g w.table.cores k c (new_core 0) lt j

pub view_goes : (w : World) (k : ℕ) (p : Place) → k < length w.table.cores → view (goes w k p) ≡ move (view w) k p
view_goes w k p lt =
    view_core w k (with_place (core_at w k) p) lt
    ∙ (λ i. record { word = (view w).word; num = upd_self (view w).num k _ refl i; ents = upd_self (view w).ents k _ refl i; state = upd_self (view w).state k _ refl i; pnum = upd_self (view w).pnum k _ refl i; pl = upd_self (view w).pl k _ refl i; place = upd (view w).place k p; own = upd_self (view w).own k _ refl i })

pub view_stores : (w : World) (i : ℕ) (x : Word) → i < length w.words → Writable x → view (stores w i x) ≡ put (view w) i x
view_stores w i x lt ok = λ k. record {
  word = (fun_ext (stored_at reading_of w.words i (raw_of x) 0 lt) ∙ ap (λ (y : Word). upd (view w).word i y) (written_back x (raw_of x) refl ok)) k;
  num = (view w).num;
  ents = (view w).ents;
  state = (view w).state;
  pnum = (view w).pnum;
  pl = (view w).pl;
  place = (view w).place;
  own = (view w).own;
}

pub view_decides : (w : World) (m : Mark) (o : Operation) (x : Outcome) → m.core < length w.table.cores → Current w m o → view (decides_on w m o x) ≡ settled (view w) m.core (Some x)
view_decides w m o x lt cur =
    view_core w m.core _ lt
    ∙ (λ i. record { word = (view w).word; num = upd_self (view w).num m.core m.number cur.1 i; ents = upd_self (view w).ents m.core (entries_of o.list) (ap (λ (y : Operation). entries_of y.list) (sym cur.2)) i; state = upd (view w).state m.core (Some x); pnum = upd_self (view w).pnum m.core _ refl i; pl = upd_self (view w).pl m.core _ refl i; place = upd_self (view w).place m.core _ refl i; own = upd_self (view w).own m.core _ refl i })

pub view_creates : (w : World) (k : ℕ) (p : Placing) → k < length w.table.cores → view (creates w k p) ≡ fresh_pl (view w) k p
view_creates w k p lt =
    view_core w k _ lt
    ∙ (λ i. record { word = (view w).word; num = upd_self (view w).num k _ refl i; ents = upd_self (view w).ents k _ refl i; state = upd_self (view w).state k _ refl i; pnum = upd (view w).pnum k ((view w).pnum k + 1); pl = upd (view w).pl k p; place = upd_self (view w).place k _ refl i; own = upd_self (view w).own k _ refl i })

-- the cores stay as many as they are
pub cores_stay : (w : World) (k : ℕ) (c : Core) → length (with_core w k c).table.cores ≡ length w.table.cores
cores_stay w k c = length-set w.table.cores k c
