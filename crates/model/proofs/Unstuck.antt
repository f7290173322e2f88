use Rattle.std.proofs.Common.{◌≡◌, ℕ, ◌<◌, length, Some, None, Option, sym, ap, ◌∙◌, subst, ⊎_elim, arith}
use Rattle.std.proofs.lemmas.Bool.{lt-ltb, cond-true}
use Rattle.entries.specs.declared.list.Entries.{Entries}
use Rattle.entries.specs.Lists.{entry_at}
use Rattle.entries.specs.Listed.{listed}
use Rattle.descriptor.specs.declared.contents.Operation.{Operation}
use Rattle.descriptor.specs.Contents.{entry_in, entries_of}
use Rattle.cores.specs.declared.place.Work.{Work}
use Rattle.cores.specs.declared.place.Place.{Place}
use Rattle.model.specs.World.{World, core_at}
use Rattle.model.specs.Relation.{InRange, Absent, Unread, NoEntry, Stuck, look_unread, try_unread, fetch_no_entry, clear_no_entry, clear_load_absent, clear_swap_absent, settle_absent}
use Rattle.model.proofs.Memory.{view}
use Rattle.model.proofs.Facts.{Counted, PlaceOk, Inv}
use Rattle.model.proofs.Ranges.{bounds, WordFits, PlaceFits, Ranged}
use Rattle.model.proofs.RuleKept.{known_made, known_placing_made}

-- In a world in range, with the invariants, every core's place is in range and no core is stuck.

-- what core k's place holds, whatever place that is
place_fits : (first : ℕ) (w : World) (k : ℕ) → Ranged first w → k < 8 → {p : Place} → (core_at w k).place ≡ p → PlaceFits (bounds first w) p
place_fits first w k r lt a = subst (PlaceFits (bounds first w)) a (r.cores k lt).place

pub place_in_range : (first : ℕ) (w : World) (k : ℕ) → Ranged first w → k < 8 → InRange (core_at w k).place
place_in_range first w k r lt = record {
  tried = λ t e m a. (place_fits first w k r lt a).1.1;
  cleared = λ t x e a. known_made first w r t.operation (place_fits first w k r lt a).0;
  settled = λ m q u j a. known_placing_made first w r m (place_fits first w k r lt a).0;
}

-- an entry inside the list is there
entry_inside : (l : Option Entries) (i : ℕ) → i < length (entries_of l) → entry_in l i ≡ Some (entry_at (entries_of l) i)
entry_inside (Some l) i h = cond-true _ _ _ (lt-ltb i (length (listed l)) h)
entry_inside None i h = absurd (omega arith)

module _ (first : ℕ) (w : World) (k : ℕ) (r : Ranged first w) (inv : Inv (view w)) (lt : k < 8) where
  fits : {p : Place} → (core_at w k).place ≡ p → PlaceFits (bounds first w) p
  fits a = place_fits first w k r lt a

  stands : {p : Place} → (core_at w k).place ≡ p → PlaceOk (view w) k p
  stands a = subst (PlaceOk (view w) k) a (inv.places_ok k)

  -- a word of the bank is there, and is not foreign
  read : (i : ℕ) → i < length w.words → Unread w i → ⊥
  read i l u =
      ⊎_elim (λ (g : Absent w i). omega arith) (λ h. subst (WordFits (bounds first w)) h.1.1 (r.words i l)) u

  -- work inside its operation's list has its entry
  entered : (t : Work) → Counted (view w) t.operation t.count → t.index < t.count → NoEntry w t → ⊥
  entered t counted inside (o, c, gone) =
      let same = ap (λ (x : Operation). length (entries_of x.list)) (sym c.2) ∙ counted (sym c.1) in
      let found = sym gone ∙ entry_inside o.list t.index (omega (arith, same)) in
      let z : ◌≡◌ {A = ℕ} 0 1 = cc in
      omega arith

  free : Stuck w k → ⊥
  free (look_unread {i = i} a u) = read i (fits a) u
  free (try_unread {e = e} a u) = read e.word (fits a).1.0 u
  free (fetch_no_entry {t = t} a n) = entered t (stands a).counted (stands a).inside n
  free (clear_no_entry {t = t} a n) = entered t (stands a).0.counted (stands a).0.inside n
  free (clear_load_absent a g) = omega (arith, (fits a).1.0)
  free (clear_swap_absent a g) = omega (arith, (fits a).1.0)
  free (settle_absent a g) = omega (arith, (fits a).1.1)

pub not_stuck : (first : ℕ) (w : World) (k : ℕ) → Ranged first w → Inv (view w) → k < 8 → Stuck w k → ⊥
not_stuck first w k r inv lt s = free first w k r inv lt s
