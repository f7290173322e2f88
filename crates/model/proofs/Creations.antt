use Rattle.std.proofs.Common.{◌≡◌, ℕ, ◌+◌, ◌<◌, ◌≤◌, Bool, true, false, ltb, ◌⊎◌, List, length, get_or, Some, None, Option, sym, refl, ap, ◌∙◌, subst, inl, inr, ⊎_elim, arith, get_or-set_other, get_or-set_same}
use Rattle.std.proofs.lemmas.Bool.{cond_both, cases_eq, cases_lt}
use Rattle.std.proofs.lemmas.List.{get_or-replicate, set_past}
use Rattle.entries.specs.declared.list.Entries.{Entries}
use Rattle.descriptor.specs.declared.Descriptor.{Descriptor}
use Rattle.descriptor.specs.declared.contents.Operation.{Operation}
use Rattle.descriptor.specs.declared.contents.Placing.{Placing}
use Rattle.descriptor.specs.Descriptors.{last_number}
use Rattle.cores.specs.declared.place.Own.{Own}
use Rattle.cores.specs.declared.place.Own.TheVariants as own
use Rattle.cores.specs.declared.table.Core.{Core}
use Rattle.cores.specs.declared.table.Refusal.{Refusal}
use Rattle.cores.specs.declared.table.Refusal.TheVariants.{Open}
use Rattle.model.specs.World.{World, core_at, with_core}
use Rattle.cores.specs.Cores.{new_core, with_placing, home, started}
use Rattle.model.specs.Step.{Change, nothing, swaps, decides, makes, step_change, change_world, step_world}
use Rattle.model.specs.Calls.{Call, starts, reads, steps, collects, halts, shows, raws, opens}
use Rattle.model.specs.Refusals.{refusal_of}
use Rattle.model.specs.RefusalLaw.{Holds}
use Rattle.model.specs.Perform.{perform, granted, unless_refused}
use Rattle.model.specs.Histories.{History, opening_of, world_at}
use Rattle.model.specs.Marks.{Marked, placing, operation, mark_of, last_of, SameDescriptor, placings, operations}
use Rattle.model.proofs.RefusalTable.{none_holds}
use Rattle.model.proofs.Rising.{Rises}
use Rattle.model.proofs.InRange.{moment_next, ranged}

-- A call takes at most one number, of one kind on one core.

-- Marks of one descriptor.

is_placing : Marked → Bool
is_placing (placing m) = true
is_placing (operation m) = false

pub same_last : {m n : Marked} → SameDescriptor m n → (w : World) → last_of w m ≡ last_of w n
same_last (placings e) w = ap (λ (k : ℕ). (core_at w k).placing.last) e
same_last (operations e) w = ap (λ (k : ℕ). (core_at w k).operation.last) e

same_core : {m n : Marked} → SameDescriptor m n → (mark_of m).core ≡ (mark_of n).core
same_core (placings e) = e
same_core (operations e) = e

same_kind : {m n : Marked} → SameDescriptor m n → is_placing m ≡ is_placing n
unfolding is_placing
same_kind (placings e) = refl
same_kind (operations e) = refl

same_or_other : (m n : Marked) → SameDescriptor m n ⊎ (SameDescriptor m n → ⊥)
unfolding is_placing
same_or_other (placing m) (placing n) = ⊎_elim (λ (e : m.core ≡ n.core). inl (placings e)) (λ (ne : m.core ≡ n.core → ⊥). inr (λ s. ne (same_core s))) (cases_eq m.core n.core)
same_or_other (operation m) (operation n) = ⊎_elim (λ (e : m.core ≡ n.core). inl (operations e)) (λ (ne : m.core ≡ n.core → ⊥). inr (λ s. ne (same_core s))) (cases_eq m.core n.core)
same_or_other (placing m) (operation n) = inr (λ s. let q : true ≡ false = same_kind s in grind arith)
same_or_other (operation m) (placing n) = inr (λ s. let q : false ≡ true = same_kind s in grind arith)

same_through : (m n q : Marked) → SameDescriptor m q → SameDescriptor n q → SameDescriptor m n
unfolding is_placing
same_through (placing m) (placing n) q a b = placings (same_core a ∙ sym (same_core b))
same_through (operation m) (operation n) q a b = operations (same_core a ∙ sym (same_core b))
same_through (placing m) (operation n) q a b = let e : true ≡ false = same_kind a ∙ sym (same_kind b) in grind arith
same_through (operation m) (placing n) q a b = let e : false ≡ true = same_kind a ∙ sym (same_kind b) in grind arith

-- What a move from one world to another takes: no number, or the next one of one descriptor.
abbrev SameLasts : World → World → Type 0
SameLasts w v = (m : Marked) → last_of v m ≡ last_of w m

pub data Takes (w v : World) : Type 0 where
  none : ((m : Marked) → last_of v m ≡ last_of w m) → Takes w v
  one : (n : Marked) → last_of v n ≡ last_of w n + 1 → ((m : Marked) → (SameDescriptor m n → ⊥) → last_of v m ≡ last_of w m) → Takes w v

takes_then : (w v u : World) → Takes w v → SameLasts v u → Takes w u
takes_then w v u (none s) t = none (λ m. t m ∙ s m)
takes_then w v u (one n e s) t = one n (t n ∙ e) (λ m ne. t m ∙ s m ne)

pub rise_of : (w v : World) → Takes w v → (m : Marked) → (last_of v m ≡ last_of w m) ⊎ (last_of v m ≡ last_of w m + 1)
rise_of w v (none s) m = inl (s m)
rise_of w v (one n e s) m =
    ⊎_elim (λ (q : SameDescriptor m n). inr (same_last q v ∙ e ∙ ap (λ (x : ℕ). x + 1) (sym (same_last q w)))) (λ (ne : SameDescriptor m n → ⊥). inl (s m ne)) (same_or_other m n)

-- two numbers taken at once are of one descriptor
pub one_rise : (w v : World) → Takes w v → (m n : Marked) → last_of w m < last_of v m → last_of w n < last_of v n → SameDescriptor m n
one_rise w v (none s) m n a b = absurd (omega (arith, s m))
one_rise w v (one q e s) m n a b = same_through m n q (risen m a) (risen n b)
  where
    risen : (x : Marked) → last_of w x < last_of v x → SameDescriptor x q
    risen x l = ⊎_elim (λ y. y) (λ (ne : SameDescriptor x q → ⊥). absurd (omega (arith, s x ne))) (same_or_other x q)

-- Another record for core k.
module _ (w : World) (k : ℕ) (c : Core) where
  there : k < length w.table.cores → core_at (with_core w k c) k ≡ c
  there l = get_or-set_same w.table.cores k c (new_core 0) l

  -- what holds of core j's own record, and of the new one if it is core k's, holds after
  pub put_any : (j : ℕ) (P : Core → Type 0) → (j ≡ k → P c) → P (core_at w j) → P (core_at (with_core w k c) j)
  put_any j P new old =
      ⊎_elim (λ (e : j ≡ k). ⊎_elim
      (λ (l : k < length w.table.cores). subst P (sym (ap (λ (x : ℕ). core_at (with_core w k c) x) e ∙ there l)) (new e))
      (λ (ge : length w.table.cores ≤ k). subst P (sym (ap (λ (cs : List Core). get_or cs j (new_core 0)) (set_past w.table.cores k c ge))) old)
      (cases_lt k (length w.table.cores)))
      (λ (ne : j ≡ k → ⊥). subst P (sym (get_or-set_other w.table.cores k j c (new_core 0) ne)) old) (cases_eq j k)

  operation_same : (j : ℕ) → (j ≡ k → c.operation.last ≡ (core_at w k).operation.last) → (core_at (with_core w k c) j).operation.last ≡ (core_at w j).operation.last
  operation_same j o = put_any j (λ x. x.operation.last ≡ (core_at w j).operation.last) (λ e. o e ∙ ap (λ (x : ℕ). (core_at w x).operation.last) (sym e)) refl

  placing_same : (j : ℕ) → (j ≡ k → c.placing.last ≡ (core_at w k).placing.last) → (core_at (with_core w k c) j).placing.last ≡ (core_at w j).placing.last
  placing_same j p = put_any j (λ x. x.placing.last ≡ (core_at w j).placing.last) (λ e. p e ∙ ap (λ (x : ℕ). (core_at w x).placing.last) (sym e)) refl

  same_put : c.operation.last ≡ (core_at w k).operation.last → c.placing.last ≡ (core_at w k).placing.last → SameLasts w (with_core w k c)
  same_put o p (operation m) = operation_same m.core (λ _. o)
  same_put o p (placing m) = placing_same m.core (λ _. p)

  unchanged : length w.table.cores ≤ k → SameLasts w (with_core w k c)
  unchanged ge (operation m) = ap (λ (cs : List Core). (get_or cs m.core (new_core 0)).operation.last) (set_past w.table.cores k c ge)
  unchanged ge (placing m) = ap (λ (cs : List Core). (get_or cs m.core (new_core 0)).placing.last) (set_past w.table.cores k c ge)

  operation_taken : c.operation.last ≡ (core_at w k).operation.last + 1 → c.placing.last ≡ (core_at w k).placing.last → Takes w (with_core w k c)
  operation_taken o p =
      ⊎_elim (λ (l : k < length w.table.cores). one (operation (record { core = k; number = 0 })) (ap (λ (x : Core). x.operation.last) (there l) ∙ o) others) (λ ge. none (unchanged ge))
      (cases_lt k (length w.table.cores))
    where
      others : (m : Marked) → (SameDescriptor m (operation (record { core = k; number = 0 })) → ⊥) → last_of (with_core w k c) m ≡ last_of w m
      others (operation m) ne = operation_same m.core (λ e. absurd (ne (operations e)))
      others (placing m) ne = placing_same m.core (λ _. p)

  placing_taken : c.operation.last ≡ (core_at w k).operation.last → c.placing.last ≡ (core_at w k).placing.last + 1 → Takes w (with_core w k c)
  placing_taken o p =
      ⊎_elim (λ (l : k < length w.table.cores). one (placing (record { core = k; number = 0 })) (ap (λ (x : Core). x.placing.last) (there l) ∙ p) others) (λ ge. none (unchanged ge))
      (cases_lt k (length w.table.cores))
    where
      others : (m : Marked) → (SameDescriptor m (placing (record { core = k; number = 0 })) → ⊥) → last_of (with_core w k c) m ≡ last_of w m
      others (operation m) ne = operation_same m.core (λ _. o)
      others (placing m) ne = placing_same m.core (λ e. absurd (ne (placings e)))

-- Only the creation of a placing takes a number in a step, and a start takes one for its operation.

same_self : (w : World) → SameLasts w w
same_self w m = refl

change_takes : (w : World) (k : ℕ) (x : Change) → Takes w (change_world w k x)
change_takes w k nothing = none (same_self w)
change_takes w k (swaps i old new) = none same
  where
    same : SameLasts w (change_world w k (swaps i old new))
    same (placing m) = refl
    same (operation m) = refl
change_takes w k (decides m o) = cond_both (ltb m.core 8) _ _ (Takes w) (λ _. none (same_put w m.core _ refl refl)) (λ _. none (same_self w))
change_takes w k (makes p) =
    cond_both (ltb (core_at w k).placing.last last_number) _ _ (λ (d : Descriptor Placing). Takes w (with_core w k (with_placing (core_at w k) d)))
    (λ _. placing_taken w k _ refl refl) (λ _. none (same_put w k _ refl refl))

start_takes : (w : World) (k : ℕ) (mine : Own) (l : Option Entries) → Takes w (with_core w k (started (core_at w k) mine l))
start_takes w k mine l =
    cond_both (ltb (core_at w k).operation.last last_number) _ _
    (λ (d : Descriptor Operation). Takes w (with_core w k (record { place = home mine; own = mine; halted = (core_at w k).halted; operation = d; placing = (core_at w k).placing })))
    (λ _. operation_taken w k _ refl refl) (λ _. none (same_put w k _ refl refl))

granted_takes : (w : World) (c : Call) → w.table.running ≡ true → ((q : Refusal) → Holds w c q → ⊥) → Takes w (granted w c).world
granted_takes w (starts k l) on free = start_takes w k (own.List (record { core = k; number = (core_at w k).operation.last + 1 })) (Some l)
granted_takes w (reads k i) on free = start_takes w k (own.Read i) None
granted_takes w (steps k) on free =
    let v : World = change_world w k (step_change (core_at w k).place) in
    takes_then w v (step_world w k) (change_takes w k (step_change (core_at w k).place)) (same_put v k _ refl refl)
granted_takes w (collects k) on free = none (same_put w k _ refl refl)
granted_takes w (halts k) on free = none (same_put w k _ refl refl)
granted_takes w (shows i) on free = none (same_self w)
granted_takes w (raws i) on free = none (same_self w)
granted_takes w (opens s) on free = absurd (free Open (on, (s, refl)))

call_takes : (w : World) (c : Call) → w.table.running ≡ true → Takes w (perform w c).world
unfolding perform
call_takes w c on = by (refusal_of w c) refl
  where
    by : (o : Option Refusal) → refusal_of w c ≡ o → Takes w (unless_refused o w c).world
    by (Some q) e = none (same_self w)
    by None e = granted_takes w c on (none_holds w c e)

-- The last numbers in a history: from the one before the first, up by one or not at all with each call.

pub takes_next : (h : History) (t : ℕ) → Takes (world_at h t) (world_at h (t + 1))
takes_next h t = moment_next h t Takes (λ w. none (same_self w)) (λ c. call_takes (world_at h t) c (ranged h t).running)

pub lasts_rise : (h : History) (m : Marked) → Rises (λ t. last_of (world_at h t) m)
lasts_rise h m t = rise_of (world_at h t) (world_at h (t + 1)) (takes_next h t) m

pub lasts_begin : (h : History) (m : Marked) → (mark_of m).core < 8 → last_of (opening_of h) m + 1 ≡ h.setting.first
lasts_begin h (placing m) l = rw (get_or-replicate 8 m.core (new_core h.setting.first) (new_core 0) l) (omega (arith, (ranged h 0).first_number.0))
lasts_begin h (operation m) l = rw (get_or-replicate 8 m.core (new_core h.setting.first) (new_core 0) l) (omega (arith, (ranged h 0).first_number.0))
