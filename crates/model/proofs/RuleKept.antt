use Rattle.std.proofs.Common.{◌≡◌, ℕ, ◌<◌, Bool, true, false, cond, ltb, length, Some, None, Option, sym, refl, ap, ◌∙◌, subst, arith}
use Rattle.word.specs.declared.Mark.{Mark}
use Rattle.word.specs.declared.Word.{Word}
use Rattle.word.specs.declared.Word.TheVariants as word
use Rattle.word.specs.Word.{Writable, Made}
use Rattle.entries.specs.declared.Entry.{Entry}
use Rattle.entries.specs.declared.list.Entries.{Entries}
use Rattle.entries.specs.Lists.{entry_at}
use Rattle.entries.specs.Listed.{listed}
use Rattle.descriptor.specs.declared.contents.Operation.{Operation}
use Rattle.descriptor.specs.declared.contents.Outcome.{Outcome}
use Rattle.descriptor.specs.declared.contents.Outcome.TheVariants as outcome
use Rattle.descriptor.specs.declared.contents.Placing.{Placing}
use Rattle.descriptor.specs.Contents.{count_of, entry_in, entries_of}
use Rattle.cores.specs.declared.place.Work.{Work}
use Rattle.cores.specs.declared.place.Place.{Place}
use Rattle.cores.specs.declared.place.Place.TheVariants.{Make, Try, Clear, Settle}
use Rattle.cores.specs.declared.place.Clearing.TheVariants as clearing
use Rattle.cores.specs.declared.place.Settling.TheVariants as settling
use Rattle.cores.specs.declared.table.Core.{Core}
use Rattle.model.specs.World.{World, core_at, with_core}
use Rattle.cores.specs.Cores.{with_operation, with_placing, is_idle}
use Rattle.model.specs.Rules.{first_entry}
use Rattle.model.specs.Step.{cleared_to, settled_to}
use Rattle.model.specs.Relation as rel
use Rattle.model.specs.Relation.{Rule, look_plain, look_placing, look_operation, begin_undecided, begin_decided, begin_overtaken, fetch, fetch_overtaken, make, try_placed, try_meets_placing, try_meets_own, try_meets_operation, try_differs, decide_first, decide_later, decide_overtaken, clear_read, clear_overtaken, clear_meets_placing, clear_load, clear_takes_out, clear_misses, settle_read, settle_overtaken, settle_undecided, settle_decided, settle_past, settle_replaces, settle_misses, goes, stores, decides_on, creates}
use Rattle.model.proofs.Memory.{Memory, view, entry, move, put, settled, fresh_pl}
use Rattle.model.proofs.Facts.{Current, Undecided, places, Inv}
use Rattle.model.proofs.Ranges.{Bounds, bounds, KnownOperation, KnownPlacing, EntryFits, PlacingFits, Ranged}
use Rattle.model.proofs.Views.{view_goes, view_stores, view_decides, view_creates, cores_stay}
use Rattle.model.proofs.Go.{go_home}
use Rattle.model.proofs.Events.{Ordinary, Stepped, stepped_move, stepped_home, stepped_next, stepped_resume, stepped_made, stepped_placed, stepped_settled, stepped_look, stepped_differs, stepped_decides, stepped_clear_misses, stepped_clear_takes_out}
use Rattle.model.proofs.RulesTry.{keeps_look_plain, keeps_look_placing, keeps_look_operation, keeps_begin_undecided, keeps_begin_decided, keeps_fetch, keeps_make, keeps_try_placed, keeps_try_placing, keeps_try_own, keeps_try_operation, keeps_try_differs, keeps_decide_first, keeps_decide_later}
use Rattle.model.proofs.RulesSettle.{keeps_settle_read, keeps_settle_overtaken, keeps_settle_undecided, keeps_settle_decided, keeps_settle_misses, keeps_settle_replaces}
use Rattle.model.proofs.RulesClear.{keeps_clear_read, keeps_clear_load, keeps_clear_placing, keeps_clear_misses, keeps_clear_takes_out}

-- A granted step keeps the invariants, rule by rule, and tells an order what it has to know.

-- The entries of an operation, counted and by their index.
pub count_entries : (l : Option Entries) → count_of l ≡ length (entries_of l)
count_entries (Some l) = refl
count_entries None = refl

pub entry_there : (l : Option Entries) (i : ℕ) (e : Entry) → entry_in l i ≡ Some e → entry_at (entries_of l) i ≡ e
entry_there (Some l) i e h = by (ltb i (length (listed l))) h
  where
    by : (b : Bool) → cond b (Some (entry_at (listed l) i)) None ≡ Some e → entry_at (listed l) i ≡ e
    by true h = cc
    by false h = let z : ◌≡◌ {A = ℕ} 0 1 = cc in absurd (omega arith)
entry_there None i e h = let z : ◌≡◌ {A = ℕ} 0 1 = cc in absurd (omega arith)

-- Marks that some creation made can be written, and so can what clearing and settling put back.
pub known_made : (first : ℕ) (w : World) → Ranged first w → (m : Mark) → KnownOperation (bounds first w) m → Made m
known_made first w r m k =
    let c = (r.cores m.core k.0).to_last.0 in let f = r.first_number in (k.0, omega (arith, k.1), omega (arith, k.2))

pub known_placing_made : (first : ℕ) (w : World) → Ranged first w → (m : Mark) → KnownPlacing (bounds first w) m → Made m
known_placing_made first w r m k =
    let c = (r.cores m.core k.0).to_last.1 in let f = r.first_number in (k.0, omega (arith, k.1), omega (arith, k.2))

cleared_writable : (b : Bounds) (o : Outcome) (e : Entry) → EntryFits b e → Writable (cleared_to o e)
cleared_writable b outcome.Succeeded e h = h.2
cleared_writable b (outcome.Failed i) e h = h.1

settled_writable : (first : ℕ) (w : World) → Ranged first w → (u : Bool) (p : Placing) → PlacingFits (bounds first w) p → Writable (settled_to u p)
settled_writable first w r true p h = known_made first w r p.operation h.0
settled_writable first w r false p h = h.2

-- what Make puts into the placing descriptor
abbrev contents_for : Work → Entry → Placing
contents_for t e = record { operation = t.operation; word = e.word; expected = e.expected }

module _ (first : ℕ) (w : World) (k : ℕ) (inv : Inv (view w)) (r : Ranged first w) (lt : k < 8) where
  room : k < length w.table.cores
  room = let e = r.eight in omega arith

  room_in : (j : ℕ) (c : Core) → k < length (with_core w j c).table.cores
  room_in j c = let e = cores_stay w j c in let x = room in omega arith

  -- the invariants hold after, and it is a step that an order knows how to read
  abbrev pub Kept : World → Type 0
  Kept w' = Inv (view w') × Stepped (view w) (view w') k

  kept : (w' : World) (m : Memory) → view w' ≡ m → Inv m → Stepped (view w) m k → Kept w'
  kept w' m e h s = (subst Inv (sym e) h, subst (λ x. Stepped (view w) x k) (sym e) s)

  -- the core only goes to another place
  moved : (p : Place) → Inv (move (view w) k p) → Stepped (view w) (move (view w) k p) k → Kept (goes w k p)
  moved p h s = kept (goes w k p) (move (view w) k p) (view_goes w k p room) h s

  plainly : (p : Place) → Inv (move (view w) k p) → Ordinary p → Kept (goes w k p)
  plainly p h o = moved p h (stepped_move (view w) k p o)

  -- a word changes, and the core goes to another place
  stored : (i : ℕ) (x : Word) (p : Place) → i < length w.words → Writable x → Inv (move (put (view w) i x) k p) → Stepped (view w) (move (put (view w) i x) k p) k → Kept (goes (stores w i x) k p)
  stored i x p l ok h s =
      kept (goes (stores w i x) k p) (move (put (view w) i x) k p) (view_goes (stores w i x) k p room ∙ ap (λ (m : Memory). move m k p) (view_stores w i x l ok)) h s

  current : (m : Mark) (o : Operation) → rel.Current w m o → Current (view w) m
  current m o c = sym c.1

  of_contents : {X : Type 0} (f : Operation → X) (m : Mark) (o : Operation) → rel.Current w m o → f (core_at w m.core).operation.contents ≡ f o
  of_contents f m o c = ap f c.2

  counted : (m : Mark) (o : Operation) → rel.Current w m o → count_of o.list ≡ length ((view w).ents m.core)
  counted m o c = count_entries o.list ∙ ap (λ (x : Operation). length (entries_of x.list)) (sym c.2)

  fetched : (m : Mark) (o : Operation) (i : ℕ) (e : Entry) → rel.Current w m o → rel.HasEntry o i e → entry (view w) m i ≡ e
  fetched m o i e c h = ap (λ (x : Operation). entry_at (entries_of x.list) i) c.2 ∙ entry_there o.list i e h

  homeward : (p : Place) → (core_at w k).place ≡ p → is_idle p ≡ false → places p ≡ false → Kept (rel.goes_home w k)
  homeward p a b u = moved _ (go_home (view w) k inv (rw a b) (rw a u)) (stepped_home (view w) k)

  pub rule_kept : (w' : World) → Rule w k w' → Kept w'
  rule_kept _ (look_plain {i = i} {v = v} a s) = moved _ (keeps_look_plain (view w) k i v inv a) (stepped_look (view w) k i v a s.1)
  rule_kept _ (look_placing {i = i} {m = m} a s) = plainly _ (keeps_look_placing (view w) k i m inv a s.1) (refl, refl)
  rule_kept _ (look_operation {i = i} {m = m} a s) = plainly _ (keeps_look_operation (view w) k i m inv a s.1) (refl, refl)
  rule_kept _ (begin_undecided {m = m} {o = o} a c u) = plainly _ (rw (counted m o c) (keeps_begin_undecided (view w) k m inv a (current m o c))) (refl, refl)
  rule_kept _ (begin_decided {m = m} {o = o} x a c u) =
      plainly _ (rw (counted m o c) (keeps_begin_decided (view w) k m x inv a (current m o c) (of_contents (λ y. y.state) m o c ∙ u))) (refl, refl)
  rule_kept _ (begin_overtaken a c) = homeward _ a refl refl
  rule_kept _ (fetch {t = t} {o = o} {e = e} a c h) =
      plainly _ (subst (λ (x : Entry). Inv (move (view w) k (Make t x))) (fetched t.operation o t.index e c h) (keeps_fetch (view w) k t inv a)) (refl, refl)
  rule_kept _ (fetch_overtaken a c) = homeward _ a refl refl
  rule_kept _ (make {t = t} {e = e} a) =
      let m : Mark = record { core = k; number = rel.next_placing w k } in
      let d = contents_for t e in
      kept (goes (creates w k d) k (Try t e m)) (move (fresh_pl (view w) k d) k (Try t e m))
      (view_goes (creates w k d) k (Try t e m) (room_in k (with_placing (core_at w k) (record { last = rel.next_placing w k; contents = d }))) ∙ ap (λ (x : Memory). move x k (Try t e m)) (view_creates w k d room))
      (keeps_make (view w) k t e inv a) (stepped_made (view w) k t e d m inv a)
  rule_kept _ (try_placed {t = t} {e = e} {m = m} a s) =
      stored e.word (word.Placing m) _ s.0 (known_placing_made first w r m (rw a at (r.cores k lt).place).2) (keeps_try_placed (view w) k t e m inv a s.1) (stepped_placed (view w) k t e m inv a s.1)
  rule_kept _ (try_meets_placing {t = t} {e = e} {m = m} {n = n} a s) = plainly _ (keeps_try_placing (view w) k t e m n inv a s.1) (refl, refl)
  rule_kept _ (try_meets_own {t = t} {e = e} {m = m} a s) = moved _ (keeps_try_own (view w) k t e m inv a s.1) (stepped_next (view w) k t)
  rule_kept _ (try_meets_operation {t = t} {e = e} {m = m} {u = u} a s d) = plainly _ (keeps_try_operation (view w) k t e m u inv a s.1) (refl, refl)
  rule_kept _ (try_differs {t = t} {e = e} {m = m} {v = v} a s d) = moved _ (keeps_try_differs (view w) k t e m inv a) (stepped_differs (view w) k t e m v inv a s.1 d)
  rule_kept _ (decide_first {t = t} {o = o} {x = x} a c u) =
      let T = t.operation in
      let p : Place = Clear (first_entry T t.count) x clearing.Read in
      let und : Undecided (view w) T = of_contents (λ y. y.state) T o c ∙ u in
      kept (goes (decides_on w T o x) k p) (move (settled (view w) T.core (Some x)) k p)
      (view_goes (decides_on w T o x) k p (room_in T.core (with_operation (core_at w T.core) (record { last = T.number; contents = record { list = o.list; state = Some x } })))
      ∙ ap (λ (y : Memory). move y k p) (view_decides w T o x (omega (arith, c.0, r.eight)) c))
      (keeps_decide_first (view w) k t x inv a (current T o c) und) (stepped_decides (view w) k t x a (current T o c) und)
  rule_kept _ (decide_later {t = t} {o = o} {x = x} y a c u) =
      plainly _ (keeps_decide_later (view w) k t x y inv a (current t.operation o c) (of_contents (λ z. z.state) t.operation o c ∙ u)) (refl, refl)
  rule_kept _ (decide_overtaken {x = x} a c) = homeward _ a refl refl
  rule_kept _ (clear_read {t = t} {x = x} {o = o} {e = e} a c h) =
      plainly _ (subst (λ (y : Entry). Inv (move (view w) k (Clear t x (clearing.Load y)))) (fetched t.operation o t.index e c h) (keeps_clear_read (view w) k t x inv a)) (refl, refl)
  rule_kept _ (clear_overtaken a c) = homeward _ a refl refl
  rule_kept _ (clear_meets_placing {t = t} {x = x} {e = e} {m = m} a s) = plainly _ (keeps_clear_placing (view w) k t x e m inv a s.1) (refl, refl)
  rule_kept _ (clear_load {t = t} {x = x} {e = e} a s n) = plainly _ (keeps_clear_load (view w) k t x e inv a (λ m q. n m (sym s.1 ∙ q))) (refl, refl)
  rule_kept _ (clear_takes_out {t = t} {x = x} {e = e} a s) =
      stored e.word (cleared_to x e) _ s.0 (cleared_writable (bounds first w) x e (rw a at (r.cores k lt).place).1) (keeps_clear_takes_out (view w) k t x e inv a s.1) (stepped_clear_takes_out (view w) k t x e inv a s.1)
  rule_kept _ (clear_misses {t = t} {x = x} {e = e} a s n) = moved _ (keeps_clear_misses (view w) k t x e inv a (λ q. n (sym s.1 ∙ q))) (stepped_clear_misses (view w) k t x e inv a)
  rule_kept _ (settle_read {m = m} {j = j} {p = p} a c) =
      plainly _ (subst (λ (y : Placing). Inv (move (view w) k (Settle m (settling.State y) j))) c.2 (keeps_settle_read (view w) k m j inv a (sym c.1))) (refl, refl)
  rule_kept _ (settle_overtaken {m = m} {j = j} a c) =
      moved _ (keeps_settle_overtaken (view w) k m j inv a (λ q. c ((rw a at (r.cores k lt).place).0.0, sym q))) (stepped_resume (view w) k j)
  rule_kept _ (settle_undecided {m = m} {j = j} {p = p} {o = o} a c u) =
      plainly _ (keeps_settle_undecided (view w) k m p j inv a (current p.operation o c) (of_contents (λ y. y.state) p.operation o c ∙ u)) (refl, refl)
  rule_kept _ (settle_decided {m = m} {j = j} {p = p} {o = o} a c n) =
      plainly _ (keeps_settle_decided (view w) k m p j inv a (λ _ u. n (sym (of_contents (λ y. y.state) p.operation o c) ∙ u))) (refl, refl)
  rule_kept _ (settle_past {m = m} {j = j} {p = p} a c) =
      plainly _ (keeps_settle_decided (view w) k m p j inv a (λ q _. c ((rw a at (r.cores k lt).place).1.0.0, sym q))) (refl, refl)
  rule_kept _ (settle_replaces {m = m} {j = j} {p = p} {undecided = u} a s) =
      stored p.word (settled_to u p) _ s.0 (settled_writable first w r u p (rw a at (r.cores k lt).place).1) (keeps_settle_replaces (view w) k m p u j inv a s.1) (stepped_settled (view w) k m p u j inv a s.1)
  rule_kept _ (settle_misses {m = m} {j = j} {p = p} {undecided = u} a s n) = moved _ (keeps_settle_misses (view w) k m p u j inv a (λ q. n (sym s.1 ∙ q))) (stepped_resume (view w) k j)
