use Rattle.std.proofs.Common.{◌≡◌, ℕ, zero, suc, ◌+◌, ◌<◌, ◌≤◌, List, [], ◌∷◌, ◌++◌, length, get_or, Ok, Err, refl, ap, subst, ⊎_elim, le_refl, arith}
use Rattle.std.specs.List.{AllByRecursion as All}
use Rattle.std.proofs.lemmas.Bool.{eq-eqb, cond-true, cases_lt}
use Rattle.descriptor.specs.declared.Descriptor.{Descriptor}
use Rattle.descriptor.specs.Descriptors.{reading}
use Rattle.descriptor.proofs.Laws.{laws}
use Rattle.cores.specs.declared.place.Then.{Then}
use Rattle.cores.specs.declared.place.Then.TheVariants as then
use Rattle.cores.specs.declared.place.Settling.{Settling}
use Rattle.cores.specs.declared.place.Settling.TheVariants as settling
use Rattle.cores.specs.declared.place.Place.{Place}
use Rattle.cores.specs.declared.place.Place.TheVariants.{Idle, Finished, Look, Begin, Fetch, Make, Try, Decide, Clear, Settle}
use Rattle.model.specs.World.{World, core_at}
use Rattle.model.specs.Histories.{History, after_calls, world_at}
use Rattle.model.specs.Marks.{Marked, placing, operation, mark_of, as_word, marks_in_then, marks_in_settling, marks_in, Found, in_word, in_place, own_operation, in_descriptor, last_of, Creates, SameDescriptor, placings, operations, OvertakenAt, AnswersOvertaken, AltersNothing}
use Rattle.model.specs.Promises.{MarksTellCreationsApart, OvertakenIsToldExactly}
use Rattle.model.proofs.Ranges.{Bounds, bounds, KnownOperation, KnownPlacing, WordFits, ThenFits, SettlingFits, PlaceFits, Ranged}
use Rattle.model.proofs.Go.{mark_eq}
use Rattle.model.proofs.Rising.{Reaches, rises_mono, reached, reached_once}
use Rattle.model.proofs.InRange.{ranged}
use Rattle.model.proofs.Creations.{same_last, one_rise, takes_next, lasts_rise, lasts_begin}

-- The first two promises: marks tell creations apart, and "overtaken" is told exactly.

-- Every mark found has been made.

abbrev Known : Bounds → Marked → Type 0
Known b (placing m) = KnownPlacing b m
Known b (operation m) = KnownOperation b m

all_at : {X : Type 0} (P : X → Type 0) (xs : List X) (j : ℕ) (d : X) → All P xs → j < length xs → P (get_or xs j d)
all_at P [] j d h l = absurd (omega arith)
all_at P (x ∷ xs) zero d h l = h.0
all_at P (x ∷ xs) (suc j) d h l = all_at P xs j d h.1 (omega arith)

module _ (b : Bounds) where
  then_known : (k : Then) → ThenFits b k → All (Known b) (marks_in_then k)
  then_known (then.Look i) h = tt
  then_known (then.Next t) h = (h, tt)
  then_known (then.Try t e m) h = (h.0, (h.2, tt))
  then_known (then.Clear t o e) h = (h.0, tt)

  settling_known : (c : Settling) (ms : List Marked) → SettlingFits b c → All (Known b) ms → All (Known b) (marks_in_settling c ++ ms)
  settling_known settling.Read ms h g = g
  settling_known (settling.State p) ms h g = (h.0, g)
  settling_known (settling.Swap p u) ms h g = (h.0, g)

  place_known : (p : Place) → PlaceFits b p → All (Known b) (marks_in p)
  place_known Idle h = tt
  place_known (Finished v) h = tt
  place_known (Look i) h = tt
  place_known (Begin m) h = (h, tt)
  place_known (Fetch t) h = (h, tt)
  place_known (Make t e) h = (h.0, tt)
  place_known (Try t e m) h = (h.0, (h.2, tt))
  place_known (Decide t o) h = (h, tt)
  place_known (Clear t o c) h = (h.0, tt)
  place_known (Settle m c k) h = (h.0, settling_known c _ h.1 (then_known k h.2))

  word_known : (m : Marked) → WordFits b (as_word m) → Known b m
  word_known (placing m) h = h
  word_known (operation m) h = h

known : (first : ℕ) (w : World) (m : Marked) → Ranged first w → Found w m → Known (bounds first w) m
known first w m r (in_word i l e) = word_known (bounds first w) m (subst (WordFits (bounds first w)) e (r.words i l))
known first w m r (in_place k j k8 l e) =
    subst (Known (bounds first w)) e (all_at (Known (bounds first w)) (marks_in (core_at w k).place) j m (place_known (bounds first w) (core_at w k).place (r.cores k k8).place) l)
known first w m r (own_operation k k8 ne) = (k8, (r.cores k k8).started ne, le_refl _)
known first w m r (in_descriptor k k8 made) =
    ⊎_elim (λ (l : (core_at w k).placing.last < first). absurd (omega (arith, (r.cores k k8).no_contents l, made.1))) (λ (ge : first ≤ (core_at w k).placing.last). ((r.cores k k8).contents ge).0)
    (cases_lt (core_at w k).placing.last first)

known_parts : (first : ℕ) (w : World) (m : Marked) → Known (bounds first w) m → ((mark_of m).core < 8) × (first ≤ (mark_of m).number) × ((mark_of m).number ≤ last_of w m)
known_parts first w (placing m) h = h
known_parts first w (operation m) h = h

pub found_known : (h : History) (t : ℕ) (m : Marked) → Found (world_at h t) m
    → ((mark_of m).core < 8) × (h.setting.first ≤ (mark_of m).number) × ((mark_of m).number ≤ last_of (world_at h t) m)
found_known h t m f = known_parts h.setting.first (world_at h t) m (known h.setting.first (world_at h t) m (ranged h t) f)

module _ (h : History) where
  -- the last number of m's kind on its core, moment by moment
  abbrev lasts : Marked → ℕ → ℕ
  lasts m t = last_of (world_at h t) m

  opened_below : (m : Marked) → (mark_of m).core < 8 → h.setting.first ≤ (mark_of m).number → lasts m 0 < (mark_of m).number
  unfolding after_calls
  opened_below m c l = let b = lasts_begin h m c in omega arith

  -- a number from the first on that is taken by moment t was taken by one call before it
  taken_before : (t : ℕ) (m : Marked) → t ≤ length h.calls → (mark_of m).core < 8 → h.setting.first ≤ (mark_of m).number → (mark_of m).number ≤ lasts m t → (c : ℕ) × (c < t) × Creates h c m
  taken_before t m le c l u =
      let z = reached (lasts m) (lasts_rise h m) t (mark_of m).number (opened_below m c l) u in
      (z.0, z.1, record { there = omega (arith, z.1); next = z.2.0; taken = z.2.1 })

  found_made : (t : ℕ) (m : Marked) → t ≤ length h.calls → Found (world_at h t) m → (c : ℕ) × (c < t) × Creates h c m
  found_made t m le f = let k = found_known h t m f in taken_before t m le k.0 k.1 k.2

  reaches : (c : ℕ) (m : Marked) → Creates h c m → Reaches (lasts m) c (mark_of m).number
  reaches c m z = (z.next, z.taken)

  -- marks of one descriptor with one number are one
  same_marked : (m n : Marked) → SameDescriptor m n → (mark_of m).number ≡ (mark_of n).number → m ≡ n
  same_marked m n (placings {m = a} {n = b} e) q = ap placing (mark_eq a b e q)
  same_marked m n (operations {m = a} {n = b} e) q = ap operation (mark_eq a b e q)

  one_creation : (c : ℕ) (m n : Marked) → Creates h c m → Creates h c n → m ≡ n
  one_creation c m n x y =
      let s = one_rise (world_at h c) (world_at h (c + 1)) (takes_next h c) m n (omega (arith, x.next, x.taken)) (omega (arith, y.next, y.taken)) in
      same_marked m n s (omega (arith, x.next, y.next, same_last s (world_at h c)))

pub marks_tell_creations_apart : (h : History) → MarksTellCreationsApart h
marks_tell_creations_apart h = record {
  made_before = found_made h;
  made_once = λ m c d x y. reached_once (lasts h m) (lasts_rise h m) c d (mark_of m).number (reaches h c m x) (reaches h d m y);
  equal_when_one = λ s t m n ls lt f g. ((λ e. let z = found_made h s m ls f in (z.0, z.2, subst (Creates h z.0) e z.2)), λ c. one_creation h c m n);
}

-- A mark's number against the last one of its descriptor.

-- through a number that is not the last one, all is answered "overtaken" and nothing is altered
older_told : (w : World) (m : Marked) → ((mark_of m).number ≡ last_of w m → ⊥) → AnswersOvertaken w m × AltersNothing w m
older_told w (placing m) ne =
    let d = (core_at w m.core).placing in
    let s = laws.stale d (λ x. x) m.number ne in ((s.0, s.1), λ f. (laws.stale d f m.number ne).2)
older_told w (operation m) ne =
    let d = (core_at w m.core).operation in
    let s = laws.stale d (λ x. x) m.number ne in ((s.0, s.1), λ f. (laws.stale d f m.number ne).2)

-- through the last one nothing is
newest_read : {X : Type 0} (d : Descriptor X) (n : ℕ) → n ≡ d.last → reading d n ≡ Err (record {}) → ⊥
newest_read d n e r = let q : reading d n ≡ Ok d.contents = cond-true _ _ _ (eq-eqb n d.last e) in let z : ◌≡◌ {A = ℕ} 0 1 = cc in omega arith

told_older : (w : World) (m : Marked) → AnswersOvertaken w m → (mark_of m).number ≡ last_of w m → ⊥
told_older w (placing m) a e = newest_read (core_at w m.core).placing m.number e a.0
told_older w (operation m) a e = newest_read (core_at w m.core).operation m.number e a.0

-- the mark that the next creation of m's kind on its core makes
abbrev mark_after : Marked → Marked
mark_after (placing m) = placing (record { core = m.core; number = m.number + 1 })
mark_after (operation m) = operation (record { core = m.core; number = m.number + 1 })

after_same : (m : Marked) → SameDescriptor m (mark_after m)
after_same (placing m) = placings refl
after_same (operation m) = operations refl

after_parts : (m : Marked) → ((mark_of (mark_after m)).core ≡ (mark_of m).core) × ((mark_of (mark_after m)).number ≡ (mark_of m).number + 1)
after_parts (placing m) = (refl, refl)
after_parts (operation m) = (refl, refl)

module _ (h : History) where
  rise : (m : Marked) (s t : ℕ) → s ≤ t → last_of (world_at h s) m ≤ last_of (world_at h t) m
  rise m s t l = rises_mono (lasts h m) (lasts_rise h m) s t l

  -- an overtaken mark's number is below the last one, and one found below it is overtaken
  overtaken_below : (t : ℕ) (m : Marked) → OvertakenAt h t m → (mark_of m).number < last_of (world_at h t) m
  overtaken_below t m o =
      let up = rise m (o.made_at + 1) o.overtaken_at (omega (arith, o.in_order.0)) in
      let on = rise m (o.overtaken_at + 1) t (omega (arith, o.in_order.1)) in
      omega (arith, o.made.taken, o.overtook.next, o.overtook.taken, same_last o.same_descriptor (world_at h o.overtaken_at), same_last o.same_descriptor (world_at h (o.overtaken_at + 1)))

  below_overtaken : (t : ℕ) (m : Marked) → t ≤ length h.calls → (mark_of m).core < 8 → h.setting.first ≤ (mark_of m).number → (mark_of m).number < last_of (world_at h t) m → OvertakenAt h t m
  below_overtaken t m le c l u =
      let n = mark_after m in
      let p = after_parts m in
      let s = same_last (after_same m) (world_at h t) in
      let a = taken_before h t m le c l (omega arith) in
      let b = taken_before h t n le (omega (arith, p.0)) (omega (arith, p.1)) (omega (arith, p.1)) in
      record {
        made_at = a.0;
        made = a.2;
        overtaker = n;
        same_descriptor = after_same m;
        overtaken_at = b.0;
        overtook = b.2;
        in_order = (later a.0 b.0 a.2 b.2, b.1);
      }
    where
      -- the later number was taken later
      later : (x y : ℕ) → Creates h x m → Creates h y (mark_after m) → x < y
      later x y a b =
          ⊎_elim (λ k. k)
          (λ (ge : y ≤ x). absurd (omega (arith, rise m y x ge, a.next, b.next, (after_parts m).1, same_last (after_same m) (world_at h y)))) (cases_lt x y)

  found_reaches : (s t : ℕ) (m : Marked) → s ≤ t → Found (world_at h s) m → (mark_of m).number ≤ last_of (world_at h t) m
  found_reaches s t m l f = let k = found_known h s m f in omega (arith, k.2, rise m s t l)

  told_below : (s t : ℕ) (m : Marked) → s ≤ t → Found (world_at h s) m → AnswersOvertaken (world_at h t) m → (mark_of m).number < last_of (world_at h t) m
  told_below s t m l f a =
      let u = found_reaches s t m l f in
      ⊎_elim (λ k. k) (λ (ge : last_of (world_at h t) m ≤ (mark_of m).number). absurd (told_older (world_at h t) m a (omega arith))) (cases_lt (mark_of m).number (last_of (world_at h t) m))

  below_told : (t : ℕ) (m : Marked) → (mark_of m).number < last_of (world_at h t) m → AnswersOvertaken (world_at h t) m × AltersNothing (world_at h t) m
  below_told t m l = older_told (world_at h t) m (λ e. omega arith)

pub overtaken_is_told_exactly : (h : History) → OvertakenIsToldExactly h
overtaken_is_told_exactly h = record {
  told_when = λ s t m l le f. ((λ a. let k = found_known h s m f in below_overtaken h t m le k.0 k.1 (told_below h s t m l f a)), λ o. (below_told h t m (overtaken_below h t m o)).0);
  alters_nothing = λ s t m l le f o. (below_told h t m (overtaken_below h t m o)).1;
  stays_overtaken = λ s t u m l k le f a. (below_told h u m (let b = told_below h s t m l f a in omega (arith, rise h m t u k))).0;
}
