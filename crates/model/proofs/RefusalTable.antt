use Rattle.std.proofs.Common.{◌≡◌, ℕ, ◌<◌, Bool, true, false, cond, not, ◌&&◌, ◌||◌, ltb, leb, ◌⊎◌, List, [], ◌∷◌, length, is_some, Some, None, Ok, Err, Decides, Option, sym, refl, ap, ◌∙◌, subst, inl, inr, ⊎_elim, arith, lit<}
use Rattle.std.specs.List.{AllByRecursion as All}
use Rattle.std.proofs.lemmas.Bool.Decides.{nat_tests, Decides-and, Decides-or, Decides-not, Decides-ltb, Decides-eqb}
use Rattle.descriptor.specs.Descriptors.{last_number}
use Rattle.std.proofs.lemmas.Bool.{and_parts, and_from, cond-true, cond-false}
use Rattle.cores.specs.declared.table.Refusal.{Refusal}
use Rattle.cores.specs.declared.table.Refusal.TheVariants.{Closed, Open, Setting as BadSetting, Tagged, NoCore, Halted, Busy, AtRest, List as BadList, NoWord, NoRight, UsedUp, NoAnswer, File}
use Rattle.model.specs.World.{World, core_at}
use Rattle.model.specs.Calls.{Call, starts, reads, steps, collects, halts, shows, raws, opens, core_of, words_of, started_core, stepped_core, collected_core, setting_of}
use Rattle.model.specs.Refusals.{Row, table_for, first_match, refusal_of, first_tagged, tagged_at, some_of, if_there, setting_fits, has_right}
use Rattle.cores.specs.Cores.{is_idle, is_finished, is_making}
use Rattle.cores.specs.Refusals.{number_of}
use Rattle.model.specs.Perform.{perform, granted, unless_refused}
use Rattle.model.specs.RefusalLaw.{Holds, First, Opening, RefusalLaw}
use Rattle.model.proofs.RefusalTests.{decides_leb, decides_itself, decides_false, decides_some, decides_none, decides_there, decides_some_word, decides_idle, decides_finished, decides_making, decides_fits, first_tagged_is, is_first_tagged}

-- The rows of any table: with numbers that rise, the first row whose test passes is that of the smallest number.

-- the table has a row with this refusal, and its test passes
abbrev Passes : Refusal → List Row → Type 0
Passes q [] = ⊥
Passes q (r ∷ rs) = ((r.test ≡ true) × (r.refusal ≡ q)) ⊎ Passes q rs

-- the refusals' numbers rise, from above n
abbrev Rising : ℕ → List Row → Type 0
Rising n [] = Unit {0}
Rising n (r ∷ rs) = (n < number_of r.refusal) × Rising (number_of r.refusal) rs

match_passes : (rs : List Row) (q : Refusal) → first_match rs ≡ Some q → Passes q rs
unfolding first_match
match_passes [] q e = grind arith
match_passes (r ∷ rs) q e = step r.test refl e (match_passes rs q)
  where
    step : (b : Bool) → r.test ≡ b → cond b (Some r.refusal) (first_match rs) ≡ Some q → (first_match rs ≡ Some q → Passes q rs) → Passes q (r ∷ rs)
    step true t e on = inl (t, cc)
    step false t e on = inr (on e)

no_match : (rs : List Row) (q : Refusal) → first_match rs ≡ None → Passes q rs → ⊥
unfolding first_match
no_match [] q e p = p
no_match (r ∷ rs) q e (inl (t, s)) = grind arith
no_match (r ∷ rs) q e (inr p) = step r.test e (λ d. no_match rs q d p)
  where
    step : (b : Bool) → cond b (Some r.refusal) (first_match rs) ≡ None → (first_match rs ≡ None → ⊥) → ⊥
    step true e on = grind arith
    step false e on = on e

passes_above : (n : ℕ) (rs : List Row) (q : Refusal) → Rising n rs → Passes q rs → n < number_of q
passes_above n [] q u p = absurd p
passes_above n (r ∷ rs) q (l, u) (inl (t, s)) = subst (λ (x : Refusal). n < number_of x) s l
passes_above n (r ∷ rs) q (l, u) (inr p) = let m = passes_above (number_of r.refusal) rs q u p in omega arith

match_least : (n : ℕ) (rs : List Row) (q x : Refusal) → Rising n rs → first_match rs ≡ Some q → Passes x rs → (x ≡ q) ⊎ (number_of q < number_of x)
unfolding first_match
match_least n [] q x u e p = absurd p
match_least n (r ∷ rs) q x (l, u) e p = step r.test refl e (match_least (number_of r.refusal) rs q x u) p
  where
    step : (b : Bool) → r.test ≡ b → cond b (Some r.refusal) (first_match rs) ≡ Some q → (first_match rs ≡ Some q → Passes x rs → (x ≡ q) ⊎ (number_of q < number_of x)) → Passes x (r ∷ rs) → (x ≡ q) ⊎ (number_of q < number_of x)
    step true t e on (inl (_, s)) = inl (cc)
    step true t e on (inr p) = let s : r.refusal ≡ q = cc in inr (subst (λ (y : Refusal). number_of y < number_of x) s (passes_above (number_of r.refusal) rs x u p))
    step false t e on (inl (h, s)) = grind arith
    step false t e on (inr p) = on e p

-- what holds of each row holds of one that passes
row_passes : (P : Refusal → Type 0) (rs : List Row) (q : Refusal) → All (λ r. r.test ≡ true → P r.refusal) rs → Passes q rs → P q
row_passes P [] q a p = absurd p
row_passes P (r ∷ rs) q (h, a) (inl (t, s)) = subst P s (h t)
row_passes P (r ∷ rs) q (h, a) (inr p) = row_passes P rs q a p

-- The table of a call: a row passes where the condition of its refusal holds.

decides_closed : (w : World) (c : Call) → Decides (not w.table.running && not (is_some (setting_of c))) (Holds w c Closed)
decides_closed w c = Decides-and _ _ (decides_false _) (decides_none _)

decides_open : (w : World) (c : Call) → Decides (w.table.running && is_some (setting_of c)) (Holds w c Open)
decides_open w c = Decides-and _ _ (decides_itself _) (decides_some (setting_of c))

decides_setting : (w : World) (c : Call) → Decides (if_there (setting_of c) (λ s. not (setting_fits (length w.words) s))) (Holds w c BadSetting)
decides_setting w c = decides_there _ _ (λ s. Decides-not _ (decides_fits (length w.words) s)) (setting_of c)

decides_no_core : (w : World) (c : Call) → Decides (if_there (core_of c) (λ k. leb w.table.count k || leb 8 k)) (Holds w c NoCore)
decides_no_core w c = decides_there _ _ (λ k. (λ e h. grind (arith, nat_tests), λ h. no_core w.table.count k h)) (core_of c)
  where
    no_core : (n k : ℕ) → ((k < n) × (k < 8) → ⊥) → (leb n k || leb 8 k) ≡ true
    no_core n k h = grind (arith, nat_tests)

decides_halted : (w : World) (c : Call) → Decides (if_there (core_of c) (λ k. (core_at w k).halted)) (Holds w c Halted)
decides_halted w c = decides_there _ _ (λ k. decides_itself _) (core_of c)

decides_busy : (w : World) (c : Call) → Decides (if_there (started_core c) (λ k. not (is_idle (core_at w k).place))) (Holds w c Busy)
decides_busy w c = decides_there _ _ (λ k. Decides-not _ (decides_idle _)) (started_core c)

decides_at_rest : (w : World) (c : Call) → Decides (if_there (stepped_core c) (λ k. is_idle (core_at w k).place || is_finished (core_at w k).place)) (Holds w c AtRest)
decides_at_rest w c = decides_there _ _ (λ k. Decides-or _ _ (decides_idle _) (decides_finished _)) (stepped_core c)

decides_no_word : (w : World) (c : Call) → Decides (some_of (λ i. leb (length w.words) i) (words_of c)) (Holds w c NoWord)
decides_no_word w c = decides_some_word c _ _ (λ i. decides_leb _ i)

decides_no_right : (w : World) (c : Call) → Decides (if_there (started_core c) (λ k. not (has_right w k) && some_of (λ i. ltb i w.table.protected) (words_of c))) (Holds w c NoRight)
decides_no_right w c = decides_there _ _ (λ k. Decides-and _ _ (Decides-not _ (Decides-eqb _ 1)) (decides_some_word c _ _ (λ i. Decides-ltb i _))) (started_core c)

decides_used_up : (w : World) (c : Call) → Decides (if_there (started_core c) (λ k. leb last_number (core_at w k).operation.last) || if_there (stepped_core c) (λ k. is_making (core_at w k).place && leb last_number (core_at w k).placing.last)) (Holds w c UsedUp)
decides_used_up w c =
    Decides-or _ _ (decides_there _ _ (λ k. decides_leb last_number _) (started_core c))
    (decides_there _ _ (λ k. Decides-and _ _ (decides_making _) (decides_leb last_number _)) (stepped_core c))

decides_no_answer : (w : World) (c : Call) → Decides (if_there (collected_core c) (λ k. not (is_finished (core_at w k).place))) (Holds w c NoAnswer)
decides_no_answer w c = decides_there _ _ (λ k. Decides-not _ (decides_finished _)) (collected_core c)

rows_hold : (w : World) (c : Call) → All (λ r. r.test ≡ true → Holds w c r.refusal) (table_for w c)
rows_hold w c = (
  (decides_closed w c).0,
  (
    (decides_open w c).0,
    (
      (decides_setting w c).0,
      (
        tagged (first_tagged 0 w.words) refl,
        (
          (decides_no_core w c).0,
          (
            (decides_halted w c).0,
            (
              (decides_busy w c).0,
              (
                (decides_at_rest w c).0,
                (
                  (decides_no_word w c).0,
                  (
                    (decides_no_right w c).0,
                    (
                      (decides_used_up w c).0,
                      (
                        (decides_no_answer w c).0,
                        tt,
                      ),
                    ),
                  ),
                ),
              ),
            ),
          ),
        ),
      ),
    ),
  ),
)
  where
    tagged : (o : Option ℕ) → first_tagged 0 w.words ≡ o → (is_some (setting_of c) && is_some o) ≡ true → Holds w c (tagged_at o)
    tagged (Some i) e t = let h = and_parts (is_some (setting_of c)) true t in let f = first_tagged_is w.words i e in ((decides_some (setting_of c)).0 h.0, f.0, f.1, f.2)
    tagged None e t = let h = (and_parts (is_some (setting_of c)) false t).1 in grind arith

passes_holds : (w : World) (c : Call) (q : Refusal) → Passes q (table_for w c) → Holds w c q
passes_holds w c q p = row_passes (Holds w c) (table_for w c) q (rows_hold w c) p

tagged_passes : (w : World) (c : Call) (i : ℕ) → Opening c → first_tagged 0 w.words ≡ Some i → ((is_some (setting_of c) && is_some (first_tagged 0 w.words)) ≡ true) × (tagged_at (first_tagged 0 w.words) ≡ Tagged i)
tagged_passes w c i o e = (and_from _ _ ((decides_some (setting_of c)).1 o) (ap is_some e), ap tagged_at e)

holds_passes : (w : World) (c : Call) (q : Refusal) → Holds w c q → Passes q (table_for w c)
holds_passes w c Closed h = inl ((decides_closed w c).1 h, refl)
holds_passes w c Open h = inr (inl ((decides_open w c).1 h, refl))
holds_passes w c BadSetting h = inr (inr (inl ((decides_setting w c).1 h, refl)))
holds_passes w c (Tagged i) h = inr (inr (inr (inl (tagged_passes w c i h.0 (is_first_tagged w.words i (h.1, h.2, h.3))))))
holds_passes w c NoCore h = inr (inr (inr (inr (inl ((decides_no_core w c).1 h, refl)))))
holds_passes w c Halted h = inr (inr (inr (inr (inr (inl ((decides_halted w c).1 h, refl))))))
holds_passes w c Busy h = inr (inr (inr (inr (inr (inr (inl ((decides_busy w c).1 h, refl)))))))
holds_passes w c AtRest h = inr (inr (inr (inr (inr (inr (inr (inl ((decides_at_rest w c).1 h, refl))))))))
holds_passes w c BadList h = absurd h
holds_passes w c NoWord h = inr (inr (inr (inr (inr (inr (inr (inr (inl ((decides_no_word w c).1 h, refl)))))))))
holds_passes w c NoRight h = inr (inr (inr (inr (inr (inr (inr (inr (inr (inl ((decides_no_right w c).1 h, refl))))))))))
holds_passes w c UsedUp h = inr (inr (inr (inr (inr (inr (inr (inr (inr (inr (inl ((decides_used_up w c).1 h, refl)))))))))))
holds_passes w c NoAnswer h = inr (inr (inr (inr (inr (inr (inr (inr (inr (inr (inr (inl ((decides_no_answer w c).1 h, refl))))))))))))
holds_passes w c (File place) h = absurd h

table_rises : (w : World) (c : Call) → Rising 0 (table_for w c)
table_rises w c =
    (lit< tt, (lit< tt, (lit< tt, (omega (arith, fourth (first_tagged 0 w.words)), (omega (arith, fourth (first_tagged 0 w.words)), (lit< tt, (lit< tt, (lit< tt, (lit< tt, (lit< tt, (lit< tt, (lit< tt, tt))))))))))))
  where
    fourth : (o : Option ℕ) → number_of (tagged_at o) ≡ 4
    fourth (Some i) = refl
    fourth None = refl

-- a call that no row refuses is granted, with some answer
answered : (w : World) (c : Call) → (n : ℕ) × ((granted w c).answer ≡ Ok n)
answered w (starts k l) = (_, refl)
answered w (reads k i) = (_, refl)
answered w (steps k) = (_, refl)
answered w (collects k) = (_, refl)
answered w (halts k) = (_, refl)
answered w (shows i) = (_, refl)
answered w (raws i) = (_, refl)
answered w (opens s) = (_, refl)

-- how a call ends, by what the table says
refused_by : (w : World) (c : Call) (o : Option Refusal) (r : Refusal) → (unless_refused o w c).answer ≡ Err r → o ≡ Some r
refused_by w c (Some q) r e = cc
refused_by w c None r e = let a = answered w c in let q = a.1 in cc

granted_by : (w : World) (c : Call) (o : Option Refusal) (n : ℕ) → (unless_refused o w c).answer ≡ Ok n → o ≡ None
granted_by w c (Some q) n e = cc
granted_by w c None n e = refl

-- The table says the first refusal whose condition holds.

said_first : (w : World) (c : Call) (r : Refusal) → refusal_of w c ≡ Some r → First w c r
said_first w c r e = (passes_holds w c r (match_passes (table_for w c) r e), above)
  where
    above : (q : Refusal) → number_of q < number_of r → Holds w c q → ⊥
    above q l h =
        ⊎_elim (λ (s : q ≡ r). omega (arith, ap number_of s)) (λ (g : number_of r < number_of q). omega arith)
        (match_least 0 (table_for w c) r q (table_rises w c) e (holds_passes w c q h))

first_said : (w : World) (c : Call) (r : Refusal) → First w c r → refusal_of w c ≡ Some r
first_said w c r (h, above) = by (refusal_of w c) refl
  where
    by : (o : Option Refusal) → refusal_of w c ≡ o → o ≡ Some r
    by (Some q) e =
        ⊎_elim (λ (s : r ≡ q). ap Some (sym s)) (λ (l : number_of q < number_of r). absurd (above q l (passes_holds w c q (match_passes (table_for w c) q e))))
        (match_least 0 (table_for w c) q r (table_rises w c) e (holds_passes w c r h))
    by None e = absurd (no_match (table_for w c) r e (holds_passes w c r h))

none_said : (w : World) (c : Call) → ((q : Refusal) → Holds w c q → ⊥) → refusal_of w c ≡ None
none_said w c none = by (refusal_of w c) refl
  where
    by : (o : Option Refusal) → refusal_of w c ≡ o → o ≡ None
    by (Some q) e = absurd (none q (passes_holds w c q (match_passes (table_for w c) q e)))
    by None e = refl

pub none_holds : (w : World) (c : Call) → refusal_of w c ≡ None → (q : Refusal) → Holds w c q → ⊥
none_holds w c e q h = no_match (table_for w c) q e (holds_passes w c q h)

pub refusal_law : RefusalLaw
unfolding perform
refusal_law =
    record {
      refused_first = λ w c r e. said_first w c r (refused_by w c (refusal_of w c) r e);
      first_refused = λ w c r h. ap (λ (o : Option Refusal). (unless_refused o w c).answer) (first_said w c r h);
      granted_none = λ w c g q h. none_holds w c (granted_by w c (refusal_of w c) g.0 g.1) q h;
      none_granted = λ w c none. let a = answered w c in (a.0, ap (λ (o : Option Refusal). (unless_refused o w c).answer) (none_said w c none) ∙ a.1);
      changes_nothing = λ w c r e. ap (λ (o : Option Refusal). (unless_refused o w c).world) (refused_by w c (refusal_of w c) r e);
      helping_needs_no_right = λ w k h. let n = h.1 in grind arith;
      open_closes = λ w e. cond-true w.table.running _ _ e;
      shut_refuses_close = λ w e. cond-false w.table.running _ _ e;
    }
