use Rattle.std.proofs.Common.{◌≡◌, ℕ, zero, suc, ◌+◌, ◌*◌, ◌/◌, ◌^◌, ◌<◌, ◌≤◌, Bool, true, false, cond, not, eqb, leb, List, [], ◌∷◌, length, get_or, is_some, Some, None, Decides, Option, refl, ap, ◌∙◌, subst, div-lt_iff_lt-mul, one-mul, arith, pow_pos}
use Rattle.std.proofs.lemmas.Bool.{leb-true, le-leb, not-true, not_from_false, cond-true}
use Rattle.std.proofs.lemmas.Bool.Decides.{Decides-and, Decides-eqb, Decides-like, Decides-by_or}
use Rattle.std.proofs.lemmas.List.{get_or_default}
use Rattle.word.specs.declared.Word.{Word}
use Rattle.word.specs.declared.Word.TheVariants as word
use Rattle.word.specs.Word.{reading_of}
use Rattle.cores.specs.declared.place.Place.{Place}
use Rattle.cores.specs.declared.place.Place.TheVariants.{Idle, Finished, Look, Begin, Fetch, Make, Try, Decide, Clear, Settle}
use Rattle.cores.specs.declared.table.Setting.{Setting}
use Rattle.model.specs.Calls.{Call, words_of}
use Rattle.model.specs.Refusals.{is_plain, first_tagged, some_of, if_there, setting_fits}
use Rattle.cores.specs.Cores.{is_idle, is_finished, is_making}
use Rattle.model.specs.RefusalLaw.{Fits, There, IsPlain, IsFinished, IsMaking, SomeWord}

-- Each test of the table decides the condition that it stands for.

pub decides_leb : (a b : ℕ) → Decides (leb a b) (a ≤ b)
decides_leb a b = (leb-true a b, le-leb a b)

-- a Bool decides that it is true, and its negation that it is false
pub decides_itself : (b : Bool) → Decides b (b ≡ true)
decides_itself b = (λ e. e, λ e. e)

pub decides_false : (b : Bool) → Decides (not b) (b ≡ false)
decides_false b = (not-true b, not_from_false b)

pub decides_some : {X : Type 0} (o : Option X) → Decides (is_some o) ((x : X) × (o ≡ Some x))
decides_some (Some x) = (λ e. (x, refl), λ h. refl)
decides_some None = (λ e. grind arith, λ h. let n = h.1 in grind arith)

pub decides_none : {X : Type 0} (o : Option X) → Decides (not (is_some o)) (o ≡ None)
decides_none (Some x) = (λ e. grind arith, λ h. grind arith)
decides_none None = (λ e. refl, λ h. refl)

pub decides_there : {X : Type 0} (p : X → Bool) (P : X → Type 0) → ((x : X) → Decides (p x) (P x)) → (o : Option X) → Decides (if_there o p) (There o P)
decides_there {X} p P d (Some x) = (λ e. (x, refl, (d x).0 e), λ h. (d x).1 (held h))
  where
    held : There (Some x) P → P x
    held (y, e, h) = let s : y ≡ x = cc in subst P s h
decides_there p P d None = (λ e. grind arith, λ h. let n = h.1 in grind arith)

pub decides_some_word : (c : Call) (p : ℕ → Bool) (P : ℕ → Type 0) → ((i : ℕ) → Decides (p i) (P i)) → Decides (some_of p (words_of c)) (SomeWord c P)
unfolding some_of
decides_some_word c p P d =
    Decides-like (some_of p (words_of c)) (λ h. (h.0, h.1, h.2 0))
    (λ h. (h.0, h.1, λ z. subst P (get_or_default (words_of c) h.0 0 z h.1) h.2))
    (Decides-by_or p P (some_of p) d refl (λ _ _. refl) (words_of c))

-- where a core stands

pub decides_idle : (p : Place) → Decides (is_idle p) (p ≡ Idle)
decides_idle Idle = (λ e. refl, λ e. refl)
decides_idle (Finished v) = (λ e. grind arith, λ e. grind arith)
decides_idle (Look i) = (λ e. grind arith, λ e. grind arith)
decides_idle (Begin m) = (λ e. grind arith, λ e. grind arith)
decides_idle (Fetch t) = (λ e. grind arith, λ e. grind arith)
decides_idle (Make t e) = (λ q. grind arith, λ q. grind arith)
decides_idle (Try t e m) = (λ q. grind arith, λ q. grind arith)
decides_idle (Decide t o) = (λ e. grind arith, λ e. grind arith)
decides_idle (Clear t o c) = (λ e. grind arith, λ e. grind arith)
decides_idle (Settle m c k) = (λ e. grind arith, λ e. grind arith)

pub decides_finished : (p : Place) → Decides (is_finished p) (IsFinished p)
decides_finished Idle = (λ q. grind arith, λ h. let q = h.1 in grind arith)
decides_finished (Finished v) = (λ e. (v, refl), λ h. refl)
decides_finished (Look i) = (λ q. grind arith, λ h. let q = h.1 in grind arith)
decides_finished (Begin m) = (λ q. grind arith, λ h. let q = h.1 in grind arith)
decides_finished (Fetch t) = (λ q. grind arith, λ h. let q = h.1 in grind arith)
decides_finished (Make t e) = (λ q. grind arith, λ h. let q = h.1 in grind arith)
decides_finished (Try t e m) = (λ q. grind arith, λ h. let q = h.1 in grind arith)
decides_finished (Decide t o) = (λ q. grind arith, λ h. let q = h.1 in grind arith)
decides_finished (Clear t o c) = (λ q. grind arith, λ h. let q = h.1 in grind arith)
decides_finished (Settle m c k) = (λ q. grind arith, λ h. let q = h.1 in grind arith)

pub decides_making : (p : Place) → Decides (is_making p) (IsMaking p)
decides_making Idle = (λ q. grind arith, λ h. let q = h.2 in grind arith)
decides_making (Finished v) = (λ q. grind arith, λ h. let q = h.2 in grind arith)
decides_making (Look i) = (λ q. grind arith, λ h. let q = h.2 in grind arith)
decides_making (Begin m) = (λ q. grind arith, λ h. let q = h.2 in grind arith)
decides_making (Fetch t) = (λ q. grind arith, λ h. let q = h.2 in grind arith)
decides_making (Make t e) = (λ q. (t, e, refl), λ h. refl)
decides_making (Try t e m) = (λ q. grind arith, λ h. let q = h.2 in grind arith)
decides_making (Decide t o) = (λ q. grind arith, λ h. let q = h.2 in grind arith)
decides_making (Clear t o c) = (λ q. grind arith, λ h. let q = h.2 in grind arith)
decides_making (Settle m c k) = (λ q. grind arith, λ h. let q = h.2 in grind arith)

-- an opening: its setting, and the first word that is not plain

pub decides_fits : (size : ℕ) (s : Setting) → Decides (setting_fits size s) (Fits size s)
decides_fits size s =
    Decides-like (setting_fits size s)
    (λ p. record {
      some_core = p.0.0.0.0;
      few_cores = p.0.0.0.1;
      number_from = p.0.0.1.0;
      number_to = p.0.0.1.1;
      some_word = p.0.1.0;
      few_words = p.0.1.1;
      protects = p.1.0;
      rights_of_cores = p.1.1;
    })
    (λ h. ((((h.some_core, h.few_cores), (h.number_from, h.number_to)), (h.some_word, h.few_words)), (h.protects, h.rights_of_cores)))
    (Decides-and _ _
    (Decides-and _ _
    (Decides-and _ _ (Decides-and _ _ (decides_leb _ _) (decides_leb _ _)) (Decides-and _ _ (decides_leb _ _) (decides_leb _ _)))
    (Decides-and _ _ (decides_leb _ _) (decides_leb _ _)))
    (Decides-and _ _ (decides_leb _ _) (decides_none_above s.rights s.cores)))
  where
    -- no bit from the k-th on is set
    decides_none_above : (n k : ℕ) → Decides (eqb (n / 2 ^ k) 0) (n < 2 ^ k)
    decides_none_above n k =
        Decides-like (eqb (n / 2 ^ k) 0)
        (λ e. let l : n < 1 * 2 ^ k = (div-lt_iff_lt-mul (pow_pos k)).0 (omega arith) in rw one-mul at l)
        (λ l. let m : n < 1 * 2 ^ k = rw one-mul l in let d : n / 2 ^ k < 1 = (div-lt_iff_lt-mul (pow_pos k)).1 m in omega arith)
        (Decides-eqb (n / 2 ^ k) 0)

decides_plain_word : (x : Word) → Decides (is_plain x) ((v : ℕ) × (x ≡ word.Plain v))
decides_plain_word (word.Plain v) = (λ e. (v, refl), λ h. refl)
decides_plain_word (word.Placing m) = (λ e. grind arith, λ h. let q = h.1 in grind arith)
decides_plain_word (word.Operation m) = (λ e. grind arith, λ h. let q = h.1 in grind arith)
decides_plain_word (word.Foreign n) = (λ e. grind arith, λ h. let q = h.1 in grind arith)

pub decides_plain : (n : ℕ) → Decides (is_plain (reading_of n)) (IsPlain n)
decides_plain n = decides_plain_word (reading_of n)

-- word j is the first that is not plain
abbrev pub FirstTagged : List ℕ → ℕ → Type 0
FirstTagged ws j = (j < length ws) × (IsPlain (get_or ws j 0) → ⊥) × ((k : ℕ) → k < j → IsPlain (get_or ws k 0))

-- behind a plain word it is found one place on
after_plain : (x : ℕ) (ws : List ℕ) (j : ℕ) → IsPlain x → FirstTagged ws j → FirstTagged (x ∷ ws) (suc j)
after_plain x ws j p (l, t, b) = (omega arith, t, before)
  where
    before : (k : ℕ) → k < suc j → IsPlain (get_or (x ∷ ws) k 0)
    before zero l = p
    before (suc k) l = b k (omega arith)

-- what the search for it finds, counting from n
abbrev Found : ℕ → List ℕ → ℕ → Type 0
Found n ws i = (j : ℕ) × (i ≡ n + j) × FirstTagged ws j

tagged_found : (n : ℕ) (ws : List ℕ) (i : ℕ) → first_tagged n ws ≡ Some i → Found n ws i
unfolding first_tagged
tagged_found n [] i e = grind arith
tagged_found n (x ∷ ws) i e = step (is_plain (reading_of x)) (decides_plain x) (tagged_found (n + 1) ws i) e
  where
    step : (b : Bool) → Decides b (IsPlain x) → (first_tagged (n + 1) ws ≡ Some i → Found (n + 1) ws i) → cond b (first_tagged (n + 1) ws) (Some n) ≡ Some i → Found n (x ∷ ws) i
    step true d on q = let h = on q in (suc h.0, omega (arith, h.1), after_plain x ws h.0 (d.0 refl) h.2)
    step false d on q = let s : n ≡ i = cc in (0, omega arith, (omega arith, λ p. grind (arith, d.1 p), λ k l. absurd (omega arith)))

found_tagged : (n : ℕ) (ws : List ℕ) (j : ℕ) → FirstTagged ws j → first_tagged n ws ≡ Some (n + j)
unfolding first_tagged
found_tagged n [] j (l, t, b) = absurd (omega arith)
found_tagged n (x ∷ ws) zero (l, t, b) = step (is_plain (reading_of x)) (decides_plain x)
  where
    step : (b : Bool) → Decides b (IsPlain x) → cond b (first_tagged (n + 1) ws) (Some n) ≡ Some (n + 0)
    step true d = absurd (t (d.0 refl))
    step false d = ap Some (omega arith)
found_tagged n (x ∷ ws) (suc j) (l, t, b) =
    let on : first_tagged (n + 1) ws ≡ Some ((n + 1) + j) = found_tagged (n + 1) ws j (omega arith, t, λ k l. b (suc k) (omega arith)) in
    let p : is_plain (reading_of x) ≡ true = (decides_plain x).1 (b 0 (omega arith)) in
    let s : (n + 1) + j ≡ n + suc j = omega arith in
    cond-true (is_plain (reading_of x)) _ _ p ∙ on ∙ ap Some s

pub first_tagged_is : (ws : List ℕ) (i : ℕ) → first_tagged 0 ws ≡ Some i → FirstTagged ws i
first_tagged_is ws i e = let h = tagged_found 0 ws i e in let s : h.0 ≡ i = omega (arith, h.1) in subst (FirstTagged ws) s h.2

pub is_first_tagged : (ws : List ℕ) (i : ℕ) → FirstTagged ws i → first_tagged 0 ws ≡ Some i
is_first_tagged ws i h = let s : 0 + i ≡ i = omega arith in found_tagged 0 ws i h ∙ ap Some s
