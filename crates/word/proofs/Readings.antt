use Rattle.std.proofs.Common.{◌≡◌, ℕ, ◌/◌, ◌%◌, ◌^◌, ◌<◌, Bool, true, false, cond, eqb, ltb, sym, refl, ap, ◌∙◌, arith}
use Rattle.std.proofs.lemmas.Bool.Decides.{nat_tests}
use Rattle.word.specs.declared.Mark.{Mark}
use Rattle.word.specs.declared.Word.{Word}
use Rattle.word.specs.declared.Word.TheVariants.{Plain, Placing, Operation, Foreign}
use Rattle.word.specs.Word.{reading_of, raw_of, packed_of, laid_out, mark_in, holds_mark, Says, Writable, Made}

-- the raw word of what a raw word says is that raw word
pub raw_reading : (n : ℕ) → raw_of (reading_of n) ≡ n
unfolding reading_of
raw_reading n = grind (arith, nat_tests)

-- a raw word says what its bits are read as
pub reading_says : (n : ℕ) → Says n (reading_of n)
unfolding reading_of
reading_says n = by (ltb n (2 ^ 63)) (eqb (n % 4) 0) (holds_mark n) (eqb (n % 4) 1) refl refl refl refl
  where
    by : (a b c d : Bool) → ltb n (2 ^ 63) ≡ a → eqb (n % 4) 0 ≡ b → holds_mark n ≡ c → eqb (n % 4) 1 ≡ d → Says n (cond a (cond b (Plain (n / 4)) (cond c (cond d (Placing (mark_in n)) (Operation (mark_in n))) (Foreign n))) (Foreign n))
    by false b c d p q r s = (refl, λ v h e. grind (arith, nat_tests), λ m h e. grind (arith, nat_tests), λ m h e. grind (arith, nat_tests))
    by true true c d p q r s = (grind (arith, nat_tests), grind (arith, nat_tests))
    by true false true true p q r s = ((grind (arith, nat_tests), grind (arith, nat_tests), grind (arith, nat_tests)), grind (arith, nat_tests))
    by true false true false p q r s = ((grind (arith, nat_tests), grind (arith, nat_tests), grind (arith, nat_tests)), grind (arith, nat_tests))
    by true false false d p q r s = (refl, λ v h e. grind (arith, nat_tests), λ m h e. grind (arith, nat_tests), λ m h e. grind (arith, nat_tests))

-- in range nothing is cut off
packed_laid_out : (tag : ℕ) (m : Mark) → Made m → packed_of tag m ≡ laid_out tag m
packed_laid_out tag m l = omega arith

-- a word that is written says itself
pub raw_says : (w : Word) → Writable w → Says (raw_of w) w
raw_says (Plain v) l = (l, omega arith)
raw_says (Placing m) l = (l, packed_laid_out 1 m l)
raw_says (Operation m) l = (l, packed_laid_out 2 m l)
raw_says (Foreign k) l = absurd l

-- a mark comes back out of its layout
same_mark : (tag : ℕ) (m k : Mark) → tag < 4 → Made m → Made k → laid_out tag m ≡ laid_out tag k → m ≡ k
same_mark tag m k h a b e =
    let p : m.core ≡ k.core = omega arith in
    let q : m.number ≡ k.number = omega arith in
    λ i. record { core = p i; number = q i }

-- a raw word says no two words
pub says_one : (n : ℕ) (w v : Word) → Says n w → Says n v → w ≡ v
says_one n (Plain a) (Plain b) p q = let e : a ≡ b = omega arith in ap Plain e
says_one n (Plain a) (Placing m) p q = absurd (omega arith)
says_one n (Plain a) (Operation m) p q = absurd (omega arith)
says_one n (Plain a) (Foreign k) p q = absurd (q.1 a p.0 p.1)
says_one n (Placing m) (Plain b) p q = absurd (omega arith)
says_one n (Placing m) (Placing k) p q = ap Placing (same_mark 1 m k (omega arith) p.0 q.0 (sym p.1 ∙ q.1))
says_one n (Placing m) (Operation k) p q = absurd (omega arith)
says_one n (Placing m) (Foreign k) p q = absurd (q.2 m p.0 p.1)
says_one n (Operation m) (Plain b) p q = absurd (omega arith)
says_one n (Operation m) (Placing k) p q = absurd (omega arith)
says_one n (Operation m) (Operation k) p q = ap Operation (same_mark 2 m k (omega arith) p.0 q.0 (sym p.1 ∙ q.1))
says_one n (Operation m) (Foreign k) p q = absurd (q.3 m p.0 p.1)
says_one n (Foreign k) (Plain b) p q = absurd (p.1 b q.0 q.1)
says_one n (Foreign k) (Placing m) p q = absurd (p.2 m q.0 q.1)
says_one n (Foreign k) (Operation m) p q = absurd (p.3 m q.0 q.1)
says_one n (Foreign j) (Foreign k) p q = ap Foreign (sym p.0 ∙ q.0)

-- whoever says a word of a raw word says its reading
pub says_reading : (n : ℕ) (w : Word) → Says n w → reading_of n ≡ w
says_reading n w s = says_one n (reading_of n) w (reading_says n) s

-- what else holds of a word that is the reading of a raw word
pub read_says : (n : ℕ) (w : Word) → w ≡ reading_of n → Says n w
read_says n w e = rw e (reading_says n)

pub read_only : (n : ℕ) (w : Word) → w ≡ reading_of n → (v : Word) → Says n v → v ≡ w
read_only n w e v s = says_one n v w s (read_says n w e)

pub read_back : (n : ℕ) (w : Word) → w ≡ reading_of n → raw_of w ≡ n
read_back n w e = ap raw_of e ∙ raw_reading n

-- what else holds of the raw word of a word
pub written_says : (w : Word) (n : ℕ) → n ≡ raw_of w → Writable w → Says n w
written_says w n e l = rw e (raw_says w l)

pub written_back : (w : Word) (n : ℕ) → n ≡ raw_of w → Writable w → reading_of n ≡ w
written_back w n e l = says_reading n w (written_says w n e l)
