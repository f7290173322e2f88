use Rattle.std.proofs.Common.{◌≡◌, ℕ, zero, suc, [], ◌+◌, ◌*◌, ◌/◌, ◌^◌, ◌<◌, ◌≤◌, eqb, List, length, get_or, drop, Ok, Err, sym, ap, ◌∙◌, ⊎_elim, add-zero, zero-add, arith, lit<, rules}
use Rattle.bank.proofs.Listed.{length_listed, loaded_listed, swapped_listed}
use Rattle.bank.specs.Bank.{loaded, swapped}
use Rattle.bank.specs.declared.NoWord.{NoWord}
use Rattle.bank.specs.ByteWords.{byte_words, bytes_after, leftover, with_word, word_bytes, word_from}
use Rattle.std.proofs.lemmas.Bool.Decides.{nat_tests}
use Rattle.std.specs.Simd.{first_chunks}
use Rattle.std.proofs.lemmas.List.{ext_get_or, get_or-take, get_or-drop, length-drop, places}
use Rattle.std.proofs.lemmas.Bool.{cases_lt, cond-true, eq-eqb, lt-ltb, ne_eqb}

pub length_byte_words : (bs : List ℕ) → length (byte_words bs) ≡ length bs / 8
length_byte_words bs = length_listed (length bs / 8) (λ i. word_from bs (8 * i))

pub load_bytes : (bs : List ℕ) (i w : ℕ) → i < length bs / 8 → w ≡ word_from bs (8 * i) → Ok w ≡ loaded (byte_words bs) i
load_bytes bs i w lt e = let r = loaded_listed (length bs / 8) (λ i. word_from bs (8 * i)) i lt in cc

-- a word is the number of its bytes
word_of_bytes : (w : ℕ) → w < 2 ^ 64 → word_from (word_bytes w) 0 ≡ w
word_of_bytes w fits = omega arith

length_with : (bs : List ℕ) (p w : ℕ) → p + 8 ≤ length bs → length (with_word bs p w) ≡ length bs
length_with bs p w h = search (rules, places)

byte_before : (bs : List ℕ) (p w k : ℕ) → p + 8 ≤ length bs → k < p → get_or (with_word bs p w) k 0 ≡ get_or bs k 0
byte_before bs p w k h lt = grind (arith, places)

byte_past : (bs : List ℕ) (p w k : ℕ) → p + 8 ≤ length bs → p + 8 ≤ k → get_or (with_word bs p w) k 0 ≡ get_or bs k 0
byte_past bs p w k h le = grind (arith, places)

byte_in : (bs : List ℕ) (p w j : ℕ) → p + 8 ≤ length bs → j < 8 → get_or (with_word bs p w) (p + j) 0 ≡ get_or (word_bytes w) j 0
byte_in bs p w k h lt = grind (arith, places)

-- equal bytes are one word
same_word : (xs : List ℕ) (p : ℕ) (bs : List ℕ) (q : ℕ) → ((j : ℕ) → j < 8 → get_or xs (p + j) 0 ≡ get_or bs (q + j) 0) → word_from xs p ≡ word_from bs q
same_word xs p bs q e =
    let z : get_or xs p 0 ≡ get_or bs q 0 = simp add-zero at (e 0 (lit< tt)) in
    cc (z, e 1 (lit< tt), e 2 (lit< tt), e 3 (lit< tt), e 4 (lit< tt), e 5 (lit< tt), e 6 (lit< tt), e 7 (lit< tt))

-- a byte of the k-th eight
byte_of_chunk : (n k : ℕ) (bs : List ℕ) (j : ℕ) → k < n → j < 8 → get_or (get_or (first_chunks 8 n bs) k []) j 0 ≡ get_or bs (8 * k + j) 0
byte_of_chunk zero k bs j l m = absurd (omega arith)
byte_of_chunk (suc n) zero bs j l m = rw zero-add (get_or-take 8 bs j 0 m)
byte_of_chunk (suc n) (suc k) bs j l m =
    let e : 8 + (8 * k + j) ≡ 8 * suc k + j = omega arith in
    byte_of_chunk n k (drop 8 bs) j (omega arith) m ∙ get_or-drop 8 bs (8 * k + j) 0 ∙ ap (λ p. get_or bs p 0) e

-- the number of an eight is the word
pub load_chunk : (bs : List ℕ) (i w : ℕ) (ch : List ℕ) → i < length bs / 8 → ch ≡ get_or (first_chunks 8 (length bs / 8) bs) i [] → w ≡ word_from ch 0 → Ok w ≡ loaded (byte_words bs) i
load_chunk bs i w ch lt e s =
    load_bytes bs i w lt (s ∙ same_word ch 0 bs (8 * i) (λ j m. rw (zero-add, e) (byte_of_chunk (length bs / 8) i bs j lt m)))

-- where there is an answer, it is the word of eight bytes
pub seen_bytes : (bs : List ℕ) (i w : ℕ) → Ok w ≡ loaded (byte_words bs) i → (i < length bs / 8) × (w ≡ word_from bs (8 * i))
seen_bytes bs i w e =
    let l = length_byte_words bs in
    ⊎_elim
    (λ (lt : i < length bs / 8). let r = loaded_listed (length bs / 8) (λ i. word_from bs (8 * i)) i lt in (lt, grind (arith, nat_tests)))
    (λ (past : length bs / 8 ≤ i). absurd (grind (arith, nat_tests)))
    (cases_lt i (length bs / 8))

-- a word that is written is read back, and every other is as it was
word_same : (bs : List ℕ) (p w : ℕ) → p + 8 ≤ length bs → w < 2 ^ 64 → word_from (with_word bs p w) p ≡ w
word_same bs p w h fits = same_word (with_word bs p w) p (word_bytes w) 0 (λ j lt. rw zero-add (byte_in bs p w j h lt)) ∙ word_of_bytes w fits

word_other : (bs : List ℕ) (i w k : ℕ) → 8 * i + 8 ≤ length bs → (k ≡ i → ⊥) → word_from (with_word bs (8 * i) w) (8 * k) ≡ word_from bs (8 * k)
word_other bs i w k h ne =
    same_word (with_word bs (8 * i) w) (8 * k) bs (8 * k)
    (λ j lt. ⊎_elim (λ below. byte_before bs (8 * i) w (8 * k + j) h (omega arith)) (λ past. byte_past bs (8 * i) w (8 * k + j) h (omega arith)) (cases_lt k i))

pub swap_bytes : (bs zs : List ℕ) (i w old new : ℕ) → zs ≡ with_word bs (8 * i) new → i < length bs / 8 → w ≡ word_from bs (8 * i) → w ≡ old → new < 2 ^ 64 → byte_words zs ≡ swapped (byte_words bs) i old new
swap_bytes bs zs i w old new e lt seen same fits =
    let h : 8 * i + 8 ≤ length bs = omega arith in
    ap byte_words e
    ∙ swapped_listed (length bs / 8) (length (with_word bs (8 * i) new) / 8) (λ k. word_from bs (8 * k)) (λ k. word_from (with_word bs (8 * i) new) (8 * k)) i old new
    (ap (λ n. n / 8) (length_with bs (8 * i) new h))
    lt
    (λ k ne. word_other bs i new k h ne)
    (word_same bs (8 * i) new h fits ∙ sym (cond-true (eqb (word_from bs (8 * i)) old) new (word_from bs (8 * i)) (eq-eqb (word_from bs (8 * i)) old (sym seen ∙ same))))

pub leftover_kept : (bs zs : List ℕ) (i w : ℕ) → zs ≡ with_word bs (8 * i) w → i < length bs / 8 → leftover zs ≡ leftover bs
leftover_kept bs zs i w e lt =
    let h : 8 * i + 8 ≤ length bs = omega arith in
    let l = length_with bs (8 * i) w h in
    ap leftover e
    ∙ ap (λ n. drop (8 * (n / 8)) (with_word bs (8 * i) w)) l
    ∙ ext_get_or 0 (drop (8 * (length bs / 8)) (with_word bs (8 * i) w)) (drop (8 * (length bs / 8)) bs) (simp length-drop (omega arith)) (λ k _. simp get_or-drop (byte_past bs (8 * i) w (8 * (length bs / 8) + k) h (omega arith)))

pub bytes_stored : (bs zs : List ℕ) (i w old new : ℕ) → zs ≡ with_word bs (8 * i) new → i < length bs / 8 → w ≡ word_from bs (8 * i) → w ≡ old → zs ≡ bytes_after bs i old new
bytes_stored bs zs i w old new e lt seen same =
    rw (lt-ltb i (length bs / 8) lt, eq-eqb (word_from bs (8 * i)) old (sym seen ∙ same)) e

pub bytes_kept : (bs : List ℕ) (i w old new : ℕ) → i < length bs / 8 → w ≡ word_from bs (8 * i) → (w ≡ old → ⊥) → bs ≡ bytes_after bs i old new
bytes_kept bs i w old new lt seen other =
    rw (lt-ltb i (length bs / 8) lt, ne_eqb (word_from bs (8 * i)) old (λ e. other (seen ∙ e)))

-- where there is no word, nothing is stored
pub bytes_refused : (bs : List ℕ) (i old new : ℕ) (e : NoWord) → Err e ≡ loaded (byte_words bs) i → bs ≡ bytes_after bs i old new
bytes_refused bs i old new e h =
    let l = length_byte_words bs in
    ⊎_elim
    (λ (lt : i < length bs / 8). absurd (grind (arith, nat_tests)))
    (λ (past : length bs / 8 ≤ i). grind (arith, nat_tests))
    (cases_lt i (length bs / 8))
