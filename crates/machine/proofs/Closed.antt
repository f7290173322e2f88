use Rattle.std.proofs.Common.{◌≡◌, ℕ, ◌+◌, ◌<◌, ◌≤◌, cond, eqb, ltb, List, length, get_or, sym, refl, ap, ◌∙◌, arith}
use Rattle.std.proofs.lemmas.Bool.{lt-ltb, le-ltb, eq-eqb}
use Rattle.std.proofs.lemmas.Bool.Decides.{nat_tests}
use Rattle.std.proofs.lemmas.List.FromFn.{fill_by_all}
use Rattle.word.specs.declared.Word.{Word}
use Rattle.word.specs.declared.Word.TheVariants as word
use Rattle.word.specs.Word.{reading_of, raw_of}
use Rattle.bank.specs.Bank.{listed, swapped}
use Rattle.bank.proofs.Listed.{length_listed, getD_listed, swapped_listed}
use Rattle.cores.specs.declared.table.Table.{Table}
use Rattle.model.specs.World.{World, operation_at, placing_at}
use Rattle.model.specs.Shown.{shown_value, shown_word, shown_by_placing, shown_by_operation, plain_words}
use Rattle.model.specs.Perform.{closed, closed_table}
use Rattle.machine.specs.Closes.{stored}
use Rattle.machine.specs.Sight.{tabled}

-- Closing, word by word.

-- the words when the first i of them are stored as the plain values that they show
abbrev pub word_to : World → ℕ → ℕ → ℕ
word_to w i k = cond (ltb k i) (raw_of (word.Plain (shown_value w k))) (get_or w.words k 0)

abbrev pub plain_to : World → ℕ → List ℕ
plain_to w i = listed (length w.words) (word_to w i)

pub plain_none : (w : World) → w.words ≡ plain_to w 0
plain_none w = fill_by_all (word_to w 0) w.words (length w.words) 0 refl (λ k h. sym (rw (le-ltb k 0 (omega arith))))

plain_all : (w : World) (i : ℕ) → length w.words ≤ i → plain_to w i ≡ plain_words w
plain_all w i h =
    fill_by_all (λ k. raw_of (word.Plain (shown_value w k))) (plain_to w i) (length w.words) 0 (length_listed (length w.words) (word_to w i)) (λ k l. getD_listed (length w.words) (word_to w i) k l ∙ rw (lt-ltb k i (omega arith)))

-- what a word shows is a matter of the table
same_shown : (w v : World) (i : ℕ) (x : Word) → w.table ≡ v.table → shown_word w i x ≡ shown_word v i x
same_shown w v i (word.Plain a) e = refl
same_shown w v i (word.Placing m) e = ap (λ (t : Table). shown_by_placing (placing_at (tabled t) m)) e
same_shown w v i (word.Operation m) e = ap (λ (t : Table). shown_by_operation (operation_at (tabled t) m) i) e
same_shown w v i (word.Foreign n) e = refl

-- one word more
pub plain_more : (w cur v : World) (i : ℕ) → cur.table ≡ w.table → cur.words ≡ plain_to w i → i < length w.words → v ≡ stored cur i → (v.table ≡ w.table) × (v.words ≡ plain_to w (i + 1))
plain_more w cur v i same so_far h e = (ap (λ (x : World). x.table) e ∙ same, ap (λ (x : World). x.words) e ∙ words)
  where
    here : get_or cur.words i 0 ≡ get_or w.words i 0
    here = ap (λ (ws : List ℕ). get_or ws i 0) so_far ∙ getD_listed (length w.words) (word_to w i) i h ∙ rw (le-ltb i i (omega arith))

    shows : shown_value cur i ≡ shown_value w i
    shows = same_shown cur w i (reading_of (get_or cur.words i 0)) same ∙ ap (λ (n : ℕ). shown_word w i (reading_of n)) here

    before : word_to w i i ≡ get_or w.words i 0
    before = rw (le-ltb i i (omega arith))

    after : word_to w (i + 1) i ≡ cond (eqb (word_to w i i) (get_or w.words i 0)) (raw_of (word.Plain (shown_value w i))) (word_to w i i)
    after = rw (before, lt-ltb i (i + 1) (omega arith), eq-eqb (get_or w.words i 0) (get_or w.words i 0) refl)

    others : (k : ℕ) → (k ≡ i → ⊥) → word_to w (i + 1) k ≡ word_to w i k
    others k ne = let f : ltb k (i + 1) ≡ ltb k i = grind (arith, nat_tests) in rw f

    words : swapped cur.words i (get_or cur.words i 0) (raw_of (word.Plain (shown_value cur i))) ≡ plain_to w (i + 1)
    words =
        ap (λ (ws : List ℕ). swapped ws i (get_or cur.words i 0) (raw_of (word.Plain (shown_value cur i)))) so_far
        ∙ ap (λ (n : ℕ). swapped (plain_to w i) i n (raw_of (word.Plain (shown_value cur i)))) here
        ∙ ap (λ (n : ℕ). swapped (plain_to w i) i (get_or w.words i 0) (raw_of (word.Plain n))) shows
        ∙ sym (swapped_listed (length w.words) (length w.words) (word_to w i) (word_to w (i + 1)) i (get_or w.words i 0) (raw_of (word.Plain (shown_value w i))) refl h others after)

-- all words
pub shut_comes : (w cur v : World) (i : ℕ) → cur.words ≡ plain_to w i → length w.words ≤ i → v.words ≡ cur.words → v.table ≡ closed_table → v ≡ closed w
shut_comes w cur v i so_far h words table = λ j. record { words = (words ∙ so_far ∙ plain_all w i h) j; table = table j }
