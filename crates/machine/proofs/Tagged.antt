use Rattle.std.proofs.Common.{◌≡◌, ℕ, ◌+◌, ◌<◌, ◌≤◌, Bool, true, false, ◌&&◌, List, length, get_or, drop, Some, None, sym, ap, ◌∙◌, add-one, drop-cons}
use Rattle.std.proofs.lemmas.List.{drop_all}
use Rattle.std.proofs.lemmas.Bool.{lt-ltb}
use Rattle.word.specs.Word.{reading_of}
use Rattle.model.specs.Refusals.{first_tagged, is_plain}
use Rattle.machine.specs.Opens.{plain_at}

-- The first word that is not plain, sought word by word.

-- a word that is there is plain just where it is plain as it stands
plain_there : (ws : List ℕ) (i : ℕ) (b : Bool) → i < length ws → plain_at ws i ≡ b → is_plain (reading_of (get_or ws i 0)) ≡ b
plain_there ws i b h e = sym (ap (λ (t : Bool). t && is_plain (reading_of (get_or ws i 0))) (lt-ltb i (length ws) h)) ∙ e

pub tagged_more : (ws : List ℕ) (i : ℕ) → i < length ws → plain_at ws i ≡ true → first_tagged i (drop i ws) ≡ first_tagged (i + 1) (drop (i + 1) ws)
unfolding first_tagged
tagged_more ws i h p = ap (first_tagged i) (drop-cons ws i 0 h) ∙ rw (plain_there ws i true h p) (ap (λ (n : ℕ). first_tagged (i + 1) (drop n ws)) (sym (add-one i)))

pub tagged_here : (ws : List ℕ) (i : ℕ) → i < length ws → plain_at ws i ≡ false → first_tagged i (drop i ws) ≡ Some i
unfolding first_tagged
tagged_here ws i h p = ap (first_tagged i) (drop-cons ws i 0 h) ∙ rw (plain_there ws i false h p)

pub tagged_none : (ws : List ℕ) (i : ℕ) → length ws ≤ i → first_tagged i (drop i ws) ≡ None
unfolding first_tagged
tagged_none ws i h = ap (first_tagged i) (drop_all i ws h)
