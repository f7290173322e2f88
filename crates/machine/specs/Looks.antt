use Rattle.std.specs.Prelude.{ℕ, cond, length, Ok, Err, Result, nat_lt, slice_index}
use Rattle.cores.specs.declared.table.Refusal.{Refusal}
use Rattle.cores.specs.declared.table.Refusal.TheVariants.{Closed, NoWord}
use Rattle.model.specs.World.{World}
use Rattle.model.specs.Shown.{shown_word}
use Rattle.word.specs.Word.{reading_of}

-- What looking at word i finds: its raw word, if the machine is open and the word is there.
abbrev pub look : World → ℕ → Result ℕ Refusal
look w i = cond w.table.running (cond (nat_lt i (length w.words)) (Ok (slice_index w.words i)) (Err NoWord)) (Err Closed)

-- The shown value of a word whose raw word was looked at.
abbrev pub shown_of : World → ℕ → Result ℕ Refusal → Result ℕ Refusal
shown_of w i (Ok n) = Ok (shown_word w i (reading_of n))
shown_of w i (Err q) = Err q
