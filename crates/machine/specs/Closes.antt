use Rattle.std.specs.Prelude.{ℕ, Ok, Err, Result, slice_index}
use Rattle.word.specs.declared.Word.TheVariants.{Plain}
use Rattle.word.specs.Word.{raw_of}
use Rattle.bank.specs.Bank.{swapped}
use Rattle.cores.specs.declared.table.Refusal.{Refusal}
use Rattle.model.specs.World.{World, with_words}
use Rattle.model.specs.Shown.{shown_value}
use Rattle.machine.specs.declared.machine.Receipt.{Receipt}

-- Word i stored as the plain value that it shows.
abbrev pub stored : World → ℕ → World
stored w i = with_words w (swapped w.words i (slice_index w.words i) (raw_of (Plain (shown_value w i))))

-- What a close with this receipt answers: a refused one gives it back.
abbrev pub closed_by : Receipt → Result ℕ Refusal → Result ℕ (Refusal × Receipt)
closed_by t (Ok n) = Ok n
closed_by t (Err q) = Err (q, t)
