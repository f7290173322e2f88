use Rattle.std.specs.Prelude.{ℕ, Bool, cond, ◌&&◌, List, length, Some, None, Ok, Err, Option, Result, nat_lt, slice_index}
use Rattle.cores.specs.declared.table.Refusal.{Refusal}
use Rattle.cores.specs.declared.table.Refusal.TheVariants.{Open, Setting as BadSetting, Tagged}
use Rattle.cores.specs.declared.table.Setting.{Setting}
use Rattle.model.specs.World.{World}
use Rattle.word.specs.Word.{reading_of}
use Rattle.model.specs.Refusals.{is_plain, first_tagged, setting_fits}
use Rattle.machine.specs.declared.machine.Receipt.{Receipt}

-- whether word i is there and plain
abbrev pub plain_at : List ℕ → ℕ → Bool
plain_at ws i = nat_lt i (length ws) && is_plain (reading_of (slice_index ws i))

-- Why an opening is refused, test by test.
abbrev pub tag_refusal : Option ℕ → Option Refusal
tag_refusal (Some i) = Some (Tagged i)
tag_refusal None = None

abbrev pub opening_refusal : World → Setting → Option Refusal
opening_refusal w s =
    cond w.table.running (Some Open) (cond (setting_fits (length w.words) s) (tag_refusal (first_tagged 0 w.words)) (Some BadSetting))

-- What an opening with this setting hands out: a receipt of its numbers where it is granted.
abbrev pub receipt_for : Setting → Result ℕ Refusal → Result Receipt Refusal
receipt_for s (Ok n) = Ok (record { cores = s.cores; first = s.first })
receipt_for s (Err q) = Err q
