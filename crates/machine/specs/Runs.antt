use Rattle.std.specs.Prelude.{◌≡◌, ℕ, List, [], ◌∷◌, map, length, Some, None, Ok, Err, vec_items, vec_capacity, ◌≤◌, Option, Result}
use Rattle.std.specs.List.{range_with_len}
use Rattle.word.specs.declared.Word.{Word}
use Rattle.word.specs.declared.Word.TheVariants as word
use Rattle.word.specs.Word.{reading_of}
use Rattle.cores.specs.declared.table.Refusal.{Refusal}
use Rattle.cores.specs.declared.table.Refusal.TheVariants as refusal
use Rattle.cores.specs.declared.table.Setting.{Setting}
use Rattle.model.specs.World.{World}
use Rattle.model.specs.Shown.{shown_value, plain_words}
use Rattle.model.specs.Calls.{Call, starts, reads, steps, collects, halts, opens}
use Rattle.model.specs.Refusals.{refusal_of}
use Rattle.model.specs.Perform.{Performed, perform, opened, shut}
use Rattle.model.specs.Histories.{History, world_of, answers_of}
use Rattle.model.specs.Promises.{Promises}
use Rattle.machine.specs.declared.run.NotRun.{NotRun}
use Rattle.machine.specs.declared.run.NotRun.TheVariants.{Memory, Refused}
use Rattle.machine.specs.declared.run.Report.{Report}
use Rattle.machine.specs.declared.run.Request.{Request}
use Rattle.machine.specs.declared.run.Request.TheVariants.{Start, Read, Step, Collect, Halt}

-- What a run comes to.

-- an empty report with room for so many answers and words
abbrev pub HasRoom : Report → ℕ → ℕ → Type 0
HasRoom r answers words = (vec_items r.answers ≡ []) × (answers ≤ vec_capacity r.answers) × (vec_items r.words ≡ []) × (words ≤ vec_capacity r.words)

-- the call that a request makes; none where there is no list for it
abbrev pub call_of : Request → Option Call
call_of (Start k (Some l)) = Some (starts k l.now)
call_of (Start k None) = None
call_of (Read k i) = Some (reads k i)
call_of (Step k) = Some (steps k)
call_of (Collect k) = Some (collects k)
call_of (Halt k) = Some (halts k)

-- what a request answers and leaves: one that makes no call is refused with 9, and changes nothing
abbrev pub made : World → Option Call → Performed
made w (Some c) = perform w c
made w None = record { answer = Err refusal.List; world = w }

abbrev pub asked : World → Request → Performed
asked w q = made w (call_of q)

-- what requests answer and leave, the first of the list first
unfoldable pub answers_to : World → List Request → List (Result ℕ Refusal)
answers_to w [] = []
answers_to w (q ∷ qs) = (asked w q).answer ∷ answers_to (asked w q).world qs

unfoldable pub after_requests : World → List Request → World
after_requests w [] = w
after_requests w (q ∷ qs) = after_requests (asked w q).world qs

-- the calls that requests make, and the answers of those that make one
abbrev pub then_made : Option Call → List Call → List Call
then_made (Some c) cs = c ∷ cs
then_made None cs = cs

abbrev pub then_answered : Option Call → Result ℕ Refusal → List (Result ℕ Refusal) → List (Result ℕ Refusal)
then_answered (Some c) r rs = r ∷ rs
then_answered None r rs = rs

unfoldable pub calls_of : List Request → List Call
calls_of [] = []
calls_of (q ∷ qs) = then_made (call_of q) (calls_of qs)

unfoldable pub answers_made : List Request → List (Result ℕ Refusal) → List (Result ℕ Refusal)
answers_made [] rs = []
answers_made (q ∷ qs) [] = []
answers_made (q ∷ qs) (r ∷ rs) = then_answered (call_of q) r (answers_made qs rs)

-- the world that a run on these words has come to before the close
abbrev pub run_end : List ℕ → Setting → List Request → World
run_end ws s qs = after_requests (opened (shut ws) s) qs

-- the value that a raw word holds, if it is plain
abbrev pub value_of : Word → ℕ
value_of (word.Plain v) = v
value_of (word.Placing m) = 0
value_of (word.Operation m) = 0
value_of (word.Foreign n) = 0

abbrev pub values_in : List ℕ → List ℕ
values_in ws = map (λ n. value_of (reading_of n)) ws

-- What a run on the words ws comes to: its opening's answer, the calls' answers, the words left. Where the opening is granted, every call is made
-- in turn, and the close leaves each word's shown value as a plain value.
abbrev pub Played : List ℕ → Setting → List Request → Result (Unit {0}) Refusal → List (Result ℕ Refusal) → List ℕ → Type 0
Played ws s qs (Ok x) answers left =
    (refusal_of (shut ws) (opens s) ≡ None) × (answers ≡ answers_to (opened (shut ws) s) qs) × (left ≡ plain_words (run_end ws s qs))
Played ws s qs (Err q) answers left = (refusal_of (shut ws) (opens s) ≡ Some q) × (left ≡ ws)

-- What a run reports: besides, the value that each word holds then. Where there is no memory for the report, nothing is done.
abbrev pub Ran : List ℕ → Setting → List Request → Result Report NotRun → List ℕ → Type 0
Ran ws s qs (Ok r) left = Played ws s qs (Ok tt) (vec_items r.answers) left × (vec_items r.words ≡ values_in left)
Ran ws s qs (Err (Refused q)) left = Played ws s qs (Err q) [] left
Ran ws s qs (Err Memory) left = left ≡ ws

-- The history of a run whose opening is granted: the calls that its requests make.
abbrev pub history_of : (ws : List ℕ) (s : Setting) → List Request → refusal_of (shut ws) (opens s) ≡ None → History
history_of ws s qs e = record { words = ws; setting = s; granted = e; calls = calls_of qs }

-- The promises hold of a run: of its history, whose calls answered what the run reports of them, which has come to the world before the close, and whose
-- shown values are what the words hold after it.
abbrev pub RunPromises : List ℕ → Setting → List Request → Type 0
RunPromises ws s qs =
    (e : refusal_of (shut ws) (opens s) ≡ None) → (world_of (history_of ws s qs e) ≡ run_end ws s qs) × Promises (history_of ws s qs e)
    × (answers_of (opened (shut ws) s) (calls_of qs) ≡ answers_made qs (answers_to (opened (shut ws) s) qs))
    × (values_in (plain_words (run_end ws s qs)) ≡ map (shown_value (run_end ws s qs)) (range_with_len 0 (length ws)))
