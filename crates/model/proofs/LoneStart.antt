use Rattle.std.proofs.Common.{◌≡◌, ℕ, ◌+◌, ◌-◌, ◌≤◌, true, false, ltb, leb, List, map, length, get_or, Some, None, Ok, Option, refl, ap, ◌∙◌, arith}
use lib.ListN.{length-map, get_or-map, get_or-replicate}
use Rattle.std.proofs.lemmas.Bool.{cond-true, lt-ltb, leb-false, or_parts, not-false}
use Rattle.std.proofs.lemmas.Bool.Decides.{nat_tests}
use Rattle.word.specs.declared.Word.{Word}
use Rattle.word.specs.declared.Word.TheVariants as word
use Rattle.word.specs.Word.{reading_of}
use Rattle.entries.specs.declared.Entry.{Entry}
use Rattle.entries.specs.declared.list.Entries.{Entries}
use Rattle.entries.specs.Lists.{entry_at, zero_entry}
use Rattle.entries.specs.Listed.{listed}
use Rattle.descriptor.specs.declared.Descriptor.{Descriptor}
use Rattle.descriptor.specs.declared.contents.Operation.{Operation}
use Rattle.descriptor.specs.declared.contents.Placing.{Placing}
use Rattle.descriptor.specs.Descriptors.{last_number}
use Rattle.descriptor.specs.Contents.{undecided}
use Rattle.cores.specs.declared.place.Place.TheVariants.{Begin}
use Rattle.cores.specs.declared.place.Own.{Own}
use Rattle.cores.specs.declared.place.Own.TheVariants as own
use Rattle.cores.specs.declared.table.Core.{Core}
use Rattle.cores.specs.declared.table.Setting.{Setting}
use Rattle.model.specs.World.{core_at, with_core}
use Rattle.cores.specs.Cores.{new_core, home, started}
use Rattle.model.specs.Calls.{starts, opens}
use Rattle.model.specs.Refusals.{refusal_of, table_for, setting_fits, is_plain}
use Rattle.model.specs.Perform.{Performed, perform, opened, opened_table, shut}
use Rattle.model.proofs.Granting.{perform_granted, test_fails, fails_at, all_plain}
use Rattle.model.proofs.LoneRun.{Run, Runs, own_mark, with_runner, lone}
use Rattle.model.proofs.LoneSteps.{is_placing}
use Rattle.model.proofs.LoneWhole.{Within, Unplaced}

-- What an opening and a start that are accepted say, and the world that they leave.

-- the numbers of an accepted opening begin in range
pub numbers_begin : (ws : List ℕ) (s : Setting) → refusal_of (shut ws) (opens s) ≡ None → (1 ≤ s.first) × (s.first ≤ last_number)
numbers_begin ws s e =
    let fits : setting_fits (length ws) s ≡ true = not-false (setting_fits (length ws) s) (test_fails 2 (table_for (shut ws) (opens s)) e) in
    (grind (arith, nat_tests), grind (arith, nat_tests))

-- its words are all plain
pub opened_plain : (ws : List ℕ) (s : Setting) → refusal_of (shut ws) (opens s) ≡ None → (x : ℕ) → is_plain (reading_of (get_or ws x 0)) ≡ true
opened_plain ws s e = all_plain 0 ws (test_fails 3 (table_for (shut ws) (opens s)) e)

plain_unplaced : (x : Word) → is_plain x ≡ true → is_placing x ≡ false
plain_unplaced (word.Plain v) e = refl
plain_unplaced (word.Placing m) e = absurd (grind arith)
plain_unplaced (word.Operation m) e = refl
plain_unplaced (word.Foreign n) e = refl

pub opened_unplaced : (ws : List ℕ) (s : Setting) → refusal_of (shut ws) (opens s) ≡ None → Unplaced ws
opened_unplaced ws s e x = plain_unplaced (reading_of (get_or ws x 0)) (opened_plain ws s e x)

-- the run that a start of this list begins
abbrev pub run_of : Setting → ℕ → Entries → Run
run_of s k l = record { table = opened_table s; core = k; number = s.first; list = l }

pub starts_run : (ws : List ℕ) (s : Setting) (k : ℕ) (l : Entries) → refusal_of (shut ws) (opens s) ≡ None → refusal_of (opened (shut ws) s) (starts k l) ≡ None → Runs (run_of s k l)
starts_run ws s k l e g =
    let outside = or_parts (leb s.cores k) (leb 8 k) (test_fails 4 (table_for (opened (shut ws) s) (starts k l)) g) in
    record {
      running = refl;
      there = leb-false s.cores k outside.0;
      eight = leb-false 8 k outside.1;
      cores = refl;
      numbered = (numbers_begin ws s e).0;
      number_fits = (numbers_begin ws s e).1;
    }

-- the listed words are there
pub starts_within : (ws : List ℕ) (s : Setting) (k : ℕ) (l : Entries) → refusal_of (opened (shut ws) s) (starts k l) ≡ None → Within (run_of s k l) ws
starts_within ws s k l g j m =
    let at : get_or (map (λ (e : Entry). e.word) (listed l)) j 0 ≡ (entry_at (listed l) j).word = get_or-map (λ (e : Entry). e.word) (listed l) j zero_entry in
    let h = fails_at (λ i. leb (length ws) i) (map (λ (e : Entry). e.word) (listed l)) (test_fails 8 (table_for (opened (shut ws) s) (starts k l)) g) j (rw length-map m) in
    omega (arith, leb-false (length ws) (get_or (map (λ (e : Entry). e.word) (listed l)) j 0) h)

-- the placing descriptor of a core that has made none
abbrev pub no_placing : Setting → Descriptor Placing
no_placing s = (new_core s.first).placing

-- an opened core that starts has the first number
pub first_started : (ws : List ℕ) (s : Setting) (k : ℕ) (l : Entries) (mine : ℕ → Own) (x : Option Entries) → Runs (run_of s k l)
    → ◌≡◌ {A = Performed}
    (record { answer = Ok ((core_at (opened (shut ws) s) k).operation.last + 1); world = with_core (opened (shut ws) s) k (started (core_at (opened (shut ws) s) k) (mine ((core_at (opened (shut ws) s) k).operation.last + 1)) x) })
    (record { answer = Ok s.first; world = with_runner (run_of s k l) ws (record { place = home (mine s.first); own = mine s.first; halted = false; operation = record { last = s.first; contents = undecided x }; placing = no_placing s }) })
first_started ws s k l mine x f =
    ap (λ (c : Core). record { answer = Ok (c.operation.last + 1); world = with_core (opened (shut ws) s) k (started c (mine (c.operation.last + 1)) x) }) (get_or-replicate 8 k (new_core s.first) (new_core 0) f.eight)
    ∙ ap (λ (o : Descriptor Operation). record { answer = Ok (s.first - 1 + 1); world = with_runner (run_of s k l) ws (record { place = home (mine (s.first - 1 + 1)); own = mine (s.first - 1 + 1); halted = false; operation = o; placing = no_placing s }) })
    (cond-true (ltb (s.first - 1) last_number) _ _ (lt-ltb (s.first - 1) last_number (omega (arith, f.numbered, f.number_fits))))
    ∙ ap (λ n. record { answer = Ok n; world = with_runner (run_of s k l) ws (record { place = home (mine n); own = mine n; halted = false; operation = record { last = n; contents = undecided x }; placing = no_placing s }) }) {x = s.first - 1 + 1} {y = s.first} (omega (arith, f.numbered))

pub start_performed : (ws : List ℕ) (s : Setting) (k : ℕ) (l : Entries) → Runs (run_of s k l) → refusal_of (opened (shut ws) s) (starts k l) ≡ None
    → perform (opened (shut ws) s) (starts k l) ≡ record { answer = Ok s.first; world = lone (run_of s k l) ws (Begin (own_mark (run_of s k l))) None (no_placing s) }
start_performed ws s k l f g =
    perform_granted (opened (shut ws) s) (starts k l) g ∙ first_started ws s k l (λ n. own.List (record { core = k; number = n })) (Some l) f
