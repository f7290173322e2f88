use Rattle.std.proofs.Common.{◌≡◌, ℕ, ◌<◌, ◌≤◌, true, false, cond, ◌&&◌, eqb, ltb, leb, List, length, set, Some, Ok, refl, ap, ◌∙◌, arith}
use Rattle.std.proofs.lemmas.List.{get_or-set_same, set-set}
use Rattle.std.proofs.lemmas.Bool.{cond-true, lt-ltb, eq-eqb}
use Rattle.word.specs.declared.Mark.{Mark}
use Rattle.entries.specs.declared.Entry.{Entry}
use Rattle.entries.specs.declared.list.Entries.{Entries}
use Rattle.entries.specs.Lists.{entry_at}
use Rattle.entries.specs.Listed.{listed}
use Rattle.descriptor.specs.declared.Descriptor.{Descriptor}
use Rattle.descriptor.specs.declared.contents.Operation.{Operation}
use Rattle.descriptor.specs.declared.contents.Outcome.{Outcome}
use Rattle.descriptor.specs.declared.contents.Placing.{Placing}
use Rattle.descriptor.specs.Descriptors.{last_number, created, changed, reading}
use Rattle.descriptor.specs.Contents.{decided, with_outcome, State}
use Rattle.cores.specs.declared.place.Work.{Work}
use Rattle.cores.specs.declared.place.Place.{Place}
use Rattle.cores.specs.declared.place.Own.TheVariants as own
use Rattle.cores.specs.declared.table.Core.{Core}
use Rattle.cores.specs.declared.table.Table.{Table}
use Rattle.model.specs.World.{World, core_at, operation_at, placing_at, with_cores, with_core}
use Rattle.cores.specs.Cores.{new_core, with_place, with_operation, with_placing, is_idle, is_finished, is_making, collected, answer_in}
use Rattle.model.specs.Step.{makes, decides, change_world, step_change, step_place, arrive}
use Rattle.model.specs.Calls.{steps, collects}
use Rattle.model.specs.Perform.{perform}
use Rattle.model.proofs.Granting.{perform_granted, step_granted, collect_granted}

-- A core that runs a list while no other core steps: each step of its run, over the few things that change in it.

-- what stays through the run: the table but for the core's own entry, the core, the operation's number, the list
pub record Run : Type 0 where
  pub table : Table
  pub core : ℕ
  pub number : ℕ
  pub list : Entries

pub record Runs (r : Run) : Type 0 where
  pub running : r.table.running ≡ true
  pub there : r.core < r.table.count
  pub eight : r.core < 8
  pub cores : length r.table.cores ≡ 8
  pub numbered : 1 ≤ r.number
  pub number_fits : r.number ≤ last_number

-- the operation's mark, its entry i, and the work on that
abbrev pub own_mark : Run → Mark
own_mark r = record { core = r.core; number = r.number }

abbrev pub run_length : Run → ℕ
run_length r = length (listed r.list)

abbrev pub run_entry : Run → ℕ → Entry
run_entry r i = entry_at (listed r.list) i

abbrev pub run_work : Run → ℕ → Work
run_work r i = record { operation = own_mark r; index = i; count = run_length r }

-- the world of the run with this core
abbrev pub with_runner : Run → List ℕ → Core → World
with_runner r ws c = record { words = ws; table = with_cores r.table (set r.table.cores r.core c) }

-- the running core at a place, by the state of its operation and its placing descriptor
abbrev pub runner : Run → Place → State → Descriptor Placing → Core
runner r p s d =
    record { place = p; own = own.List (own_mark r); halted = false; operation = record { last = r.number; contents = record { list = Some r.list; state = s } }; placing = d }

abbrev pub lone : Run → List ℕ → Place → State → Descriptor Placing → World
lone r ws p s d = with_runner r ws (runner r p s d)

-- What a lone core reads of itself.

pub runner_at : (r : Run) → Runs r → (ws : List ℕ) (c : Core) → core_at (with_runner r ws c) r.core ≡ c
runner_at r f ws c = get_or-set_same r.table.cores r.core c (new_core 0) (omega (arith, f.eight, f.cores))

pub operation_here : (r : Run) → Runs r → (ws : List ℕ) (p : Place) (s : State) (d : Descriptor Placing) → operation_at (lone r ws p s d) (own_mark r) ≡ Ok (record { list = Some r.list; state = s })
operation_here r f ws p s d =
    cond-true (ltb r.core 8) _ _ (lt-ltb r.core 8 f.eight)
    ∙ ap (λ (c : Core). reading c.operation r.number) (runner_at r f ws (runner r p s d))
    ∙ cond-true (eqb r.number r.number) _ _ (eq-eqb r.number r.number refl)

pub placing_here : (r : Run) → Runs r → (ws : List ℕ) (p : Place) (s : State) (d : Descriptor Placing) → placing_at (lone r ws p s d) (record { core = r.core; number = d.last }) ≡ Ok d.contents
placing_here r f ws p s d =
    cond-true (ltb r.core 8) _ _ (lt-ltb r.core 8 f.eight)
    ∙ ap (λ (c : Core). reading c.placing d.last) (runner_at r f ws (runner r p s d))
    ∙ cond-true (eqb d.last d.last) _ _ (eq-eqb d.last d.last refl)

-- What its changes come to.

runner_put : (r : Run) (ws : List ℕ) (c c' : Core) → with_core (with_runner r ws c) r.core c' ≡ with_runner r ws c'
runner_put r ws c c' =
    ap (λ cs. record { words = ws; table = with_cores r.table cs }) (set-set r.table.cores r.core c c')

-- the core changed by f
pub runner_changed : (r : Run) → Runs r → (ws : List ℕ) (c : Core) (f : Core → Core) → with_core (with_runner r ws c) r.core (f (core_at (with_runner r ws c) r.core)) ≡ with_runner r ws (f c)
runner_changed r h ws c f =
    ap (λ x. with_core (with_runner r ws c) r.core (f x)) (runner_at r h ws c) ∙ runner_put r ws c (f c)

arrives : (r : Run) → Runs r → (ws : List ℕ) (p : Place) (s : State) (d : Descriptor Placing) (p' : Place) → arrive (lone r ws p s d) r.core p' ≡ lone r ws p' s d
arrives r f ws p s d p' = runner_changed r f ws (runner r p s d) (λ c. with_place c p')

pub made : (r : Run) → Runs r → (ws : List ℕ) (p : Place) (s : State) (d : Descriptor Placing) (x : Placing) → change_world (lone r ws p s d) r.core (makes x) ≡ lone r ws p s (created d x)
made r f ws p s d x = runner_changed r f ws (runner r p s d) (λ c. with_placing c (created c.placing x))

pub settled_outcome : (r : Run) → Runs r → (ws : List ℕ) (p : Place) (s : State) (d : Descriptor Placing) (o : Outcome) → change_world (lone r ws p s d) r.core (decides (own_mark r) o) ≡ lone r ws p (decided s o) d
settled_outcome r f ws p s d o =
    cond-true (ltb r.core 8) _ _ (lt-ltb r.core 8 f.eight)
    ∙ runner_changed r f ws (runner r p s d) (λ c. with_operation c (changed (λ q. with_outcome q o) c.operation r.number))
    ∙ ap (λ (x : Operation). with_runner r ws (with_operation (runner r p s d) (record { last = r.number; contents = x }))) (cond-true (eqb r.number r.number) _ _ (eq-eqb r.number r.number refl))

-- A step of the core, by where it arrives.
pub step_by : (r : Run) → Runs r → (ws : List ℕ) (c : Core) (ws' : List ℕ) (c' : Core)
    → c.halted ≡ false → is_idle c.place ≡ false → is_finished c.place ≡ false → (is_making c.place && leb last_number c.placing.last) ≡ false
    → arrive (change_world (with_runner r ws c) r.core (step_change c.place)) r.core (step_place (with_runner r ws c) r.core c.own c.place) ≡ with_runner r ws' c'
    → perform (with_runner r ws c) (steps r.core) ≡ record { answer = Ok (cond (is_finished c'.place) 1 0); world = with_runner r ws' c' }
step_by r f ws c ws' c' unhalted busy unfinished left arrived =
    let w : World = with_runner r ws c in
    let k : ℕ = r.core in
    let here : core_at w k ≡ c = runner_at r f ws c in
    perform_granted w (steps k) (step_granted w k f.running f.there f.eight (ap (λ (x : Core). x.halted) here ∙ unhalted) (ap (λ (x : Core). is_idle x.place) here ∙ busy) (ap (λ (x : Core). is_finished x.place) here ∙ unfinished) (ap (λ (x : Core). is_making x.place && leb last_number x.placing.last) here ∙ left))
    ∙ ap (λ (v : World). record { answer = Ok (cond (is_finished (core_at v k).place) 1 0); world = v }) (ap (λ (x : Core). arrive (change_world w k (step_change x.place)) k (step_place w k x.own x.place)) here ∙ arrived)
    ∙ ap (λ (x : Core). record { answer = Ok (cond (is_finished x.place) 1 0); world = with_runner r ws' c' }) (runner_at r f ws' c')

-- A step of the run from place p to place p'.
pub step_to : (r : Run) → Runs r → (ws : List ℕ) (p : Place) (s : State) (d : Descriptor Placing) (ws' : List ℕ) (p' : Place) (s' : State) (d' : Descriptor Placing)
    → is_idle p ≡ false → is_finished p ≡ false → (is_making p && leb last_number d.last) ≡ false
    → change_world (lone r ws p s d) r.core (step_change p) ≡ lone r ws' p s' d'
    → step_place (lone r ws p s d) r.core (own.List (own_mark r)) p ≡ p'
    → perform (lone r ws p s d) (steps r.core) ≡ record { answer = Ok (cond (is_finished p') 1 0); world = lone r ws' p' s' d' }
step_to r f ws p s d ws' p' s' d' busy unfinished left change place =
    step_by r f ws (runner r p s d) ws' (runner r p' s' d') refl busy unfinished left
    (ap (λ v. arrive v r.core (step_place (lone r ws p s d) r.core (own.List (own_mark r)) p)) change
    ∙ ap (λ q. arrive (lone r ws' p s' d') r.core q) place
    ∙ arrives r f ws' p s' d' p')

-- The collect of a finished core.
pub collect_by : (r : Run) → Runs r → (ws : List ℕ) (c : Core) → c.halted ≡ false → is_finished c.place ≡ true
    → perform (with_runner r ws c) (collects r.core) ≡ record { answer = Ok (answer_in c.place); world = with_runner r ws (collected c) }
collect_by r f ws c unhalted finished =
    let w : World = with_runner r ws c in
    let here : core_at w r.core ≡ c = runner_at r f ws c in
    perform_granted w (collects r.core) (collect_granted w r.core f.running f.there f.eight (ap (λ (x : Core). x.halted) here ∙ unhalted) (ap (λ (x : Core). is_finished x.place) here ∙ finished))
    ∙ ap (λ (v : World). record { answer = Ok (answer_in (core_at w r.core).place); world = v }) (runner_changed r f ws c collected)
    ∙ ap (λ (x : Core). record { answer = Ok (answer_in x.place); world = with_runner r ws (collected c) }) here
