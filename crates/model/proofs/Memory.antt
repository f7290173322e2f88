use Rattle.std.proofs.Common.{ℕ, ◌+◌, cond, eqb, List, get_or, None}
use Rattle.word.specs.declared.Mark.{Mark}
use Rattle.word.specs.declared.Word.{Word}
use Rattle.word.specs.Word.{reading_of}
use Rattle.entries.specs.declared.Entry.{Entry}
use Rattle.entries.specs.Lists.{entry_at}
use Rattle.descriptor.specs.declared.contents.Placing.{Placing}
use Rattle.cores.specs.declared.place.Place.{Place}
use Rattle.cores.specs.declared.place.Own.{Own}
use Rattle.model.specs.World.{World, core_at}
use Rattle.descriptor.specs.Contents.{entries_of, State}

-- The world as the proofs see it: what its words say and what its cores keep, as functions of the number. What a change leaves
-- untouched is then equal by computation.
pub record Memory : Type 0 where
  pub word : ℕ → Word
  -- the operation descriptors: last number taken, entries, state
  pub num : ℕ → ℕ
  pub ents : ℕ → List Entry
  pub state : ℕ → State
  -- the placing descriptors: last number taken, contents
  pub pnum : ℕ → ℕ
  pub pl : ℕ → Placing
  pub place : ℕ → Place
  pub own : ℕ → Own

abbrev pub view : World → Memory
view w =
    record { word = λ i. reading_of (get_or w.words i 0); num = λ k. (core_at w k).operation.last; ents = λ k. entries_of (core_at w k).operation.contents.list; state = λ k. (core_at w k).operation.contents.state; pnum = λ k. (core_at w k).placing.last; pl = λ k. (core_at w k).placing.contents; place = λ k. (core_at w k).place; own = λ k. (core_at w k).own }

-- entry j of the operation of T's core
abbrev pub entry : Memory → Mark → ℕ → Entry
entry w T j = entry_at (w.ents T.core) j

-- a function changed at one number
abbrev pub upd : {A : Type 0} → (ℕ → A) → ℕ → A → ℕ → A
upd f i a j = cond (eqb j i) a (f j)

-- core c goes to place p
abbrev pub move : Memory → ℕ → Place → Memory
move w c p = record { word = w.word; num = w.num; ents = w.ents; state = w.state; pnum = w.pnum; pl = w.pl; place = upd w.place c p; own = w.own }

-- word i becomes v
abbrev pub put : Memory → ℕ → Word → Memory
put w i v = record { word = upd w.word i v; num = w.num; ents = w.ents; state = w.state; pnum = w.pnum; pl = w.pl; place = w.place; own = w.own }

-- the operation of core c gets the state s
abbrev pub settled : Memory → ℕ → State → Memory
settled w c s = record { word = w.word; num = w.num; ents = w.ents; state = upd w.state c s; pnum = w.pnum; pl = w.pl; place = w.place; own = w.own }

-- core c creates its placing descriptor with contents d
abbrev pub fresh_pl : Memory → ℕ → Placing → Memory
fresh_pl w c d = record { word = w.word; num = w.num; ents = w.ents; state = w.state; pnum = upd w.pnum c (w.pnum c + 1); pl = upd w.pl c d; place = w.place; own = w.own }

-- core c creates its operation descriptor with these entries, and runs that
abbrev pub fresh_op : Memory → ℕ → List Entry → Own → Memory
fresh_op w c es o = record { word = w.word; num = upd w.num c (w.num c + 1); ents = upd w.ents c es; state = upd w.state c None; pnum = w.pnum; pl = w.pl; place = w.place; own = upd w.own c o }

-- core c runs nothing any more
abbrev pub disown : Memory → ℕ → Own → Memory
disown w c o = record { word = w.word; num = w.num; ents = w.ents; state = w.state; pnum = w.pnum; pl = w.pl; place = w.place; own = upd w.own c o }
