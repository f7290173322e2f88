use Rattle.std.proofs.Common.{◌∷◌, vec_items, sym, ap, ◌∙◌}
use Rattle.std.specs.Slice.Iter.{iter_rest}
use Rattle.runfile.specs.Format.{a_read}
use Rattle.runfile.specs.Reading.{recorded}
use Rattle.report.proofs.Planned.{start_read, start_list}
use Rattle.report.proofs.plan.Left.start.Goals as goal

pub returns-in-Some-Read : goal.returns-in-Some-Read
returns-in-Some-Read c rs p =
    start_read (iter_rest c.args.self.now.records) (iter_rest c.next.new.self) (iter_rest c.args.self.now.lists) rs c.in-Some-Read.field-0.now c.args.core c.from.result c.in-Some-Read.ensures.steps
    (ap recorded c.in-Some-Read.field-0-is ∙ ap a_read (sym c.from.ensures)) p

pub returns-in-Some-List : goal.returns-in-Some-List
returns-in-Some-List c rs p =
    start_list (iter_rest c.args.self.now.records) (iter_rest c.next_list.new.self.records) (iter_rest c.args.self.now.lists) (iter_rest c.next_list.new.self.lists) rs c.in-Some-List.field-0.now c.args.core (vec_items c.in-Some-List.field-0-0)
    c.next_list.result (c.in-Some-List.ensures.steps ∙ ap (λ i. c.in-Some-List.field-0.now ∷ iter_rest i) (sym c.next_list.ensures.records)) (ap recorded c.in-Some-List.field-0-is) c.next_list.ensures.list p
