use Rattle.std.proofs.Common.{length, take, vec_items, ap, ◌∙◌, arith, length-take-le, rules}
use Rattle.machine.specs.declared.run.Request.{Request}
use Rattle.machine.specs.Runs.{asked}
use Rattle.machine.specs.View.{view}
use Rattle.machine.proofs.Asked.{asked_none, asked_more, asked_all, length-answers_to}
use Rattle.machine.proofs.run.ask_all.Goals as goal

pub loop-request-init : goal.loop-request-init
loop-request-init g c = record { asked = asked_none (view g.B.Bank.words c.args.machine.now) c.args.requests.now (vec_items c.args.answers.now) c.requires.none; room = c.requires.room }

pub unwrap-requires : goal.unwrap-requires
unwrap-requires g c =
    let answered = ap length c.loop-request.invariant.asked.0 ∙ length-answers_to _ (take c.loop-request.request-index c.args.requests.now) in
    let few = length-take-le c.loop-request.request-index c.args.requests.now in
    let room = c.loop-request.invariant.room in
    c.push.ensures.succeeds (omega arith)

pub loop-request-preserved : goal.loop-request-preserved
loop-request-preserved g c =
    let grown = c.push.ensures.capacity in
    let room = c.loop-request.invariant.room in
    let v = view g.B.Bank.words c.loop-request.machine in
    record {
      asked = asked_more (view g.B.Bank.words c.args.machine.now) v (view g.B.Bank.words c.ask.new.machine) c.args.requests.now (vec_items c.loop-request.answers) (vec_items c.push.new.self) c.loop-request.request-index c.request-item.result c.ask.result
          c.loop-request.invariant.asked c.loop-request-test.true (c.ask.ensures.answer ∙ ap (λ (q : Request). (asked v q).answer) c.request-item.is) (c.ask.ensures.after ∙ ap (λ (q : Request). (asked v q).world) c.request-item.is) (search rules);
      room = omega arith;
    }

pub returns : goal.returns
returns g c =
    let r = asked_all (view g.B.Bank.words c.args.machine.now) (view g.B.Bank.words c.loop-request.machine) c.args.requests.now (vec_items c.loop-request.answers) c.loop-request.request-index c.loop-request.invariant.asked c.loop-request-test.false in
    record { answers = r.0; after = r.1 }
