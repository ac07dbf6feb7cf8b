use Rattle.std.proofs.Common.{rules, ◌≡◌, [], sym, ◌∙◌}
use Rattle.engine_answers.proofs.Reporting.{same_compared}
use Rattle.engine_answers.proofs.compared.answer_of.Goals as goal

pub returns-then-eq : goal.returns-then-eq
returns-then-eq g c =
    let none : c.new-then-eq.result ≡ [] = search rules in
    let same : (g.A.Side.answers c.args.old.now c.args.event.now).0 ≡ (g.B.Side.answers c.args.new.now c.args.event.now).0 = search rules in
    none ∙ sym (same_compared c.args.json c.args.event.now (g.A.Side.answers c.args.old.now c.args.event.now) (g.B.Side.answers c.args.new.now c.args.event.now) same)
