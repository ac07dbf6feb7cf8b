use Rattle.std.proofs.Common.{map, sym, ◌∙◌}
use Rattle.engine_courses.proofs.Silent.{none_asked, stays}
use Rattle.engine_courses.proofs.answers.push_why_lines.Goals as goal

pub returns-then-is_empty : goal.returns-then-is_empty
returns-then-is_empty g c =
    stays c.args.lines.now.items (map (λ t. t.now) c.args.why.now) c.args.rules.now.messages c.args.rules.now.rules
    (g.K.Knowledge.known c.args.knowledge.now) c.args.event.now (none_asked c.args.why.now (sym c.is_empty.ensures ∙ c.if-is_empty.true))
