use Rattle.std.proofs.Common.{length}
use Rattle.std.proofs.lemmas.Result.{err_from_is_err_and}
use Rattle.std.proofs.lemmas.Iterator.Adapters.{YieldsList-from_vec}
use Rattle.std.proofs.lemmas.Iterator.Consumers.{YieldsList-turn, YieldsList-so_far}
use Rattle.rule_core.specs.Rules.{line_rules}
use Rattle.rule_core.proofs.Adding.{all_yielded, returned, turn_failed}
use Rattle.rule_core.proofs.reading.add_lines.Goals as goal

pub returns-in_err-add_line-clause-rules : goal.returns-in_err-add_line-clause-rules
returns-in_err-add_line-clause-rules c =
    let p = err_from_is_err_and c.from_residual.result c.from_residual.ensures.1 in
    let road = YieldsList-from_vec {s = c.into_iter-line-iterator.result} c.args.lines.items (cc) (cc) in
    let turn = YieldsList-turn road c.loop-line.yielded c.loop-line.line-iterator c.loop-line.yielded_by c.next.result c.next.new.self c.in-Some.line c.in-Some.is c.next.ensures.steps in
    returned c.args.rules.now c.add_line.new.rules _ c.from_residual.result p.0 c.in_err-add_line.field-0.0 p.1 p.2
    (turn_failed (λ x. line_rules c.args.profile c.args.name.now x.0.line x.0.read x.1) c.args.rules.now c.loop-line.rules c.args.lines.items (length c.loop-line.yielded) c.in-Some.line c.in_err-add_line.field-0.0
    turn.0 turn.1 (all_yielded _ c.args.rules.now c.loop-line.rules c.loop-line.yielded _ c.loop-line.invariant.rules (YieldsList-so_far road c.loop-line.yielded c.loop-line.line-iterator c.loop-line.yielded_by)) c.in_err-add_line.ensures.rules)
