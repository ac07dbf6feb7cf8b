use Rattle.std.proofs.Common.{ap, ◌∙◌}
use Rattle.std.proofs.lemmas.Result.{IfOk-weaker}
use Rattle.eval_sources.specs.Sources.{source_of}
use Rattle.eval_sources.specs.Reported.{stages}
use Rattle.eval_unread.specs.Unread.{whole_outcome}
use Rattle.engine_answers.specs.Answers.{command_lines, lines_after, lines_with, source_part}
use Rattle.engine_answers.proofs.Sourced.{lines_are}
use Rattle.engine_answers.proofs.answers.lines_for.Goals as goal

pub returns : goal.returns
returns g c =
    let source = source_of (stages c.args.rules.now (g.K.Knowledge.known c.args.knowledge.now) c.args.event.now) in
    let runs = lines_after source_part (command_lines c.in_ok-found.found.commands.items) in
    let rest =
    lines_are _ _ runs c.args.event.now c.in_ok-found.found.outcome c.in_ok-found.ensures.sources
    ∙ ap (λ o. lines_with (λ item. source_part (source item)) runs c.args.event.now o) c.in_ok-found.ensures.outcome
    ∙ ap (λ commands. lines_with (λ item. source_part (source item)) (lines_after source_part (command_lines commands)) c.args.event.now (whole_outcome c.args.rules.now (g.K.Knowledge.known c.args.knowledge.now) c.args.event.now)) c.in_ok-found.ensures.commands in
    IfOk-weaker c.lines_of-said.result _ _ (λ lines e. e ∙ rest) c.lines_of-said.ensures
