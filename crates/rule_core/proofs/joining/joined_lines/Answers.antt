use Rattle.std.proofs.Common.{◌∙◌, length}
use Rattle.rule_core.specs.Lines.{joined_lines, lines}
use Rattle.rule_core.proofs.Walking.{at_end, at_line, at_start}
use Rattle.rule_core.proofs.joining.joined_lines.Goals as goal

pub loop-line-init : goal.loop-line-init
loop-line-init c =
    at_start c.args.profile _ c.into_iter-line-iterator.result c.args.bytes.now (cc)
    (c.into_iter-line-iterator.ensures.into_iter_gives ∙ c.new-line-items.ensures)

pub loop-line-preserved-in-Continue-1 : goal.loop-line-preserved-in-Continue-1
loop-line-preserved-in-Continue-1 c =
    at_line c.args.profile (length (lines c.args.bytes.now)) c.loop-line.joining c.take.new.self c.in-Some.line c.with_text-line.result c.piece_of.result c.loop-line.line-iterator c.next.new.self (joined_lines c.args.profile c.args.bytes.now)
    c.loop-line.invariant c.in-Some.ensures.steps (cc) (cc) c.piece_of.ensures c.in_ok-take.ensures

pub returns : goal.returns
returns c =
    at_end c.args.profile (length (lines c.args.bytes.now)) c.loop-line.joining c.loop-line.line-iterator (joined_lines c.args.profile c.args.bytes.now) c.ended.result
    c.loop-line.invariant c.in-None.ensures.steps.0 c.ended.ensures
