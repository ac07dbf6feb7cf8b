use Rattle.std.proofs.Common.{ap, ◌∙◌}
use Rattle.text_bytes.specs.Numbers.{capped}
use Rattle.engine_checks.proofs.Walking.{left_after, line_more, lines_done, no_line}
use Rattle.engine_checks.proofs.ignores.ignores_among.Goals as goal

pub loop-line-init : goal.loop-line-init
loop-line-init c =
    no_line c.args.kind c.new-ignores.result.items c.args.starts.now c.args.bytes.now c.into_iter-line-iterator.result c.new-ignores.ensures.items
    (c.into_iter-line-iterator.ensures.into_iter_gives ∙ c.new-line-items.ensures)

pub loop-line-preserved : goal.loop-line-preserved
loop-line-preserved c =
    line_more c.args.kind _ c.loop-line.ignores.items c.push_line.new.ignores.items c.loop-line.rest.now c.after_line-rest.result.now c.in-Some.line c.loop-line.line-iterator c.next.new.self c.copied.result
    c.loop-line.invariant c.in-Some.ensures.steps (c.after_line-rest.ensures ∙ ap (left_after c.loop-line.rest.now) (c.capped.ensures ∙ ap capped c.number.ensures)) (c.copied.ensures ∙ c.first.ensures.value) c.in_ok-push_line.ensures

pub returns : goal.returns
returns c = lines_done c.args.kind _ c.loop-line.ignores.items c.loop-line.rest.now c.loop-line.line-iterator c.loop-line.invariant c.in-None.ensures.steps.0
