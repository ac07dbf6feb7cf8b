use Rattle.std.proofs.Common.{◌++◌, append_assoc, append-nil, map, take, ap, sym, ◌∙◌}
use Rattle.std.proofs.lemmas.List.{take_all}
use Rattle.engine_courses.specs.Inner.{line_at}
use Rattle.engine_courses.specs.Unused.{lines_by}
use Rattle.engine_courses.proofs.Noting.{more_lines}
use Rattle.engine_courses.proofs.unused.lines.push_lines.Goals as goal

pub loop-place-init : goal.loop-place-init
unfolding lines_by
loop-place-init c = sym (append-nil c.args.text.now.items)

pub loop-place-preserved : goal.loop-place-preserved
loop-place-preserved c =
    let names = map (λ n. n.now) c.args.names.now in
    let place = c.loop-place.place in
    c.in_ok-push_line_at.ensures
    ∙ ap (λ t. t ++ line_at names c.args.rules.now c.args.rows.now place) c.loop-place.invariant
    ∙ append_assoc c.args.text.now.items (lines_by names (take place c.args.rules.now) c.args.rows.now) (line_at names c.args.rules.now c.args.rows.now place)
    ∙ ap (λ t. c.args.text.now.items ++ t) (sym (more_lines names c.args.rules.now c.args.rows.now place c.loop-place-test.true))

pub returns : goal.returns
returns c =
    let names = map (λ n. n.now) c.args.names.now in
    c.loop-place.invariant ∙ ap (λ rules. c.args.text.now.items ++ lines_by names rules c.args.rows.now) (take_all c.loop-place.place c.args.rules.now c.loop-place-test.false)
