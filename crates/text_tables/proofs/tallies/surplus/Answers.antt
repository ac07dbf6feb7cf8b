use Rattle.std.proofs.Common.{map, ap, ◌∙◌}
use Rattle.text_tables.specs.Surplus.{ShownLine, line_of}
use Rattle.text_tables.proofs.Tallying.{advance_start, advance_item, advance_out, passed_line, reported_line}
use Rattle.text_tables.proofs.tallies.surplus.Goals.{then-not-branch+in_ok-push, else-not-branch}
use Rattle.text_tables.proofs.tallies.surplus.Goals as goal

pub loop-line-init : goal.loop-line-init
loop-line-init c =
    advance_start line_of c.in_ok-tally.tally _ (map {B = ShownLine} (λ p. (p.0.now, p.1.now)) c.args.lines.now) (map (λ p. p.0.now) c.args.others.now) (ap (map {B = ShownLine} (λ p. (p.0.now, p.1.now))) c.new-more.ensures.items) c.in_ok-tally.ensures

pub loop-line-preserved : goal.loop-line-preserved
loop-line-preserved c =
    advance_item {A = ShownLine} (λ p. (p.0.now, p.1.now)) line_of c.loop-line.tally c.take_one.new.tally _ _ _ _ c.args.lines.now c.loop-line.line-index _ c.in_ok-take_one.field-0 c.loop-line.invariant c.loop-line-test.true c.in_ok-take_one.ensures.there c.in_ok-take_one.ensures.left
    (elim c.if-not-branch.branch [
      | then-not-branch+in_ok-push w ↦ reported_line {A = ShownLine} (λ p. (p.0.now, p.1.now)) c.loop-line.more.items _ _ c.in_ok-take_one.field-0 (cc) (ap (λ v. v.items) w.more-is ∙ w.in_ok-push.ensures.items)
      | else-not-branch w ↦ passed_line {A = ShownLine} (λ p. (p.0.now, p.1.now)) c.loop-line.more.items _ _ c.in_ok-take_one.field-0 (cc) (ap (λ v. v.items) w.more-is)
    ])

pub returns : goal.returns
returns c = advance_out {A = ShownLine} (λ p. (p.0.now, p.1.now)) line_of c.loop-line.tally _ _ _ c.args.lines.now c.loop-line.line-index c.loop-line-test.false c.loop-line.invariant
