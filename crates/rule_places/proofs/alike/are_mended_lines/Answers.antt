use Rattle.std.proofs.Common.{◌∙◌, sym}
use Rattle.rule_places.specs.Alike.{is_mended_line}
use Rattle.rule_places.proofs.Firsts.{others_alike}
use Rattle.rule_places.proofs.alike.are_mended_lines.Goals as goal

pub loop-line-preserved-else-not-branch : goal.loop-line-preserved-else-not-branch
loop-line-preserved-else-not-branch c =
    others_alike is_mended_line c.loop-line.rest c.loop-line.own c.others-rest.result c.others-own.result c.in-Some.line c.in_ok-is_first_mended.field-0 _
    (sym c.in_ok-line.ensures ∙ c.in-Some.is) c.in_ok-is_first_mended.ensures (cc) c.others-rest.ensures c.others-own.ensures c.loop-line.invariant
