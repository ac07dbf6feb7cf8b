use Rattle.std.proofs.Common.{◌++◌, ◌∙◌, ap, sym}
use Rattle.builtin_path.proofs.Skipping.{one_more}
use Rattle.builtin_path.specs.Way.{stops_from}
use Rattle.builtin_path.proofs.way.stops_from.Goals as goal

pub loop-member-preserved : goal.loop-member-preserved
loop-member-preserved c =
    one_more c.args.devices.now c.loop-member.is_begun c.is_begun_above-is_begun.result c.in-Some.member.now c.in-Some.above.now c.following-left.result.now
    c.loop-member.stops.items c.push.new.self.items c.in_ok-here.here c.in_ok-here.ensures c.is_begun_above-is_begun.ensures c.following-left.ensures
    c.in_ok-push.ensures.items
    ∙ ap (λ xs. c.loop-member.stops.items ++ stops_from c.args.devices.now c.loop-member.is_begun 0 xs) (sym c.in-Some.ensures.cases.0)
    ∙ c.loop-member.invariant
