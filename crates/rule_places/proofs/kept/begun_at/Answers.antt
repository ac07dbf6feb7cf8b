use Rattle.std.proofs.Common.{Bool, rules, of_calls, nat_le, sym}
use Rattle.std.proofs.lemmas.Fn.{always_returns_same}
use Rattle.std.proofs.lemmas.List.Sorted.{IsPartitionedBy-leb}
use Rattle.rule_places.specs.declared.kept.KeptLine.{KeptLine}
use Rattle.rule_places.proofs.Finding.{point_is}
use Rattle.rule_places.proofs.kept.begun_at.Goals as goal

pub returns : goal.returns
returns c =
    let begun : KeptLine → Bool = λ l. nat_le l.start c.args.at in
    let point = c.partition_point.ensures.partitioned begun (always_returns_same _ _ _ (λ a r f k. search (rules, of_calls))) (IsPartitionedBy-leb (λ l. l.start) c.args.lines.now c.args.at c.requires) in
    sym (point_is begun c.args.lines.now c.partition_point.result c.partition_point.ensures.bound point)
