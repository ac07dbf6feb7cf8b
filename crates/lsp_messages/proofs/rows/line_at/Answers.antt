use Rattle.std.proofs.Common.{nat_le, rules}
use Rattle.std.proofs.lemmas.List.Sorted.{IsPartitionPoint-from_clause, IsPartitionedBy-leb}
use Rattle.lsp_messages.proofs.Starting.{point_counts}
use Rattle.lsp_messages.proofs.rows.line_at.Goals as goal

pub returns : goal.returns
returns c =
    let point =
    IsPartitionPoint-from_clause (λ start. nat_le start c.args.offset) c.args.starts.now c.partition_point.result c.partition_point.ensures.partitioned
    (IsPartitionedBy-leb (λ start. start) c.args.starts.now c.args.offset c.requires) (λ a r q k. search rules) in
    point_counts (λ start. nat_le start c.args.offset) c.args.starts.now c.partition_point.result c.partition_point.ensures.bound point.0 point.1
