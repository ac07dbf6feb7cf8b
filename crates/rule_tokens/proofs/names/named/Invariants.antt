use Rattle.std.proofs.Common.{◌≡◌, map, drop}
use Rattle.rule_tokens.specs.Names.{named}
use Rattle.rule_tokens.proofs.names.named.Given as goal

abbrev pub invariant-loop-row : goal.invariant-loop-row
invariant-loop-row l = named (map (λ row. (row.0.now, row.1)) (drop l.row-index l.rows)) l.text ≡ named (map (λ row. (row.0.now, row.1)) l.rows) l.text
