use Rattle.std.proofs.Common.{append_assoc}
use Rattle.engine_formats.proofs.Issues.{rules_listed}
use Rattle.engine_formats.proofs.sarif.write_rules.Goals as goal

pub returns-clause-tokens : goal.returns-clause-tokens
returns-clause-tokens c =
    rw (
      c.in_ok-end_array.ensures.ok,
      c.in_ok-write_each_rule.ensures.tokens,
      c.in_ok-begin_array.ensures.ok,
      ← rules_listed c.args.remarks.now,
    )
    (simp append_assoc)
