use Rattle.std.proofs.Common.{append_assoc, map}
use Rattle.engine_formats.specs.Fingerprints.{shown_given}
use Rattle.engine_formats.proofs.Issues.{results_listed}
use Rattle.engine_formats.proofs.sarif.write_results.Goals as goal

pub returns-clause-tokens : goal.returns-clause-tokens
returns-clause-tokens c =
    rw (
      c.in_ok-end_array.ensures.ok,
      c.in_ok-write_each_result.ensures.tokens,
      c.in_ok-begin_array.ensures.ok,
      ← results_listed (map shown_given c.args.given.now),
    )
    (simp append_assoc)
