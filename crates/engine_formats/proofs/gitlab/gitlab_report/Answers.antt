use Rattle.std.proofs.Common.{map, append_assoc}
use Rattle.engine_formats.specs.Diagnostics.{shown}
use Rattle.engine_formats.specs.Fingerprints.{fingerprinted}
use Rattle.engine_formats.specs.Json.{gitlab_report}
use Rattle.engine_formats.proofs.Issues.{report_listed}
use Rattle.engine_formats.proofs.gitlab.gitlab_report.Goals as goal

pub returns : goal.returns
unfolding gitlab_report
returns c =
    rw (
      c.in_ok-push.ensures.items,
      c.into_inner-text.ensures.items,
      c.in_ok-end_array.ensures.room.0,
      c.in_ok-write_issues.ensures.before,
      c.in_ok-begin_array.ensures.room.0,
      c.new-writer.ensures.before,
      c.new.ensures.items,
      c.in_ok-end_array.ensures.ok,
      c.in_ok-write_issues.ensures.tokens,
      c.deref.ensures.value,
      c.in_ok-given.ensures,
      c.in_ok-begin_array.ensures.ok,
      c.new-writer.ensures.tokens,
      ← report_listed (fingerprinted (map shown c.args.diagnostics.now)),
    )
    (simp append_assoc)
