use Rattle.engine_formats.specs.Sarif.{sarif_log}
use Rattle.engine_formats.proofs.sarif.sarif_log.Goals as goal

pub returns : goal.returns
unfolding sarif_log
returns c =
    rw (
      c.in_ok-push.ensures.items,
      c.into_inner-text.ensures.items,
      c.in_ok-write_log.ensures.before,
      c.new-writer.ensures.before,
      c.new.ensures.items,
      c.in_ok-write_log.ensures.tokens,
      c.new-writer.ensures.tokens,
      c.deref.ensures.value,
      c.in_ok-given.ensures,
    )
