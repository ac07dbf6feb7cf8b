use Rattle.lsp_answers.specs.Diagnostics.{diagnostic_value}
use Rattle.lsp_answers.proofs.Written.{diagnostic_written}
use Rattle.lsp_answers.proofs.writing.write_diagnostic.Goals as goal

pub returns-clause-tokens : goal.returns-clause-tokens
unfolding diagnostic_value
returns-clause-tokens c =
    rw (
      c.in_ok-end_object.ensures.ok,
      c.in_ok-write_tag.ensures.tokens,
      c.in_ok-write_told-2.ensures.tokens,
      c.in_ok-write_word.ensures.tokens,
      c.in_ok-write_told.ensures.tokens,
      c.in_ok-write_number.ensures.tokens,
      c.in_ok-write_diagnostic_range.ensures.tokens,
      c.in_ok-key.ensures.ok,
      c.in_ok-begin_object.ensures.ok,
      c.deref.ensures.value,
      c.in_ok-said.ensures,
      c.code.ensures,
      c.severity_number.ensures,
      c.severity.ensures,
      c.tag_of.ensures,
    )
    (diagnostic_written _ _ _ _ _ _)
