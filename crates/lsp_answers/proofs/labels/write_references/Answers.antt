use Rattle.lsp_answers.specs.Labels.{references}
use Rattle.text_json.proofs.Listed.{array_written}
use Rattle.lsp_answers.proofs.labels.write_references.Goals as goal

pub returns-clause-tokens : goal.returns-clause-tokens
unfolding references
returns-clause-tokens c =
    rw (
      c.in_ok-end_array.ensures.ok,
      c.in_ok-write_locations.ensures.tokens,
      c.in_ok-begin_array.ensures.ok,
      c.deref-4.ensures.value,
      c.deref-3.ensures.value,
      c.in_ok-found.ensures,
      c.deref-2.ensures.value,
      c.in_ok-marks.ensures,
      c.deref.ensures.value,
      c.in_ok-rows.ensures,
    )
    (array_written _ _)
