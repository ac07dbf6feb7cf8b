use Rattle.text_json.proofs.Listed.{array_written}
use Rattle.lsp_answers.proofs.writing.write_diagnostics.Goals as goal

pub returns-clause-tokens : goal.returns-clause-tokens
returns-clause-tokens c =
    rw (c.in_ok-end_array.ensures.ok, c.in_ok-write_each.ensures.tokens, c.in_ok-begin_array.ensures.ok) (array_written _ _)
