use Rattle.lsp_answers.specs.Symbols.{symbols}
use Rattle.text_json.proofs.Listed.{array_written}
use Rattle.lsp_answers.proofs.symbols.write_symbols.Goals as goal

pub returns-clause-tokens : goal.returns-clause-tokens
unfolding symbols
returns-clause-tokens c =
    rw (
      c.in_ok-end_array.ensures.ok,
      c.in_ok-write_each.ensures.tokens,
      c.in_ok-begin_array.ensures.ok,
      c.deref-3.ensures.value,
      c.deref-2.ensures.value,
      c.in_ok-symbols.ensures,
      c.kind_of.ensures,
      c.as_bytes.ensures.value,
      c.deref.ensures.value,
      c.in_ok-rows.ensures,
    )
    (array_written _ _)
