use Rattle.std.proofs.Common.{append_assoc}
use Rattle.lsp_answers.specs.Symbols.{symbol_value}
use Rattle.lsp_answers.proofs.symbols.write_symbol.Goals as goal

pub returns-clause-tokens : goal.returns-clause-tokens
unfolding symbol_value
returns-clause-tokens c =
    rw (
      c.in_ok-end_object.ensures.ok,
      c.in_ok-write_row_range-2.ensures.tokens,
      c.in_ok-key-2.ensures.ok,
      c.in_ok-write_row_range.ensures.tokens,
      c.in_ok-key.ensures.ok,
      c.in_ok-write_number.ensures.tokens,
      c.in_ok-write_told.ensures.tokens,
      c.in_ok-begin_object.ensures.ok,
      c.symbol_number.ensures,
      c.as_slice.ensures,
      c.row_numbered-row.ensures,
    )
    (simp append_assoc)
