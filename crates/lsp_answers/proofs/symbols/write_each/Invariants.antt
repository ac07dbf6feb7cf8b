use Rattle.std.proofs.Common.{◌≡◌, ◌++◌, map, take}
use Rattle.text_json.specs.Listed.{value_tokens}
use Rattle.lsp_answers.specs.Symbols.{symbol_value}
use Rattle.lsp_answers.proofs.symbols.write_each.Given as goal

abbrev pub invariant-loop-symbol : goal.invariant-loop-symbol
invariant-loop-symbol l = record {
  tokens : l.writer.tokens ≡ l.initial.writer.tokens ++ value_tokens (map (symbol_value l.encoding (map (λ r. r.now) l.rows)) (take l.symbol-index l.symbols));
  before : l.writer.before ≡ l.initial.writer.before;
}
