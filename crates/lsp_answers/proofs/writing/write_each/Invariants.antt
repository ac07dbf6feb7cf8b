use Rattle.std.proofs.Common.{◌≡◌, ◌++◌, map, take}
use Rattle.text_json.specs.Listed.{value_tokens}
use Rattle.engine_formats.specs.Diagnostics.{shown}
use Rattle.lsp_answers.specs.Diagnostics.{diagnostic_value}
use Rattle.lsp_answers.proofs.writing.write_each.Given as goal

abbrev pub invariant-loop-diagnostic : goal.invariant-loop-diagnostic
invariant-loop-diagnostic l = record {
  tokens : l.writer.tokens ≡ l.initial.writer.tokens ++ value_tokens (map (diagnostic_value l.encoding) (map shown (take l.diagnostic-index l.diagnostics)));
  before : l.writer.before ≡ l.initial.writer.before;
}
