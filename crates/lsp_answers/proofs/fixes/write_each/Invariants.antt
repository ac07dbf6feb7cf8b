use Rattle.std.proofs.Common.{◌≡◌, ◌++◌, flat_map, map, take}
use Rattle.text_json.specs.Listed.{value_tokens}
use Rattle.engine_formats.specs.Diagnostics.{shown}
use Rattle.lsp_answers.specs.Fixes.{fixes_of}
use Rattle.lsp_answers.proofs.fixes.write_each.Given as goal

abbrev pub invariant-loop-diagnostic : goal.invariant-loop-diagnostic
invariant-loop-diagnostic l = record {
  tokens : l.writer.tokens ≡ l.initial.writer.tokens
      ++ value_tokens (flat_map (fixes_of l.encoding l.uri l.first l.last) (map shown (take l.diagnostic-index l.diagnostics)));
  before : l.writer.before ≡ l.initial.writer.before;
}
