use Rattle.std.proofs.Common.{◌≡◌, ◌++◌, map, take}
use Rattle.text_json.specs.Listed.{value_tokens}
use Rattle.lsp_answers.specs.Labels.{location_value}
use Rattle.lsp_answers.proofs.labels.write_locations.Given as goal

abbrev pub invariant-loop-mark : goal.invariant-loop-mark
invariant-loop-mark l = record {
  tokens : l.writer.tokens ≡ l.initial.writer.tokens
      ++ value_tokens (map (location_value l.encoding l.uri (map (λ r. r.now) l.rows)) (map (λ m. m.now) (take l.mark-index l.marks)));
  before : l.writer.before ≡ l.initial.writer.before;
}
