use Rattle.std.proofs.Common.{◌≡◌, ◌++◌, map, take}
use Rattle.text_json.specs.Listed.{value_tokens}
use Rattle.engine_answers.specs.Members.{note_value}
use Rattle.engine_answers.proofs.values.write_rule_notes.Given as goal

abbrev pub invariant-loop-note : goal.invariant-loop-note
invariant-loop-note l = record {
  tokens : l.writer.tokens ≡ l.initial.writer.tokens ++ value_tokens (map note_value (take l.note-index l.note-items));
  before : l.writer.before ≡ l.initial.writer.before;
}
