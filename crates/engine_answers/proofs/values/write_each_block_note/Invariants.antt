use Rattle.std.proofs.Common.{◌≡◌, ◌++◌, map, take}
use Rattle.text_json.specs.Listed.{value_tokens}
use Rattle.engine_answers.specs.Members.{block_note_value}
use Rattle.engine_answers.proofs.values.write_each_block_note.Given as goal

abbrev pub invariant-loop-note : goal.invariant-loop-note
invariant-loop-note l = record {
  tokens : l.writer.tokens ≡ l.initial.writer.tokens ++ value_tokens (map block_note_value (take l.note-index l.notes));
  before : l.writer.before ≡ l.initial.writer.before;
}
