use Rattle.std.proofs.Common.{map}
use Rattle.device_core.specs.Notes.{block_notes}
use Rattle.text_json.proofs.Listed.{values_after}
use Rattle.engine_answers.specs.Members.{block_note_value, note_value}
use Rattle.engine_answers.proofs.values.write_notes.Goals as goal

pub returns-clause-tokens : goal.returns-clause-tokens
returns-clause-tokens c =
    rw (c.in_ok-write_rule_notes.ensures.tokens, c.in_ok-write_block_notes.ensures.tokens)
    (values_after c.args.writer.now.tokens (map block_note_value (block_notes c.args.event.now)) (map note_value c.args.notes.now))
