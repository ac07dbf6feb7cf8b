use Rattle.std.proofs.Common.{codes}
use Rattle.text_json.proofs.Listed.{array_after}
use Rattle.engine_answers.specs.Members.{note_values}
use Rattle.engine_answers.proofs.json_answers.write_note_member.Goals as goal

pub returns-clause-tokens : goal.returns-clause-tokens
returns-clause-tokens c =
    rw (
      c.in_ok-end_array.ensures.ok,
      c.in_ok-write_notes.ensures.tokens,
      c.in_ok-begin_array.ensures.ok,
      c.in_ok-key.ensures.ok,
    )
    (array_after c.args.writer.now.tokens (codes "notes") (note_values c.args.event.now c.args.notes.now))
