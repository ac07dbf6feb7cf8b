use Rattle.std.proofs.Common.{append_assoc}
use Rattle.engine_answers.specs.Members.{note_value}
use Rattle.engine_answers.proofs.values.write_note.Goals as goal

pub returns-clause-tokens : goal.returns-clause-tokens
unfolding note_value
returns-clause-tokens c =
    rw (
      c.in_ok-end_object.ensures.ok,
      c.in_ok-write_told-3.ensures.tokens,
      c.in_ok-write_told-2.ensures.tokens,
      c.in_ok-write_number.ensures.tokens,
      c.in_ok-write_told.ensures.tokens,
      c.in_ok-begin_object.ensures.ok,
      c.as_slice-2.ensures,
      c.text.ensures,
      c.as_slice.ensures,
    )
    (simp append_assoc)
