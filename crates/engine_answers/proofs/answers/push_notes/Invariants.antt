use Rattle.std.proofs.Common.{◌≡◌, ◌++◌, take}
use Rattle.engine_answers.specs.Lines.{note_lines}
use Rattle.engine_answers.proofs.answers.push_notes.Given as goal

abbrev pub invariant-loop-note : goal.invariant-loop-note
invariant-loop-note l = l.lines.items ≡ l.initial.lines.items ++ note_lines (take l.note-index l.note-items)
