use Rattle.std.proofs.Common.{◌≡◌, ◌++◌, flat_map, take}
use Rattle.engine_answers.specs.Lines.{block_note_line}
use Rattle.engine_answers.proofs.answers.push_each_block_note.Given as goal

abbrev pub invariant-loop-note : goal.invariant-loop-note
invariant-loop-note l = l.lines.items ≡ l.initial.lines.items ++ flat_map block_note_line (take l.note-index l.notes)
