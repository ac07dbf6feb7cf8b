use Rattle.std.proofs.Common.{◌≡◌, ◌≤◌, true, length}
use Rattle.text_core.specs.Brackets.{elements_at}
use Rattle.text_core.specs.Elements.{symbol_len}
use Rattle.text_core.proofs.Closing.{with_elements}
use Rattle.text_core.proofs.Tables.{Reports}
use Rattle.text_core.proofs.brackets.read_to_end.Given as goal

abbrev pub invariant-loop-byte : goal.invariant-loop-byte
invariant-loop-byte l = record {
  read : with_elements l.elements.items (elements_at l.reading l.is_first l.rest 0) ≡ elements_at l.reading true l.text 0;
  rest : length l.rest ≤ length l.text;
  symbols : Reports symbol_len l.lens l.rest;
}

abbrev pub decreases-loop-byte : goal.decreases-loop-byte
decreases-loop-byte l = length l.rest
