use Rattle.std.proofs.Common.{◌≡◌, drop}
use Rattle.text_core.specs.Elements.{takes_among}
use Rattle.text_core.proofs.elements.takes_among.Given as goal

abbrev pub invariant-loop-element : goal.invariant-loop-element
invariant-loop-element l = takes_among l.reading l.negated (drop l.element-index l.elements) l.byte ≡ takes_among l.reading l.negated l.elements l.byte
