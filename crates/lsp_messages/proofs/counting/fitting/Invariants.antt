use Rattle.std.proofs.Common.{◌≡◌, ◌+◌, drop}
use Rattle.lsp_messages.specs.Units.{fitting}
use Rattle.lsp_messages.proofs.counting.fitting.Given as goal

abbrev pub invariant-loop-at : goal.invariant-loop-at
invariant-loop-at l = l.at + fitting l.encoding l.left (drop l.at l.text) ≡ fitting l.encoding l.count l.text
