use Rattle.std.proofs.Common.{◌≡◌, ◌++◌, drop, List, ℕ}
use Rattle.text_bytes.specs.Steps.{grown}
use Rattle.text_bytes.proofs.underscores.Word.push.Given as goal

abbrev pub invariant-loop-byte : goal.invariant-loop-byte
invariant-loop-byte l = (left : List ℕ) → grown l.self (drop l.byte-index l.more ++ left) ≡ grown l.fn.self (l.more ++ left)
