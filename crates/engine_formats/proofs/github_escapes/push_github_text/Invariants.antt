use Rattle.std.proofs.Common.{◌≡◌, ◌++◌, take}
use Rattle.engine_formats.specs.Github.{github_text}
use Rattle.engine_formats.proofs.github_escapes.push_github_text.Given as goal

abbrev pub invariant-loop-byte : goal.invariant-loop-byte
invariant-loop-byte l = l.text.items ≡ l.initial.text.items ++ github_text (take l.byte-index l.said)
