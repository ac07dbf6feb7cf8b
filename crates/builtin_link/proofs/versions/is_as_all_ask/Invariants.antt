use Rattle.std.proofs.Common.{◌≡◌, drop}
use Rattle.builtin_link.specs.Versions.{is_as_all_ask}
use Rattle.builtin_link.proofs.versions.is_as_all_ask.Given as goal

abbrev pub invariant-loop-word : goal.invariant-loop-word
invariant-loop-word l = is_as_all_ask l.version (drop l.word-index l.words) ≡ is_as_all_ask l.version l.words
