use Rattle.std.proofs.Common.{◌≡◌, drop}
use Rattle.builtin_link.specs.Globs.{are_true_of}
use Rattle.builtin_link.proofs.globs.are_true_of.Given as goal

abbrev pub invariant-loop-word : goal.invariant-loop-word
invariant-loop-word l =
    are_true_of l.env (drop l.word-index l.words) ≡ are_true_of l.env l.words
