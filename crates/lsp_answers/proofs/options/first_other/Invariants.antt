use Rattle.std.proofs.Common.{◌≡◌, drop, map}
use Rattle.lsp_answers.specs.Options.{first_other}
use Rattle.lsp_answers.proofs.options.first_other.Given as goal

abbrev pub invariant-loop-word : goal.invariant-loop-word
invariant-loop-word l = first_other (map (λ w. w.now) (drop l.word-index l.words)) ≡ first_other (map (λ w. w.now) l.words)
