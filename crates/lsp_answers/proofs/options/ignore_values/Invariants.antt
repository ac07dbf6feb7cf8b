use Rattle.std.proofs.Common.{◌≡◌, ◌++◌, drop, map}
use Rattle.lsp_answers.specs.Options.{ignore_values}
use Rattle.lsp_answers.proofs.options.ignore_values.Given as goal

abbrev pub invariant-loop-word : goal.invariant-loop-word
invariant-loop-word l =
    map (λ v. v.now) l.values.items ++ ignore_values (map (λ w. w.now) (drop l.word-index l.words)) ≡ ignore_values (map (λ w. w.now) l.words)
