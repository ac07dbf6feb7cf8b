use Rattle.std.proofs.Common.{◌≡◌, map, take}
use Rattle.lsp_answers.proofs.options.held.Given as goal

abbrev pub invariant-loop-code : goal.invariant-loop-code
invariant-loop-code l = l.held.items ≡ map (λ c. c.now) (take l.code-index l.codes)
