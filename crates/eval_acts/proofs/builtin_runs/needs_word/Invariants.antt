use Rattle.std.proofs.Common.{◌≡◌, ◌++◌, drop, map}
use Rattle.eval_acts.specs.BuiltinRuns.{further_needs, needs_word}
use Rattle.eval_acts.proofs.builtin_runs.needs_word.Given as goal

abbrev pub invariant-loop-need : goal.invariant-loop-need
invariant-loop-need l =
    l.word.items ++ further_needs (map (λ need. need.items) (drop l.need-index l.further)) ≡ needs_word l.fn.name l.fn.first (map (λ need. need.items) l.fn.further)
