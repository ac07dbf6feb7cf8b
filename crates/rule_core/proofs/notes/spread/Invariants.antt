use Rattle.std.proofs.Common.{◌≡◌, ◌++◌, drop}
use Rattle.rule_core.specs.Notes.{spread}
use Rattle.rule_core.proofs.notes.spread.Given as goal

abbrev pub invariant-loop-has_names : goal.invariant-loop-has_names
invariant-loop-has_names l = l.landings.items ++ spread (drop l.has_names-index l.named) l.rest ≡ spread l.named l.given
