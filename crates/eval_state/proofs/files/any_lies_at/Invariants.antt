use Rattle.std.proofs.Common.{◌≡◌, map}
use Rattle.std.specs.List.{list_any}
use Rattle.text_tables.specs.Pairs.{names}
use Rattle.eval_state.specs.Files.{lies_at}
use Rattle.eval_state.proofs.files.any_lies_at.Given as goal

abbrev pub invariant-loop-name : goal.invariant-loop-name
invariant-loop-name l = list_any (lies_at l.path) (names (map (λ e. (e.0.now, e.1.now)) l.name-iterator)) ≡ list_any (lies_at l.fn.path) (names l.fn.pairs)
