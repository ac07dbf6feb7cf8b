use Rattle.std.proofs.Common.{◌≡◌, map}
use Rattle.std.specs.List.{list_any}
use Rattle.text_tables.specs.Pairs.{names}
use Rattle.eval_rendering.specs.Behind.{lies_in}
use Rattle.eval_rendering.proofs.behind.any_lies_in.Given as goal

abbrev pub invariant-loop-name : goal.invariant-loop-name
invariant-loop-name l =
    list_any (lies_in l.folder) (names (map (λ e. (e.0.now, e.1.now)) l.name-iterator)) ≡ list_any (lies_in l.folder) (names l.pairs)
