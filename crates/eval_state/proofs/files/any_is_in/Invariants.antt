use Rattle.std.proofs.Common.{◌≡◌, map}
use Rattle.std.specs.List.{list_any}
use Rattle.text_tables.specs.Pairs.{names}
use Rattle.eval_state.specs.Files.{is_in}
use Rattle.eval_state.proofs.files.any_is_in.Given as goal

abbrev pub invariant-loop-name : goal.invariant-loop-name
invariant-loop-name l = list_any (is_in l.star l.folder) (names (map (λ e. (e.0.now, e.1.now)) l.name-iterator)) ≡ list_any (is_in l.fn.star l.fn.folder) (names l.fn.pairs)
