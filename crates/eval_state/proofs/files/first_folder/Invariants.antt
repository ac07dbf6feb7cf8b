use Rattle.std.proofs.Common.{◌≡◌, map}
use Rattle.text_tables.specs.Pairs.{names}
use Rattle.eval_state.specs.Files.{first_folder}
use Rattle.eval_state.proofs.files.first_folder.Given as goal

abbrev pub invariant-loop-name : goal.invariant-loop-name
invariant-loop-name l = first_folder l.prefix l.rest (names (map (λ e. (e.0.now, e.1.now)) l.name-iterator)) ≡ first_folder l.fn.prefix l.fn.rest (names l.fn.pairs)
