use Rattle.std.proofs.Common.{◌≡◌, drop, map}
use Rattle.std.specs.List.{filter_map}
use Rattle.eval_state.specs.Properties.{properties_set}
use Rattle.eval_acts.specs.Printed.{line_property}
use Rattle.eval_acts.proofs.printed.set_lines.Given as goal

abbrev pub invariant-loop-line : goal.invariant-loop-line
invariant-loop-line l = properties_set l.env (filter_map line_property (map (λ t. t.now) (drop l.line-index l.lines))) ≡ properties_set l.fn.env (filter_map line_property (map (λ t. t.now) l.fn.lines))
