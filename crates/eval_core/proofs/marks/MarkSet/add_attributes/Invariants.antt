use Rattle.std.proofs.Common.{◌≡◌, fold, map}
use Rattle.eval_core.specs.Marks.{with_attribute}
use Rattle.eval_core.proofs.marks.MarkSet.add_attributes.Given as goal

abbrev pub invariant-loop-name : goal.invariant-loop-name
invariant-loop-name l = fold with_attribute l.self (map (λ e. (e.0.now, e.1.now)) l.name-iterator) ≡ fold with_attribute l.fn.self l.fn.attributes
