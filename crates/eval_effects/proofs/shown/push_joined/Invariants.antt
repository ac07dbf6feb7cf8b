use Rattle.std.proofs.Common.{◌≡◌, ◌++◌, codes, flat_map, take}
use Rattle.eval_effects.proofs.shown.push_joined.Given as goal

abbrev pub invariant-loop-next : goal.invariant-loop-next
invariant-loop-next l = l.text.items ≡ l.initial.text.items ++ flat_map (λ next. codes ", " ++ next) (take l.next-index l.more)
