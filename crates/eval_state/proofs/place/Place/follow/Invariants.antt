use Rattle.std.proofs.Common.{◌≡◌, drop, fold, map}
use Rattle.eval_state.specs.Places.{gone, led}
use Rattle.eval_state.proofs.place.Place.follow.Given as goal

abbrev pub invariant-loop-part : goal.invariant-loop-part
invariant-loop-part l = fold gone l.self (map (λ t. t.now) (drop l.part-index l.part-items)) ≡ led l.fn.self l.fn.path
