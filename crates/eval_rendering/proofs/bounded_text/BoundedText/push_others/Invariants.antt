use Rattle.std.proofs.Common.{◌≡◌, ◌∷◌, [], drop, flat_map}
use Rattle.text_bytes.specs.Names.{space}
use Rattle.eval_rendering.specs.Bounds.{joined}
use Rattle.eval_rendering.proofs.bounded_text.BoundedText.push_others.Given as goal

abbrev pub invariant-loop-other : goal.invariant-loop-other
invariant-loop-other l = record {
  whole : joined l.self (flat_map (λ other. space ∷ other.items) (drop l.other-index l.others)) ≡ joined l.fn.self (flat_map (λ other. space ∷ other.items) l.others);
  fits : joined l.self [] ≡ l.self;
}
