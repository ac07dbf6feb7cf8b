use Rattle.std.proofs.Common.{◌≡◌, ◌∷◌, [], drop, flat_map}
use Rattle.text_bytes.specs.Names.{space}
use Rattle.eval_rendering.specs.Lengthened.{lengthened}
use Rattle.eval_rendering.proofs.short_name.ShortName.push_others.Given as goal

abbrev pub invariant-loop-other : goal.invariant-loop-other
invariant-loop-other l = record {
  whole : lengthened l.self (flat_map (λ other. space ∷ other.items) (drop l.other-index l.others)) ≡ lengthened l.fn.self (flat_map (λ other. space ∷ other.items) l.others);
  fits : lengthened l.self [] ≡ l.self;
}
