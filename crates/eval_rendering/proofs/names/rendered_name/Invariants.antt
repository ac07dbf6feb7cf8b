use Rattle.std.proofs.Common.{◌≡◌, [], length}
use Rattle.eval_rendering.specs.Lengthened.{lengthened}
use Rattle.eval_rendering.specs.Bounds.{short}
use Rattle.eval_rendering.specs.Names.{name_text}
use Rattle.eval_rendering.proofs.names.rendered_name.Given as goal

abbrev pub invariant-loop-byte : goal.invariant-loop-byte
invariant-loop-byte l = record {
  whole : lengthened l.text (name_text l.rest (record l.state { selected = l.selected })) ≡ short (name_text l.name (record l.state { selected = l.selected }));
  fits : lengthened l.text [] ≡ l.text;
}

abbrev pub decreases-loop-byte : goal.decreases-loop-byte
decreases-loop-byte l = length l.rest
