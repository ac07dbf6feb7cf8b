use Rattle.std.proofs.Common.{◌≡◌, drop, flat_map}
use Rattle.text_tables.specs.Texts.{with_texts}
use Rattle.builtin_path.specs.Path.{type_needs}
use Rattle.builtin_path.proofs.path.needs.Given as goal

abbrev pub invariant-loop-stop : goal.invariant-loop-stop
invariant-loop-stop l =
    with_texts l.needs (flat_map (λ s. s.needs) (drop l.stop-index l.stops)) ≡ with_texts (type_needs l.fn.members) (flat_map (λ s. s.needs) l.stops)
