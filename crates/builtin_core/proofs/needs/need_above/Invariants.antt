use Rattle.std.proofs.Common.{◌≡◌, drop, flat_map, map}
use Rattle.text_tables.specs.Texts.{with_texts}
use Rattle.builtin_core.specs.Needs.{missing}
use Rattle.builtin_core.proofs.needs.need_above.Given as goal

abbrev pub invariant-loop-path : goal.invariant-loop-path
invariant-loop-path l =
    with_texts l.needs (flat_map (missing l.devices l.asker) (map (λ t. t.now) (drop l.path-index l.path-items)))
    ≡ with_texts l.initial.needs (flat_map (missing l.devices l.asker) (map (λ t. t.now) l.path-items))
