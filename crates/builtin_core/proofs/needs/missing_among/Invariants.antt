use Rattle.std.proofs.Common.{◌≡◌, drop, flat_map}
use Rattle.text_tables.specs.Texts.{with_texts}
use Rattle.builtin_core.specs.Needs.{missing_above}
use Rattle.builtin_core.proofs.needs.missing_among.Given as goal

abbrev pub invariant-loop-other : goal.invariant-loop-other
invariant-loop-other l =
    with_texts l.needs (flat_map (λ device. missing_above l.devices l.asker device.path) (drop l.other-index l.other-items))
    ≡ with_texts l.initial.needs (flat_map (λ device. missing_above l.devices l.asker device.path) l.other-items)
