use Rattle.std.proofs.Common.{◌≡◌, drop, map}
use Rattle.text_tables.specs.Texts.{with_texts}
use Rattle.builtin_core.specs.Needs.{missing_to_usb}
use Rattle.builtin_core.proofs.needs.need_to_usb.Given as goal

abbrev pub invariant-loop-path : goal.invariant-loop-path
invariant-loop-path l =
    with_texts l.needs (missing_to_usb l.devices (map (λ t. t.now) (drop l.path-index l.paths)))
    ≡ with_texts l.initial.needs (missing_to_usb l.devices (map (λ t. t.now) l.paths))
