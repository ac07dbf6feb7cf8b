use Rattle.std.proofs.Common.{◌∙◌, ap, drop, fold}
use Rattle.eval_core.specs.Marks.{none_set, with_device}
use Rattle.eval_core.proofs.marks.marks.Goals as goal

pub loop-parent-init : goal.loop-parent-init
loop-parent-init c =
    ap (λ found. fold with_device found (drop 0 c.parents-parent-items.result.now))
    (c.add_device.ensures ∙ ap (λ found. with_device found c.device.result.now) c.none-found.ensures ∙ ap (with_device none_set) c.device.ensures)
    ∙ ap (fold with_device (with_device none_set c.args.event.now.device)) c.parents-parent-items.ensures.value
