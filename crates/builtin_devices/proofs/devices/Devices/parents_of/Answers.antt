use Rattle.std.proofs.Common.{◌++◌, ◌-◌, filter_map, map, option_copied, reverse, sym, ap, ◌∙◌, arith}
use Rattle.std.proofs.lemmas.List.{map_push}
use Rattle.std.specs.List.{range_with_len}
use Rattle.builtin_devices.specs.Devices.{device_before}
use Rattle.builtin_devices.proofs.Places.{place_some}
use Rattle.builtin_devices.proofs.devices.Devices.parents_of.Goals as goal

pub loop-place-preserved-in-Continue-branch-2 : goal.loop-place-preserved-in-Continue-branch-2
loop-place-preserved-in-Continue-branch-2 c =
    let found = device_before c.args.self.now c.args.path.now in
    let place = c.loop-place.place-counter in
    let parent = c.in-Some.device.now in
    let got = map (λ device. device.now) c.loop-place.parents.items in
    let below = reverse (range_with_len 0 (place - 1)) in
    ap (λ items. map (λ device. device.now) items ++ filter_map found below) c.in_ok-push.ensures.items
    ∙ ap (λ items. items ++ filter_map found below) (map_push (λ device. device.now) c.loop-place.parents.items parent)
    ∙ place_some found got place parent.now c.loop-place-test.true (sym (c.in_ok-above.ensures (place - 1) (omega arith)) ∙ ap option_copied (sym c.in-Some.ensures.value))
    ∙ c.loop-place.invariant
