use Rattle.std.proofs.Common.{◌++◌, ◌-◌, filter_map, map, reverse, sym, ap, ◌∙◌}
use Rattle.std.proofs.lemmas.List.{map_push}
use Rattle.std.specs.List.{range_with_len}
use Rattle.builtin_devices.proofs.Places.{place_some}
use Rattle.builtin_core.specs.Paths.{shown_before}
use Rattle.builtin_core.proofs.paths.shown_paths.Goals as goal

pub loop-place-preserved-in-Continue-1 : goal.loop-place-preserved-in-Continue-1
loop-place-preserved-in-Continue-1 c =
    let found = shown_before c.args.path.now in
    let place = c.loop-place.place in
    let got = map (λ t. t.now) c.loop-place.paths.items in
    let below = reverse (range_with_len 0 (place - 1)) in
    ap (λ items. map (λ t. t.now) items ++ filter_map found below) c.in_ok-push.ensures.items
    ∙ ap (λ items. items ++ filter_map found below) (map_push (λ t. t.now) c.loop-place.paths.items c.in-Some.own)
    ∙ place_some found got place c.in-Some.own.now c.loop-place-test.true (sym c.in-Some.ensures)
    ∙ c.loop-place.invariant
