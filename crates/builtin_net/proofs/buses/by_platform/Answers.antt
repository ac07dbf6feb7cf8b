use Rattle.std.proofs.Common.{◌≡◌, ◌-◌, IfOk, Option, Some, codes, drop, length, option_map, refl, rules, subst, take}
use Rattle.text_bytes.specs.Names.{colon}
use Rattle.text_bytes.specs.Texts.{split_once}
use Rattle.text_bytes.specs.Text.{Text}
use Rattle.device_core.specs.Values.{EventValue}
use Rattle.builtin_net.specs.Buses.{by_platform, component, with_instance}
use Rattle.builtin_net.proofs.buses.by_platform.Goals as goal

by_parts : (event : EventValue) (name beginning instance vendor model : Text) → Some name ≡ component event (codes "platform") (codes "/devices/platform/")
    → Some (beginning, instance) ≡ split_once colon name → vendor ≡ take (length beginning - 4) beginning
    → model ≡ drop (length beginning - 4) beginning → with_instance vendor model instance ≡ by_platform event
unfolding by_platform
by_parts event name beginning instance vendor model h s v m = rw (← h) (rw (← s) (rw v (rw m refl)))

pub returns : goal.returns
returns c =
    let h : Some c.in-Some.name.now ≡ component c.args.devices.now (codes "platform") (codes "/devices/platform/") = search rules in
    let s : Some (c.in-Some-split_once.beginning.now, c.in-Some-split_once.instance.now) ≡ split_once colon c.in-Some.name.now = search rules in
    let v : c.split_at.result.0.now ≡ take (length c.in-Some-split_once.beginning.now - 4) c.in-Some-split_once.beginning.now = search rules in
    let m : c.split_at.result.1.now ≡ drop (length c.in-Some-split_once.beginning.now - 4) c.in-Some-split_once.beginning.now = search rules in
    let e : with_instance c.split_at.result.0.now c.split_at.result.1.now c.in-Some-split_once.instance.now ≡ by_platform c.args.devices.now =
    by_parts c.args.devices.now c.in-Some.name.now c.in-Some-split_once.beginning.now c.in-Some-split_once.instance.now c.split_at.result.0.now
    c.split_at.result.1.now h s v m in
    subst (λ (t : Option Text). IfOk c.with_instance.result (λ text. option_map (λ t. t.items) text ≡ t)) e c.with_instance.ensures
