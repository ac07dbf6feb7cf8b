use Rattle.std.proofs.Common.{Option, cond, not, ◌&&◌, is_none, ap, ◌∙◌}
use Rattle.std.specs.Option.{option_and_then}
use Rattle.device_core.specs.Values.{DeviceValue}
use Rattle.eval_state.specs.Chains.{device_at}
use Rattle.eval_state.specs.Named.{named}
use Rattle.eval_rendering.specs.Attributes.{attribute_by, is_elsewhere, is_unread_at, named_value, told_subject, udev_subject, udev_value, value_by, written_value}
use Rattle.eval_rendering.specs.Holding.{udev_unread}
use Rattle.eval_rendering.specs.Subjects.{tried}
use Rattle.eval_rendering.proofs.matching_laws.a_device_that_is_tried_is_selected.Goals as goal

pub returns : goal.returns
unfolding udev_subject
returns c = λ name state place device udev plain at.
    let event = state.event in
    let own = option_and_then (λ device. udev_value name (tried state place) device) (device_at event place) in
    ap (λ by. attribute_by by name event (device_at event place) (option_and_then (λ device. value_by by name (tried state place) device) (device_at event place))) udev
    ∙ ap (λ b. cond (b && (is_elsewhere event (named name) && is_none (written_value event name))) udev_unread (told_subject (not b && is_unread_at name event (device_at event place)) (cond b (named_value event (written_value event name) (named name)) own))) plain
    ∙ ap (λ (o : Option DeviceValue). told_subject (is_unread_at name event o) (option_and_then (λ device. udev_value name (tried state place) device) o)) at
