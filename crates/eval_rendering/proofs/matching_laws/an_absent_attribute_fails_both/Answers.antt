use Rattle.std.proofs.Common.{◌≡◌, Bool, true, false, Option, Some, None, cond, not, ◌&&◌, is_none, refl, ap, ◌∙◌}
use Rattle.text_bytes.specs.Text.{Text}
use Rattle.rule_types.specs.declared.part.Comparison.{Comparison}
use Rattle.eval_state.specs.Named.{named}
use Rattle.eval_rendering.specs.Attributes.{attribute_by, is_elsewhere, is_unread_at, named_value, told_subject, udev_subject, udev_value, value_by, written_value}
use Rattle.eval_rendering.specs.Holding.{holds, udev_unread}
use Rattle.eval_rendering.proofs.matching_laws.an_absent_attribute_fails_both.Goals as goal

fails : (wanted : Comparison) (untold : Bool) → holds (told_subject untold None) wanted ≡ false
unfolding holds
fails wanted true = refl
fails wanted false = refl

pub returns : goal.returns
unfolding udev_subject
returns c = λ name state wanted udev plain none.
    let event = state.event in
    let own = udev_value name state event.device in
    let untold = is_unread_at name event (Some event.device) in
    ap (λ by. holds (attribute_by by name event (Some event.device) (value_by by name state event.device)) wanted) udev
    ∙ ap (λ b. holds (cond (b && (is_elsewhere event (named name) && is_none (written_value event name))) udev_unread (told_subject (not b && untold) (cond b (named_value event (written_value event name) (named name)) own))) wanted) plain
    ∙ ap (λ (o : Option Text). holds (told_subject untold o) wanted) none
    ∙ fails wanted untold
