use Rattle.std.proofs.Common.{Bool, true, false, cond, not, ◌&&◌, is_none, Option, Some, None, ap, ◌∙◌, ◌≡◌, refl}
use Rattle.text_bytes.specs.Names.{open_bracket}
use Rattle.text_bytes.specs.Texts.{begins_with}
use Rattle.text_bytes.specs.Text.{Text}
use Rattle.device_core.specs.Values.{DeviceValue, EventValue}
use Rattle.eval_state.specs.Named.{named}
use Rattle.eval_rendering.specs.Attributes.{is_elsewhere, is_unread_at, named_value, told_subject, udev_subject, written_value}
use Rattle.eval_rendering.specs.Holding.{udev_attribute, udev_unread}
use Rattle.eval_rendering.proofs.matching_laws.a_plain_name_looks_at_the_device.Goals as goal

plain_subject : (name : Text) (event : EventValue) (at : Option DeviceValue) (own : Option Text) → begins_with open_bracket name ≡ false
    → udev_subject name event at own ≡ told_subject (is_unread_at name event at) own
unfolding udev_subject
plain_subject name event at own plain =
    ap (λ b. cond (b && (is_elsewhere event (named name) && is_none (written_value event name))) udev_unread (told_subject (not b && is_unread_at name event at) (cond b (named_value event (written_value event name) (named name)) own))) plain

had_by : (untold : Bool) (value : Text) → told_subject untold (Some value) ≡ udev_attribute (Some value)
had_by true value = refl
had_by false value = refl

pub returns : goal.returns
returns c = record {
  had = (λ name event at value plain. plain_subject name event at (Some value) plain ∙ had_by (is_unread_at name event at) value);
  denied = (λ name event at plain told. plain_subject name event at None plain ∙ ap (λ untold. told_subject untold None) told);
  untold = (λ name event at plain told. plain_subject name event at None plain ∙ ap (λ untold. told_subject untold None) told);
}
