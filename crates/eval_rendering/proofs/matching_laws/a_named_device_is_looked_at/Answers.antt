use Rattle.std.proofs.Common.{◌≡◌, ◌∷◌, Bool, true, false, cond, not, ◌&&◌, is_none, Option, Some, None, option_map, ℕ, ap, ◌∙◌}
use Rattle.std.specs.Option.{option_and_then}
use Rattle.text_bytes.specs.Names.{open_bracket}
use Rattle.text_bytes.specs.Texts.{is_empty}
use Rattle.text_bytes.specs.Text.{Text}
use Rattle.text_tables.specs.Pairs.{value_of}
use Rattle.device_core.specs.Values.{DeviceValue, EventValue}
use Rattle.eval_state.specs.Named.{NamedValue, named, named_place}
use Rattle.eval_state.specs.Texts.{or_empty}
use Rattle.eval_rendering.specs.Pieces.{as_read}
use Rattle.eval_rendering.specs.Attributes.{found_value, is_elsewhere, named_value, udev_subject, written_value}
use Rattle.eval_rendering.specs.Holding.{udev_attribute, udev_unread}
use Rattle.eval_rendering.specs.Udev.{capped}
use Rattle.eval_rendering.proofs.matching_laws.a_named_device_is_looked_at.Goals as goal

module _ (text : Text) (event : EventValue) (device : Option DeviceValue) (own : Option Text) where
  abbrev name : Text
  name = open_bracket ∷ text

  -- what the event device has under the name
  abbrev given : Option Text
  given = written_value event name

  -- by what the name names
  by_name : (o : Option NamedValue) → named name ≡ o → udev_subject name event device own ≡ cond (is_elsewhere event o && is_none given) udev_unread (udev_attribute (named_value event given o))
  unfolding udev_subject
  by_name o e = ap (λ m. cond (is_elsewhere event m && is_none given) udev_unread (udev_attribute (named_value event given m))) e

  -- by whether it names an attribute
  by_attribute : (n : NamedValue) → named name ≡ Some n → (b : Bool) → is_empty n.attribute ≡ b
      → udev_subject name event device own
      ≡ cond ((not b && is_none (named_place n event)) && is_none given) udev_unread (udev_attribute (cond b None (found_value event n.attribute given (named_place n event))))
  by_attribute n e b h =
      by_name (Some n) e
      ∙ ap (λ b. cond ((not b && is_none (named_place n event)) && is_none given) udev_unread (udev_attribute (cond b None (found_value event n.attribute given (named_place n event))))) h

  -- by the place of the device
  by_place : (n : NamedValue) → named name ≡ Some n → is_empty n.attribute ≡ false → (place : Option ℕ) → named_place n event ≡ place
      → udev_subject name event device own ≡ cond (is_none place && is_none given) udev_unread (udev_attribute (found_value event n.attribute given place))
  by_place n e h place at = by_attribute n e false h ∙ ap (λ p. cond (is_none p && is_none given) udev_unread (udev_attribute (found_value event n.attribute given p))) at

  -- by what the event device has under the name, if the device is not in the chain
  by_given : (n : NamedValue) → named name ≡ Some n → is_empty n.attribute ≡ false → named_place n event ≡ None → (value : Option Text) → written_value event name ≡ value
      → udev_subject name event device own ≡ cond (is_none value) udev_unread (udev_attribute (option_map (λ v. capped (as_read v)) value))
  by_given n e h none value is = by_place n e h None none ∙ ap (λ v. cond (is_none v) udev_unread (udev_attribute (option_map (λ w. capped (as_read w)) v))) is

pub returns : goal.returns
returns c = record {
  there = (λ text event here own n place device e some at is.
      by_place text event here own n e some (Some place) at
      ∙ ap (λ (d : Option DeviceValue). udev_attribute (Some (capped (as_read (or_empty (option_and_then (λ device. value_of device.attrs n.attribute) d)))))) is);
  given = (λ text event here own n value e some none is. by_given text event here own n e some none (Some value) is);
  elsewhere = (λ text event here own n e some none is. by_given text event here own n e some none None is);
  nameless = (λ text event here own n e empty. by_attribute text event here own n e true empty);
  unnamed = (λ text event here own e. by_name text event here own None e);
}
