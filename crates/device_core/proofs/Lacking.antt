-- Which rules are tried.
use Rattle.std.proofs.Common.{◌≡◌, ◌≢◌, Bool, true, false, not, ◌&&◌, cond, is_none, List, [], Option, Some, None, codes, refl, ap, ◌∙◌}
use Rattle.std.specs.Cmp.Lexicographic.{bytes_decides}
use Rattle.text_bytes.specs.declared.profile.Profile.{Profile}
use Rattle.text_bytes.specs.declared.profile.Profile.TheVariants.{Manual, Udev}
use Rattle.text_bytes.specs.Text.{Text}
use Rattle.text_tables.specs.Texts.{same_text}
use Rattle.device_core.specs.Values.{EventValue}
use Rattle.device_core.specs.Tried.{lacks_event, lacks_event_by, tried}

-- what both have is had by each
and_no : (a : Bool) → (a && false) ≡ false
and_no true = refl
and_no false = refl

pub by_the_manual : (event : EventValue) → event.profile ≡ Manual → lacks_event event ≡ false
unfolding lacks_event
by_the_manual event manual = ap (λ profile. lacks_event_by profile event) manual

pub with_subsystem : (event : EventValue) (subsystem : Text) → event.device.subsystem ≡ Some subsystem → lacks_event event ≡ false
unfolding lacks_event
with_subsystem event subsystem is = by event.profile
  where
    by : (profile : Profile) → lacks_event_by profile event ≡ false
    by Manual = refl
    by Udev = ap (λ (o : Option Text). is_none o && not (same_text event.action (codes "remove"))) is

pub at_removal : (event : EventValue) → event.action ≡ codes "remove" → lacks_event event ≡ false
unfolding lacks_event
at_removal event removed = by event.profile
  where
    by : (profile : Profile) → lacks_event_by profile event ≡ false
    by Manual = refl
    by Udev = ap (λ same. is_none event.device.subsystem && not same) ((bytes_decides event.action (codes "remove")).1 removed) ∙ and_no (is_none event.device.subsystem)

pub without_event : (event : EventValue) → event.profile ≡ Udev → event.device.subsystem ≡ None → event.action ≢ codes "remove" → lacks_event event ≡ true
unfolding lacks_event
without_event event udev none other =
    ap (λ profile. lacks_event_by profile event) udev
    ∙ ap (λ (o : Option Text). is_none o && not (same_text event.action (codes "remove"))) none
    ∙ by (same_text event.action (codes "remove")) refl
  where
    by : (same : Bool) → same_text event.action (codes "remove") ≡ same → not same ≡ true
    by true e = absurd (other ((bytes_decides event.action (codes "remove")).0 e))
    by false e = refl

-- the rules that are tried, by whether the device has no event
pub tried_by : {R : Type 0} (event : EventValue) (rules : List R) (lacks : Bool) → lacks_event event ≡ lacks → tried event rules ≡ cond lacks [] rules
tried_by event rules lacks e = ap (λ b. cond b [] rules) e
