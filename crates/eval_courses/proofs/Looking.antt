-- What a match looked at is reported alike, by whose word it is compared.
use Rattle.std.proofs.Common.{◌≡◌, List, refl}
use Rattle.text_bytes.specs.declared.profile.Profile.{Profile}
use Rattle.text_bytes.specs.declared.profile.Profile.TheVariants as profile
use Rattle.text_bytes.specs.Text.{Text}
use Rattle.eval_rendering.specs.Subjects.{members_by, subsystem_by}
use Rattle.eval_effects.specs.Shown.{shown}
use Rattle.eval_courses.specs.Looks.{looked, members_report}

-- a subsystem
pub looked_subsystem : (p : Profile) (text : Text) → looked (subsystem_by p text) ≡ shown text
looked_subsystem profile.Manual text = refl
looked_subsystem profile.Udev text = refl

-- texts
pub looked_members : (p : Profile) (texts : List Text) → looked (members_by p texts) ≡ members_report texts
looked_members profile.Manual texts = refl
looked_members profile.Udev texts = refl
