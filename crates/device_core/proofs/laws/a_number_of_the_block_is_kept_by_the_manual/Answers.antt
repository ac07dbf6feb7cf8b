use Rattle.std.proofs.Common.{◌≡◌, Option, Some, None, refl}
use Rattle.text_bytes.specs.declared.profile.Profile.TheVariants.{Manual}
use Rattle.device_core.specs.Values.{NumberValue, number_by}
use Rattle.device_core.proofs.laws.a_number_of_the_block_is_kept_by_the_manual.Goals as goal

kept : (number : Option NumberValue) → number_by Manual number ≡ number
kept None = refl
kept (Some number) = refl

pub returns : goal.returns
returns c = kept
