-- What an operator of an act decides.
use Rattle.std.proofs.Common.{◌≡◌, Bool, true, false, not, ◌&&◌, Option, Some, None, refl}
use Rattle.text_bytes.specs.declared.profile.Profile.{Profile}
use Rattle.text_bytes.specs.declared.profile.Profile.TheVariants.{Manual, Udev}
use Rattle.builtin_devices.specs.Knowledge.{Known}
use Rattle.rule_types.specs.declared.roles.MatchOperator.TheVariants.{Equal, NotEqual}
use Rattle.rule_types.specs.declared.part.ActKind.{ActKind}
use Rattle.rule_types.specs.Rules.{Rule}
use Rattle.eval_state.specs.declared.scene.Scene.{Scene}
use Rattle.eval_acts.specs.Acts.{act_step, performed, proceeds}

-- the two operators turn each other, if the profile is the manual's or the text was not too long
reversed : (profile : Profile) (done : Option Bool) → profile ≡ Manual → proceeds done profile NotEqual ≡ not (proceeds done profile Equal)
reversed profile (Some done) e = refl
reversed Manual None e = refl
reversed Udev None e = cc

pub operator_turns : (known : Known) (r : Rule) (d : ActKind) (s : Scene) → s.state.event.profile ≡ Manual
    → (act_step known r (record { operator = NotEqual; kind = d }) s).1 ≡ not (act_step known r (record { operator = Equal; kind = d }) s).1
unfolding act_step
operator_turns known r d s manual = reversed s.state.event.profile (performed known r d s).1 manual

apart : (profile : Profile) (done : Option Bool) → (proceeds done profile NotEqual && proceeds done profile Equal) ≡ false
apart profile (Some true) = refl
apart profile (Some false) = refl
apart Manual None = refl
apart Udev None = refl

pub at_most_one : (known : Known) (r : Rule) (d : ActKind) (s : Scene)
    → ((act_step known r (record { operator = NotEqual; kind = d }) s).1 && (act_step known r (record { operator = Equal; kind = d }) s).1) ≡ false
unfolding act_step
at_most_one known r d s = apart s.state.event.profile (performed known r d s).1

pub same_changes : (known : Known) (r : Rule) (d : ActKind) (s : Scene)
    → (act_step known r (record { operator = NotEqual; kind = d }) s).0 ≡ (act_step known r (record { operator = Equal; kind = d }) s).0
unfolding act_step
same_changes known r d s = refl
