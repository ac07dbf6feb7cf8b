-- The devices of an event, and which of them are wanted.
use Rattle.std.proofs.Common.{◌≡◌, refl, ap}
use Rattle.std.specs.Prelude.{Option, Some, None}
use Rattle.text_bytes.specs.Text.{Text}
use Rattle.text_bytes.specs.declared.profile.Profile.{Profile}
use Rattle.eval_state.specs.declared.state.State.{State}
use Rattle.eval_commands.specs.Inner.{candidates_as, wanted_in}
use Rattle.eval_commands.specs.LookUps.{Candidate, candidates, is_wanted, modaliases_by}

pub wanted_by : (named : Option Text) (device : Candidate) → wanted_in named device.subsystem ≡ is_wanted named device
wanted_by None device = refl
wanted_by (Some name) device = refl

-- the devices of an event, by its profile
pub by_profile : (named : Option Text) (state : State) (profile : Profile) → state.event.profile ≡ profile
    → modaliases_by state.event.profile named (candidates state) ≡ modaliases_by profile named (candidates_as profile state)
by_profile named state profile e = ap (λ p. modaliases_by p named (candidates_as p state)) e
