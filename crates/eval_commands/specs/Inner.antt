-- Serves proofs alone: the devices at which `hwdb` looks, and the answer to their modaliases.
use Rattle.std.specs.Prelude.{Bool, is_some, List, ◌∷◌, ◌++◌, map, Option, Some, None}
use Rattle.text_bytes.specs.declared.profile.Profile.{Profile}
use Rattle.text_bytes.specs.Text.{Text}
use Rattle.text_tables.specs.Pairs.{Pair}
use Rattle.builtin_devices.specs.Knowledge.{Known}
use Rattle.builtin_devices.specs.Devices.{is_text}
use Rattle.eval_state.specs.declared.state.State.{State}
use Rattle.eval_commands.specs.declared.hwdb.Hwdb.{Hwdb}
use Rattle.eval_commands.specs.LookUps.{Candidate, candidate, counted_properties, first_found}

-- the devices of an event as a profile sees them, nearest first
abbrev pub candidates_as : Profile → State → List Candidate
candidates_as profile state =
    candidate profile state.event.device state.env
    ∷ map (λ parent. candidate profile parent parent.env) state.event.parents

-- whether a subsystem is wanted: the one that is named, if any
abbrev pub wanted_in : (named subsystem : Option Text) → Bool
wanted_in None subsystem = is_some subsystem
wanted_in (Some name) subsystem = is_text name subsystem

-- the answer to the first of these modaliases that has one
abbrev pub answer_of : Known → Hwdb → List Text → List Pair
answer_of known hwdb modaliases = first_found (map (counted_properties known hwdb) (map (λ modalias. hwdb.prefix ++ modalias) modaliases))
