-- What a command without quotes does when it is run.
use Rattle.std.proofs.Common.{◌≡◌, false, List, ap, sym, ◌∙◌}
use Rattle.std.specs.Prelude.{Some}
use Rattle.text_bytes.specs.declared.profile.Profile.{Profile}
use Rattle.text_bytes.specs.Text.{Text}
use Rattle.builtin_devices.specs.Knowledge.{Known}
use Rattle.rule_types.specs.Rules.{Rule}
use Rattle.eval_state.specs.Scenes.{noted}
use Rattle.eval_state.specs.declared.note_kind.NoteKind.TheVariants.{BuiltinNotRun}
use Rattle.eval_state.specs.declared.scene.Scene.{Scene}
use Rattle.eval_commands.specs.Builtins.{builtin}
use Rattle.eval_acts.specs.Imports.{builtin_run, hwdb_run, run_builtin}
use Rattle.eval_commands.specs.Unquoted.{asked_of, other_name}
use Rattle.eval_commands.specs.declared.hwdb.Hwdb.{Hwdb}
use Rattle.eval_commands.proofs.Requests.{hwdb_is, other_is}

-- another builtin is noted
pub other_runs : (known : Known) (rule : Rule) (profile : Profile) (command name : Text) (scene : Scene) → profile ≡ scene.state.event.profile → Some name ≡ other_name profile command
    → (noted rule BuiltinNotRun name scene, false) ≡ run_builtin known rule command scene
other_runs known rule profile command name scene p e =
    sym (ap (λ asked. builtin_run known rule command asked scene) (ap (λ by. builtin by command) (sym p) ∙ other_is profile command name e))

-- a request is run
pub hwdb_runs : (known : Known) (rule : Rule) (profile : Profile) (command : Text) (request : Hwdb) (scene : Scene) → profile ≡ scene.state.event.profile
    → Some request ≡ asked_of profile command → hwdb_run known rule request scene ≡ run_builtin known rule command scene
hwdb_runs known rule profile command request scene p e =
    sym (ap (λ asked. builtin_run known rule command asked scene) (ap (λ by. builtin by command) (sym p) ∙ hwdb_is profile command request e))
