-- What rules ask of an event: the commands that are looked up while the rules are evaluated, and that the event's block does not answer.
use Rattle.std.specs.Prelude.{ℕ, Bool, not, ◌==◌, ◌&&◌, ◌||◌, if◌then◌else◌, is_some, List, [], ◌∷◌, ◌++◌, filter, Option, None}
use Rattle.std.specs.List.{list_all}
use Rattle.text_bytes.specs.Names.{newline, nul}
use Rattle.text_bytes.specs.Texts.{is_empty}
use Rattle.text_bytes.specs.declared.profile.Profile.{Profile}
use Rattle.text_bytes.specs.declared.profile.Profile.TheVariants.{Udev}
use Rattle.text_bytes.specs.Text.{Text}
use Rattle.text_tables.specs.Texts.{with_texts}
use Rattle.text_tables.specs.Pairs.{value_of}
use Rattle.builtin_devices.specs.Knowledge.{Known}
use Rattle.rule_types.specs.Rules.{Rule}
use Rattle.rule_types.specs.declared.part.Act.{Act}
use Rattle.rule_types.specs.declared.part.ActKind.{ActKind}
use Rattle.rule_types.specs.declared.part.ActKind.TheVariants as act_kind
use Rattle.rule_types.specs.declared.part.Import.{Import}
use Rattle.rule_types.specs.declared.part.Import.TheVariants as import
use Rattle.device_core.specs.Values.{EventValue}
use Rattle.eval_state.specs.Scenes.{start}
use Rattle.eval_state.specs.declared.scene.Scene.{Scene}
use Rattle.eval_state.specs.declared.state.State.{State}
use Rattle.eval_rendering.specs.Bounds.{most_command_bytes}
use Rattle.eval_rendering.specs.declared.rendered.Rendered.{Rendered}
use Rattle.eval_rendering.specs.declared.rendered.Rendered.TheVariants as rendered
use Rattle.eval_acts.specs.ActTexts.{import_text, program_text}
use Rattle.eval_commands.specs.Builtins.{builtin, builtin_question}
use Rattle.eval_commands.specs.declared.builtin.Builtin.{Builtin}
use Rattle.eval_commands.specs.declared.builtin.Builtin.TheVariants as asked
use Rattle.eval_acts.specs.Acts.{act_step}
use Rattle.eval_rules.specs.Jumps.{is_passed, sought_after}
use Rattle.eval_rules.specs.Steps.{apply}
use Rattle.eval_courses.specs.Courses.{reports_if_proceeding, searched, walk_reports}

-- whether a byte may be within a line of a block
abbrev pub fits_in_line : ℕ → Bool
fits_in_line b = not (b == newline || b == nul)

-- whether a line of a block can have a command
abbrev pub can_be_asked : Text → Bool
can_be_asked command = not (is_empty command) && list_all fits_in_line command

-- a command, if the event's block does not answer it; a text that is too long is not a command
abbrev pub unanswered : EventValue → Rendered → List Text
unanswered event (rendered.Text command) = if is_some (value_of event.programs command) then [] else command ∷ []
unanswered event rendered.TooLong = []

-- the question of a builtin's command, by what it means: a builtin that is not computed is asked for
abbrev pub meant_asks : EventValue → (command : Text) → Builtin → List Text
meant_asks event command (asked.Answered name) = unanswered event (rendered.Text (builtin_question command))
meant_asks event command other = []

-- the question of a builtin's command as udev has it; a text that is too long is not a command
abbrev pub builtin_asks : EventValue → Rendered → List Text
builtin_asks event (rendered.Text command) = meant_asks event command (builtin Udev command)
builtin_asks event rendered.TooLong = []

-- what an IMPORT asks: under udev IMPORT{program} looks its command up, and IMPORT{builtin} that of a builtin which is not
-- computed
abbrev pub import_asks : Profile → Import → State → List Text
import_asks Udev (import.Builtin template) s = builtin_asks s.event (import_text most_command_bytes template s)
import_asks Udev (import.Program template) s = unanswered s.event (import_text most_command_bytes template s)
import_asks profile from s = []

-- what an act asks: the command that it looks up, if the block does not answer it
abbrev pub act_asks : ActKind → State → List Text
act_asks (act_kind.Test mask template) s = []
act_asks (act_kind.Program template) s = unanswered s.event (program_text template s)
act_asks (act_kind.Import from) s = import_asks s.event.profile from s

-- what acts of a rule ask, one after another, up to the first that stops the rule
abbrev pub acts_ask : Known → Rule → List Act → Scene → List Text
acts_ask known r acts s = walk_reports (act_step known r) (λ act s. act_asks act.kind s.state) acts s

-- what a rule asks: what its acts ask, if its matches let it go on to them
unfoldable pub rule_asks : Known → Rule → Scene → List Text
rule_asks known r s = reports_if_proceeding (acts_ask known r r.acts) (searched r s)

-- what rules ask, one after another, perhaps while a label is sought: a rule that is skipped asks nothing
unfoldable pub rules_ask : Known → Option Text → List Rule → Scene → List Text
rules_ask known sought [] s = []
rules_ask known sought (r ∷ rs) s =
    if is_passed sought r then rules_ask known sought rs s
    else rule_asks known r s ++ rules_ask known (sought_after (apply known r s).1 r) rs (apply known r s).0

-- commands, and after them others that can be asked, each once
abbrev pub with_asked : List Text → List Text → List Text
with_asked asked commands = with_texts asked (filter can_be_asked commands)

-- the questions of an event: what rules ask about it and can be asked, each command once, at the place where it is first asked
abbrev pub questions : List Rule → Known → EventValue → List Text
questions rules known event = with_asked [] (rules_ask known None rules (start event))
