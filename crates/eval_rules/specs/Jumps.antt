-- Rules one after another, those of all files as one list, with their jumps.
use Rattle.std.specs.Prelude.{Bool, false, not, if◌then◌else◌, List, [], ◌∷◌, Option, Some, None}
use Rattle.text_bytes.specs.Text.{Text}
use Rattle.text_tables.specs.Texts.{same_text}
use Rattle.builtin_devices.specs.Knowledge.{Known}
use Rattle.rule_types.specs.Rules.{Rule}
use Rattle.eval_state.specs.declared.scene.Scene.{Scene}
use Rattle.eval_rules.specs.Steps.{apply}

-- whether a label has a name
abbrev pub is_label : Text → Option Text → Bool
is_label name None = false
is_label name (Some label) = same_text label name

-- whether a rule is skipped: a label is sought, and it is not the rule's
abbrev pub is_passed : Option Text → Rule → Bool
is_passed None r = false
is_passed (Some name) r = not (is_label name r.label)

-- the label that is sought after a rule: that of its GOTO, if the rule's end was reached
abbrev pub sought_after : Bool → Rule → Option Text
sought_after reached r = if reached then r.goto else None

-- rules one after another, perhaps while a label is sought: the first that has it is evaluated, and those above it
-- are skipped
unfoldable pub run : Known → Option Text → List Rule → Scene → Scene
run known sought [] s = s
run known sought (r ∷ rs) s =
    if is_passed sought r then run known sought rs s
    else run known (sought_after (apply known r s).1 r) rs (apply known r s).0

-- all of these rules, one after another: at their start no label is sought
abbrev pub run_all : Known → List Rule → Scene → Scene
run_all known rules s = run known None rules s
