-- The order in which the parts of a rule that act are evaluated, and those that assign.
use Rattle.std.specs.Prelude.{ℕ, ◌+◌, ◌==◌, Bool, false, if◌then◌else◌, List, filter, flat_map, Option, Some, is_none}
use Rattle.std.specs.List.{range_with_len}
use Rattle.text_bytes.specs.Text.{Text}
use Rattle.text_bytes.specs.declared.profile.Profile.{Profile}
use Rattle.text_bytes.specs.declared.profile.Profile.TheVariants.{Manual, Udev}
use Rattle.rule_tokens.specs.Substituted.{is_substituted}
use Rattle.rule_types.specs.Topics.{mode_of}
use Rattle.rule_types.specs.declared.roles.Target.{Target}
use Rattle.rule_types.specs.declared.roles.Target.TheVariants as target
use Rattle.rule_types.specs.declared.part.Act.{Act}
use Rattle.rule_types.specs.declared.part.Assignment.{Assignment}
use Rattle.rule_types.specs.declared.part.Change.{Change}
use Rattle.rule_types.specs.declared.part.Change.TheVariants as change
use Rattle.rule_types.specs.declared.part.ActKind.{ActKind}
use Rattle.rule_types.specs.declared.part.ActKind.TheVariants as act_kind
use Rattle.rule_types.specs.declared.part.Import.{Import}
use Rattle.rule_types.specs.declared.part.Import.TheVariants as import
use Rattle.rule_types.specs.declared.rule_option.RuleOption.{RuleOption}
use Rattle.rule_types.specs.declared.rule_option.RuleOption.TheVariants as option
use Rattle.rule_types.specs.declared.types.RunType.{RunType}
use Rattle.rule_types.specs.declared.types.RunType.TheVariants as run_of

-- the turn of what an act does: TEST, then PROGRAM, then IMPORT by its type
abbrev pub turn_of_import : Import → ℕ
turn_of_import (import.File text) = 2
turn_of_import (import.Program text) = 3
turn_of_import (import.Builtin text) = 4
turn_of_import (import.Db name) = 5
turn_of_import (import.Cmdline name) = 6
turn_of_import (import.Parent names text) = 7

abbrev pub turn_of_act_kind : ActKind → ℕ
turn_of_act_kind (act_kind.Test mask path) = 0
turn_of_act_kind (act_kind.Program text) = 1
turn_of_act_kind (act_kind.Import i) = turn_of_import i

abbrev pub turn_of_act : Act → ℕ
turn_of_act a = turn_of_act_kind a.kind

-- the turn of an assignment of a text, by its key
abbrev pub turn_of_target : Target → ℕ
turn_of_target target.Owner = 1
turn_of_target target.Group = 2
turn_of_target target.Mode = 3
turn_of_target target.Tag = 4
turn_of_target (target.Seclabel name) = 5
turn_of_target (target.Env name) = 6
turn_of_target target.Name = 7
turn_of_target target.Symlink = 8
turn_of_target (target.Attr name) = 9
turn_of_target (target.Sysctl name) = 10

-- whether udev renders a text of OWNER, GROUP or MODE for each event: a name or a number is known when the rule is
-- read if it has no substitution, and so is a mode
abbrev pub is_rendered_late : Target → Text → Bool
is_rendered_late target.Owner text = is_substituted text
is_rendered_late target.Group text = is_substituted text
is_rendered_late target.Mode text = is_none (mode_of text)
is_rendered_late _ text = false

-- the turn of an assignment of a text for udev, among these: OWNER, GROUP and MODE that are known when the rule is read
-- come right after those that are rendered for each event
abbrev pub turn_of_text : Target → Text → ℕ
turn_of_text to text = if is_rendered_late to text then turn_of_target to else 3 + turn_of_target to

-- the turn of an option for udev, among the options
abbrev pub turn_of_option : RuleOption → ℕ
turn_of_option option.KeepEscapes = 0
turn_of_option option.ReplaceEscapes = 1
turn_of_option option.DbPersist = 2
turn_of_option option.Watch = 3
turn_of_option option.NoWatch = 3
turn_of_option (option.LinkPriority number) = 4
turn_of_option option.LogLevel = 5
turn_of_option option.Ignored = 5

-- the turn of RUN for udev, among its types: builtins, then programs
abbrev pub turn_of_run : Option RunType → ℕ
turn_of_run (Some run_of.Builtin) = 0
turn_of_run _ = 1

-- the turn of what an assignment changes: OPTIONS, then the texts by their keys, then RUN
abbrev pub turn_of_change : Profile → Change → ℕ
turn_of_change Manual (change.Option known) = 0
turn_of_change Manual (change.Text to text) = turn_of_target to
turn_of_change Manual (change.Run type text) = 11
turn_of_change Udev (change.Option known) = turn_of_option known
turn_of_change Udev (change.Text to text) = 5 + turn_of_text to text.written
turn_of_change Udev (change.Run type text) = 19 + turn_of_run type

abbrev pub turn_of_assignment : Profile → Assignment → ℕ
turn_of_assignment profile a = turn_of_change profile a.change

-- how many turns assignments have
abbrev pub assignment_turns : Profile → ℕ
assignment_turns Manual = 12
assignment_turns Udev = 21

-- those that have a turn, in written order
abbrev pub of_turn : {X : Type 0} → (X → ℕ) → List X → ℕ → List X
of_turn turn xs t = filter (λ x. turn x == t) xs

-- parts turn by turn, of which there are so many
abbrev pub by_turn : {X : Type 0} → (X → ℕ) → ℕ → List X → List X
by_turn turn n xs = flat_map (of_turn turn xs) (range_with_len 0 n)

-- acts in the order of evaluation
abbrev pub acts_by_turn : List Act → List Act
acts_by_turn acts = by_turn turn_of_act 8 acts

-- assignments in the order of evaluation
abbrev pub assignments_by_turn : Profile → List Assignment → List Assignment
assignments_by_turn profile assignments = by_turn (turn_of_assignment profile) (assignment_turns profile) assignments
