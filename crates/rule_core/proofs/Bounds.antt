-- How many turns there are.
use Rattle.std.proofs.Common.{◌<◌, ◌+◌, ℕ, Bool, true, false, cond, List, Option, Some, None, arith}
use Rattle.text_bytes.specs.declared.profile.Profile.{Profile}
use Rattle.text_bytes.specs.declared.profile.Profile.TheVariants.{Manual, Udev}
use Rattle.rule_types.specs.declared.roles.Target.{Target}
use Rattle.rule_types.specs.declared.roles.Target.TheVariants as target
use Rattle.rule_types.specs.declared.part.Act.{Act}
use Rattle.rule_types.specs.declared.part.Assignment.{Assignment}
use Rattle.rule_types.specs.declared.part.Change.{Change}
use Rattle.rule_types.specs.declared.part.Change.TheVariants as change
use Rattle.rule_types.specs.declared.part.ActKind.{ActKind}
use Rattle.rule_types.specs.declared.part.ActKind.TheVariants as act_kind
use Rattle.rule_types.specs.declared.part.Import.{Import}
use Rattle.rule_types.specs.declared.part.Import.TheVariants as import
use Rattle.rule_types.specs.declared.rule_option.RuleOption.{RuleOption}
use Rattle.rule_types.specs.declared.rule_option.RuleOption.TheVariants as option
use Rattle.rule_types.specs.declared.types.RunType.{RunType}
use Rattle.rule_types.specs.declared.types.RunType.TheVariants as run_of
use Rattle.rule_core.specs.Turns.{assignment_turns, turn_of_act, turn_of_act_kind, turn_of_assignment, turn_of_change, turn_of_import, turn_of_option, turn_of_run, turn_of_target, turn_of_text, is_rendered_late}

import_below : (i : Import) → turn_of_import i < 8
import_below (import.File text) = omega arith
import_below (import.Program text) = omega arith
import_below (import.Builtin text) = omega arith
import_below (import.Db name) = omega arith
import_below (import.Cmdline name) = omega arith
import_below (import.Parent names text) = omega arith

act_kind_below : (d : ActKind) → turn_of_act_kind d < 8
act_kind_below (act_kind.Test mask path) = omega arith
act_kind_below (act_kind.Program text) = omega arith
act_kind_below (act_kind.Import i) = import_below i

pub act_below : (a : Act) → turn_of_act a < 8
act_below a = act_kind_below a.kind

target_below : (t : Target) → turn_of_target t < 11
target_below target.Owner = omega arith
target_below target.Group = omega arith
target_below target.Mode = omega arith
target_below target.Tag = omega arith
target_below (target.Seclabel name) = omega arith
target_below (target.Env name) = omega arith
target_below target.Name = omega arith
target_below target.Symlink = omega arith
target_below (target.Attr name) = omega arith
target_below (target.Sysctl name) = omega arith

text_below : (t : Target) (text : List ℕ) → turn_of_text t text < 14
text_below t text = by (is_rendered_late t text)
  where
    by : (b : Bool) → cond b (turn_of_target t) (3 + turn_of_target t) < 14
    by true = omega (arith, target_below t)
    by false = omega (arith, target_below t)

option_below : (o : RuleOption) → turn_of_option o < 6
option_below option.KeepEscapes = omega arith
option_below option.ReplaceEscapes = omega arith
option_below option.DbPersist = omega arith
option_below option.Watch = omega arith
option_below option.NoWatch = omega arith
option_below (option.LinkPriority number) = omega arith
option_below option.LogLevel = omega arith
option_below option.Ignored = omega arith

run_below : (type : Option RunType) → turn_of_run type < 2
run_below None = omega arith
run_below (Some run_of.Builtin) = omega arith
run_below (Some run_of.Program) = omega arith

change_below : (by : Profile) (c : Change) → turn_of_change by c < assignment_turns by
change_below Manual (change.Option known) = omega arith
change_below Manual (change.Text to text) = omega (arith, target_below to)
change_below Manual (change.Run type text) = omega arith
change_below Udev (change.Option known) = omega (arith, option_below known)
change_below Udev (change.Text to text) = omega (arith, text_below to text.written)
change_below Udev (change.Run type text) = omega (arith, run_below type)

pub assignment_below : (by : Profile) (a : Assignment) → turn_of_assignment by a < assignment_turns by
assignment_below by a = change_below by a.change
