-- What a token is for its rule, by what it is about and by its operator.
use Rattle.std.specs.Prelude.{Bool, true, false, Option, Some, None, if◌then◌else◌}
use Rattle.rule_tokens.specs.declared.kinds.Operator.{Operator}
use Rattle.rule_tokens.specs.declared.kinds.Operator.TheVariants as op
use Rattle.rule_types.specs.declared.topics.Topic.{Topic}
use Rattle.rule_types.specs.declared.topics.Topic.TheVariants as topic
use Rattle.rule_types.specs.declared.roles.MatchOperator.{MatchOperator}
use Rattle.rule_types.specs.declared.roles.MatchOperator.TheVariants.{Equal, NotEqual}
use Rattle.rule_types.specs.declared.roles.AssignOperator.{AssignOperator}
use Rattle.rule_types.specs.declared.roles.AssignOperator.TheVariants.{Assign, Add, Remove, AssignFinal}
use Rattle.rule_types.specs.declared.roles.PlainKey.TheVariants as plain
use Rattle.rule_types.specs.declared.roles.UpKey.TheVariants as up
use Rattle.rule_types.specs.declared.roles.Target.TheVariants as target
use Rattle.rule_types.specs.declared.roles.Role.{Role}
use Rattle.rule_types.specs.declared.roles.Role.TheVariants as role

-- what a topic is when it is compared; none if it can't be
unfoldable pub compared : Topic → MatchOperator → Option Role
compared topic.Action o = Some (role.Plain plain.Action o)
compared topic.Devpath o = Some (role.Plain plain.Devpath o)
compared topic.Kernel o = Some (role.Plain plain.Kernel o)
compared topic.Subsystem o = Some (role.Plain plain.Subsystem o)
compared topic.Driver o = Some (role.Plain plain.Driver o)
compared topic.Name o = Some (role.Plain plain.Name o)
compared topic.Symlink o = Some (role.Plain plain.Symlink o)
compared topic.Tag o = Some (role.Plain plain.Tag o)
compared (topic.Attr name) o = Some (role.Plain (plain.Attr name) o)
compared (topic.Sysctl name) o = Some (role.Plain (plain.Sysctl name) o)
compared (topic.Env name) o = Some (role.Plain (plain.Env name) o)
compared (topic.Const name) o = Some (role.Plain (plain.Const name) o)
compared topic.Kernels o = Some (role.Up up.Kernels o)
compared topic.Subsystems o = Some (role.Up up.Subsystems o)
compared topic.Drivers o = Some (role.Up up.Drivers o)
compared topic.Tags o = Some (role.Up up.Tags o)
compared (topic.Attrs name) o = Some (role.Up (up.Attrs name) o)
compared topic.Result o = Some (role.Result o)
compared (topic.Test mask) o = Some (role.Test mask o)
compared topic.Program o = Some (role.Program o)
compared (topic.Import type) o = Some (role.Import type o)
compared _ o = None

-- `=`
abbrev pub is_assign : AssignOperator → Bool
is_assign Assign = true
is_assign _ = false

-- `=` or `+=`
abbrev pub is_assign_or_add : AssignOperator → Bool
is_assign_or_add Assign = true
is_assign_or_add Add = true
is_assign_or_add _ = false

-- `=` or `:=`
abbrev pub is_assign_or_final : AssignOperator → Bool
is_assign_or_final Assign = true
is_assign_or_final AssignFinal = true
is_assign_or_final _ = false

-- all but `-=`
abbrev pub is_not_remove : AssignOperator → Bool
is_not_remove Remove = false
is_not_remove _ = true

-- all but `:=`
abbrev pub is_not_final : AssignOperator → Bool
is_not_final AssignFinal = false
is_not_final _ = true

-- a role, if its operator is taken
abbrev pub taken : Bool → Role → Option Role
taken is_taken r = if is_taken then Some r else None

-- what a topic is when it is assigned, if it can be by this operator; PROGRAM and IMPORT are then matches, as with
-- `==`
unfoldable pub assigned : Topic → AssignOperator → Option Role
assigned topic.Program o = taken (is_not_remove o) (role.Program Equal)
assigned (topic.Import type) o = taken (is_not_remove o) (role.Import type Equal)
assigned topic.Name o = taken (is_assign_or_final o) (role.Set target.Name o)
assigned topic.Symlink o = Some (role.Set target.Symlink o)
assigned topic.Tag o = taken (is_not_final o) (role.Set target.Tag o)
assigned (topic.Attr name) o = taken (is_assign o) (role.Set (target.Attr name) o)
assigned (topic.Sysctl name) o = taken (is_assign o) (role.Set (target.Sysctl name) o)
assigned (topic.Env name) o = taken (is_assign_or_add o) (role.Set (target.Env name) o)
assigned topic.Owner o = taken (is_assign_or_final o) (role.Set target.Owner o)
assigned topic.Group o = taken (is_assign_or_final o) (role.Set target.Group o)
assigned topic.Mode o = taken (is_assign_or_final o) (role.Set target.Mode o)
assigned (topic.Seclabel name) o = taken (is_assign_or_add o) (role.Set (target.Seclabel name) o)
assigned (topic.Run type) o = taken (is_not_remove o) (role.Run type o)
assigned topic.Options o = taken (is_not_remove o) (role.Option o)
assigned topic.Label o = taken (is_assign o) role.Label
assigned topic.Goto o = taken (is_assign o) role.Goto
assigned _ o = None

-- what a token is that is about a topic and has an operator; none if the key does not take the operator
unfoldable pub role_of : Topic → Operator → Option Role
role_of about op.Equal = compared about Equal
role_of about op.NotEqual = compared about NotEqual
role_of about op.Assign = assigned about Assign
role_of about op.Add = assigned about Add
role_of about op.Remove = assigned about Remove
role_of about op.AssignFinal = assigned about AssignFinal
