-- Operators that are read as `=`, which should have been written.
use Rattle.std.specs.Prelude.{Bool, true, false, if◌then◌else◌}
use Rattle.rule_tokens.specs.declared.kinds.Operator.{Operator}
use Rattle.rule_tokens.specs.declared.kinds.Operator.TheVariants as op
use Rattle.rule_types.specs.declared.keys.Key.{Key}
use Rattle.rule_types.specs.declared.keys.Key.TheVariants as key

-- `+=`
abbrev pub is_add : Operator → Bool
is_add op.Add = true
is_add _ = false

-- `:=`
abbrev pub is_final : Operator → Bool
is_final op.AssignFinal = true
is_final _ = false

-- `+=` or `:=`
abbrev pub is_add_or_final : Operator → Bool
is_add_or_final op.Add = true
is_add_or_final op.AssignFinal = true
is_add_or_final _ = false

-- whether an operator is read as `=` after a key
unfoldable pub is_read_as_assign : Key → Operator → Bool
is_read_as_assign key.Name o = is_add o
is_read_as_assign key.Owner o = is_add o
is_read_as_assign key.Group o = is_add o
is_read_as_assign key.Mode o = is_add o
is_read_as_assign key.Tag o = is_final o
is_read_as_assign key.Env o = is_final o
is_read_as_assign key.Seclabel o = is_final o
is_read_as_assign key.Attr o = is_add_or_final o
is_read_as_assign key.Sysctl o = is_add_or_final o
is_read_as_assign _ o = false

-- the operator as which an operator is read after a key
abbrev pub read_as : Key → Operator → Operator
read_as k o = if is_read_as_assign k o then op.Assign else o
