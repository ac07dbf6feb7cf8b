-- Which operators are never read as `=`.
use Rattle.std.proofs.Common.{◌≡◌, false, Option, Some, None, refl}
use Rattle.rule_tokens.specs.declared.kinds.Operator.{Operator}
use Rattle.rule_tokens.specs.declared.kinds.Operator.TheVariants as op
use Rattle.rule_types.specs.declared.keys.Key.{Key}
use Rattle.rule_types.specs.declared.keys.Key.TheVariants as key
use Rattle.rule_types.specs.Operators.{is_add, is_add_or_final, is_final, is_read_as_assign}
use Rattle.rule_parts.specs.Parts.{is_read_so}

not_add : (o : Operator) → is_add_or_final o ≡ false → is_add o ≡ false
not_add op.Equal e = refl
not_add op.NotEqual e = refl
not_add op.Add e = e
not_add op.Remove e = refl
not_add op.AssignFinal e = refl
not_add op.Assign e = refl

not_final : (o : Operator) → is_add_or_final o ≡ false → is_final o ≡ false
not_final op.Equal e = refl
not_final op.NotEqual e = refl
not_final op.Add e = refl
not_final op.Remove e = refl
not_final op.AssignFinal e = e
not_final op.Assign e = refl

-- after no key an operator other than `+=` and `:=` is read as `=`
after_no_key : (k : Key) (o : Operator) → is_add_or_final o ≡ false → is_read_as_assign k o ≡ false
unfolding is_read_as_assign
after_no_key key.Name o e = not_add o e
after_no_key key.Owner o e = not_add o e
after_no_key key.Group o e = not_add o e
after_no_key key.Mode o e = not_add o e
after_no_key key.Tag o e = not_final o e
after_no_key key.Env o e = not_final o e
after_no_key key.Seclabel o e = not_final o e
after_no_key key.Attr o e = e
after_no_key key.Sysctl o e = e
after_no_key _ o e = refl

pub never_misread : (k : Option Key) (o : Operator) → is_add_or_final o ≡ false → is_read_so o k ≡ false
never_misread None o e = refl
never_misread (Some k) o e = after_no_key k o e
