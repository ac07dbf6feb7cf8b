-- What becomes of bytes of links and names that do not belong there, as OPTIONS of a rule has it.
use Rattle.std.specs.Prelude.{ℕ, ◌==◌, if◌then◌else◌, map, fold, List}
use Rattle.text_bytes.specs.Names.{space, underscore}
use Rattle.text_bytes.specs.declared.profile.Profile.{Profile}
use Rattle.text_bytes.specs.declared.profile.Profile.TheVariants.{Manual}
use Rattle.text_bytes.specs.Text.{Text}
use Rattle.rule_types.specs.declared.roles.Target.{Target}
use Rattle.rule_types.specs.declared.roles.Target.TheVariants as target
use Rattle.rule_types.specs.declared.rule_option.RuleOption.TheVariants.{KeepEscapes, ReplaceEscapes}
use Rattle.rule_types.specs.declared.part.Assignment.{Assignment}
use Rattle.rule_types.specs.declared.part.Change.{Change}
use Rattle.rule_types.specs.declared.part.Change.TheVariants as change
use Rattle.eval_rendering.specs.declared.rendered.Mode.{Mode}
use Rattle.eval_rendering.specs.declared.rendered.Mode.TheVariants.{Plain, Link}
use Rattle.eval_assignments.specs.declared.escapes.Escape.{Escape}
use Rattle.eval_assignments.specs.declared.escapes.Escape.TheVariants.{Usual, Keep, Replace}

-- how a rule treats the bytes of links and names after one more assignment: `string_escape` sets it anew
abbrev pub escape_after : Escape → Change → Escape
escape_after e (change.Option KeepEscapes) = Keep
escape_after e (change.Option ReplaceEscapes) = Replace
escape_after e c = e

-- how a rule with these assignments treats bytes: by its last `string_escape`, wherever it is
unfoldable pub escape_of : List Assignment → Escape
escape_of sets = fold (λ e a. escape_after e a.change) Usual sets

-- what a text is rendered for: names of links are made safe unless the rule keeps the bytes, and by the manual a name of
-- a device is, too
abbrev pub mode_of : Profile → Target → Escape → Mode
mode_of profile about Keep = Plain
mode_of profile target.Symlink e = Link
mode_of Manual target.Name e = Link
mode_of profile about e = Plain

-- a byte, with `_` for a space
abbrev pub underscored_byte : ℕ → ℕ
underscored_byte b = if b == space then underscore else b

-- a text with `_` for its spaces
abbrev pub with_underscores : Text → Text
with_underscores t = map underscored_byte t
