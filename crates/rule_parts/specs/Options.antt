-- The options of OPTIONS.
use Rattle.std.specs.Prelude.{ℕ, ◌+◌, ◌^◌, ℤ, pos, neg_ℤ, int_le, int_lt, ◌&&◌, ◌||◌, Bool, nat_le, if◌then◌else◌}
use Rattle.std.specs.Prelude.{List, [], ◌∷◌, Option, Some, None, is_some, option_map, nat_eq, codes}
use Rattle.std.specs.Option.{option_and_then, unwrap_or}
use Rattle.std.specs.Cmp.Lexicographic.{pointwise}
use Rattle.text_bytes.specs.Text.{Text}
use Rattle.text_bytes.specs.Texts.{following}
use Rattle.text_bytes.specs.Numbers.{decimal_below}
use Rattle.text_bytes.specs.declared.profile.Profile.{Profile}
use Rattle.text_bytes.specs.declared.profile.Profile.TheVariants as profile
use Rattle.rule_tokens.specs.Integers.{integer_of, natural_of}
use Rattle.rule_types.specs.declared.rule_option.RuleOption.{RuleOption}
use Rattle.rule_types.specs.declared.rule_option.RuleOption.TheVariants.{LinkPriority, KeepEscapes, ReplaceEscapes, Watch}
use Rattle.rule_types.specs.declared.rule_option.RuleOption.TheVariants.{NoWatch, DbPersist, LogLevel, Ignored}

-- what is beside a name in a table
abbrev pub beside : {X : Type 0} → List (Text × X) → Text → Option X
beside [] text = None
beside (row ∷ rows) text = if pointwise nat_eq row.0 text then Some row.1 else beside rows text

-- the options that are one word
abbrev pub words : List (Text × RuleOption)
words =
    (codes "watch", Watch)
    ∷ (codes "nowatch", NoWatch)
    ∷ (codes "db_persist", DbPersist)
    ∷ (codes "string_escape=none", KeepEscapes)
    ∷ (codes "string_escape=replace", ReplaceEscapes)
    ∷ []

-- the number below zero, or zero, that digits write after a minus
abbrev pub below_zero : Text → Option ℤ
below_zero digits = option_map (λ size. neg_ℤ (pos size)) (decimal_below (2 ^ 31 + 1) digits)

-- the number that digits write
abbrev pub from_zero : Text → Option ℤ
from_zero digits = option_map pos (decimal_below (2 ^ 31) digits)

-- the number that a text writes, by what is in it after a minus
abbrev pub number_by : Text → Option Text → Option ℤ
number_by text (Some digits) = below_zero digits
number_by text None = from_zero (unwrap_or (following (codes "+") text) text)

-- the number that a text writes within 32 signed bits: a minus, a plus or no sign, and after it decimal digits
unfoldable pub number_of : Text → Option ℤ
number_of text = number_by text (following (codes "-") text)

-- whether a text is an option that is taken and changes nothing, whatever it is set to
abbrev pub is_ignored : Text → Bool
is_ignored text = is_some (following (codes "static_node=") text) || is_some (following (codes "log_level=") text)

-- the option of a text that is not a priority
abbrev pub other_option : Text → Option RuleOption
other_option text = if is_ignored text then Some Ignored else beside words text

-- the option of a text by the manual, by what is in it after `link_priority=`
abbrev pub option_by : Text → Option Text → Option RuleOption
option_by text (Some number) = option_map LinkPriority (number_of number)
option_by text None = other_option text

-- an integer as a priority of links, if it has 32 signed bits
abbrev pub as_priority : ℤ → Option ℤ
as_priority n = if int_le (neg_ℤ (pos (2 ^ 31))) n && int_lt n (pos (2 ^ 31)) then Some n else None

-- the priority of links that udev reads in a text
unfoldable pub priority_of : Text → Option ℤ
priority_of text = option_and_then as_priority (integer_of text)

-- the levels of the log by their names; -1 is the level that udev began with
abbrev pub levels : List (Text × ℤ)
levels =
    (codes "reset", neg_ℤ (pos 1))
    ∷ (codes "emerg", pos 0)
    ∷ (codes "alert", pos 1)
    ∷ (codes "crit", pos 2)
    ∷ (codes "err", pos 3)
    ∷ (codes "warning", pos 4)
    ∷ (codes "notice", pos 5)
    ∷ (codes "info", pos 6)
    ∷ (codes "debug", pos 7)
    ∷ []

-- a number as a level of the log
abbrev pub as_level : ℕ → Option ℤ
as_level n = if nat_le n 7 then Some (pos n) else None

-- the level of a text, by what is beside it in the table
abbrev pub level_by : Text → Option ℤ → Option ℤ
level_by text (Some level) = Some level
level_by text None = option_and_then as_level (natural_of text)

-- the level of the log that udev reads in a text: a name, or a number from 0 to 7
unfoldable pub level_of : Text → Option ℤ
level_of text = level_by text (beside levels text)

-- whether udev knows the option of a text, whatever it is set to
abbrev pub is_known_option : Text → Bool
is_known_option text = is_some (following (codes "link_priority=") text) || is_some (other_option text)

-- the option of a text that is not a priority, by what is in it after `log_level=`; one that udev does not know
-- changes nothing
abbrev pub udev_other : Text → Option Text → Option RuleOption
udev_other text (Some level) = option_map (λ n. LogLevel) (level_of level)
udev_other text None = Some (unwrap_or (other_option text) Ignored)

-- the option of a text for udev, by what is in it after `link_priority=`
abbrev pub udev_option : Text → Option Text → Option RuleOption
udev_option text (Some number) = option_map LinkPriority (priority_of number)
udev_option text None = udev_other text (following (codes "log_level=") text)

-- the option of a text by a profile, if it is one
unfoldable pub option_of : Profile → Text → Option RuleOption
option_of profile.Manual text = option_by text (following (codes "link_priority=") text)
option_of profile.Udev text = udev_option text (following (codes "link_priority=") text)
