-- How a token compares its value, by what the value is.
use Rattle.std.specs.Prelude.{Bool, true, false, not, ◌||◌, if◌then◌else◌, codes}
use Rattle.std.specs.List.{list_any, slice_split}
use Rattle.text_bytes.specs.Text.{Text}
use Rattle.text_bytes.specs.Texts.{is_empty}
use Rattle.text_core.specs.Choices.{is_bar}
use Rattle.text_core.specs.Fnmatch.{is_special}
use Rattle.text_tables.specs.Texts.{same_text}
use Rattle.rule_tokens.specs.Grammar.{compares}
use Rattle.rule_tokens.specs.declared.kinds.Operator.{Operator}
use Rattle.rule_types.specs.declared.keys.Key.{Key}
use Rattle.rule_types.specs.declared.keys.Key.TheVariants as key
use Rattle.rule_parts.specs.Parts.{is_something}
use Rattle.rule_remarks.specs.declared.form.Form.{Form}
use Rattle.rule_remarks.specs.declared.form.Form.TheVariants.{AnySubsystem, Empty, Plain, Pattern, PlainOrEmpty, PatternOrEmpty, Whole}

-- whether a key does something while its rule is matched, so that its value is one text
abbrev pub is_act_kind : Key → Bool
is_act_kind key.Test = true
is_act_kind key.Program = true
is_act_kind key.Import = true
is_act_kind _ = false

-- whether a key is SUBSYSTEM, and its value one of the words that each mean all three of them
abbrev pub any_subsystem : Key → Text → Bool
any_subsystem key.Subsystem text = same_text text (codes "subsystem") || (same_text text (codes "bus") || same_text text (codes "class"))
any_subsystem _ text = false

-- whether one of the texts between bars is empty
abbrev pub has_empty_part : Text → Bool
has_empty_part text = list_any is_empty (slice_split is_bar text)

-- the form of texts between bars, by whether they are patterns, with one of `*`, `?` and `[`, and whether one of them is empty
abbrev pub parts_form : Bool → Bool → Form
parts_form true true = PatternOrEmpty
parts_form true false = Pattern
parts_form false true = PlainOrEmpty
parts_form false false = Plain

-- the form of a token of a key and an operator with a value
unfoldable pub form_of : Key → Operator → Text → Form
form_of k o text =
    if not (compares o) then Whole
    else (if any_subsystem k text then AnySubsystem
    else (if is_empty text || is_something text then Empty
    else (if is_act_kind k then Whole
    else parts_form (list_any is_special text) (has_empty_part text))))
