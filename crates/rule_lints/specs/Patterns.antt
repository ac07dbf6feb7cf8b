-- W11, W12 and W14: patterns that are written as regular expressions, matches that always hold, and what is no pattern
-- for udev.
use Rattle.std.specs.Prelude.{ℕ, Bool, true, false, not, ◌&&◌, ◌||◌, nat_eq, List, [], ◌∷◌, Option, Some, None, codes, option_map, unwrap_or}
use Rattle.std.specs.Bool.{then_some}
use Rattle.std.specs.List.{list_all, list_any, slice_split, starts_with}
use Rattle.std.specs.Option.{option_and_then}
use Rattle.text_bytes.specs.Text.{Text}
use Rattle.text_bytes.specs.Names.{caret, close_brace, comma, dollar, open_brace}
use Rattle.text_bytes.specs.Texts.{begins_with, ends_in, is_empty, up_to}
use Rattle.text_bytes.specs.declared.profile.Profile.{Profile}
use Rattle.text_bytes.specs.declared.profile.Profile.TheVariants.{Manual, Udev}
use Rattle.text_tables.specs.Texts.{same_text}
use Rattle.text_core.specs.Choices.{is_bar}
use Rattle.text_core.specs.declared.item.Item.{Item}
use Rattle.rule_types.specs.declared.part.ActKind.{ActKind}
use Rattle.rule_types.specs.declared.part.ActKind.TheVariants as act_kind
use Rattle.rule_types.specs.declared.part.Import.TheVariants as import
use Rattle.rule_types.specs.declared.part.Part.{Part}
use Rattle.rule_types.specs.declared.part.Part.TheVariants as part
use Rattle.rule_types.specs.declared.roles.PlainKey.{PlainKey}
use Rattle.rule_types.specs.declared.roles.PlainKey.TheVariants as plain
use Rattle.rule_types.specs.declared.roles.UpKey.{UpKey}
use Rattle.rule_types.specs.declared.roles.UpKey.TheVariants as up
use Rattle.rule_lints.specs.LetterCase.{is_many}
use Rattle.rule_lints.specs.Parts.{comparison_of, is_equal}
use Rattle.rule_lints.specs.Texts.{has_byte, rest_after_first, rest_after_last}
use Rattle.rule_lints.specs.ValueTexts.{has_one}

-- the byte `(`
abbrev pub open_parenthesis : ℕ
open_parenthesis = 40

-- the byte `)`
abbrev pub close_parenthesis : ℕ
close_parenthesis = 41

-- signs that are in regular expressions alone: classes of digits, letters and blanks, and a set that is repeated
abbrev pub expression_signs : List Text
expression_signs = codes "\\d" ∷ codes "\\w" ∷ codes "\\s" ∷ codes "]+" ∷ []

-- whether a text has a `(` that no `)` follows: one after the last `)`
abbrev pub has_open_parenthesis : Text → Bool
has_open_parenthesis text = has_byte open_parenthesis (rest_after_last close_parenthesis text)

-- whether a text has a `)` that no `(` precedes: one before the first `(`
abbrev pub has_close_parenthesis : Text → Bool
has_close_parenthesis text = has_byte close_parenthesis (up_to open_parenthesis text)

-- whether texts between bars are those of a group in parentheses: one of them opens it, and one closes it
abbrev pub are_of_group : List Text → Bool
are_of_group texts = list_any has_open_parenthesis texts && list_any has_close_parenthesis texts

-- whether a text has a `{`, after it a `,`, and after that a `}`
abbrev pub has_braces : Text → Bool
has_braces text = has_byte close_brace (rest_after_first comma (rest_after_first open_brace text))

-- whether a text is written as a regular expression or with braces, which are not signs of a pattern
abbrev pub is_expression : Text → Bool
is_expression text =
    (begins_with caret text || (starts_with nat_eq text (codes ".*") || ends_in dollar text))
    || (has_one expression_signs text || has_braces text)

-- whether one of the texts between bars is written so, or they are those of a group
abbrev pub are_expressions : List Text → Bool
are_expressions texts = list_any is_expression texts || are_of_group texts

-- the value with which W11 is reported: that of a comparison, if its alternatives, as texts between bars, are written so
abbrev pub expression : Part → Option Text
expression p = option_and_then (λ wanted. then_some (are_expressions (slice_split is_bar wanted.written)) wanted.written) (comparison_of p)

-- whether items take any text
abbrev pub take_all : List Item → Bool
take_all items = not (is_empty items) && list_all is_many items

-- whether what a match of the event looks at is there for each event
abbrev pub is_always_there : PlainKey → Bool
is_always_there plain.Action = true
is_always_there plain.Devpath = true
is_always_there plain.Kernel = true
is_always_there plain.Subsystem = true
is_always_there plain.Driver = true
is_always_there (plain.Env name) = true
is_always_there _ = false

-- Whether W12 is reported for a part: a match of the event by `==` that holds for any text. One of one device of the chain is
-- not reported, as it selects that device for substitutions.
abbrev pub always_holds : Part → Bool
always_holds (part.Plain m) = is_always_there m.key && (is_equal m.wanted.operator && list_any take_all m.wanted.choice)
always_holds _ = false

-- whether a match of the event looks at several texts, or at none: udev then takes `?*` to ask that none of them is
-- empty, which always holds
abbrev pub is_of_members : PlainKey → Bool
is_of_members plain.Symlink = true
is_of_members plain.Tag = true
is_of_members _ = false

-- the same for a match of one device
abbrev pub is_of_tags : UpKey → Bool
is_of_tags up.Tags = true
is_of_tags _ = false

-- the value of what acts that a pattern, or a file, may be meant by: udev takes `?*` to reverse the operator
abbrev pub value_of_act : ActKind → Option Text
value_of_act (act_kind.Test mask t) = Some t.written
value_of_act (act_kind.Import (import.Parent names value)) = Some value
value_of_act _ = None

-- the value of a part that udev does not take as a pattern, if it is `?*`
abbrev pub value_taken : Part → Option Text
value_taken (part.Plain m) = then_some (is_of_members m.key) m.wanted.written
value_taken (part.Up m) = then_some (is_of_tags m.key) m.wanted.written
value_taken (part.Act a) = value_of_act a.kind
value_taken _ = None

-- whether W14 is reported for a part: by the manual `?*` is a pattern everywhere
abbrev pub is_no_pattern : Profile → Part → Bool
is_no_pattern Manual p = false
is_no_pattern Udev p = unwrap_or (option_map (λ value. same_text value (codes "?*")) (value_taken p)) false
