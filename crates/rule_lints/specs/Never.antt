-- W16: patterns that fit nothing that the kernel writes, by the items that they have.
use Rattle.std.specs.Prelude.{ℕ, Bool, true, false, not, ◌&&◌, ◌||◌, nat_eq, if◌then◌else◌, List, length, Option, Some, None, codes}
use Rattle.std.specs.Char.{eq_ignore_ascii_case, is_ascii_hexdigit}
use Rattle.std.specs.List.{list_all, list_any, zip}
use Rattle.std.specs.Option.{option_and_then}
use Rattle.text_bytes.specs.Texts.{is_empty}
use Rattle.text_core.specs.Fits.{fits}
use Rattle.text_core.specs.declared.item.Item.{Item}
use Rattle.text_core.specs.declared.item.Item.TheVariants.{Byte}
use Rattle.text_bytes.specs.Text.{Text}
use Rattle.rule_types.specs.declared.part.Comparison.{Comparison}
use Rattle.rule_types.specs.declared.part.Part.{Part}
use Rattle.rule_lints.specs.LetterCase.{begin_with, is_many}
use Rattle.rule_lints.specs.Parts.{comparison_of}
use Rattle.rule_lints.specs.Tables.{actions, architectures, removable_values, subsystems}
use Rattle.rule_lints.specs.Kernel.{subject_of}
use Rattle.rule_lints.specs.declared.subjects.Subject.{Subject}
use Rattle.rule_lints.specs.declared.subjects.Subject.TheVariants.{Action, Kernel, Devpath, Subsystem, FourDigits, TwoDigits, Removable, Architecture}

-- whether none of these texts fits items
abbrev pub fits_none : List Text → List Item → Bool
fits_none texts items = not (list_any (fits items) texts)

-- whether an item is a letter, in any case
abbrev pub is_letter_of : ℕ → Item → Bool
is_letter_of letter (Byte b) = eq_ignore_ascii_case letter b
is_letter_of letter _ = false

-- whether items are a name, but for the case of a letter
abbrev pub are_other_case : Text → List Item → Bool
are_other_case name items =
    nat_eq (length name) (length items) && (list_all (λ pair. is_letter_of pair.0 pair.1) (zip name items) && not (fits items name))

-- whether an item is a byte, and it is no hexadecimal digit
abbrev pub is_no_digit : Item → Bool
is_no_digit (Byte b) = not (is_ascii_hexdigit b)
is_no_digit _ = false

-- whether items are not so many digits: a byte is none, or there are more or fewer and no `*` among them
abbrev pub are_no_digits : ℕ → List Item → Bool
are_no_digits size items = list_any is_no_digit items || (not (list_any is_many items) && not (nat_eq (length items) size))

-- whether items fit nothing that the kernel writes
abbrev pub never_fits : Subject → List Item → Bool
never_fits Action items = fits_none actions items
never_fits Kernel items = begin_with (codes "/") items
never_fits Devpath items = begin_with (codes "/sys/") items || begin_with (codes "/dev/") items
never_fits Subsystem items = list_any (λ name. are_other_case name items) subsystems
never_fits FourDigits items = are_no_digits 4 items
never_fits TwoDigits items = are_no_digits 2 items
never_fits Removable items = fits_none removable_values items
never_fits Architecture items = fits_none architectures items

-- the same for a pattern that is not empty: an empty one is a way to ask for nothing
abbrev pub is_idle : Subject → List Item → Bool
is_idle subject items = not (is_empty items) && never_fits subject items

-- the value of a comparison, if one of its patterns is so
abbrev pub idle_value : Subject → Comparison → Option Text
idle_value subject wanted = if list_any (is_idle subject) wanted.choice then Some wanted.written else None

-- the value with which W16 is reported
abbrev pub impossible : Part → Option Text
impossible p = option_and_then (λ subject. option_and_then (idle_value subject) (comparison_of p)) (subject_of p)
