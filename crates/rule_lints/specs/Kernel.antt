-- What a match looks at whose texts are known, and these texts: the premises of W16.
use Rattle.std.specs.Prelude.{ℕ, Bool, not, ◌&&◌, ◌||◌, nat_eq, if◌then◌else◌, List, length, Option, Some, None, codes}
use Rattle.std.specs.Char.{eq_ignore_ascii_case, is_ascii_hexdigit}
use Rattle.std.specs.List.{list_all, list_any, starts_with, zip}
use Rattle.text_bytes.specs.Text.{Text}
use Rattle.text_tables.specs.Texts.{is_among, same_text}
use Rattle.rule_types.specs.declared.part.Part.{Part}
use Rattle.rule_types.specs.declared.part.Part.TheVariants as part
use Rattle.rule_types.specs.declared.roles.PlainKey.{PlainKey}
use Rattle.rule_types.specs.declared.roles.PlainKey.TheVariants as plain
use Rattle.rule_types.specs.declared.roles.UpKey.{UpKey}
use Rattle.rule_types.specs.declared.roles.UpKey.TheVariants as up
use Rattle.rule_lints.specs.Tables.{actions, architectures, four_digit_names, removable_values, subsystems, two_digit_names}
use Rattle.rule_lints.specs.declared.subjects.Subject.{Subject}
use Rattle.rule_lints.specs.declared.subjects.Subject.TheVariants.{Action, Kernel, Devpath, Subsystem, FourDigits, TwoDigits, Removable, Architecture}

-- what an attribute is, if its texts are known
abbrev pub subject_named : Text → Option Subject
subject_named name =
    if is_among four_digit_names name then Some FourDigits
    else (if is_among two_digit_names name then Some TwoDigits
    else (if same_text name (codes "removable") then Some Removable else None))

-- what a match of the event looks at, if its texts are known
abbrev pub subject_of_plain : PlainKey → Option Subject
subject_of_plain plain.Action = Some Action
subject_of_plain plain.Kernel = Some Kernel
subject_of_plain plain.Devpath = Some Devpath
subject_of_plain plain.Subsystem = Some Subsystem
subject_of_plain (plain.Attr name) = subject_named name
subject_of_plain (plain.Const name) = if same_text name (codes "arch") then Some Architecture else None
subject_of_plain _ = None

-- what a match of one device of the chain looks at, if its texts are known
abbrev pub subject_of_up : UpKey → Option Subject
subject_of_up up.Kernels = Some Kernel
subject_of_up up.Subsystems = Some Subsystem
subject_of_up (up.Attrs name) = subject_named name
subject_of_up _ = None

-- what a part looks at, if its texts are known
abbrev pub subject_of : Part → Option Subject
subject_of (part.Plain m) = subject_of_plain m.key
subject_of (part.Up m) = subject_of_up m.key
subject_of _ = None

-- whether a text is another, but for the case of a letter
abbrev pub is_other_case : Text → Text → Bool
is_other_case name text =
    nat_eq (length name) (length text) && (list_all (λ pair. eq_ignore_ascii_case pair.0 pair.1) (zip name text) && not (same_text name text))

-- whether a text is so many hexadecimal digits
abbrev pub are_digits : ℕ → Text → Bool
are_digits size text = nat_eq (length text) size && list_all is_ascii_hexdigit text

-- Whether the kernel may write a text. ACTION is one of eight words. The name of a device does not begin with a `/`, and
-- its path does not begin with `/sys/` or `/dev/`. The name of a known subsystem is written in one case. The attributes
-- with numbers of USB and input devices have four or two hexadecimal digits.
abbrev pub writes : Subject → Text → Bool
writes Action text = is_among actions text
writes Kernel text = not (starts_with nat_eq text (codes "/"))
writes Devpath text = not (starts_with nat_eq text (codes "/sys/") || starts_with nat_eq text (codes "/dev/"))
writes Subsystem text = not (list_any (λ name. is_other_case name text) subsystems)
writes FourDigits text = are_digits 4 text
writes TwoDigits text = are_digits 2 text
writes Removable text = is_among removable_values text
writes Architecture text = is_among architectures text
