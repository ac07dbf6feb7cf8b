-- W27: the tag `uaccess` in a file that udev evaluates after the one that reads it.
use Rattle.std.specs.Prelude.{Bool, true, false, not, ◌&&◌, ◌||◌, if◌then◌else◌, List, [], codes, find}
use Rattle.std.specs.List.{list_any}
use Rattle.text_bytes.specs.Text.{Text}
use Rattle.text_tables.specs.Texts.{same_text}
use Rattle.rule_tokens.specs.Grammar.{Placed}
use Rattle.rule_tokens.specs.declared.kinds.Operator.{Operator}
use Rattle.rule_tokens.specs.declared.kinds.Operator.TheVariants as op
use Rattle.rule_types.specs.Tokens.{WrittenPart}
use Rattle.rule_types.specs.declared.spot.Spot.{Spot}
use Rattle.rule_lints.specs.Commands.{first_word}
use Rattle.rule_lints.specs.declared.lint.Lint.{Lint}
use Rattle.rule_lints.specs.declared.lint.Lint.TheVariants.{TagTooLate}
use Rattle.rule_file_lints.specs.ByName.{is_later}
use Rattle.rule_file_lints.specs.FileRules.{FileRule}
use Rattle.rule_file_lints.specs.Guarded.{first_spots}

-- the file of systemd that gives users at a seat access to a device with the tag
abbrev pub access_file : Text
access_file = codes "73-seat-late.rules"

-- whether an operator gives a value
abbrev pub is_giving : Operator → Bool
is_giving op.Add = true
is_giving op.Assign = true
is_giving op.AssignFinal = true
is_giving _ = false

-- whether a token gives the tag
abbrev pub gives_access : Placed → Bool
gives_access t =
    same_text t.parts.head.key (codes "TAG") && (is_giving t.parts.head.operator && same_text t.parts.value (codes "uaccess"))

-- whether a token runs the builtin that gives access
abbrev pub runs_access : Placed → Bool
runs_access t = same_text t.parts.head.key (codes "RUN") && same_text (first_word t.parts.value) (codes "uaccess")

-- whether a rule runs it
abbrev pub has_access : List WrittenPart → Bool
has_access tokens = list_any (λ w. runs_access w.token) tokens

-- whether the tag comes too late in these rules of a file: that file comes before it, and none of them runs the builtin
abbrev pub are_late : Text → List FileRule → Bool
are_late path rules = is_later path access_file && not (list_any (λ r. has_access r.draft.parts) rules)

-- whether a rule gives the tag
abbrev pub has_tag : List WrittenPart → Bool
has_tag tokens = list_any (λ w. gives_access w.token) tokens

-- whether one of the rules above does
abbrev pub have_tag : List FileRule → Bool
have_tag above = list_any (λ r. has_tag r.draft.parts) above

-- the first token of a rule that gives the tag, if it comes too late and no rule above gives it
abbrev pub late_tag : Bool → Bool → List WrittenPart → List (Spot Lint)
late_tag late above tokens = if not late || above then [] else first_spots TagTooLate (find (λ w. gives_access w.token) tokens)
