-- How severe a diagnostic is to an editor, and how it is to be shown.
use Rattle.std.specs.Prelude.{ℕ, Option, Some, None}
use Rattle.file_messages.specs.declared.message.MessageKind.{MessageKind}
use Rattle.file_messages.specs.declared.message.MessageKind.TheVariants.{GivenTwice, LabelUnused, MatchWithoutProperty, NameWithoutEffect}
use Rattle.file_messages.specs.declared.message.MessageKind.TheVariants.{OldSubsystemName, RuleWithoutEffect, SaidTwice}
use Rattle.hwdb_core.specs.declared.lint.DatabaseLint.{DatabaseLint}
use Rattle.hwdb_core.specs.declared.lint.DatabaseLint.TheVariants.{MatchTwice, PropertyTwice}
use Rattle.rule_lints.specs.declared.lint.Lint.{Lint}
use Rattle.rule_lints.specs.declared.lint.Lint.TheVariants.{AlwaysHolds, NeverReached}
use Rattle.file_catalogue.specs.declared.remark.Remark.{Remark}
use Rattle.file_catalogue.specs.declared.remark.Remark.TheVariants as about
use Rattle.file_catalogue.specs.declared.remark.Severity.{Severity}
use Rattle.file_catalogue.specs.declared.remark.Severity.TheVariants.{Error, Warning}

-- the number by which the protocol knows how severe something is
abbrev pub severity_number : Severity → ℕ
severity_number Error = 1
severity_number Warning = 2

-- the tag of a message: 1 on what has no effect, 2 on what is out of use
abbrev pub tag_of_message : MessageKind → Option ℕ
tag_of_message OldSubsystemName = Some 2
tag_of_message GivenTwice = Some 1
tag_of_message LabelUnused = Some 1
tag_of_message MatchWithoutProperty = Some 1
tag_of_message NameWithoutEffect = Some 1
tag_of_message RuleWithoutEffect = Some 1
tag_of_message SaidTwice = Some 1
tag_of_message _ = None

-- the tag of a lint of a rule
abbrev pub tag_of_lint : Lint → Option ℕ
tag_of_lint AlwaysHolds = Some 1
tag_of_lint NeverReached = Some 1
tag_of_lint _ = None

-- the tag of a lint of a database
abbrev pub tag_of_database : DatabaseLint → Option ℕ
tag_of_database MatchTwice = Some 1
tag_of_database PropertyTwice = Some 1
tag_of_database _ = None

-- the tag of a remark
abbrev pub tag_of : Remark → Option ℕ
tag_of (about.Message kind) = tag_of_message kind
tag_of (about.Lint lint) = tag_of_lint lint
tag_of (about.DatabaseLint lint) = tag_of_database lint
tag_of about.IdleIgnore = Some 1
tag_of _ = None
