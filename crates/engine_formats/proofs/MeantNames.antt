-- A name that may have been meant stays on its line.
use Rattle.std.proofs.Common.{◌≡◌, eqb, false, IfSome, List, [], ◌∷◌, refl}
use Rattle.std.specs.List.{AllByRecursion, list_any}
use Rattle.text_bytes.specs.Names.{newline}
use Rattle.text_bytes.specs.Texts.{word_of}
use Rattle.text_bytes.specs.Text.{Text}
use Rattle.file_messages.specs.declared.message.MessageKind.{MessageKind}
use Rattle.file_messages.specs.declared.message.MessageKind.TheVariants.{BadSyntax, CommaExpected, UnknownKey, PropertyWithoutMatch, MatchWithoutProperty}
use Rattle.file_messages.specs.declared.message.MessageKind.TheVariants.{UnindentedLine, NoEquals, EmptyKey, PatternNotSupported, OperatorNotAllowed}
use Rattle.file_messages.specs.declared.message.MessageKind.TheVariants.{WrongAttribute, BadValue, BadSubstitution, NoLaterLabel}
use Rattle.file_messages.specs.declared.message.MessageKind.TheVariants.{GivenTwice, LineTooLong, BadPrefix, SetNotSupported, OpenAtEnd}
use Rattle.file_messages.specs.declared.message.MessageKind.TheVariants.{ReservedProperty, NameWithoutEffect, UnknownBuiltin, MatchesExclude, SaidTwice}
use Rattle.file_messages.specs.declared.message.MessageKind.TheVariants.{RuleWithoutEffect, ResultBeforeProgram, EmptyValue, BadAttributeSubstitution}
use Rattle.file_messages.specs.declared.message.MessageKind.TheVariants.{AttributeElsewhere, OldSubsystemName, AssignExpected, UnknownAccount, FileAbandoned}
use Rattle.file_messages.specs.declared.message.MessageKind.TheVariants.{BlankExpected, ReadAsAssign, LabelUnused, LeadingComma, BlankBeforeComma}
use Rattle.engine_formats.specs.Meant.{meant_as, name_in, names_for}
use Rattle.file_catalogue.specs.declared.remark.Remark.{Remark}
use Rattle.file_catalogue.specs.declared.remark.Remark.TheVariants as about
use Rattle.engine_formats.proofs.NearestNames.{nearest_one}
use Rattle.engine_formats.proofs.OneLine.{Lacks, or_parts}

-- of names of which none has a newline each is on its line
by_test : (names : List Text) → list_any (λ name. list_any (λ b. eqb b newline) name) names ≡ false → AllByRecursion (Lacks newline) names
by_test [] h = tt
by_test (name ∷ names) h =
    let parts = or_parts (list_any (λ b. eqb b newline) name) (list_any (λ name. list_any (λ b. eqb b newline) name) names) h in
    (parts.0, by_test names parts.1)

names_lack : (kind : MessageKind) → AllByRecursion (Lacks newline) (names_for kind)
names_lack BadSyntax = by_test (names_for BadSyntax) refl
names_lack CommaExpected = by_test (names_for CommaExpected) refl
names_lack UnknownKey = by_test (names_for UnknownKey) refl
names_lack PropertyWithoutMatch = by_test (names_for PropertyWithoutMatch) refl
names_lack MatchWithoutProperty = by_test (names_for MatchWithoutProperty) refl
names_lack UnindentedLine = by_test (names_for UnindentedLine) refl
names_lack NoEquals = by_test (names_for NoEquals) refl
names_lack EmptyKey = by_test (names_for EmptyKey) refl
names_lack PatternNotSupported = by_test (names_for PatternNotSupported) refl
names_lack OperatorNotAllowed = by_test (names_for OperatorNotAllowed) refl
names_lack WrongAttribute = by_test (names_for WrongAttribute) refl
names_lack BadValue = by_test (names_for BadValue) refl
names_lack BadSubstitution = by_test (names_for BadSubstitution) refl
names_lack NoLaterLabel = by_test (names_for NoLaterLabel) refl
names_lack GivenTwice = by_test (names_for GivenTwice) refl
names_lack LineTooLong = by_test (names_for LineTooLong) refl
names_lack BadPrefix = by_test (names_for BadPrefix) refl
names_lack SetNotSupported = by_test (names_for SetNotSupported) refl
names_lack OpenAtEnd = by_test (names_for OpenAtEnd) refl
names_lack ReservedProperty = by_test (names_for ReservedProperty) refl
names_lack NameWithoutEffect = by_test (names_for NameWithoutEffect) refl
names_lack UnknownBuiltin = by_test (names_for UnknownBuiltin) refl
names_lack MatchesExclude = by_test (names_for MatchesExclude) refl
names_lack SaidTwice = by_test (names_for SaidTwice) refl
names_lack RuleWithoutEffect = by_test (names_for RuleWithoutEffect) refl
names_lack ResultBeforeProgram = by_test (names_for ResultBeforeProgram) refl
names_lack EmptyValue = by_test (names_for EmptyValue) refl
names_lack BadAttributeSubstitution = by_test (names_for BadAttributeSubstitution) refl
names_lack AttributeElsewhere = by_test (names_for AttributeElsewhere) refl
names_lack OldSubsystemName = by_test (names_for OldSubsystemName) refl
names_lack AssignExpected = by_test (names_for AssignExpected) refl
names_lack UnknownAccount = by_test (names_for UnknownAccount) refl
names_lack FileAbandoned = by_test (names_for FileAbandoned) refl
names_lack BlankExpected = by_test (names_for BlankExpected) refl
names_lack ReadAsAssign = by_test (names_for ReadAsAssign) refl
names_lack LabelUnused = by_test (names_for LabelUnused) refl
names_lack LeadingComma = by_test (names_for LeadingComma) refl
names_lack BlankBeforeComma = by_test (names_for BlankBeforeComma) refl

pub meant_lacks : (remark : Remark) (word : Text) → IfSome (meant_as remark word) (Lacks newline)
meant_lacks (about.Message kind) word = nearest_one (Lacks newline) (names_for kind) (word_of (name_in kind word)) (names_lack kind)
meant_lacks (about.Lint lint) word = tt
meant_lacks (about.DatabaseLint lint) word = tt
meant_lacks (about.LinkFault fault) word = tt
meant_lacks about.IdleIgnore word = tt
meant_lacks about.UnknownCode word = tt
