-- Each remark has a row, and the codes of the rows are different.
use Rattle.std.proofs.Common.{◌≡◌, ◌∙◌, ◌∷◌, [], ◌&&◌, Bool, true, false, List, Option, Some, None, cond, ap, find, nat_eq, option_map, refl, subst, sym}
use Rattle.std.specs.Option.{option_map_or}
use Rattle.std.specs.List.{list_all}
use Rattle.std.specs.Cmp.Lexicographic.{bytes_decides, pointwise}
use Rattle.text_bytes.specs.Text.{Text}
use Rattle.file_messages.specs.declared.message.MessageKind.TheVariants.{PropertyWithoutMatch, MatchWithoutProperty, UnindentedLine, NoEquals, EmptyKey, PatternNotSupported, BadSyntax, UnknownKey, OperatorNotAllowed, WrongAttribute, BadValue, BadSubstitution, NoLaterLabel, GivenTwice, LineTooLong, BadPrefix, SetNotSupported, OpenAtEnd, ReservedProperty, NameWithoutEffect, UnknownBuiltin, MatchesExclude, SaidTwice, RuleWithoutEffect, ResultBeforeProgram, EmptyValue, BadAttributeSubstitution, AttributeElsewhere, OldSubsystemName, AssignExpected, UnknownAccount, FileAbandoned, CommaExpected, BlankExpected, ReadAsAssign, LabelUnused, LeadingComma, BlankBeforeComma}
use Rattle.rule_lints.specs.declared.lint.Lint.TheVariants.{NoMatch, NeverFits, BlankBesideBar, UnknownName, NotSubstituted, ListReplaced, MeantAsMatch}
use Rattle.rule_lints.specs.declared.lint.Lint.TheVariants.{NameTooLong, WantedWithoutTag, ForbiddenCommand, NoResultYet, LinkOfNet, TagTooLate}
use Rattle.rule_lints.specs.declared.lint.Lint.TheVariants.{ModeNotOctal, SignOfShell, RelativeProgram, LetterCase, NoSuchDevice, ImportedBelow, MeantToCompare, NameOutsideNet, LinkWithDev, QuotedName, NotAPattern, AlwaysHolds, NeverReached, NoPatternForUdev}
use Rattle.hwdb_core.specs.declared.lint.DatabaseLint.TheVariants.{DigitCase, NoModalias, EndMissing, UnknownPrefix, MatchTwice, PropertyTwice, BlankAtEquals}
use Rattle.hwdb_core.specs.declared.lint.DatabaseLint.TheVariants.{OddName, BlankAtEnd, ByteOrderMark, CutWord, OpenSet, WrongValue}
use Rattle.link_files.specs.declared.fault.LinkFault.TheVariants as link
use Rattle.file_catalogue.specs.declared.remark.Remark.{Remark}
use Rattle.file_catalogue.specs.declared.remark.Remark.TheVariants as about
use Rattle.file_catalogue.specs.declared.remark.Remark.TheVariants.{Message, IdleIgnore, UnknownCode}
use Rattle.file_catalogue.specs.Catalogue.{Row, advice_of, catalogue, code_of, is_same, lints, messages, remark_of, row_on, text_of}

-- the row on a remark has the remark, and the remark is found by its code
each : (remark : Remark) → (option_map (λ row. row.remark) (row_on remark) ≡ Some remark) × (remark_of (code_of remark) ≡ Some remark)
unfolding row_on messages lints remark_of
each (Message PropertyWithoutMatch) = (refl, refl)
each (Message MatchWithoutProperty) = (refl, refl)
each (Message UnindentedLine) = (refl, refl)
each (Message NoEquals) = (refl, refl)
each (Message EmptyKey) = (refl, refl)
each (Message PatternNotSupported) = (refl, refl)
each (Message BadSyntax) = (refl, refl)
each (Message UnknownKey) = (refl, refl)
each (Message OperatorNotAllowed) = (refl, refl)
each (Message WrongAttribute) = (refl, refl)
each (Message BadValue) = (refl, refl)
each (Message BadSubstitution) = (refl, refl)
each (Message NoLaterLabel) = (refl, refl)
each (Message GivenTwice) = (refl, refl)
each (Message LineTooLong) = (refl, refl)
each (Message BadPrefix) = (refl, refl)
each (Message SetNotSupported) = (refl, refl)
each (Message OpenAtEnd) = (refl, refl)
each (Message ReservedProperty) = (refl, refl)
each (Message NameWithoutEffect) = (refl, refl)
each (Message UnknownBuiltin) = (refl, refl)
each (Message MatchesExclude) = (refl, refl)
each (Message SaidTwice) = (refl, refl)
each (Message RuleWithoutEffect) = (refl, refl)
each (Message ResultBeforeProgram) = (refl, refl)
each (Message EmptyValue) = (refl, refl)
each (Message BadAttributeSubstitution) = (refl, refl)
each (Message AttributeElsewhere) = (refl, refl)
each (Message OldSubsystemName) = (refl, refl)
each (Message AssignExpected) = (refl, refl)
each (Message UnknownAccount) = (refl, refl)
each (Message FileAbandoned) = (refl, refl)
each (Message CommaExpected) = (refl, refl)
each (Message BlankExpected) = (refl, refl)
each (Message ReadAsAssign) = (refl, refl)
each (Message LabelUnused) = (refl, refl)
each (Message LeadingComma) = (refl, refl)
each (Message BlankBeforeComma) = (refl, refl)
each (about.Lint ModeNotOctal) = (refl, refl)
each (about.Lint SignOfShell) = (refl, refl)
each (about.Lint RelativeProgram) = (refl, refl)
each (about.Lint LetterCase) = (refl, refl)
each (about.Lint NoSuchDevice) = (refl, refl)
each (about.Lint ImportedBelow) = (refl, refl)
each (about.Lint MeantToCompare) = (refl, refl)
each (about.Lint NameOutsideNet) = (refl, refl)
each (about.Lint LinkWithDev) = (refl, refl)
each (about.Lint QuotedName) = (refl, refl)
each (about.Lint NotAPattern) = (refl, refl)
each (about.Lint AlwaysHolds) = (refl, refl)
each (about.Lint NeverReached) = (refl, refl)
each (about.Lint NoPatternForUdev) = (refl, refl)
each (about.Lint NoMatch) = (refl, refl)
each (about.Lint NeverFits) = (refl, refl)
each (about.Lint BlankBesideBar) = (refl, refl)
each (about.Lint UnknownName) = (refl, refl)
each (about.Lint NotSubstituted) = (refl, refl)
each (about.Lint ListReplaced) = (refl, refl)
each (about.Lint MeantAsMatch) = (refl, refl)
each (about.Lint NameTooLong) = (refl, refl)
each (about.Lint WantedWithoutTag) = (refl, refl)
each (about.Lint ForbiddenCommand) = (refl, refl)
each (about.Lint NoResultYet) = (refl, refl)
each (about.Lint LinkOfNet) = (refl, refl)
each (about.Lint TagTooLate) = (refl, refl)
each (about.DatabaseLint DigitCase) = (refl, refl)
each (about.DatabaseLint NoModalias) = (refl, refl)
each (about.DatabaseLint EndMissing) = (refl, refl)
each (about.DatabaseLint UnknownPrefix) = (refl, refl)
each (about.DatabaseLint MatchTwice) = (refl, refl)
each (about.DatabaseLint PropertyTwice) = (refl, refl)
each (about.DatabaseLint BlankAtEquals) = (refl, refl)
each (about.DatabaseLint OddName) = (refl, refl)
each (about.DatabaseLint BlankAtEnd) = (refl, refl)
each (about.DatabaseLint ByteOrderMark) = (refl, refl)
each (about.DatabaseLint CutWord) = (refl, refl)
each (about.DatabaseLint OpenSet) = (refl, refl)
each (about.DatabaseLint WrongValue) = (refl, refl)
each (about.LinkFault link.UnknownSection) = (refl, refl)
each (about.LinkFault link.UnknownKey) = (refl, refl)
each (about.LinkFault link.BadLine) = (refl, refl)
each (about.LinkFault link.BadValue) = (refl, refl)
each (about.LinkFault link.NoInterface) = (refl, refl)
each IdleIgnore = (refl, refl)
each UnknownCode = (refl, refl)

pub each_found : (remark : Remark) → remark_of (code_of remark) ≡ Some remark
each_found remark = (each remark).1

-- what is found is in the list, so that what holds of all holds of it
found_holds : {A : Type 0} (p q : A → Bool) (xs : List A) (x : A) → find p xs ≡ Some x → list_all q xs ≡ true → q x ≡ true
found_holds p q [] x e all = cc
found_holds p q (y ∷ ys) x e all = by (p y) (q y) refl e all (found_holds p q ys x)
  where
    by : (b h : Bool) → q y ≡ h → cond b (Some y) (find p ys) ≡ Some x → (h && list_all q ys) ≡ true
        → (find p ys ≡ Some x → list_all q ys ≡ true → q x ≡ true) → q x ≡ true
    by true true h e all more = let same : y ≡ x = cc in ap q (sym same) ∙ h
    by false true h e all more = more e all
    by true false h e all more = cc
    by false false h e all more = cc

-- what is found is what is looked for
found_itself : {A : Type 0} (p : A → Bool) (xs : List A) (x : A) → find p xs ≡ Some x → p x ≡ true
found_itself p [] x e = cc
found_itself p (y ∷ ys) x e = by (p y) refl e (found_itself p ys x)
  where
    by : (b : Bool) → p y ≡ b → cond b (Some y) (find p ys) ≡ Some x → (find p ys ≡ Some x → p x ≡ true) → p x ≡ true
    by true is e more = let same : y ≡ x = cc in ap p (sym same) ∙ is
    by false is e more = more e

-- what is known of a remark, as a row
abbrev pub known_of : Remark → Row
known_of remark = record { remark = remark; code = code_of remark; text = text_of remark; advice = advice_of remark }

-- what holds of all rows holds of each remark
pub holds_of_each : (q : Row → Bool) → list_all q catalogue ≡ true → (remark : Remark) → q (known_of remark) ≡ true
unfolding row_on
holds_of_each q all remark = by (row_on remark) refl ((each remark).0)
  where
    by : (found : Option Row) → row_on remark ≡ found → option_map (λ row. row.remark) found ≡ Some remark
        → q (record {
          remark = remark;
          code = option_map_or (λ row. row.code) found [];
          text = option_map_or (λ row. row.text) found [];
          advice = option_map_or (λ row. row.advice) found [];
        }) ≡ true
    by (Some row) e same = let is : row.remark ≡ remark = cc in
        subst (λ r. q (record { remark = r; code = row.code; text = row.text; advice = row.advice }) ≡ true) is
        (found_holds (λ row. is_same row.remark remark) q catalogue row e all)
    by None e same = cc

-- the code of the remark of a row is that of the row
own_code : list_all (λ row. pointwise nat_eq (code_of row.remark) row.code) catalogue ≡ true
unfolding row_on messages lints
own_code = refl

-- the remark that is found by a code has it
pub each_named : (code : Text) (remark : Remark) → remark_of code ≡ Some remark → code_of remark ≡ code
unfolding remark_of
each_named code remark = by (find (λ row. pointwise nat_eq row.code code) catalogue) refl
  where
    by : (found : Option Row) → find (λ row. pointwise nat_eq row.code code) catalogue ≡ found → option_map (λ row. row.remark) found ≡ Some remark → code_of remark ≡ code
    by (Some row) e same = let is : row.remark ≡ remark = cc in
        ap code_of (sym is)
        ∙ (bytes_decides (code_of row.remark) row.code).0
        (found_holds (λ row. pointwise nat_eq row.code code) (λ row. pointwise nat_eq (code_of row.remark) row.code) catalogue row e own_code)
        ∙ (bytes_decides row.code code).0 (found_itself (λ row. pointwise nat_eq row.code code) catalogue row e)
    by None e same = cc
