-- A token, read and checked: the part of a rule that it is, or what is wrong with it.
use Rattle.std.specs.Prelude.{Bool, true, false, not, ◌&&◌, nat_eq, if◌then◌else◌, Option, Some, None, is_some, Result, Ok, Err, ◌≡◌, [], ◌⊎◌, codes}
use Rattle.std.specs.Cmp.Lexicographic.{pointwise}
use Rattle.text_bytes.specs.Text.{Text}
use Rattle.file_messages.specs.declared.message.MessageKind.TheVariants.{UnknownKey, OperatorNotAllowed, WrongAttribute, BadValue}
use Rattle.text_bytes.specs.declared.profile.Profile.{Profile}
use Rattle.text_bytes.specs.declared.profile.Profile.TheVariants.{Manual, Udev}
use Rattle.rule_tokens.specs.Grammar.{Placed}
use Rattle.rule_tokens.specs.Reading.{unquoted}
use Rattle.rule_tokens.specs.declared.kinds.Operator.{Operator}
use Rattle.rule_tokens.specs.declared.kinds.Quote.{Quote}
use Rattle.rule_tokens.specs.declared.kinds.Quote.TheVariants as quote
use Rattle.rule_types.specs.Names.{import_name, key_of}
use Rattle.rule_types.specs.Topics.{topic_of}
use Rattle.rule_types.specs.Operators as operators
use Rattle.rule_types.specs.Roles.{role_of}
use Rattle.rule_types.specs.WrittenParts.{attribute_of_part, key_of_part}
use Rattle.rule_types.specs.declared.keys.Key.{Key}
use Rattle.rule_types.specs.declared.keys.Key.TheVariants as key
use Rattle.rule_types.specs.declared.types.ImportType.{ImportType}
use Rattle.rule_types.specs.declared.types.ImportType.TheVariants as import_of
use Rattle.rule_types.specs.declared.roles.MatchOperator.{MatchOperator}
use Rattle.rule_types.specs.declared.roles.MatchOperator.TheVariants.{Equal, NotEqual}
use Rattle.rule_types.specs.declared.roles.Role.{Role}
use Rattle.rule_types.specs.declared.roles.Role.TheVariants as role
use Rattle.rule_types.specs.Builtins.{builtin_of}
use Rattle.rule_parts.specs.Refusals.{refusal_by}
use Rattle.rule_parts.specs.Values.{finding, read_choice, read_name, read_option, read_template}
use Rattle.rule_parts.specs.declared.finding.Finding.{Finding}
use Rattle.rule_types.specs.declared.part.Comparison.{Comparison}
use Rattle.rule_types.specs.declared.part.ActKind.TheVariants as act_kind
use Rattle.rule_types.specs.declared.part.Import.{Import}
use Rattle.rule_types.specs.declared.part.Import.TheVariants as import
use Rattle.rule_types.specs.declared.part.Change.TheVariants as change
use Rattle.rule_types.specs.declared.part.Part.{Part}
use Rattle.rule_types.specs.declared.part.Part.TheVariants as part

-- what is made from a thing that was read
abbrev pub made : {A B : Type 0} → (A → B) → Result A Finding → Result B Finding
made f (Ok x) = Ok (f x)
made f (Err fault) = Err fault

-- of a thing that may be missing: what is wrong if it is, and what comes next if it is there
abbrev pub if_found : {A B : Type 0} → Option A → Finding → (A → Result B Finding) → Result B Finding
if_found None wrong next = Err wrong
if_found (Some x) wrong next = next x

-- the value of a token with its escapes read
abbrev pub meaning_of : Placed → Text
meaning_of t = unquoted t.parts.quote t.parts.value

-- whether a value asks for its case to be ignored
abbrev pub ignores_case : Quote → Bool
ignores_case quote.Plain = false
ignores_case quote.Escaped = false
ignores_case quote.Blind = true
ignores_case quote.BlindEscaped = true

-- the patterns that something is compared with
unfoldable pub comparison : Profile → MatchOperator → Bool → Text → Result Comparison Finding
comparison profile o blind text = made (λ c. record { operator = o; blind = blind; written = text; choice = c }) (read_choice profile blind text)

-- the value of an IMPORT of a type
unfoldable pub import_by : Profile → ImportType → Text → Result Import Finding
import_by profile import_of.Program text = made import.Program (read_template profile text)
import_by profile import_of.Builtin text = made import.Builtin (read_template profile text)
import_by profile import_of.File text = made import.File (read_template profile text)
import_by profile import_of.Parent text = made (λ names. import.Parent names text) (read_choice profile false text)
import_by profile import_of.Cmdline text = Ok (import.Cmdline text)
import_by profile import_of.Db text = Ok (import.Db text)

-- the part of each role, by its value; whether case is ignored
unfoldable pub part_by : Profile → Role → Bool → Text → Result Part Finding
part_by profile (role.Plain key o) blind text = made (λ c. part.Plain (record { key = key; wanted = c })) (comparison profile o blind text)
part_by profile (role.Up key o) blind text = made (λ c. part.Up (record { key = key; wanted = c })) (comparison profile o blind text)
part_by profile (role.Result o) blind text = made part.Result (comparison profile o blind text)
part_by profile (role.Test mask o) blind text = made (λ t. part.Act (record { operator = o; kind = act_kind.Test mask t })) (read_template profile text)
part_by profile (role.Program o) blind text = made (λ t. part.Act (record { operator = o; kind = act_kind.Program t })) (read_template profile text)
part_by profile (role.Import type o) blind text = made (λ i. part.Act (record { operator = o; kind = act_kind.Import i })) (import_by profile type text)
part_by profile (role.Set target o) blind text = made (λ t. part.Set (record { operator = o; change = change.Text target t })) (read_template profile text)
part_by profile (role.Run type o) blind text = made (λ t. part.Set (record { operator = o; change = change.Run type t })) (read_template profile text)
part_by profile (role.Option o) blind text = made (λ known. part.Set (record { operator = o; change = change.Option known })) (read_option profile text)
part_by profile role.Label blind text = made part.Label (read_name profile text)
part_by profile role.Goto blind text = made part.Goto (read_name profile text)

-- whether a role is a match
abbrev pub is_match : Role → Bool
is_match (role.Plain key o) = true
is_match (role.Up key o) = true
is_match (role.Result o) = true
is_match _ = false

-- the type as which udev reads an IMPORT of a type: a program that is a builtin is of the type of builtins
abbrev pub type_as : ImportType → Text → ImportType
type_as import_of.Program text = if is_some (builtin_of text) then import_of.Builtin else import_of.Program
type_as type text = type

-- the pattern that every text but the empty one fits
abbrev pub is_something : Text → Bool
is_something text = pointwise nat_eq text (codes "?*")

-- the other of `==` and `!=`
abbrev pub opposite : MatchOperator → MatchOperator
opposite Equal = NotEqual
opposite NotEqual = Equal

-- the operator as which udev reads that of TEST, PROGRAM and IMPORT: the value `?*` reverses it
abbrev pub operator_as : MatchOperator → Text → MatchOperator
operator_as o text = if is_something text then opposite o else o

-- the role as which udev reads a role
abbrev pub udev_role : Role → Text → Role
udev_role (role.Test mask o) text = role.Test mask (operator_as o text)
udev_role (role.Program o) text = role.Program (operator_as o text)
udev_role (role.Import type o) text = role.Import (type_as type text) (operator_as o text)
udev_role r text = r

-- the role as which a role is read
abbrev pub role_as : Profile → Role → Text → Role
role_as Manual r text = r
role_as Udev r text = udev_role r text

-- what is read, unless it is refused
abbrev pub unless_refused : Option Finding → Result Part Finding → Result Part Finding
unless_refused None read = read
unless_refused (Some found) read = Err found

-- the part of a role with a value; only matches take one that asks for its case to be ignored
unfoldable pub value_part : Profile → Role → Bool → Text → Result Part Finding
value_part profile r blind text =
    if blind && not (is_match r) then Err (finding BadValue text)
    else unless_refused (refusal_by profile r text) (part_by profile (role_as profile r text) blind text)

-- the part of a rule that a token is, or what is wrong with it: the first of the key, the attribute, the operator and the value
unfoldable pub part_of : Profile → Placed → Result Part Finding
part_of profile t =
    if_found (key_of t.parts.head.key) (finding UnknownKey t.parts.head.key) (λ key.
    if_found (topic_of profile key t.parts.head.attribute) (finding WrongAttribute t.parts.head.key) (λ about.
    if_found (role_of about (operators.read_as key t.parts.head.operator)) (finding OperatorNotAllowed t.parts.head.key) (λ r.
    value_part profile r (ignores_case t.parts.quote) (meaning_of t))))

-- whether an operator is read as `=` after a key, if that is known
abbrev pub is_read_so : Operator → Option Key → Bool
is_read_so o None = false
is_read_so o (Some key) = operators.is_read_as_assign key o

-- whether the operator of a token is read as `=`, which should have been written
unfoldable pub is_read_as_assign : Placed → Bool
is_read_as_assign t = is_read_so t.parts.head.operator (key_of t.parts.head.key)

-- udev reads an attribute of a key as another one: empty braces of TEST as none, and a program of IMPORT as a builtin
abbrev pub IsReadAs : Key → Option Text → Option Text → Type 0
IsReadAs key.Test written read = (written ≡ Some []) × (read ≡ None)
IsReadAs key.Import written read = (written ≡ Some (import_name import_of.Program)) × (read ≡ Some (import_name import_of.Builtin))
IsReadAs _ written read = ⊥

-- a part has the attribute of its token, or the one as which udev reads that
abbrev pub IsWritten : Profile → Option Text → Part → Type 0
IsWritten Manual attribute p = attribute_of_part p ≡ attribute
IsWritten Udev attribute p = (attribute_of_part p ≡ attribute) ⊎ IsReadAs (key_of_part p) attribute (attribute_of_part p)
