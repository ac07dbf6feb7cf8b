-- What may be wrong with a token by the manual, as one list: each condition with its fault.
use Rattle.std.specs.Prelude.{◌≡◌, Bool, true, false, not, ◌&&◌, if◌then◌else◌, List, [], ◌∷◌, Option, Some, None, is_none, is_err, Result, Err}
use Rattle.std.specs.Option.{option_and_then}
use Rattle.std.specs.Result.{result_err}
use Rattle.text_bytes.specs.Text.{Text}
use Rattle.file_messages.specs.declared.message.MessageKind.TheVariants.{UnknownKey, OperatorNotAllowed, WrongAttribute}
use Rattle.file_messages.specs.declared.message.MessageKind.TheVariants.{BadValue, BadSubstitution, SetNotSupported}
use Rattle.text_bytes.specs.declared.profile.Profile.TheVariants.{Manual}
use Rattle.text_core.specs.Choices.{choice, choice_blind}
use Rattle.text_core.specs.declared.glob_fault.GlobFault.{GlobFault}
use Rattle.text_core.specs.declared.glob_fault.GlobFault.TheVariants as glob
use Rattle.rule_tokens.specs.TemplateReading as templates
use Rattle.rule_tokens.specs.Grammar.{Placed}
use Rattle.rule_types.specs.Names.{key_of}
use Rattle.rule_types.specs.Topics.{topic_of}
use Rattle.rule_types.specs.Operators.{read_as}
use Rattle.rule_types.specs.Roles.{role_of}
use Rattle.rule_types.specs.declared.keys.Key.{Key}
use Rattle.rule_types.specs.declared.types.ImportType.TheVariants as import_of
use Rattle.rule_types.specs.declared.topics.Topic.{Topic}
use Rattle.rule_types.specs.declared.roles.Role.{Role}
use Rattle.rule_types.specs.declared.roles.Role.TheVariants as role
use Rattle.rule_parts.specs.Values.{finding}
use Rattle.rule_parts.specs.Parts.{ignores_case, is_match, meaning_of, part_by, part_of}
use Rattle.rule_parts.specs.declared.finding.Finding.{Finding}

-- what a token is about, if its key is one and takes its attribute
abbrev pub topic_in : Placed → Option Topic
topic_in t = option_and_then (λ key. topic_of Manual key t.parts.head.attribute) (key_of t.parts.head.key)

-- what a token with a key is for its rule, if the key takes its attribute and its operator
abbrev pub role_with : Placed → Key → Option Role
role_with t key = option_and_then (λ about. role_of about (read_as key t.parts.head.operator)) (topic_of Manual key t.parts.head.attribute)

-- what a token is for its rule, if all three are taken
abbrev pub role_in : Placed → Option Role
role_in t = option_and_then (role_with t) (key_of t.parts.head.key)

-- whether there is a role, and it passes a test
abbrev pub some_role : (Role → Bool) → Option Role → Bool
some_role test None = false
some_role test (Some r) = test r

-- the value is read as patterns
abbrev pub takes_patterns : Role → Bool
takes_patterns (role.Plain k o) = true
takes_patterns (role.Up k o) = true
takes_patterns (role.Result o) = true
takes_patterns (role.Import import_of.Parent o) = true
takes_patterns _ = false

-- the value is read as a text with substitutions
abbrev pub takes_substitutions : Role → Bool
takes_substitutions (role.Test mask o) = true
takes_substitutions (role.Program o) = true
takes_substitutions (role.Import import_of.Program o) = true
takes_substitutions (role.Import import_of.Builtin o) = true
takes_substitutions (role.Import import_of.File o) = true
takes_substitutions (role.Set t o) = true
takes_substitutions (role.Run type o) = true
takes_substitutions _ = false

-- whether a text was not read because a set has a class
abbrev pub is_class : {A : Type 0} → Result A GlobFault → Bool
is_class (Err (glob.Class at)) = true
is_class _ = false

-- the text has a set with a class, if it is read as patterns
abbrev pub has_class : Bool → Text → Role → Bool
has_class blind text r = takes_patterns r && is_class (if blind then choice_blind text else choice text)

-- the text has an invalid substitution, if it is read with substitutions
abbrev pub has_bad_substitution : Text → Role → Bool
has_bad_substitution text r = takes_substitutions r && is_err (templates.pieces_of text)

-- the value asks for its case to be ignored, though it is not that of a match
abbrev pub ignores_in_vain : Bool → Role → Bool
ignores_in_vain blind r = blind && not (is_match r)

-- the text is not a value of the role
abbrev pub is_no_value : Bool → Text → Role → Bool
is_no_value blind text r = is_err (part_by Manual r blind text)

-- the first fault whose condition holds
abbrev pub first_of : List (Bool × Finding) → Option Finding
first_of [] = None
first_of (fault ∷ faults) = if fault.0 then Some fault.1 else first_of faults

-- what may be wrong with a token, the first of which counts
abbrev pub conditions : Placed → List (Bool × Finding)
conditions t =
    (is_none (key_of t.parts.head.key), finding UnknownKey t.parts.head.key)
    ∷ (is_none (topic_in t), finding WrongAttribute t.parts.head.key)
    ∷ (is_none (role_in t), finding OperatorNotAllowed t.parts.head.key)
    ∷ (some_role (ignores_in_vain (ignores_case t.parts.quote)) (role_in t), finding BadValue (meaning_of t))
    ∷ (some_role (has_class (ignores_case t.parts.quote) (meaning_of t)) (role_in t), finding SetNotSupported (meaning_of t))
    ∷ (some_role (has_bad_substitution (meaning_of t)) (role_in t), finding BadSubstitution (meaning_of t))
    ∷ (some_role (is_no_value (ignores_case t.parts.quote) (meaning_of t)) (role_in t), finding BadValue (meaning_of t))
    ∷ []

-- a token is a part if no condition holds, and otherwise its fault is that of the first that does
abbrev pub FirstFaultCounts : Type 0
FirstFaultCounts = (t : Placed) → result_err (part_of Manual t) ≡ first_of (conditions t)
