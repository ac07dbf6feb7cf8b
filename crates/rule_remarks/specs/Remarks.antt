-- What udev reports about the tokens of a rule that stays, with their places in its line.
use Rattle.std.specs.Prelude.{Bool, if◌then◌else◌, List, [], ◌∷◌, ◌++◌, flat_map, filter_map, slice_get, Option, Some, None, option_map, option_to_list, codes}
use Rattle.std.specs.List.{find}
use Rattle.text_bytes.specs.Text.{Text}
use Rattle.file_messages.specs.declared.message.MessageKind.{MessageKind}
use Rattle.file_messages.specs.declared.message.MessageKind.TheVariants.{AttributeElsewhere, BadAttributeSubstitution, EmptyValue, ResultBeforeProgram}
use Rattle.text_tables.specs.Texts.{same_text}
use Rattle.rule_tokens.specs.Grammar.{Placed}
use Rattle.rule_types.specs.Names.{key_of}
use Rattle.rule_types.specs.declared.keys.Key.{Key}
use Rattle.rule_parts.specs.Parts.{meaning_of}
use Rattle.rule_remarks.specs.Accounts.{Accounts}
use Rattle.rule_remarks.specs.Pairs.{message_of, pair_findings}
use Rattle.rule_remarks.specs.declared.pair_finding.PairFinding.{PairFinding}
use Rattle.rule_types.specs.Spots.{value_spot}
use Rattle.rule_core.specs.Spots.{attribute_spot, key_spot}
use Rattle.rule_types.specs.declared.spot.Spot.{Spot}
use Rattle.rule_remarks.specs.Attributes.{is_bad_name, is_elsewhere}
use Rattle.rule_remarks.specs.Values.{value_fault}

-- what is reported for the attribute of a token, if it has one
abbrev pub attribute_remarks : Key → Placed → Option Text → List (Spot MessageKind)
attribute_remarks k t None = []
attribute_remarks k t (Some name) =
    (if is_bad_name k name then attribute_spot BadAttributeSubstitution t ∷ [] else [])
    ++ (if is_elsewhere k name then attribute_spot AttributeElsewhere t ∷ [] else [])

-- what is reported for the value of a token, if something is wrong with it: the value with what it means, or the key if the value is empty
abbrev pub value_remarks : Option MessageKind → Placed → List (Spot MessageKind)
value_remarks None t = []
value_remarks (Some EmptyValue) t = key_spot EmptyValue t ∷ []
value_remarks (Some kind) t = value_spot kind (meaning_of t) t ∷ []

-- what is reported for a token, if its key is known
abbrev pub remarks_by : Accounts → Placed → Option Key → List (Spot MessageKind)
remarks_by accounts t None = []
remarks_by accounts t (Some k) =
    attribute_remarks k t t.parts.head.attribute
    ++ value_remarks (value_fault accounts k t.parts.head.operator (meaning_of t)) t

-- what is reported for a token: for its attribute, then for its value
unfoldable pub token_remarks : Accounts → Placed → List (Spot MessageKind)
token_remarks accounts t = remarks_by accounts t (key_of t.parts.head.key)

-- whether a token is a RESULT
abbrev pub is_result : Placed → Bool
is_result t = same_text t.parts.head.key (codes "RESULT")

-- whether a token is a PROGRAM
abbrev pub is_program : Placed → Bool
is_program t = same_text t.parts.head.key (codes "PROGRAM")

-- the first PROGRAM that follows a RESULT
abbrev pub late_program : List Placed → Option Placed
late_program [] = None
late_program (t ∷ tokens) = if is_result t then find is_program tokens else late_program tokens

-- what is reported for two tokens: the key of the later one
abbrev pub pair_remark : List Placed → PairFinding → Option (Spot MessageKind)
pair_remark tokens found = option_map (key_spot (message_of found.kind)) (slice_get tokens found.token)

-- what is reported for a rule's tokens: for each by itself in written order, then for a RESULT before a PROGRAM, then
-- for two tokens
unfoldable pub rule_remarks : Accounts → List Placed → List (Spot MessageKind)
rule_remarks accounts tokens =
    flat_map (token_remarks accounts) tokens
    ++ (option_to_list (option_map (key_spot ResultBeforeProgram) (late_program tokens))
    ++ filter_map (pair_remark tokens) (pair_findings accounts tokens))
