-- What is found about parts of a joined line, with the places of these parts in it.
use Rattle.std.specs.Prelude.{ℕ, ◌+◌, Bool, true, false, if◌then◌else◌, [], length, drop}
use Rattle.text_bytes.specs.Text.{Text}
use Rattle.file_messages.specs.declared.message.MessageKind.{MessageKind}
use Rattle.file_messages.specs.declared.message.MessageKind.TheVariants.{BadSyntax, BadPrefix, UnknownKey, OperatorNotAllowed, WrongAttribute, ReservedProperty}
use Rattle.rule_tokens.specs.Grammar.{Placed, attribute_bytes}
use Rattle.rule_tokens.specs.Prefixes.{letters_at}
use Rattle.rule_tokens.specs.declared.kinds.TokenFaultKind.{TokenFaultKind}
use Rattle.rule_tokens.specs.declared.kinds.TokenFaultKind.TheVariants.{Syntax, Prefix}
use Rattle.rule_types.specs.Spots.{spot, spot_at_key, value_spot}
use Rattle.rule_parts.specs.Parts.{meaning_of}
use Rattle.rule_core.specs.Letters.{start_before_quote}
use Rattle.rule_types.specs.declared.spot.Spot.{Spot}

-- the key of a token, reported with itself
abbrev pub key_spot : MessageKind → Placed → Spot MessageKind
key_spot kind t = spot_at_key kind t.parts.head.key t

-- the attribute of a token between its braces: it follows the key and an open brace
abbrev pub attribute_spot : MessageKind → Placed → Spot MessageKind
attribute_spot kind t =
    spot kind (attribute_bytes t.parts.head.attribute) (t.span.start + length t.parts.head.key + 1) (length (attribute_bytes t.parts.head.attribute))

-- whether what is wrong with a token is its key, or that it has the attribute or the operator that it has
abbrev pub is_of_key : MessageKind → Bool
is_of_key UnknownKey = true
is_of_key WrongAttribute = true
is_of_key OperatorNotAllowed = true
is_of_key _ = false

-- whether what is wrong with a token is the name in its attribute
abbrev pub is_of_attribute : MessageKind → Bool
is_of_attribute ReservedProperty = true
is_of_attribute _ = false

-- a token that is not a part of a rule: its key, its attribute, or its value with what that means
abbrev pub part_spot : MessageKind → Placed → Spot MessageKind
part_spot kind t = if is_of_key kind then key_spot kind t else (if is_of_attribute kind then attribute_spot kind t else value_spot kind (meaning_of t) t)

-- a part of a line, from a place on, that is not a token: all up to the line's end, or the letters before the quote
abbrev pub token_spot : TokenFaultKind → ℕ → Text → Spot MessageKind
token_spot Syntax at line = let text = drop at line in spot BadSyntax text at (length text)
token_spot Prefix at line =
    let text = drop at line in spot BadPrefix (letters_at text) (start_before_quote line text (letters_at text)) (length (letters_at text))

-- a line as a whole, reported with no text
abbrev pub whole_spot : MessageKind → Text → Spot MessageKind
whole_spot kind line = spot kind [] 0 (length line)
