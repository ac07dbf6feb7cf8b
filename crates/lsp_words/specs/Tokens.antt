-- The context within a token that is written as udev(7) says.
use Rattle.std.specs.Prelude.{ℕ, ◌==◌, Bool, true, false, not, [], ◌∷◌, ◌++◌, Option}
use Rattle.text_bytes.specs.Names.{close_brace, double_quote}
use Rattle.text_bytes.specs.Text.{Text}
use Rattle.rule_tokens.specs.Grammar.{attribute_bytes, attribute_text, operator_text}
use Rattle.rule_tokens.specs.declared.kinds.Operator.{Operator}
use Rattle.lsp_words.specs.Classes.{class_of}
use Rattle.lsp_words.specs.Contexts.{Context}
use Rattle.lsp_words.specs.declared.classes.Class.{Class}
use Rattle.lsp_words.specs.declared.classes.Class.TheVariants as class
use Rattle.lsp_words.specs.declared.moves.Place.TheVariants as place

-- what begins a token: its key, what is in its braces, if there are any, its operator, and the quote
abbrev pub head_text : Text → Option Text → Operator → Text
head_text key braces o = key ++ (attribute_text braces ++ (operator_text o ++ double_quote ∷ []))

-- a byte that does not close braces
abbrev pub is_in_braces : ℕ → Bool
is_in_braces b = not (b == close_brace)

-- whether a byte of a class is always part of a word of a value
abbrev pub is_plain_class : Class → Bool
is_plain_class class.Blank = false
is_plain_class class.Quote = false
is_plain_class class.Backslash = false
is_plain_class class.Bar = false
is_plain_class class.Sign = false
is_plain_class _ = true

-- a byte that is always part of a word of a value
abbrev pub is_plain : ℕ → Bool
is_plain b = is_plain_class (class_of b)

-- where a row is in a value of a token, with these bytes of it before
abbrev pub in_value_of : Text → Option Text → Operator → Text → Text → Context
in_value_of key braces o name value = record {
  place = place.Value;
  key = key;
  braces = attribute_bytes braces;
  operator = operator_text o;
  prefix = [];
  name = name;
  word = value;
}
