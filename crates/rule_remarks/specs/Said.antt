-- A token of a rule as it is compared with the others of its rule.
use Rattle.std.specs.Prelude.{ℤ, ◌-◌, Bool, false, not, ◌&&◌, if◌then◌else◌, List, [], ◌∷◌, length, Option, option_map, unwrap_or}
use Rattle.std.specs.List.{slice_get}
use Rattle.std.specs.Option.{option_and_then}
use Rattle.text_bytes.specs.Text.{Text}
use Rattle.text_bytes.specs.Names.{is_whitespace}
use Rattle.rule_tokens.specs.Grammar.{Placed, compares}
use Rattle.rule_tokens.specs.declared.kinds.Operator.{Operator}
use Rattle.rule_tokens.specs.declared.kinds.Operator.TheVariants as op
use Rattle.rule_types.specs.Names.{key_name, key_of}
use Rattle.rule_types.specs.Operators.{is_add, read_as}
use Rattle.rule_types.specs.declared.keys.Key.{Key}
use Rattle.rule_types.specs.declared.keys.Key.TheVariants as key
use Rattle.rule_parts.specs.Parts.{ignores_case, is_something, meaning_of}
use Rattle.rule_remarks.specs.Accounts.{Accounts}
use Rattle.rule_remarks.specs.Forms.{form_of, is_act_kind}
use Rattle.rule_remarks.specs.Matters.{Matter, matter_of}
use Rattle.rule_remarks.specs.Words.{words_of}
use Rattle.rule_remarks.specs.declared.form.Form.{Form}

-- a token as it is compared with others
pub record Said : Type 0 where
  pub key : Text  -- the name of its key
  pub kind : Text  -- which kind of the key, by its matter
  pub name : Text  -- the attribute or the builtin
  pub number : Option ℤ  -- the number of its value, if it has one
  pub operator : Operator  -- as it is read
  pub form : Form  -- how its value is compared
  pub words : List Text  -- what it compares with or assigns, each word once
  pub blind : Bool  -- whether case is ignored
  pub trims : Bool  -- whether white space at the end of what is compared does not count

-- the operator as which an operator is compared after a key: `==` for any that assigns what is done while the rule is matched, and `=` for
-- `+=` of an option
abbrev pub operator_of : Key → Operator → Operator
operator_of key.Program o = if compares o then o else op.Equal
operator_of key.Import o = if compares o then o else op.Equal
operator_of key.Options o = if is_add o then op.Assign else o
operator_of k o = read_as k o

-- the other of `==` and `!=`
abbrev pub opposite : Operator → Operator
opposite op.Equal = op.NotEqual
opposite op.NotEqual = op.Equal
opposite o = o

-- whether there is a first word, and it ends in a byte that is not white space
abbrev pub first_ends_dark : List Text → Bool
first_ends_dark [] = false
first_ends_dark (word ∷ words) = unwrap_or (option_map (λ b. not (is_whitespace b)) (slice_get word (length word - 1))) false

-- whether a token with these words trims what it compares: it asks for an attribute of a device, which may have white space at its end,
-- and its first word has none there
abbrev pub trims : Key → Operator → List Text → Bool
trims key.Attr o words = compares o && first_ends_dark words
trims key.Attrs o words = compares o && first_ends_dark words
trims _ o words = false

-- a token of a key by its matter, the operator as it is read, its value, and whether case is ignored; the operator is reversed if the value
-- is the pattern that every text but the empty one fits, and texts between bars are compared unless the key does something
abbrev pub said_by : Key → Operator → Text → Bool → Matter → Said
said_by k o text blind matter = record {
  key = key_name k;
  kind = matter.kind;
  name = matter.name;
  number = matter.number;
  operator = if is_something text then opposite o else o;
  form = form_of k o text;
  words = words_of (compares o && not (is_act_kind k)) matter.text;
  blind = blind;
  trims = trims k o (words_of (compares o && not (is_act_kind k)) matter.text);
}

-- a token with a key, if it is compared with others
abbrev pub said_with : Accounts → Placed → Key → Option Said
said_with accounts t k =
    option_map (said_by k (operator_of k t.parts.head.operator) (meaning_of t) (ignores_case t.parts.quote))
    (matter_of accounts k t.parts.head.attribute (meaning_of t))

-- a token as it is compared with others; none for LABEL, GOTO and what is not an option
unfoldable pub said_of : Accounts → Placed → Option Said
said_of accounts t = option_and_then (said_with accounts t) (key_of t.parts.head.key)
