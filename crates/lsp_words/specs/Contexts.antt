-- Where in a row of a rules file a place is, by the bytes before it.
use Rattle.std.specs.Prelude.{ℕ, Bool, ◌&&◌, ◌||◌, ◌==◌, nat_lt, [], ◌∷◌, ◌++◌, drop, fold, length}
use Rattle.std.specs.List.{list_any}
use Rattle.text_bytes.specs.Names.{dollar}
use Rattle.text_bytes.specs.Texts.{begins_with, is_empty}
use Rattle.text_bytes.specs.Text.{Text}
use Rattle.rule_tokens.specs.Letters.{letter_e}
use Rattle.lsp_words.specs.Classes.{class_of}
use Rattle.lsp_words.specs.Moves.{go, in_braces, in_escape, in_indent, in_inner, in_later, in_name, in_value, outside}
use Rattle.lsp_words.specs.Values.{is_split, substitutes}
use Rattle.lsp_words.specs.declared.classes.Class.{Class}
use Rattle.lsp_words.specs.declared.contexts.Scan.{Scan}
use Rattle.lsp_words.specs.declared.moves.Bounds.{Bounds}
use Rattle.lsp_words.specs.declared.moves.Move.{Move}
use Rattle.lsp_words.specs.declared.moves.Place.{Place}
use Rattle.lsp_words.specs.declared.moves.Place.TheVariants as place
use Rattle.lsp_words.specs.declared.moves.Turn.{Turn}
use Rattle.lsp_words.specs.declared.moves.Turn.TheVariants.{Longer, Fresh, Empty}

-- where a place of a row is, and what stands before it: the parts of the token that is begun there, the substitution in
-- whose braces it is, and the word that is begun
pub record Context : Type 0 where
  pub place : Place
  pub key : Text
  pub braces : Text
  pub operator : Text
  pub prefix : Text
  pub name : Text
  pub word : Text

-- where the end of these bytes is, as the code has it
abbrev pub seen : Text → Scan → Context
seen before s = record {
  place = s.place;
  key = s.key.now;
  braces = s.braces.now;
  operator = s.operator.now;
  prefix = s.prefix.now;
  name = s.name.now;
  word = drop s.start before;
}

-- where a row begins
abbrev pub at_start : Context
at_start = record { place = place.Indent; key = []; braces = []; operator = []; prefix = []; name = []; word = [] }

-- what becomes of a word at a byte
abbrev pub turned : Turn → Text → ℕ → Text
turned Longer word b = word ++ b ∷ []
turned Fresh word b = b ∷ []
turned Empty word b = []

-- what decides where the value of a token goes on to
unfoldable pub bounds_for : Text → Text → Text → Text → Bounds
bounds_for key braces operator prefix =
    record { substitutes = substitutes key braces operator; splits = is_split key; escapes = list_any (λ b. b == letter_e) prefix }

-- Where a row goes on to at a byte. In the name of a substitution: whether the byte is the sign that it consists of, whether
-- a letter goes on with it (behind a `$` any do, behind a `%` one), and whether it has a letter.
unfoldable pub next_move : Place → Bounds → Text → ℕ → Class → Move
next_move place.Indent bounds word b c = in_indent c
next_move place.Comment bounds word b c = go place.Comment Longer
next_move place.Gap bounds word b c = outside place.Gap (go place.Key Fresh) Fresh c
next_move place.Key bounds word b c = outside place.Head (go place.Key Longer) Fresh c
next_move place.Braces bounds word b c = in_braces c
next_move place.Head bounds word b c = outside place.Head (go place.Key Fresh) Fresh c
next_move place.Operator bounds word b c = outside place.Prefix (go place.Prefix Fresh) Longer c
next_move place.Prefix bounds word b c = outside place.Prefix (go place.Prefix Longer) Fresh c
next_move place.Value bounds word b c = in_value bounds (is_empty word) c
next_move place.Later bounds word b c = in_later bounds c
next_move place.Escape bounds word b c = in_escape bounds c
next_move place.Name bounds word b c =
    in_name bounds (length word == 1 && begins_with b word) (begins_with dollar word || length word == 1) (nat_lt 1 (length word)) c
next_move place.Inner bounds word b c = in_inner c

-- what is kept of a part of a token: this text, if the word before a byte ends there
abbrev pub ended : Turn → Text → Text → Text
ended Longer text kept = kept
ended Fresh text kept = text
ended Empty text kept = text

-- The parts of a token after a byte: each is kept where its word ends, and a new key has none of the others yet.
abbrev pub key_after : Place → Turn → Text → Text → Text
key_after place.Key turn word key = ended turn word key
key_after _ turn word key = key

abbrev pub braces_after : Place → Turn → Text → Text → Text
braces_after place.Key turn word braces = ended turn [] braces
braces_after place.Braces turn word braces = ended turn word braces
braces_after _ turn word braces = braces

abbrev pub operator_after : Place → Turn → Text → Text → Text
operator_after place.Key turn word operator = ended turn [] operator
operator_after place.Operator turn word operator = ended turn word operator
operator_after _ turn word operator = operator

abbrev pub prefix_after : Place → Turn → Text → Text → Text
prefix_after place.Operator turn word prefix = ended turn [] prefix
prefix_after place.Prefix turn word prefix = ended turn word prefix
prefix_after _ turn word prefix = prefix

abbrev pub name_after : Place → Turn → Text → Text → Text
name_after place.Name turn word name = ended turn word name
name_after _ turn word name = name

-- where a row is after a move at a byte
abbrev pub moved : Context → Move → ℕ → Context
moved c m b = record {
  place = m.place;
  key = key_after c.place m.turn c.word c.key;
  braces = braces_after c.place m.turn c.word c.braces;
  operator = operator_after c.place m.turn c.word c.operator;
  prefix = prefix_after c.place m.turn c.word c.prefix;
  name = name_after c.place m.turn c.word c.name;
  word = turned m.turn c.word b;
}

-- where a row is after a byte
unfoldable pub step : Context → ℕ → Context
step c b = moved c (next_move c.place (bounds_for c.key c.braces c.operator c.prefix) c.word b (class_of b)) b

-- where a row is after these bytes
abbrev pub context_of : Text → Context
context_of before = fold step at_start before
