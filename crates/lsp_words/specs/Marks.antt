-- The labels of a rules file and the jumps to them.
use Rattle.std.specs.Prelude.{ℕ, ◌+◌, ◌-◌, Bool, true, false, ◌&&◌, List, [], ◌∷◌, ◌++◌, length, codes, filter_map, if◌then◌else◌}
use Rattle.std.specs.Prelude.{Option, Some, None, option_map, is_none, Ok, Err}
use Rattle.text_bytes.specs.Numbers.{capped}
use Rattle.text_bytes.specs.Text.{Text}
use Rattle.text_tables.specs.Texts.{same_text}
use Rattle.rule_tokens.specs.Grammar.{Head, Item, Placed}
use Rattle.rule_tokens.specs.declared.kinds.Operator.{Operator}
use Rattle.rule_tokens.specs.declared.kinds.Operator.TheVariants.{Assign}
use Rattle.lsp_words.specs.Rows.{goes_on_after, items_in}
use Rattle.lsp_words.specs.declared.marks.MarkKind.{MarkKind}
use Rattle.lsp_words.specs.declared.marks.MarkKind.TheVariants.{Label, Goto}

-- A label or a jump: the row in which its rule begins, its own row, where its name begins and ends there, and its name.
pub record MarkValue : Type 0 where
  pub kind : MarkKind
  pub rule : ℕ
  pub line : ℕ
  pub start : ℕ
  pub end : ℕ
  pub name : Text

-- whether an operator is `=`
abbrev pub is_assign : Operator → Bool
is_assign Assign = true
is_assign _ = false

-- which mark has a key
abbrev pub kind_of : (key : Text) → Option MarkKind
kind_of key = if same_text key (codes "LABEL") then Some Label else if same_text key (codes "GOTO") then Some Goto else None

-- which mark a token is: it has `=`, and nothing in braces
unfoldable pub mark_kind : Head → Option MarkKind
mark_kind head = if is_assign head.operator && is_none head.attribute then kind_of head.key else None

-- a token as a mark: its name is between its quotes, of which the second is its last byte
abbrev pub placed_mark : (rule line : ℕ) → Placed → MarkKind → MarkValue
placed_mark rule line t kind = record {
  kind = kind;
  rule = rule;
  line = line;
  start = t.span.end - 1 - length t.parts.value;
  end = t.span.end - 1;
  name = t.parts.value;
}

-- the mark that an item of a row is
abbrev pub mark_of : (rule line : ℕ) → Item → Option MarkValue
mark_of rule line (Err fault) = None
mark_of rule line (Ok t) = option_map (placed_mark rule line t) (mark_kind t.parts.head)

-- the marks of a row, of a rule that begins in the row `rule`
unfoldable pub marks_in : (rule line : ℕ) → (row : Text) → List MarkValue
marks_in rule line row = filter_map (mark_of rule line) (items_in row)

-- the row in which the rule of a row begins: the row itself, unless a rule that began earlier goes on in it
abbrev pub rule_of : (goes_on : Bool) → (rule line : ℕ) → ℕ
rule_of goes_on rule line = if goes_on then rule else line

-- the marks of rows from one on, if the rule that goes on there or went before began in the row `rule`
abbrev pub marks_from : (line rule : ℕ) → (goes_on : Bool) → List Text → List MarkValue
marks_from line rule goes_on [] = []
marks_from line rule goes_on (row ∷ rows) =
    marks_in (rule_of goes_on rule (capped line)) (capped line) row
    ++ marks_from (line + 1) (rule_of goes_on rule (capped line)) (goes_on_after goes_on row) rows

-- the marks of all rows of a document, in order
unfoldable pub marks_of : (rows : List Text) → List MarkValue
marks_of rows = marks_from 0 0 false rows
