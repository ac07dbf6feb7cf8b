-- What an outline of a document lists.
use Rattle.std.specs.Prelude.{ℕ, ◌+◌, Bool, false, ◌&&◌, ◌||◌, not, List, [], ◌∷◌, ◌++◌, codes, filter_map, fold, if◌then◌else◌}
use Rattle.std.specs.Prelude.{Option, Some, None, Ok, Err}
use Rattle.std.specs.List.{cons_option}
use Rattle.std.specs.Option.{option_map_or}
use Rattle.text_bytes.specs.Names.{hash, space, tab}
use Rattle.text_bytes.specs.Numbers.{capped}
use Rattle.text_bytes.specs.Texts.{begins_with, first, is_empty, trimmed, up_to}
use Rattle.text_bytes.specs.declared.source_file.FileKind.{FileKind}
use Rattle.text_bytes.specs.declared.source_file.FileKind.TheVariants.{Hwdb, Rules}
use Rattle.text_bytes.specs.Text.{Text}
use Rattle.rule_tokens.specs.Grammar.{Item, compares}
use Rattle.lsp_words.specs.Marks.{mark_kind}
use Rattle.lsp_words.specs.Rows.{between, body, goes_on_after, items_in, stripped}
use Rattle.lsp_words.specs.declared.marks.MarkKind.{MarkKind}
use Rattle.lsp_words.specs.declared.marks.MarkKind.TheVariants as mark
use Rattle.lsp_words.specs.declared.symbols.Symbol.{Symbol}
use Rattle.lsp_words.specs.declared.symbols.SymbolKind.{SymbolKind}
use Rattle.lsp_words.specs.declared.symbols.SymbolKind.TheVariants.{Rule, Label, Record}

-- whether a text can be shown as a name: it has more than whitespace
abbrev pub is_shown : Text → Bool
is_shown text = not (is_empty (stripped text))

-- a text that is given with a mark of some kind, if it is a label that can be shown
abbrev pub label_by : Option MarkKind → (name : Text) → Option Text
label_by (Some mark.Label) name = if is_shown name then Some name else None
label_by _ name = None

-- the label that an item of a row gives, if it gives one that can be shown
unfoldable pub label_of : Item → Option Text
label_of (Err fault) = None
label_of (Ok t) = label_by (mark_kind t.parts.head) t.parts.value

-- the first label of a row that can be shown
abbrev pub label_in : (row : Text) → Option Text
label_in row = first (filter_map label_of (items_in row))

-- a name of matches with one more, after `, `
abbrev pub with_match : (name written : Text) → Text
with_match name written = if is_empty name then written else name ++ codes ", " ++ written

-- a name of matches with one more item of a row, if it is a match: that is what `==` and `!=` make
abbrev pub with_item : (row name : Text) → Item → Text
with_item row name (Err fault) = name
with_item row name (Ok t) = if compares t.parts.head.operator then with_match name (between t.span.start t.span.end row) else name

-- the matches of a row, as they are written, with `, ` in between
unfoldable pub matched : (row : Text) → Text
matched row = fold (with_item row) [] (items_in row)

-- the name of a rule: its matches in the row, or else the row without a backslash at its end
abbrev pub rule_name : (row : Text) → Text
rule_name row = if is_empty (matched row) then stripped (body row) else matched row

-- an entry of an outline
abbrev pub symbol : SymbolKind → (line : ℕ) → (name : Text) → Symbol
symbol kind line name = record { kind = kind; line = line; name = name }

-- the entry of a row in which a rule begins: it is named by its label, else by its matches or the row
abbrev pub rule_symbol : (line : ℕ) → (row : Text) → Symbol
rule_symbol line row = option_map_or (symbol Label line) (label_in row) (symbol Rule line (rule_name row))

-- the entry of a row in which no rule goes on; a comment has none, nor has a row of whitespace
unfoldable pub begun_rule : (line : ℕ) → (row : Text) → Option Symbol
begun_rule line row = if is_shown (body row) then Some (rule_symbol line row) else None

-- a row of a database file without its comment, and without the whitespace before that
abbrev pub record_name : (row : Text) → Text
record_name row = trimmed (up_to hash row)

-- whether a row of a database file is a match: it is not indented, and has more than a comment and whitespace
abbrev pub is_record : (row : Text) → Bool
is_record row = not (begins_with space row || begins_with tab row) && is_shown (record_name row)

-- the entry of a row of a database file: it is a match
unfoldable pub record_symbol : (line : ℕ) → (row : Text) → Option Symbol
record_symbol line row = if is_record row then Some (symbol Record line (record_name row)) else None

-- the entry of a row of a file
abbrev pub symbol_in : FileKind → (line : ℕ) → (goes_on : Bool) → (row : Text) → Option Symbol
symbol_in Hwdb line goes_on row = record_symbol line row
symbol_in Rules line goes_on row = if goes_on then None else begun_rule line row

-- the entries of rows from one on
abbrev pub symbols_from : FileKind → (line : ℕ) → (goes_on : Bool) → List Text → List Symbol
symbols_from kind line goes_on [] = []
symbols_from kind line goes_on (row ∷ rows) =
    cons_option (symbol_in kind (capped line) goes_on row) (symbols_from kind (line + 1) (goes_on_after goes_on row) rows)

-- the entries of all rows of a document, in order
unfoldable pub symbols_of : FileKind → (rows : List Text) → List Symbol
symbols_of kind rows = symbols_from kind 0 false rows
