-- The rules or records of a document.
use Rattle.std.specs.Prelude.{ℕ, List, [], ◌∷◌, codes, length, map}
use Rattle.text_bytes.specs.Text.{Text}
use Rattle.json.specs.Json.{Json}
use Rattle.text_json.specs.Told.{told}
use Rattle.text_json.specs.Values.{array_of, number_value, object_of}
use Rattle.lsp_answers.specs.Documents.{kind_of}
use Rattle.lsp_words.specs.Symbols.{symbols_of}
use Rattle.lsp_words.specs.declared.symbols.Symbol.{Symbol}
use Rattle.lsp_words.specs.declared.symbols.SymbolKind.{SymbolKind}
use Rattle.lsp_words.specs.declared.symbols.SymbolKind.TheVariants.{Label, Record, Rule}
use Rattle.lsp_messages.specs.Rows.{rows_of}
use Rattle.lsp_messages.specs.declared.counting.Encoding.{Encoding}
use Rattle.lsp_answers.specs.Labels.{row_numbered}
use Rattle.lsp_answers.specs.Queries.{QueryValue}
use Rattle.lsp_answers.specs.Spots.{row_range}

-- the number by which the protocol knows a kind of symbols: 24 an event, 20 a key, 19 an object
abbrev pub symbol_number : SymbolKind → ℕ
symbol_number Rule = 24
symbol_number Label = 20
symbol_number Record = 19

-- the range of a whole row
abbrev pub whole_row : Encoding → (line : ℕ) → (row : Text) → Json
whole_row encoding line row = row_range encoding line row 0 (length row)

-- a symbol, which is its row
unfoldable pub symbol_value : Encoding → List Text → Symbol → Json
symbol_value encoding rows symbol =
    let row = row_numbered rows symbol.line in
    object_of
    ((codes "name", told symbol.name) ∷ (codes "kind", number_value (symbol_number symbol.kind)) ∷ (codes "range", whole_row encoding symbol.line row)
    ∷ (codes "selectionRange", whole_row encoding symbol.line row) ∷ [])

-- the answer to a request for the rules or records of a document
unfoldable pub symbols : Encoding → QueryValue → Json
symbols encoding query = let rows = rows_of query.text in array_of (map (symbol_value encoding rows) (symbols_of (kind_of query.uri) rows))
