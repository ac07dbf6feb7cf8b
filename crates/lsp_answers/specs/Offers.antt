-- The names that a word may become.
use Rattle.std.specs.Prelude.{ℕ, List, [], ◌∷◌, Option, Some, None, codes, map, take}
use Rattle.text_bytes.specs.Text.{Text}
use Rattle.json.specs.Json.{Json, string}
use Rattle.text_json.specs.Values.{array_of, number_value, object_of}
use Rattle.lsp_answers.specs.Documents.{kind_of}
use Rattle.lsp_messages.specs.declared.counting.Encoding.{Encoding}
use Rattle.lsp_words.specs.Completions.{Offer, completions_at}
use Rattle.lsp_words.specs.Entries.{Row}
use Rattle.lsp_words.specs.declared.kinds.WordKind.{WordKind}
use Rattle.lsp_words.specs.declared.kinds.WordKind.TheVariants as kind
use Rattle.lsp_answers.specs.Hovers.{markdown}
use Rattle.lsp_answers.specs.Queries.{QueryValue}
use Rattle.lsp_answers.specs.Spots.{Spot, row_range, spot_at}

-- the number by which the protocol knows a kind of words: 14 a keyword, 24 an operator, 10 a property, 6 a variable, 3 a function,
-- and 12 any other value
abbrev pub item_kind : WordKind → ℕ
item_kind kind.Key = 14
item_kind kind.Operator = 24
item_kind kind.Attribute = 10
item_kind kind.Property = 10
item_kind kind.DatabaseProperty = 10
item_kind kind.Builtin = 3
item_kind kind.Substitution = 6
item_kind kind.Letter = 6
item_kind _ = 12

-- the edit that puts a name in the place of what is typed of it
unfoldable pub name_edit : Encoding → Spot → (start : ℕ) → (name : Text) → Json
name_edit encoding spot start name =
    object_of ((codes "range", row_range encoding spot.line spot.row start spot.at) ∷ (codes "newText", string name) ∷ [])

-- a name that a word may become, with what it means
unfoldable pub offered_name : Encoding → Spot → Offer → Row → Json
offered_name encoding spot offer row =
    object_of
    ((codes "label", string row.name) ∷ (codes "kind", number_value (item_kind offer.kind)) ∷ (codes "documentation", markdown row.text)
    ∷ (codes "textEdit", name_edit encoding spot offer.start row.name) ∷ [])

-- all names that a word may become
abbrev pub offered_names : Encoding → Spot → Option Offer → List Json
offered_names encoding spot None = []
offered_names encoding spot (Some offer) = map (offered_name encoding spot offer) offer.rows

-- the answer to a request for the names that may stand at a place
unfoldable pub completion : Encoding → QueryValue → Json
completion encoding query =
    let spot = spot_at encoding query.text query.start in
    array_of (offered_names encoding spot (completions_at (kind_of query.uri) (take spot.at spot.row)))
