-- The changes of a document.
use Rattle.std.specs.Prelude.{List, [], ◌∷◌, Option, Some, None, codes, option_and_then, option_map, if◌then◌else◌}
use Rattle.json.specs.Json.{Json, Items, no_items, item}
use Rattle.json.specs.Find.{as_array, get, is_null}
use Rattle.lsp_messages.specs.Parameters.{string_at}
use Rattle.lsp_messages.specs.Positions.{range_of}
use Rattle.lsp_messages.specs.ChangeValues.{ChangeValue}
use Rattle.lsp_messages.specs.declared.rows.Position.{Position}

-- the range of a change: none if the member is not there or null, and otherwise it has to be a range
abbrev pub change_range : Option Json → Option (Option (Position × Position))
change_range None = Some None
change_range (Some value) = if is_null value then Some None else option_map Some (range_of value)

-- the change that a value is
abbrev pub change_of : Json → Option ChangeValue
change_of value =
    option_and_then (λ text. option_map (λ range. record { range = range; text = text }) (change_range (get (codes "range") value)))
    (string_at (codes "text") value)

-- the changes that items are, if each is one
abbrev pub changes_in : Items → Option (List ChangeValue)
changes_in no_items = Some []
changes_in (item value values) = option_and_then (λ change. option_map (λ changes. change ∷ changes) (changes_in values)) (change_of value)

-- the changes that parameters tell of, in order
unfoldable pub changes_of : Json → Option (List ChangeValue)
changes_of params = option_and_then (λ value. option_and_then changes_in (as_array value)) (get (codes "contentChanges") params)
