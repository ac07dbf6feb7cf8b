-- Where the jumps of a file's rules lead.
use Rattle.std.specs.Prelude.{Bool, true, false, not, nat_eq, if◌then◌else◌, List, [], ◌∷◌, Option, Some, None}
use Rattle.std.specs.List.{list_any}
use Rattle.std.specs.Cmp.Lexicographic.{pointwise}
use Rattle.text_bytes.specs.Text.{Text}
use Rattle.rule_types.specs.declared.jumps.Landing.{Landing}

-- the names that a rule has for jumps: its label, and the label that it jumps to
pub record Names : Type 0 where
  pub label : Option Text
  pub goto : Option Text

-- whether this is the name
abbrev pub is_named : Text → Option Text → Bool
is_named name None = false
is_named name (Some other) = pointwise nat_eq name other

-- whether a rule of these has a label
abbrev pub has_label : Text → List Names → Bool
has_label name rules = list_any (λ r. is_named name r.label) rules

-- whether a rule above jumps to a label of this name here, the rules above from the nearest on: the search ends at
-- the next label of the name, whose own rule may jump here
abbrev pub is_awaited : Text → List Names → Bool
is_awaited name [] = false
is_awaited name (r ∷ farther) = if is_named name r.goto then true else (if is_named name r.label then false else is_awaited name farther)

-- whether a rule jumps to a label that no rule below has
abbrev pub is_lost : Option Text → List Names → Bool
is_lost None below = false
is_lost (Some name) below = not (has_label name below)

-- whether a rule has a label that no rule above jumps to
abbrev pub is_unused : Option Text → List Names → Bool
is_unused None above = false
is_unused (Some name) above = not (is_awaited name above)

-- what becomes of the jumps of rules, which are below others, given from the nearest on
abbrev pub landings_below : List Names → List Names → List Landing
landings_below above [] = []
landings_below above (r ∷ below) = record { lost = is_lost r.goto below; unused = is_unused r.label above } ∷ landings_below (r ∷ above) below

-- what becomes of the jumps of a file's rules, in order
unfoldable pub landings : List Names → List Landing
landings rules = landings_below [] rules
