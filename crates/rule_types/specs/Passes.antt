-- Serves inner proofs only: what the passes over the rules of a file keep.
use Rattle.std.specs.Prelude.{Bool, false, not, unwrap_or, List, [], ◌∷◌, Option, Some, None}
use Rattle.text_bytes.specs.Text.{Text}
use Rattle.text_tables.specs.Texts.{is_among, with_text}
use Rattle.text_tables.specs.Pairs.{value_of, with_value}
use Rattle.rule_types.specs.Jumps.{Names, is_lost, is_unused}
use Rattle.rule_types.specs.declared.jumps.Landing.{Landing}

-- whether each rule jumps to a label that no rule below it has
abbrev pub lost_flags : List Names → List Bool
lost_flags [] = []
lost_flags (r ∷ below) = is_lost r.goto below ∷ lost_flags below

-- whether each rule has a label that no rule above it jumps to, given those above, from the nearest on
abbrev pub unused_flags : List Names → List Names → List Bool
unused_flags above [] = []
unused_flags above (r ∷ below) = is_unused r.label above ∷ unused_flags (r ∷ above) below

-- what becomes of a rule's jump and of its label
abbrev pub joined : Bool × Bool → Landing
joined p = record { lost = p.0; unused = p.1 }

-- whether there is a name, and it is not one of these
abbrev pub misses : List Text → Option Text → Bool
misses names None = false
misses names (Some name) = not (is_among names name)

-- names with one more, if there is one
abbrev pub with_name : List Text → Option Text → List Text
with_name names None = names
with_name names (Some name) = with_text names name

-- whether a jump waits for the next label of a name; if nothing is recorded about it, none does
abbrev pub is_waited_for : List (Text × Bool) → Text → Bool
is_waited_for waiting name = unwrap_or (value_of waiting name) false

-- whether there is a label, and no jump waits for it
abbrev pub leaves_unused : List (Text × Bool) → Option Text → Bool
leaves_unused waiting None = false
leaves_unused waiting (Some name) = not (is_waited_for waiting name)

-- what is recorded, and also whether a jump waits for the next label of a name, if there is one
abbrev pub with_note : List (Text × Bool) → Option Text → Bool → List (Text × Bool)
with_note waiting None waits = waiting
with_note waiting (Some name) waits = with_value waiting name waits
