-- The links in a text, and which of them udev keeps: each as the plain path below `/dev`.
use Rattle.std.specs.Prelude.{ℕ, Bool, not, ◌==◌, ◌||◌, ◌&&◌, nat_lt, if◌then◌else◌, List, [], ◌∷◌}
use Rattle.std.specs.Prelude.{length, filter, find, flat_map, codes, Option, Some, None, is_none}
use Rattle.std.specs.List.{list_any, join_with_byte, slice_split}
use Rattle.text_bytes.specs.Names.{carriage_return, newline, slash, space, tab}
use Rattle.text_bytes.specs.Texts.{begins_with, is_empty}
use Rattle.text_bytes.specs.Text.{Text}
use Rattle.text_tables.specs.Texts.{same_text}
use Rattle.rule_types.specs.Rules.{Rule}
use Rattle.rule_types.specs.declared.roles.AssignOperator.{AssignOperator}
use Rattle.eval_state.specs.Scenes.{noted}
use Rattle.eval_state.specs.declared.note_kind.NoteKind.TheVariants.{LinkIgnored}
use Rattle.eval_state.specs.declared.scene.Scene.{Scene}
use Rattle.eval_assignments.specs.Lists.{changed, not_empty}

-- whether a byte is between two words for udev
abbrev pub is_between : ℕ → Bool
is_between b = b == space || (b == tab || (b == newline || b == carriage_return))

-- the words of a text as udev splits it
abbrev pub words : Text → List Text
words t = not_empty (slice_split is_between t)

-- whether a component of a path leads somewhere: an empty one does not, and neither does `.`
abbrev pub is_step : Text → Bool
is_step component = not (is_empty component) && not (same_text component (codes "."))

-- the components of a path that lead somewhere
abbrev pub components : Text → List Text
components path = filter is_step (slice_split (λ b. b == slash) path)

-- the most bytes of a component of a link
abbrev pub most_component_bytes : ℕ
most_component_bytes = 255

-- whether a component may not be in a link: `..`, and one that is too long
abbrev pub is_barred : Text → Bool
is_barred component = same_text component (codes "..") || nat_lt most_component_bytes (length component)

-- the components after `dev`, if that is the first one
abbrev pub after_dev : List Text → List Text
after_dev [] = []
after_dev (component ∷ others) = if same_text component (codes "dev") then others else []

-- the components of a link below `/dev`: none of an absolute path that leads elsewhere
abbrev pub below_dev : Text → List Text
below_dev path = if begins_with slash path then after_dev (components path) else components path

-- a path of components, if there are any
abbrev pub path_of : List Text → Option Text
path_of [] = None
path_of (component ∷ others) = Some (join_with_byte slash (component ∷ others))

-- a link as udev keeps it, below `/dev`; none if the path leads out of it, or has a component that may not be there
abbrev pub plain_link : Text → Option Text
plain_link path = if list_any is_barred (components path) then None else path_of (below_dev path)

-- a text, if there is one
abbrev pub listed : Option Text → List Text
listed None = []
listed (Some text) = text ∷ []

-- the links of words, as they are kept
abbrev pub plain_links : List Text → List Text
plain_links paths = flat_map (λ path. listed (plain_link path)) paths

-- the first of these words that is not a link
abbrev pub first_refused : List Text → Option Text
first_refused paths = find (λ path. is_none (plain_link path)) paths

-- a note about a refused link, if there is one
abbrev pub link_noted : Rule → Option Text → Scene → Scene
link_noted r None s = s
link_noted r (Some path) s = noted r LinkIgnored path s

-- links as an operator changes them for udev, and a note about the first word that is not a link
abbrev pub links_changed : Rule → AssignOperator → Text → Scene → Scene
links_changed r o t s =
    link_noted r (first_refused (words t)) (record s { state = record s.state { links = changed o (plain_links (words t)) s.state.links } })
