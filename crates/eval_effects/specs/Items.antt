-- What is in a scene, as items: each has a name, which is the first word of its line with what it is about, and a
-- value.
use Rattle.std.specs.Prelude.{ℤ, Bool, true, false, List, [], ◌∷◌, ◌++◌, map, Option, Some, None, codes}
use Rattle.std.specs.Fmt.{signed_decimal}
use Rattle.text_bytes.specs.Names.{equals, space}
use Rattle.text_bytes.specs.declared.profile.Profile.{Profile}
use Rattle.text_bytes.specs.declared.profile.Profile.TheVariants.{Manual, Udev}
use Rattle.text_bytes.specs.Text.{Text}
use Rattle.text_tables.specs.Texts.{same_text}
use Rattle.text_tables.specs.Pairs.{Pair, value_of}
use Rattle.eval_state.specs.Texts.{filled}
use Rattle.eval_state.specs.declared.scene.Scene.{Scene}
use Rattle.eval_assignments.specs.Tags.{current_tags}

-- the name of an item that is one of several of its word: the word, and which of them it is
abbrev pub item_name : Text → Text → Text
item_name word about = word ++ space ∷ about

-- a text as an item, if there is one
abbrev pub given_item : Text → Option Text → List Pair
given_item word None = []
given_item word (Some text) = (word, text) ∷ []

-- texts as items, which have no value
abbrev pub text_items : Text → List Text → List Pair
text_items word texts = map (λ text. (item_name word text, [])) texts

-- names with their values as items
abbrev pub pair_items : Text → List Pair → List Pair
pair_items word pairs = map (λ pair. (item_name word pair.0, pair.1)) pairs

-- the label of a module as an item: by the manual its module has no other one, for udev the label itself is a part of
-- the name
abbrev pub label_item : Profile → Pair → Pair
label_item Manual label = (item_name (codes "label") label.0, label.1)
label_item Udev label = (item_name (codes "label") (label.0 ++ equals ∷ label.1), [])

-- labels as items
abbrev pub label_items : Profile → List Pair → List Pair
label_items profile labels = map (label_item profile) labels

-- a priority as an item, if one was assigned
abbrev pub priority_item : Option ℤ → List Pair
priority_item None = []
priority_item (Some priority) = (codes "priority", signed_decimal priority) ∷ []

-- the word for watching or not
abbrev pub watch_word : Bool → Text
watch_word true = codes "watch"
watch_word false = codes "nowatch"

-- the word for watching or not as an item, if it was assigned
abbrev pub watch_item : Option Bool → List Pair
watch_item None = []
watch_item (Some watched) = (watch_word watched, []) ∷ []

-- that what is known about the device stays, as an item
abbrev pub persist_item : Bool → List Pair
persist_item true = (codes "persist", []) ∷ []
persist_item false = []

-- the items of the device's node; an empty name does not count
unfoldable pub node_items : Scene → List Pair
node_items s =
    given_item (codes "name") (filled s.state.name)
    ++ given_item (codes "owner") s.owner
    ++ given_item (codes "group") s.group
    ++ given_item (codes "mode") s.mode
    ++ priority_item s.priority
    ++ watch_item s.watch
    ++ persist_item s.persist

-- all items of a scene
unfoldable pub items : Scene → List Pair
items s =
    node_items s
    ++ label_items s.state.event.profile s.labels
    ++ text_items (codes "link") s.state.links
    ++ text_items (codes "tag") (current_tags s)
    ++ pair_items (codes "env") s.state.env
    ++ pair_items (codes "attr") s.attrs
    ++ pair_items (codes "sysctl") s.sysctls

-- whether there is a value, and it is this text
abbrev pub is_value : Option Text → Text → Bool
is_value None text = false
is_value (Some value) text = same_text value text

-- whether an item is among others: its name has its value
abbrev pub is_present : Pair → List Pair → Bool
is_present item items = is_value (value_of items item.0) item.1
