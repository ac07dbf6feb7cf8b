-- The lines of an answer that are about items, each beside its item.
use Rattle.std.specs.Prelude.{ℤ, Bool, true, false, not, List, [], ◌∷◌, ◌++◌, Option, Some, None, codes, filter, flat_map, map}
use Rattle.std.specs.Fmt.{signed_decimal}
use Rattle.text_bytes.specs.declared.profile.Profile.{Profile}
use Rattle.text_bytes.specs.Text.{Text}
use Rattle.text_tables.specs.Pairs.{Pair}
use Rattle.eval_rules.specs.declared.outcome.Outcome.{Outcome}
use Rattle.eval_effects.specs.Items.{item_name, label_item, watch_word}
use Rattle.engine_answers.specs.Lines.{bare_line, is_hidden, line, pair_line, text_line}

-- an item, and its line
abbrev pub ItemLine : Type 0
ItemLine = Pair × Text

-- the line of a text that is the only one of its word, if there is one
abbrev pub given_lines : Text → Option Text → List ItemLine
given_lines word None = []
given_lines word (Some text) = ((word, text), text_line word text) ∷ []

-- a line for each of several texts
abbrev pub member_lines : Text → List Text → List ItemLine
member_lines word texts = map (λ text. ((item_name word text, []), text_line word text)) texts

-- a line for each of several names with their values
abbrev pub value_lines : Text → List Pair → List ItemLine
value_lines word pairs = map (λ pair. ((item_name word pair.0, pair.1), pair_line word pair)) pairs

-- a line for each of several labels
abbrev pub label_lines : Profile → List Pair → List ItemLine
label_lines profile labels = map (λ label. (label_item profile label, pair_line (codes "label") label)) labels

-- the lines of properties, without those that are for rules alone
abbrev pub env_lines : List Pair → List ItemLine
env_lines pairs = value_lines (codes "env") (filter (λ pair. not (is_hidden pair.0)) pairs)

-- the line of a priority, if one was assigned
abbrev pub priority_lines : Option ℤ → List ItemLine
priority_lines None = []
priority_lines (Some priority) = ((codes "priority", signed_decimal priority), line (codes "priority") (signed_decimal priority)) ∷ []

-- the line for watching or not, if it was assigned
abbrev pub watch_lines : Option Bool → List ItemLine
watch_lines None = []
watch_lines (Some watched) = ((watch_word watched, []), bare_line (watch_word watched)) ∷ []

-- the line that says that what is known stays in the database
abbrev pub persist_lines : Bool → List ItemLine
persist_lines true = ((codes "persist", []), bare_line (codes "persist")) ∷ []
persist_lines false = []

-- the lines on the device's node
unfoldable pub node_lines : Outcome → List ItemLine
node_lines outcome =
    given_lines (codes "name") outcome.name
    ++ given_lines (codes "owner") outcome.owner
    ++ given_lines (codes "group") outcome.group
    ++ given_lines (codes "mode") outcome.mode
    ++ priority_lines outcome.priority
    ++ watch_lines outcome.watch
    ++ persist_lines outcome.persist

-- the lines about all items of an outcome
unfoldable pub item_lines : Profile → Outcome → List ItemLine
item_lines profile outcome =
    node_lines outcome
    ++ label_lines profile outcome.labels
    ++ member_lines (codes "link") outcome.links
    ++ member_lines (codes "tag") outcome.tags
    ++ env_lines outcome.env
    ++ value_lines (codes "attr") outcome.attrs
    ++ value_lines (codes "sysctl") outcome.sysctls
