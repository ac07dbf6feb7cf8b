use Rattle.std.proofs.Common.{◌≡◌, true, List, [], ◌∷◌, Option, filter, refl, ap, ◌∙◌}
use Rattle.text_tables.specs.Pairs.{Pair}
use Rattle.text_core.specs.declared.item.Item.{Item}
use Rattle.trie_nodes.specs.Query.{query}
use Rattle.eval_commands.specs.LookUps.{counts}
use Rattle.eval_laws.proofs.lookups.properties_that_the_filter_takes_count.Goals as goal

-- a list of which all are kept
all_stay : (properties : List Pair) → filter (λ (property : Pair). true) properties ≡ properties
all_stay [] = refl
all_stay (property ∷ properties) = ap (λ more. property ∷ more) (all_stay properties)

pub returns-clause-filtered : goal.returns-clause-filtered
returns-clause-filtered c = λ known hwdb text pattern e.
    ap (λ (sought : Option (List Item)). filter (λ (property : Pair). counts sought property.0) (query known.entries text)) e

pub returns-clause-all : goal.returns-clause-all
returns-clause-all c = λ known hwdb text e.
    ap (λ (sought : Option (List Item)). filter (λ (property : Pair). counts sought property.0) (query known.entries text)) e ∙ all_stay (query known.entries text)
