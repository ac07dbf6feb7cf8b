-- Properties that are set in two steps.
use Rattle.std.proofs.Common.{◌≡◌, List, ◌++◌, sym}
use Rattle.std.proofs.lemmas.List.Sums.{fold-append}
use Rattle.text_tables.specs.Pairs.{Pair}
use Rattle.eval_state.specs.Properties.{properties_set, property_set}

-- properties that are set after others are set with them
pub in_two : (env first later : List Pair) → properties_set (properties_set env first) later ≡ properties_set env (first ++ later)
in_two env first later = sym (fold-append (λ held pair. property_set pair.0 pair.1 held) env first later)
