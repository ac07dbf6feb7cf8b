-- Serves inner proofs only: items as a table, tags one by one, missing RUNs, and those that two lists begin with.
use Rattle.std.specs.Prelude.{ℕ, List, [], ◌∷◌, ◌++◌, if◌then◌else◌, codes, reverse}
use Rattle.std.specs.List.{prefix_len, zip}
use Rattle.text_tables.specs.Pairs.{Pair, with_values}
use Rattle.text_bytes.specs.Text.{Text}
use Rattle.text_tables.specs.Texts.{is_among}
use Rattle.eval_state.specs.Runs.{RunValue, same_run}
use Rattle.eval_effects.specs.Changes.{is_kept, run_text}
use Rattle.eval_effects.specs.Items.{item_name}

-- a table of items, in which the first of two with the same name counts: they are put into it from the last on
abbrev pub table_of : List Pair → List Pair
table_of items = with_values [] (reverse items)

-- a tag as an item, unless it was removed
abbrev pub tag_item : List Text → Text → List Pair
tag_item gone tag = if is_among gone tag then [] else (item_name (codes "tag") tag, []) ∷ []

-- a RUN that is not among others, and what became of it
abbrev pub missing_run : Text → List RunValue → RunValue → List Text
missing_run became others run = if is_kept others run then [] else (run_text run ++ became) ∷ []

-- how many RUNs are the same, one by one, from the first on
abbrev pub same_front : List RunValue → List RunValue → ℕ
same_front front runs = prefix_len (λ pair. same_run pair.0 pair.1) (zip front runs)
