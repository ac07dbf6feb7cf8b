-- A table of items gives each name the value that it has among them.
use Rattle.std.proofs.Common.{◌≡◌, cond, List, [], ◌∷◌, ◌++◌, Some, is_some, reverse, flat_map, append_assoc, refl, ap, ◌∙◌}
use Rattle.std.proofs.lemmas.Grind.{reverse_onto}
use Rattle.std.proofs.lemmas.List.Sums.{fold-append}
use Rattle.text_bytes.specs.Text.{Text}
use Rattle.text_tables.specs.Texts.{same_text}
use Rattle.text_tables.specs.Pairs.{Pair, value_of, with_value, with_values}
use Rattle.text_tables.proofs.Found.{value_set}
use Rattle.eval_effects.specs.Items.{is_value}
use Rattle.eval_effects.specs.Changes.{item_changes, removed_item, removed_text, set_item, set_text}
use Rattle.eval_effects.specs.Inner.{table_of}

values : (items : List Pair) (name : Text) → value_of (table_of items) name ≡ value_of items name
values [] name = refl
values (item ∷ items) name =
    ap (λ all. value_of (with_values [] all) name) (reverse_onto items item [])
    ∙ ap (λ held. value_of held name) (fold-append (λ held pair. with_value held pair.0 pair.1) [] (reverse items) (item ∷ []))
    ∙ value_set (table_of items) item.0 item.1 name
    ∙ ap (cond (same_text name item.0) (Some item.1)) (values items name)

set_same : (was : List Pair) → set_item (table_of was) ≡ set_item was
set_same was =
    let same : (item : Pair) → set_item (table_of was) item ≡ set_item was item = λ item. ap (λ value. cond (is_value value item.1) [] (set_text item ∷ [])) (values was item.0) in
    λ i item. same item i

removed_same : (now : List Pair) → removed_item (table_of now) ≡ removed_item now
removed_same now =
    let same : (item : Pair) → removed_item (table_of now) item ≡ removed_item now item = λ item. ap (λ value. cond (is_some value) [] (removed_text item.0 ∷ [])) (values now item.0) in
    λ i item. same item i

-- what is reported by tables is what is reported by the items
changes_same : (was now : List Pair) → flat_map (removed_item (table_of now)) was ++ flat_map (set_item (table_of was)) now ≡ item_changes was now
changes_same was now =
    ap (λ report. flat_map report was ++ flat_map (set_item (table_of was)) now) (removed_same now)
    ∙ ap (λ report. flat_map (removed_item now) was ++ flat_map report now) (set_same was)

-- the same, one after another after what was reported before
pub reported_same : (start mid end : List Text) (was now was_table now_table : List Pair) → was_table ≡ table_of was → now_table ≡ table_of now
    → mid ≡ start ++ flat_map (removed_item now_table) was → end ≡ mid ++ flat_map (set_item was_table) now → end ≡ start ++ item_changes was now
reported_same start mid end was now was_table now_table w n first second =
    second
    ∙ ap (λ reported. reported ++ flat_map (set_item was_table) now) first
    ∙ append_assoc start (flat_map (removed_item now_table) was) (flat_map (set_item was_table) now)
    ∙ ap (λ table. start ++ (flat_map (removed_item table) was ++ flat_map (set_item was_table) now)) n
    ∙ ap (λ table. start ++ (flat_map (removed_item (table_of now)) was ++ flat_map (set_item table) now)) w
    ∙ ap (λ reported. start ++ reported) (changes_same was now)
