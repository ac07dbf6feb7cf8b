-- Serves inner proofs only: what is kept while rules run, by a watcher of them.
use Rattle.std.specs.Prelude.{◌≡◌, Bool, not, ◌||◌, ◌&&◌, if◌then◌else◌, List, [], ◌∷◌, ◌++◌, Option, Some, option_map, is_some, fold}
use Rattle.text_bytes.specs.Texts.{is_empty}
use Rattle.text_bytes.specs.Text.{Text}
use Rattle.text_tables.specs.Pairs.{Pair, value_of, with_value}
use Rattle.rule_types.specs.Rules.{Rule}
use Rattle.eval_state.specs.declared.scene.Scene.{Scene}
use Rattle.eval_rules.specs.Watched.{Happening, left}
use Rattle.eval_effects.specs.Items.{items}
use Rattle.eval_sources.specs.Sources.{Held, Kept, Source, Stage, kept_in, source_by, source_in, source_of}
use Rattle.eval_sources.specs.Touched.{changes_more, found_after, sizes}
use Rattle.eval_sources.specs.declared.touched.Sizes.{Sizes}

-- what is kept for an item, added to others; of two with the same name the first is kept
abbrev pub with_first : Held → Text → Kept → Held
with_first held name kept = if is_some (kept_in held name) then held else with_value held name (Some kept)

-- what is kept for an item that is there after a rule, by what was kept before that rule
abbrev pub kept_of : Held → Source → Pair → Kept
kept_of before source item = (item.1, source_in before source item)

-- what is kept after one more rule, for the items that are there after it
unfoldable pub kept_after : Held → Source → List Pair → Held
kept_after before source items = fold (λ held item. with_first held item.0 (kept_of before source item)) [] items

-- what is kept for a name after one more rule, by the value that its item has after it, if it has one
abbrev pub updated_one : Held → Source → Text × Option Text → Held
updated_one held source found = with_value held found.0 (option_map (λ value. (value, source_by (kept_in held found.0) source value)) found.1)

-- the same for several names
unfoldable pub updated : Held → Source → List (Text × Option Text) → Held
updated held source found = fold (λ h one. updated_one h source one) held found

-- for each name that is there its value is kept, with where it comes from
unfoldable pub Keeps : List Stage → List Pair → Held → Type 0
Keeps stages items held = (name : Text) → kept_in held name ≡ option_map (λ value. (value, source_of stages (name, value))) (value_of items name)

-- from what is kept when these items are there follows what is kept after one more stage, whatever stages came before
unfoldable pub Proceeds : List Pair → Source → List Pair → Held → Held → Type 0
Proceeds was source now held held_now =
    (before : List Stage) (last : Source) → Keeps (before ++ (last, was) ∷ []) was held → Keeps (before ++ (last, was) ∷ (source, now) ∷ []) now held_now

-- whether a rule can have changed an item: it acts, or its end was reached and it assigns
abbrev pub can_change : Bool → Rule → Bool
can_change reached r = not (is_empty r.acts) || (reached && not (is_empty r.sets))

-- whether all items are looked at after a rule: it acts, or it can have changed more than is told apart
abbrev pub looks_at_all : Rule → Sizes → Scene → Bool
looks_at_all r was s = not (is_empty r.acts) || changes_more r was s

-- what is kept after a rule that can have changed an item, by what was there before it
abbrev pub told_after : Rule → Sizes → Scene → Held → Held
told_after r was s held = if looks_at_all r was s then kept_after held (Some r) (items s) else updated held (Some r) (found_after r was s)

-- how many links and tags there were after the last rule that can have changed an item, and what is kept
abbrev pub Keeper : Type 0
Keeper = Sizes × Held

-- what a keeper is after a rule
abbrev pub kept_after_rule : Keeper → Rule → Bool → Scene → Keeper
kept_after_rule w r reached s = if can_change reached r then (sizes s, told_after r w.0 s w.1) else w

-- what a keeper is after it was told what happens: only a rule that is left matters
abbrev pub keeping : Keeper → Happening → Scene → Keeper
keeping w (left r reached) s = kept_after_rule w r reached s
keeping w happening s = w
