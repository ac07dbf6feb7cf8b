-- What changed between two scenes, as texts: items that are there only now or no longer, and RUNs.
use Rattle.std.specs.Prelude.{ℕ, ◌&&◌, if◌then◌else◌, Bool, List, [], ◌∷◌, ◌++◌, Option, Some, None, is_some, length, drop, map, codes, flat_map}
use Rattle.std.specs.List.{list_any, prefix_len, zip}
use Rattle.text_bytes.specs.Names.{equals, space}
use Rattle.text_bytes.specs.Texts.{is_empty, split_once}
use Rattle.text_bytes.specs.Text.{Text}
use Rattle.text_tables.specs.Texts.{same_text}
use Rattle.text_tables.specs.Pairs.{Pair, value_of}
use Rattle.rule_types.specs.Names.{run_name}
use Rattle.rule_types.specs.declared.part.Change.{Change}
use Rattle.eval_state.specs.Runs.{RunValue, run_kind, same_run}
use Rattle.eval_state.specs.declared.made_runs.MadeRun.{MadeRun}
use Rattle.eval_state.specs.declared.scene.Scene.{Scene}
use Rattle.eval_effects.specs.Items.{is_present}
use Rattle.eval_effects.specs.Scope.{items_about, made_about, runs_about}
use Rattle.eval_effects.specs.declared.scope.Fronts.{Fronts}
use Rattle.eval_effects.specs.Shown.{shown}

-- what is compared between scenes: items, RUNs, those that udev made at their rules, and how many notes there are
pub record Snapshot : Type 0 where
  pub items : List Pair
  pub runs : List RunValue
  pub made : List MadeRun
  pub notes : ℕ

-- what there is in a scene of what an assignment can change, but for the fronts that stay
abbrev pub snapshot : Change → Fronts → Scene → Snapshot
snapshot c f s = record { items = items_about c f s; runs = runs_about c f s; made = made_about c f s; notes = length s.notes }

-- what becomes of an item that takes a value: without one it is added
abbrev pub value_part : Text → Text
value_part [] = codes " added"
value_part (byte ∷ value) = equals ∷ shown (byte ∷ value) ++ codes " set"

-- the name of an item as it is shown: its word, and what it is about
abbrev pub name_by : Text → Option (Text × Text) → Text
name_by name None = name
name_by name (Some parts) = parts.0 ++ space ∷ shown parts.1

-- the same, by its parts before and after its first space
abbrev pub name_text : Text → Text
name_text name = name_by name (split_once space name)

-- the text of an item that is set
abbrev pub set_text : Pair → Text
set_text item = name_text item.0 ++ value_part item.1

-- an item that is there now is reported unless it was there like this before
abbrev pub set_item : List Pair → Pair → List Text
set_item was item = if is_present item was then [] else set_text item ∷ []

-- the text of an item whose name is no longer there
abbrev pub removed_text : Text → Text
removed_text name = name_text name ++ codes " removed"

-- an item that was there before is reported if its name is no longer there
abbrev pub removed_item : List Pair → Pair → List Text
removed_item now item = if is_some (value_of now item.0) then [] else removed_text item.0 ∷ []

-- what changed in items, by those before and those now: first what is no longer there, then what is
abbrev pub item_changes : List Pair → List Pair → List Text
item_changes was now = flat_map (removed_item now) was ++ flat_map (set_item was) now

-- whether a RUN is one of these, by its type and its written text
abbrev pub is_kept : List RunValue → RunValue → Bool
is_kept runs run = list_any (λ other. same_run other run) runs

-- the text of a RUN, by its type and its written text
unfoldable pub run_text : RunValue → Text
run_text run = codes "run " ++ run_name (run_kind run.braces) ++ space ∷ shown run.template.written

-- a RUN that is there now is reported unless it was there before
abbrev pub added_run : List RunValue → RunValue → List Text
added_run was run = if is_kept was run then [] else (run_text run ++ codes " added") ∷ []

-- a RUN that was there before is reported if it is no longer there
abbrev pub removed_run : List RunValue → RunValue → List Text
removed_run now run = if is_kept now run then [] else (run_text run ++ codes " removed") ∷ []

-- that none of what there was is left, if there was something
abbrev pub all_removed : {X : Type 0} → List X → List Text
all_removed [] = []
all_removed (x ∷ was) = codes "all runs removed" ∷ []

-- the RUNs that are no longer there, one by one, unless none is there now
abbrev pub removed_runs : List RunValue → List RunValue → List Text
removed_runs was now = if is_empty now then all_removed was else flat_map (removed_run now) was

-- what changed in RUNs, by those before and those now: first those that are no longer there
abbrev pub run_changes : List RunValue → List RunValue → List Text
run_changes was now = removed_runs was now ++ flat_map (added_run was) now

-- whether two RUNs that udev made are the same: of the same type, as written and as rendered
abbrev pub same_made : MadeRun → MadeRun → Bool
same_made a b = same_run a.run b.run && same_text a.text b.text

-- how many RUNs that udev made stayed: as many as both lists begin with
abbrev pub stayed : List MadeRun → List MadeRun → ℕ
stayed was now = prefix_len (λ pair. same_made pair.0 pair.1) (zip was now)

-- the text of a RUN that udev made, and what became of it
abbrev pub made_run : Text → MadeRun → Text
made_run became made = run_text made.run ++ became

-- the RUNs that are no longer there, one by one, unless none is there now
abbrev pub removed_made : List MadeRun → List MadeRun → List Text
removed_made was now = if is_empty now then all_removed was else map (made_run (codes " removed")) (drop (stayed was now) was)

-- what changed in RUNs that udev made, by those before and those now, first those that are no longer there: one may
-- be there several times
abbrev pub made_changes : List MadeRun → List MadeRun → List Text
made_changes was now = removed_made was now ++ map (made_run (codes " added")) (drop (stayed was now) now)

-- all that changed
abbrev pub changes : (was now : Snapshot) → List Text
changes was now = item_changes was.items now.items ++ run_changes was.runs now.runs ++ made_changes was.made now.made
