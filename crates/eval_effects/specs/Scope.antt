-- What an assignment can change: the items of its key, or RUNs. Of lists that are only added to, it is what comes after those
-- that were there.
use Rattle.std.specs.Prelude.{if◌then◌else◌, List, [], drop, length, codes}
use Rattle.text_bytes.specs.Texts.{is_empty}
use Rattle.text_bytes.specs.declared.profile.Profile.{Profile}
use Rattle.text_bytes.specs.declared.profile.Profile.TheVariants.{Manual, Udev}
use Rattle.text_bytes.specs.Text.{Text}
use Rattle.text_tables.specs.Pairs.{Pair, value_of}
use Rattle.rule_types.specs.declared.roles.AssignOperator.{AssignOperator}
use Rattle.rule_types.specs.declared.roles.AssignOperator.TheVariants.{Add}
use Rattle.rule_types.specs.declared.roles.Target.{Target}
use Rattle.rule_types.specs.declared.roles.Target.TheVariants as target
use Rattle.rule_types.specs.declared.part.Change.{Change}
use Rattle.rule_types.specs.declared.part.Change.TheVariants as change
use Rattle.eval_state.specs.Runs.{RunValue}
use Rattle.eval_state.specs.declared.made_runs.MadeRun.{MadeRun}
use Rattle.eval_state.specs.declared.scene.Scene.{Scene}
use Rattle.eval_assignments.specs.Lists.{without_texts}
use Rattle.eval_effects.specs.Items.{given_item, item_name, label_items, node_items, pair_items, text_items}
use Rattle.eval_effects.specs.declared.scope.Fronts.{Fronts}

-- how many links, tags and RUNs stay as they are, from the first on, when an assignment with this operator is made: all that are
-- there if it only adds, but no tags if one was removed, which may be set again
abbrev pub fronts : AssignOperator → Scene → Fronts
fronts Add s = record {
  links = length s.state.links;
  tags = if is_empty s.gone then length s.state.tags else 0;
  runs = length s.runs;
  made = length s.made;
}
fronts o s = record { links = 0; tags = 0; runs = 0; made = 0 }

-- what has a name, as an item, if it is there
abbrev pub named_item : (word name : Text) → List Pair → List Pair
named_item word name pairs = given_item (item_name word name) (value_of pairs name)

-- the item of what is written under a name; for udev all of them, as a name may lead to another one
abbrev pub written_items : Profile → (word name : Text) → List Pair → List Pair
written_items Manual word name pairs = named_item word name pairs
written_items Udev word name pairs = pair_items word pairs

-- the items that a text can change that is assigned to a key, but for those that stay
abbrev pub items_by_text : Target → Fronts → Scene → List Pair
items_by_text (target.Env name) f s = named_item (codes "env") name s.state.env
items_by_text (target.Attr name) f s = written_items s.state.event.profile (codes "attr") name s.attrs
items_by_text (target.Sysctl name) f s = written_items s.state.event.profile (codes "sysctl") name s.sysctls
items_by_text (target.Seclabel name) f s = label_items s.state.event.profile s.labels
items_by_text target.Symlink f s = text_items (codes "link") (drop f.links s.state.links)
items_by_text target.Tag f s = text_items (codes "tag") (without_texts (drop f.tags s.state.tags) s.gone)
items_by_text about f s = node_items s

-- the items that an assignment can change, but for those that stay
abbrev pub items_about : Change → Fronts → Scene → List Pair
items_about (change.Option known) f s = node_items s
items_about (change.Text about template) f s = items_by_text about f s
items_about (change.Run braces template) f s = []

-- the RUNs that an assignment can change, but for those that stay
abbrev pub runs_about : Change → Fronts → Scene → List RunValue
runs_about (change.Run braces template) f s = drop f.runs s.runs
runs_about c f s = []

-- the same of those that udev made at their rules
abbrev pub made_about : Change → Fronts → Scene → List MadeRun
made_about (change.Run braces template) f s = drop f.made s.made
made_about c f s = []
