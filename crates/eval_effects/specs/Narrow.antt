-- Serves inner proofs only: what an assignment can change, where of attributes and parameters the one that is written is known.
use Rattle.std.specs.Prelude.{List, [], ◌++◌, length, Option, Some, None, codes, slice_get}
use Rattle.text_bytes.specs.Text.{Text}
use Rattle.text_tables.specs.Pairs.{Pair}
use Rattle.rule_types.specs.declared.roles.Target.{Target}
use Rattle.rule_types.specs.declared.roles.Target.TheVariants as target
use Rattle.rule_types.specs.declared.part.Change.{Change}
use Rattle.rule_types.specs.declared.part.Change.TheVariants as change
use Rattle.eval_state.specs.declared.scene.Scene.{Scene}
use Rattle.eval_state.specs.declared.state.State.{State}
use Rattle.eval_assignments.specs.Written.{written_name}
use Rattle.eval_effects.specs.Changes.{Snapshot, changes}
use Rattle.eval_effects.specs.Effects.{changed_text, said_left}
use Rattle.eval_effects.specs.Items.{node_items}
use Rattle.eval_effects.specs.Scope.{items_by_text, made_about, named_item, runs_about}
use Rattle.eval_effects.specs.declared.scope.Fronts.{Fronts}

-- the attribute or the parameter that a change writes, if it writes one
abbrev pub written_by : Change → State → Option Text
written_by (change.Text about template) state = written_name state.event.profile about state
written_by c state = None

-- the item of what is written
abbrev pub written_item : Text → Option Text → List Pair → List Pair
written_item word None pairs = []
written_item word (Some name) pairs = named_item word name pairs

-- the items that a text can change that is assigned to a key
abbrev pub found_by_text : Option Text → Target → Fronts → Scene → List Pair
found_by_text written (target.Attr name) f s = written_item (codes "attr") written s.attrs
found_by_text written (target.Sysctl name) f s = written_item (codes "sysctl") written s.sysctls
found_by_text written about f s = items_by_text about f s

-- the items that an assignment can change
abbrev pub found_about : Option Text → Change → Fronts → Scene → List Pair
found_about written (change.Option known) f s = node_items s
found_about written (change.Text about template) f s = found_by_text written about f s
found_about written (change.Run braces template) f s = []

-- what there is in a scene of what an assignment can change
abbrev pub found_snapshot : Option Text → Change → Fronts → Scene → Snapshot
found_snapshot written c f s = record { items = found_about written c f s; runs = runs_about c f s; made = made_about c f s; notes = length s.notes }

-- an assignment that was made or left a note
abbrev pub found_text : Option Text → Change → Fronts → Snapshot → Scene → Text
found_text written c f was s = changed_text c (changes was (found_snapshot written c f s) ++ said_left c s (slice_get s.notes was.notes))
