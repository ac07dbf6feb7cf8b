-- What of a scene an assignment may change.
use Rattle.std.specs.Prelude.{false, [], None}
use Rattle.text_tables.specs.Pairs.{without_name}
use Rattle.rule_types.specs.declared.roles.Target.{Target}
use Rattle.rule_types.specs.declared.roles.Target.TheVariants as target
use Rattle.rule_types.specs.declared.rule_option.RuleOption.{RuleOption}
use Rattle.rule_types.specs.declared.rule_option.RuleOption.TheVariants as option
use Rattle.rule_types.specs.declared.part.Change.{Change}
use Rattle.rule_types.specs.declared.part.Change.TheVariants as change
use Rattle.eval_state.specs.Finals.{no_finals}
use Rattle.eval_state.specs.Scenes.{with_env, with_state}
use Rattle.eval_state.specs.declared.scene.Scene.{Scene}

-- a scene without what a text that is assigned to a key sets: with TAG also the tags that were removed, with ENV the property of
-- the name alone
abbrev pub but_for_text : Target → Scene → Scene
but_for_text target.Owner s = record s { owner = None }
but_for_text target.Group s = record s { group = None }
but_for_text target.Mode s = record s { mode = None }
but_for_text target.Name s = with_state (λ now. record now { name = None }) s
but_for_text target.Symlink s = with_state (λ now. record now { links = [] }) s
but_for_text target.Tag s = record (with_state (λ now. record now { tags = [] }) s) { gone = [] }
but_for_text (target.Env name) s = with_env (without_name s.state.env name) s
but_for_text (target.Seclabel name) s = record s { labels = [] }
but_for_text (target.Attr name) s = record s { attrs = [] }
but_for_text (target.Sysctl name) s = record s { sysctls = [] }

-- a scene without what an option sets
abbrev pub but_for_option : RuleOption → Scene → Scene
but_for_option (option.LinkPriority priority) s = record s { priority = None }
but_for_option option.Watch s = record s { watch = None }
but_for_option option.NoWatch s = record s { watch = None }
but_for_option option.DbPersist s = record s { persist = false }
but_for_option known s = s

-- a scene without the keys that are final and without notes
abbrev pub unmarked : Scene → Scene
unmarked s = record s { finals = no_finals; notes = [] }

-- a scene without what an assignment may change: what it is about, the keys that are final, and the notes
abbrev pub but_for : Change → Scene → Scene
but_for (change.Text about template) s = but_for_text about (unmarked s)
but_for (change.Option known) s = but_for_option known (unmarked s)
but_for (change.Run braces template) s = record (unmarked s) { runs = []; made = [] }
