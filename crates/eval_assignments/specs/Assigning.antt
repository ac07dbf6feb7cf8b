-- What each key makes of the text that is assigned to it: a row for each key.
use Rattle.std.specs.Prelude.{true, false, if◌then◌else◌, List, [], ◌∷◌, ◌++◌, Option, Some, None}
use Rattle.text_bytes.specs.Texts.{is_empty}
use Rattle.text_bytes.specs.declared.profile.Profile.{Profile}
use Rattle.text_bytes.specs.declared.profile.Profile.TheVariants.{Manual, Udev}
use Rattle.text_bytes.specs.Text.{Text}
use Rattle.text_tables.specs.Pairs.{Pair, with_value}
use Rattle.rule_types.specs.declared.roles.AssignOperator.{AssignOperator}
use Rattle.rule_types.specs.declared.roles.AssignOperator.TheVariants.{Add}
use Rattle.rule_types.specs.declared.roles.Target.{Target}
use Rattle.rule_types.specs.declared.roles.Target.TheVariants as target
use Rattle.rule_types.specs.declared.rule_option.RuleOption.{RuleOption}
use Rattle.rule_types.specs.declared.rule_option.RuleOption.TheVariants as option
use Rattle.rule_types.specs.declared.keys.Key.TheVariants as key
use Rattle.rule_types.specs.Rules.{Rule}
use Rattle.eval_state.specs.Scenes.{noted_key, with_state}
use Rattle.eval_state.specs.declared.note_kind.NoteKind.TheVariants.{NoValue}
use Rattle.eval_state.specs.declared.scene.Scene.{Scene}
use Rattle.eval_assignments.specs.Attributes.{attribute_set}
use Rattle.eval_assignments.specs.Escapes.{with_underscores}
use Rattle.eval_assignments.specs.Givens.{Given}
use Rattle.eval_assignments.specs.Links.{links_changed}
use Rattle.eval_assignments.specs.Lists.{changed, link_names, one_tag}
use Rattle.eval_assignments.specs.Modes.{mode_set}
use Rattle.eval_assignments.specs.Names.{name_text}
use Rattle.eval_assignments.specs.Parameters.{parameter_set}
use Rattle.eval_assignments.specs.Properties.{property_changed, udev_property_changed}
use Rattle.eval_assignments.specs.Tags.{tag_changed}
use Rattle.eval_assignments.specs.declared.escapes.Escape.{Escape}
use Rattle.eval_assignments.specs.declared.escapes.Escape.TheVariants.{Replace}

-- a text that is assigned; none if it is empty
abbrev pub unless_empty : Text → Option Text
unless_empty t = if is_empty t then None else Some t

-- the names of links: their spaces become `_` if the rule replaces them, too
abbrev pub link_text : Escape → Text → Text
link_text Replace t = with_underscores t
link_text e t = t

-- the labels that stay before one is set: all if it is added, otherwise none
abbrev pub labels_before : AssignOperator → List Pair → List Pair
labels_before Add labels = labels
labels_before _ labels = []

-- an owner is set as udev takes it: an empty one leaves a note, and the one before stays
abbrev pub owner_set : Rule → Text → Scene → Scene
owner_set r t s = if is_empty t then noted_key r NoValue key.Owner None s else record s { owner = Some t }

-- a group is set as udev takes it, in the same way
abbrev pub group_set : Rule → Text → Scene → Scene
group_set r t s = if is_empty t then noted_key r NoValue key.Group None s else record s { group = Some t }

-- a text, or as it was written if it is empty
abbrev pub or_written : Text → Text → Text
or_written written t = if is_empty t then written else t

-- what each key makes of a text once it is rendered, by the manual: a module has one label, and an empty name means that there
-- is none
abbrev pub assigned_by_manual : Target → Given → Text → Scene → Scene
assigned_by_manual target.Owner g t s = record s { owner = unless_empty t }
assigned_by_manual target.Group g t s = record s { group = unless_empty t }
assigned_by_manual target.Mode g t s = record s { mode = unless_empty t }
assigned_by_manual target.Tag g t s = with_state (λ now. record now { tags = changed g.operator (one_tag t) now.tags }) s
assigned_by_manual (target.Seclabel name) g t s = record s { labels = with_value (labels_before g.operator s.labels) name t }
assigned_by_manual (target.Env name) g t s = property_changed g.rule g.operator name t s
assigned_by_manual target.Name g t s = with_state (λ now. record now { name = unless_empty (name_text Manual g.escape t) }) s
assigned_by_manual target.Symlink g t s = with_state (λ now. record now { links = changed g.operator (link_names (link_text g.escape t)) now.links }) s
assigned_by_manual (target.Attr name) g t s = record s { attrs = with_value s.attrs name t }
assigned_by_manual (target.Sysctl name) g t s = record s { sysctls = with_value s.sysctls name t }

-- what each key makes of a text once it is rendered, for udev: each label that was set stays, and an empty name is a name
abbrev pub assigned_by_udev : Target → Given → Text → Scene → Scene
assigned_by_udev target.Owner g t s = owner_set g.rule t s
assigned_by_udev target.Group g t s = group_set g.rule t s
assigned_by_udev target.Mode g t s = mode_set g.rule t s
assigned_by_udev target.Tag g t s = tag_changed g.rule g.operator t s
assigned_by_udev (target.Seclabel name) g t s = record s { labels = labels_before g.operator s.labels ++ (name, or_written g.written t) ∷ [] }
assigned_by_udev (target.Env name) g t s = udev_property_changed g.rule g.escape g.operator name g.written t s
assigned_by_udev target.Name g t s = with_state (λ now. record now { name = Some (name_text Udev g.escape t) }) s
assigned_by_udev target.Symlink g t s = links_changed g.rule g.operator (link_text g.escape t) s
assigned_by_udev (target.Attr name) g t s = attribute_set g.rule name t s
assigned_by_udev (target.Sysctl name) g t s = parameter_set g.rule name t s

-- what each key makes of a text once it is rendered
abbrev pub assigned : Profile → Target → Given → Text → Scene → Scene
assigned Manual = assigned_by_manual
assigned Udev = assigned_by_udev

-- what each option changes; `string_escape` is for its whole rule and changes nothing by itself
abbrev pub with_option : RuleOption → Scene → Scene
with_option (option.LinkPriority n) s = record s { priority = Some n }
with_option option.Watch s = record s { watch = Some true }
with_option option.NoWatch s = record s { watch = Some false }
with_option option.DbPersist s = record s { persist = true }
with_option o s = s
