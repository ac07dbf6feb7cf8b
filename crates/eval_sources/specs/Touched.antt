-- Serves inner proofs only: the items that the assignments of a rule can have changed.
use Rattle.std.specs.Prelude.{Bool, true, false, not, ◌||◌, ◌&&◌, nat_eq, List, [], ◌∷◌, ◌++◌, drop, length}
use Rattle.std.specs.Prelude.{map, flat_map, Option, Some, None, option_map, if◌then◌else◌, codes}
use Rattle.std.specs.Fmt.{signed_decimal}
use Rattle.std.specs.List.{list_any}
use Rattle.text_bytes.specs.declared.profile.Profile.{Profile}
use Rattle.text_bytes.specs.declared.profile.Profile.TheVariants.{Manual, Udev}
use Rattle.text_bytes.specs.Text.{Text}
use Rattle.text_tables.specs.Pairs.{Pair, value_of}
use Rattle.rule_tokens.specs.Substituted.{has_sign}
use Rattle.rule_types.specs.declared.roles.AssignOperator.{AssignOperator}
use Rattle.rule_types.specs.declared.roles.AssignOperator.TheVariants.{Add}
use Rattle.rule_types.specs.declared.roles.Target.{Target}
use Rattle.rule_types.specs.declared.roles.Target.TheVariants as target
use Rattle.rule_types.specs.declared.part.Change.{Change}
use Rattle.rule_types.specs.declared.part.Change.TheVariants as change
use Rattle.rule_types.specs.Rules.{Rule}
use Rattle.eval_state.specs.Texts.{filled}
use Rattle.eval_state.specs.declared.scene.Scene.{Scene}
use Rattle.eval_state.specs.declared.state.State.{State}
use Rattle.eval_assignments.specs.Written.{written_name}
use Rattle.eval_effects.specs.Items.{item_name, items}
use Rattle.eval_sources.specs.declared.touched.Sizes.{Sizes}

-- how many links and tags there are, and how many tags were removed
abbrev pub sizes : Scene → Sizes
sizes s = record { links = length s.state.links; tags = length s.state.tags; gone = length s.gone }

-- whether an operator only adds
abbrev pub only_adds : AssignOperator → Bool
only_adds Add = true
only_adds o = false

-- whether a profile is udev's
abbrev pub is_udev : Profile → Bool
is_udev Manual = false
is_udev Udev = true

-- whether a text that is assigned can change more items than those that are added and the one that it names; for udev the
-- name of a parameter is rendered before the rule is done
abbrev pub is_wide_text : Profile → AssignOperator → Target → Bool
is_wide_text profile o (target.Env name) = false
is_wide_text profile o target.Symlink = not (only_adds o)
is_wide_text profile o target.Tag = not (only_adds o)
is_wide_text profile o (target.Sysctl name) = is_udev profile && has_sign name
is_wide_text profile o (target.Seclabel name) = true
is_wide_text profile o about = false

-- the same for whatever an assignment changes
abbrev pub is_wide : Profile → AssignOperator → Change → Bool
is_wide profile o (change.Text about template) = is_wide_text profile o about
is_wide profile o c = false

-- whether a rule can have changed more than that, by what was there before it
abbrev pub changes_more : Rule → Sizes → Scene → Bool
changes_more r was s = list_any (λ a. is_wide s.state.event.profile a.operator a.change) r.sets || not (nat_eq (length s.gone) was.gone)

-- the names of the items of the device's node
abbrev pub node_words : List Text
node_words =
    codes "name" ∷ codes "owner" ∷ codes "group" ∷ codes "mode" ∷ codes "priority" ∷ codes "watch" ∷ codes "nowatch" ∷ codes "persist" ∷ []

-- the name of the item of what is written
abbrev pub written_named : Text → Option Text → List Text
written_named word None = []
written_named word (Some name) = item_name word name ∷ []

-- the names of the items that a text can be assigned to
abbrev pub named_by_text : Profile → State → Target → List Text
named_by_text profile state (target.Env name) = item_name (codes "env") name ∷ []
named_by_text profile state (target.Attr name) = written_named (codes "attr") (written_name profile (target.Attr name) state)
named_by_text profile state (target.Sysctl name) = written_named (codes "sysctl") (written_name profile (target.Sysctl name) state)
named_by_text profile state target.Symlink = []
named_by_text profile state target.Tag = []
named_by_text profile state (target.Seclabel name) = []
named_by_text profile state about = node_words

-- the names of the items that an assignment can change
abbrev pub named_by : Profile → State → Change → List Text
named_by profile state (change.Option known) = node_words
named_by profile state (change.Text about template) = named_by_text profile state about
named_by profile state (change.Run braces template) = []

-- whether a device is watched, or is not, as a rule has it
abbrev pub is_watch : Option Bool → Bool → Bool
is_watch None wanted = false
is_watch (Some true) wanted = wanted
is_watch (Some false) wanted = not wanted

-- the names of links
abbrev pub of_links : List Text → List Text
of_links links = map (item_name (codes "link")) links

-- the names of tags
abbrev pub of_tags : List Text → List Text
of_tags tags = map (item_name (codes "tag")) tags

-- the names of the items that a rule can have changed otherwise: the links and tags that are new, and what it names
abbrev pub touched : Rule → Sizes → Scene → List Text
touched r was s =
    of_links (drop was.links s.state.links) ++ of_tags (drop was.tags s.state.tags) ++ flat_map (λ a. named_by s.state.event.profile s.state a.change) r.sets

-- the items of the device's node that have a text as their value, if they are there
abbrev pub texts_found : Scene → List (Text × Option Text)
texts_found s = (codes "name", filled s.state.name) ∷ (codes "owner", s.owner) ∷ (codes "group", s.group) ∷ (codes "mode", s.mode) ∷ []

-- the others of the node
abbrev pub marks_found : Scene → List (Text × Option Text)
marks_found s =
    (codes "priority", option_map signed_decimal s.priority)
    ∷ (codes "watch", if is_watch s.watch true then Some [] else None)
    ∷ (codes "nowatch", if is_watch s.watch false then Some [] else None)
    ∷ (codes "persist", if s.persist then Some [] else None)
    ∷ []

-- names, each with the value of its item, if there is one
abbrev pub found : List Pair → List Text → List (Text × Option Text)
found items names = map (λ name. (name, value_of items name)) names

-- what is there of the names that a rule can have changed
unfoldable pub found_after : Rule → Sizes → Scene → List (Text × Option Text)
found_after r was s = found (items s) (touched r was s)
