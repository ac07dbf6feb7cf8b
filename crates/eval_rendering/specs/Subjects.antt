-- What each match looks at.
use Rattle.std.specs.Prelude.{ℕ, zero, suc, Bool, false, ◌&&◌, ◌||◌, is_none, if◌then◌else◌, List, [], length, Option, Some, option_map, unwrap_or}
use Rattle.std.specs.Prelude.{position, codes}
use Rattle.std.specs.List.{list_all, range_with_len}
use Rattle.std.specs.Option.{option_and_then}
use Rattle.text_bytes.specs.declared.profile.Profile.{Profile}
use Rattle.text_bytes.specs.declared.profile.Profile.TheVariants as profile
use Rattle.text_bytes.specs.Text.{Text}
use Rattle.text_tables.specs.Texts.{same_text}
use Rattle.text_tables.specs.Pairs.{value_of}
use Rattle.device_core.specs.Values.{EventValue, chain}
use Rattle.rule_types.specs.declared.roles.PlainKey.{PlainKey}
use Rattle.rule_types.specs.declared.roles.PlainKey.TheVariants as plain
use Rattle.rule_types.specs.declared.roles.UpKey.{UpKey}
use Rattle.rule_types.specs.declared.roles.UpKey.TheVariants as up
use Rattle.rule_types.specs.declared.part.UpMatch.{UpMatch}
use Rattle.eval_state.specs.Chains.{device_at, kernel_of}
use Rattle.eval_state.specs.declared.state.State.{State}
use Rattle.eval_state.specs.Texts.{or_empty}
use Rattle.eval_rendering.specs.Attributes.{attribute_by, own_attribute, value_by}
use Rattle.eval_rendering.specs.Holding.{Subject, one, constant, members, never, udev_members, udev_subsystem, unread, holds}

-- whether a constant is one that CONST knows
abbrev pub is_known : Text → Bool
is_known name = same_text name (codes "arch") || same_text name (codes "virt") || same_text name (codes "cvm")

-- whether a constant that CONST asks for is not given; by the manual none has to be
abbrev pub is_not_given_by : Profile → Text → EventValue → Bool
is_not_given_by profile.Manual name event = false
is_not_given_by profile.Udev name event = is_known name && is_none (value_of event.constants name)

-- whether a constant is one that udev knows of its machine, and the event does not give it
unfoldable pub is_not_given : Text → EventValue → Bool
is_not_given name event = is_not_given_by event.profile name event

-- what CONST looks at
abbrev pub named_constant : Text → State → Subject
named_constant name state = if is_known name then constant (value_of state.event.constants name) else never

-- what a match of SUBSYSTEM looks at
abbrev pub subsystem_by : Profile → Text → Subject
subsystem_by profile.Manual text = one text
subsystem_by profile.Udev text = udev_subsystem text

-- what a match of links or tags looks at
abbrev pub members_by : Profile → List Text → Subject
members_by profile.Manual texts = members texts
members_by profile.Udev texts = udev_members texts

-- what each match of the event looks at
abbrev pub plain_subject : PlainKey → State → Subject
plain_subject plain.Action state = one state.event.action
plain_subject plain.Devpath state = one state.event.device.path
plain_subject plain.Kernel state = one (kernel_of state.event.device)
plain_subject plain.Subsystem state = subsystem_by state.event.profile (or_empty state.event.device.subsystem)
plain_subject plain.Driver state = one (or_empty state.event.device.driver)
plain_subject plain.Name state = one (or_empty state.name)
plain_subject plain.Symlink state = members_by state.event.profile state.links
plain_subject plain.Tag state = members_by state.event.profile state.tags
plain_subject (plain.Attr name) state =
    attribute_by state.event.profile name state.event (Some state.event.device) (value_by state.event.profile name state state.event.device)
plain_subject (plain.Sysctl name) state = unread
plain_subject (plain.Env name) state = one (or_empty (value_of state.env name))
plain_subject (plain.Const name) state = named_constant name state

-- the tags of the device at a place of the chain; those of the event device are the current ones
abbrev pub tags_at : State → ℕ → List Text
tags_at state zero = state.tags
tags_at state (suc above) = unwrap_or (option_map (λ device. device.tags) (device_at state.event (suc above))) []

-- what is known while the device at a place of the chain is tried: that one is selected
abbrev pub tried : State → ℕ → State
tried state place = record state { selected = Some place }

-- what each match of one device looks at, at a place of the chain
abbrev pub up_subject : UpKey → State → ℕ → Subject
up_subject up.Kernels state place = one (or_empty (option_map kernel_of (device_at state.event place)))
up_subject up.Subsystems state place = one (or_empty (option_and_then (λ device. device.subsystem) (device_at state.event place)))
up_subject up.Drivers state place = one (or_empty (option_and_then (λ device. device.driver) (device_at state.event place)))
up_subject up.Tags state place = members_by state.event.profile (tags_at state place)
up_subject (up.Attrs name) state place =
    attribute_by state.event.profile name state.event (device_at state.event place) (own_attribute name (tried state place) place)

-- whether a match of one device holds at a place of the chain
unfoldable pub holds_at : State → ℕ → UpMatch → Bool
holds_at state place part = holds (up_subject part.key state place) part.wanted

-- the first place of the chain at whose device all of these matches hold
unfoldable pub found_place : List UpMatch → State → Option ℕ
found_place parts state = position (λ place. list_all (holds_at state place) parts) (range_with_len 0 (length (chain state.event)))
