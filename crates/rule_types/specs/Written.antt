-- The key and the attribute with which each role of a token is written: tables from the roles back, against which
-- those to the roles are proved.
use Rattle.std.specs.Prelude.{Option, Some, None, option_map}
use Rattle.text_bytes.specs.Text.{Text}
use Rattle.rule_types.specs.Names.{import_name, run_name}
use Rattle.rule_types.specs.declared.keys.Key.{Key}
use Rattle.rule_types.specs.declared.keys.Key.TheVariants as key
use Rattle.rule_types.specs.declared.topics.Topic.{Topic}
use Rattle.rule_types.specs.declared.topics.Topic.TheVariants as topic
use Rattle.rule_types.specs.declared.roles.PlainKey.{PlainKey}
use Rattle.rule_types.specs.declared.roles.PlainKey.TheVariants as plain
use Rattle.rule_types.specs.declared.roles.UpKey.{UpKey}
use Rattle.rule_types.specs.declared.roles.UpKey.TheVariants as up
use Rattle.rule_types.specs.declared.roles.Target.{Target}
use Rattle.rule_types.specs.declared.roles.Target.TheVariants as target
use Rattle.rule_types.specs.declared.roles.Role.{Role}
use Rattle.rule_types.specs.declared.roles.Role.TheVariants as role

-- the key of what a match of the event looks at
abbrev pub key_of_plain : PlainKey → Key
key_of_plain plain.Action = key.Action
key_of_plain plain.Devpath = key.Devpath
key_of_plain plain.Kernel = key.Kernel
key_of_plain plain.Subsystem = key.Subsystem
key_of_plain plain.Driver = key.Driver
key_of_plain plain.Name = key.Name
key_of_plain plain.Symlink = key.Symlink
key_of_plain plain.Tag = key.Tag
key_of_plain (plain.Attr name) = key.Attr
key_of_plain (plain.Sysctl name) = key.Sysctl
key_of_plain (plain.Env name) = key.Env
key_of_plain (plain.Const name) = key.Const

-- its attribute
abbrev pub attribute_of_plain : PlainKey → Option Text
attribute_of_plain (plain.Attr name) = Some name
attribute_of_plain (plain.Sysctl name) = Some name
attribute_of_plain (plain.Env name) = Some name
attribute_of_plain (plain.Const name) = Some name
attribute_of_plain _ = None

-- the key of what a match of one device of the chain looks at
abbrev pub key_of_up : UpKey → Key
key_of_up up.Kernels = key.Kernels
key_of_up up.Subsystems = key.Subsystems
key_of_up up.Drivers = key.Drivers
key_of_up up.Tags = key.Tags
key_of_up (up.Attrs name) = key.Attrs

-- its attribute
abbrev pub attribute_of_up : UpKey → Option Text
attribute_of_up (up.Attrs name) = Some name
attribute_of_up _ = None

-- the key of what a text is assigned to
abbrev pub key_of_target : Target → Key
key_of_target target.Owner = key.Owner
key_of_target target.Group = key.Group
key_of_target target.Mode = key.Mode
key_of_target target.Tag = key.Tag
key_of_target (target.Seclabel name) = key.Seclabel
key_of_target (target.Env name) = key.Env
key_of_target target.Name = key.Name
key_of_target target.Symlink = key.Symlink
key_of_target (target.Attr name) = key.Attr
key_of_target (target.Sysctl name) = key.Sysctl

-- its attribute
abbrev pub attribute_of_target : Target → Option Text
attribute_of_target (target.Seclabel name) = Some name
attribute_of_target (target.Env name) = Some name
attribute_of_target (target.Attr name) = Some name
attribute_of_target (target.Sysctl name) = Some name
attribute_of_target _ = None

-- the key of a topic
abbrev pub key_of_topic : Topic → Key
key_of_topic topic.Action = key.Action
key_of_topic topic.Devpath = key.Devpath
key_of_topic topic.Kernel = key.Kernel
key_of_topic topic.Subsystem = key.Subsystem
key_of_topic topic.Driver = key.Driver
key_of_topic topic.Kernels = key.Kernels
key_of_topic topic.Subsystems = key.Subsystems
key_of_topic topic.Drivers = key.Drivers
key_of_topic topic.Tags = key.Tags
key_of_topic topic.Result = key.Result
key_of_topic (topic.Attrs name) = key.Attrs
key_of_topic (topic.Const name) = key.Const
key_of_topic (topic.Test mask) = key.Test
key_of_topic topic.Program = key.Program
key_of_topic (topic.Import type) = key.Import
key_of_topic topic.Name = key.Name
key_of_topic topic.Symlink = key.Symlink
key_of_topic topic.Tag = key.Tag
key_of_topic (topic.Attr name) = key.Attr
key_of_topic (topic.Sysctl name) = key.Sysctl
key_of_topic (topic.Env name) = key.Env
key_of_topic topic.Owner = key.Owner
key_of_topic topic.Group = key.Group
key_of_topic topic.Mode = key.Mode
key_of_topic (topic.Seclabel name) = key.Seclabel
key_of_topic (topic.Run type) = key.Run
key_of_topic topic.Options = key.Options
key_of_topic topic.Label = key.Label
key_of_topic topic.Goto = key.Goto

-- its attribute
abbrev pub attribute_of_topic : Topic → Option Text
attribute_of_topic (topic.Attrs name) = Some name
attribute_of_topic (topic.Const name) = Some name
attribute_of_topic (topic.Attr name) = Some name
attribute_of_topic (topic.Sysctl name) = Some name
attribute_of_topic (topic.Env name) = Some name
attribute_of_topic (topic.Seclabel name) = Some name
attribute_of_topic (topic.Test mask) = mask
attribute_of_topic (topic.Import type) = Some (import_name type)
attribute_of_topic (topic.Run type) = option_map run_name type
attribute_of_topic _ = None

-- the key of a role
abbrev pub key_of_role : Role → Key
key_of_role (role.Plain k o) = key_of_plain k
key_of_role (role.Up k o) = key_of_up k
key_of_role (role.Result o) = key.Result
key_of_role (role.Test mask o) = key.Test
key_of_role (role.Program o) = key.Program
key_of_role (role.Import type o) = key.Import
key_of_role (role.Set t o) = key_of_target t
key_of_role (role.Run type o) = key.Run
key_of_role (role.Option o) = key.Options
key_of_role role.Label = key.Label
key_of_role role.Goto = key.Goto

-- the attribute of a role
abbrev pub attribute_of_role : Role → Option Text
attribute_of_role (role.Plain k o) = attribute_of_plain k
attribute_of_role (role.Up k o) = attribute_of_up k
attribute_of_role (role.Test mask o) = mask
attribute_of_role (role.Import type o) = Some (import_name type)
attribute_of_role (role.Set t o) = attribute_of_target t
attribute_of_role (role.Run type o) = option_map run_name type
attribute_of_role _ = None
