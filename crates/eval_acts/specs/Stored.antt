-- IMPORT{db} of udev's, by what it had stored about the event device before the event.
use Rattle.std.specs.Prelude.{Bool, not, ◌||◌, if◌then◌else◌, codes, Option, None}
use Rattle.text_bytes.specs.Texts.{is_empty}
use Rattle.text_bytes.specs.Text.{Text}
use Rattle.text_tables.specs.Texts.{same_text}
use Rattle.text_tables.specs.Pairs.{value_of}
use Rattle.device_core.specs.Values.{EventValue}
use Rattle.rule_types.specs.declared.types.ImportType.TheVariants.{Db}
use Rattle.rule_types.specs.Rules.{Rule}
use Rattle.eval_state.specs.Texts.{filled}
use Rattle.eval_state.specs.declared.scene.Scene.{Scene}
use Rattle.eval_acts.specs.Imports.{name_given, not_run}

-- whether the event's device is removed
abbrev pub is_removal : EventValue → Bool
is_removal event = same_text event.action (codes "remove")

-- whether it is known what udev looks a name up in: as a device is removed there is nothing, and else a block that gives
-- no stored property does not say what was stored
abbrev pub is_stored_known : EventValue → Bool
is_stored_known event = is_removal event || not (is_empty event.device.stored)

-- what udev had stored under a name: not the empty text, and nothing as the device is removed
abbrev pub stored_value : Text → EventValue → Option Text
stored_value name event = if is_removal event then None else filled (value_of event.device.stored name)

-- IMPORT{db} of a name of udev's sets it to what was stored, and was done if something was
abbrev pub from_stored : Rule → Text → Scene → Scene × Bool
from_stored r name s = if is_stored_known s.state.event then name_given name (stored_value name s.state.event) s else not_run r Db s
