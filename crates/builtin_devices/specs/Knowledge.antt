-- What evaluating rules asks beyond the event itself.
use Rattle.std.specs.Prelude.{Bool, List, Option}
use Rattle.text_bytes.specs.Text.{Text}
use Rattle.text_tables.specs.Pairs.{Pair}
use Rattle.trie_nodes.specs.declared.entry.Entry.{Entry}
use Rattle.device_core.specs.Values.{EventValue}
use Rattle.builtin_devices.specs.Outcomes.{OutcomeValue}
use Rattle.builtin_devices.specs.declared.root_files.RootFile.{RootFile}

-- paths of the root, each with what was found there
abbrev pub FilesFound : Type 0
FilesFound = List (Text × RootFile)

-- The entries of a hardware database, and the outcomes of udev's builtins: usb_id's also by whether the bus is set
-- already, and those of net_id, with what the database is asked for it, and of net_setup_link by the current properties
-- of the event device. And what was found at a path of the root: nothing if it was not looked at, or can't be read.
pub record Known : Type 0 where
  pub entries : List Entry
  pub usb_id : EventValue → (is_bus_set : Bool) → OutcomeValue
  pub path_id : EventValue → OutcomeValue
  pub input_id : EventValue → OutcomeValue
  pub net_id : EventValue → (env : List Pair) → OutcomeValue
  pub net_lookup : EventValue → (env : List Pair) → Option Text
  pub net_setup_link : EventValue → (env : List Pair) → OutcomeValue
  pub file : (path : Text) → Option RootFile
