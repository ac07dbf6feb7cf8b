-- What is known about an event before any rule has run.
use Rattle.std.specs.Prelude.{List, [], ◌∷◌, ◌++◌, Option, Some, None, option_map, codes}
use Rattle.text_bytes.specs.Text.{Text}
use Rattle.text_tables.specs.Texts.{with_texts}
use Rattle.text_tables.specs.Pairs.{Pair, with_values}
use Rattle.device_core.specs.Values.{EventValue}
use Rattle.eval_state.specs.Properties.{given_properties}
use Rattle.eval_state.specs.declared.state.State.{State}

-- a property, if it has a value
abbrev pub pair_if : Text → Option Text → List Pair
pair_if name None = []
pair_if name (Some value) = (name, value) ∷ []

-- the path of a node below `/dev`
abbrev pub node_path : Text → Text
node_path node = codes "/dev/" ++ node

-- what the event itself says about its device
abbrev pub reported_by : EventValue → List Pair
reported_by event =
    (codes "ACTION", event.action) ∷ (codes "DEVPATH", event.device.path)
    ∷ (pair_if (codes "SUBSYSTEM") event.device.subsystem
    ++ pair_if (codes "DEVNAME") (option_map node_path event.device.node)
    ++ pair_if (codes "MAJOR") (option_map (λ number. number.major) event.device.number)
    ++ pair_if (codes "MINOR") (option_map (λ number. number.minor) event.device.number))

-- the properties that an event begins with: those of its device, and what the event says set over them
unfoldable pub start_env : EventValue → List Pair
start_env event = with_values (with_values [] (given_properties event.profile event.device.env)) (reported_by event)

-- what is known if nothing is left but the event itself
abbrev pub blank_state : EventValue → State
blank_state event = record { event = event; selected = None; result = []; name = None; env = []; links = []; tags = [] }

-- what is known about an event before any rule has run
abbrev pub start_state : EventValue → State
start_state event = record (blank_state event) {
  env = start_env event;
  links = with_texts [] event.device.links;
  tags = with_texts [] event.device.tags;
}
