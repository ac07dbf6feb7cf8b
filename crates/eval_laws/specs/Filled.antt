-- A question that is filled in, for laws: a block that asks a command and answers it.
use Rattle.std.specs.Prelude.{[], ◌∷◌, ◌++◌, codes, None}
use Rattle.text_bytes.specs.declared.profile.Profile.TheVariants.{Manual}
use Rattle.text_bytes.specs.Text.{Text}
use Rattle.device_core.specs.Values.{DeviceValue, EventValue}
use Rattle.engine_courses.specs.Questions.{question_line}

-- the block of an event with the line that asks a command, and the answer that the program ended well and wrote nothing
abbrev pub filled : Text → Text
filled command = codes "C: add\nP: /d\n" ++ question_line command ++ codes "R: 0\n"

-- the device of that event
abbrev pub device : DeviceValue
device = record {
  path = codes "/d";
  subsystem = None;
  driver = None;
  node = None;
  number = None;
  attrs = [];
  env = [];
  stored = [];
  tags = [];
  links = [];
}

-- the event, which has that answer under just that command
abbrev pub filled_event : Text → EventValue
filled_event command = record {
  action = codes "add";
  device = device;
  parents = [];
  programs = (command, record { status = 0; text = [] }) ∷ [];
  constants = [];
  misplaced = None;
  profile = Manual;
}
