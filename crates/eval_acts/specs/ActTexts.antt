-- The texts of acts, rendered: by the manual each may have as many bytes as any text, and for udev as many as it has
-- room for.
use Rattle.std.specs.Prelude.{ℕ, Bool, ◌||◌, nat_le, if◌then◌else◌, [], length}
use Rattle.text_bytes.specs.Names.{slash}
use Rattle.text_bytes.specs.Texts.{begins_with}
use Rattle.text_bytes.specs.declared.profile.Profile.{Profile}
use Rattle.text_bytes.specs.declared.profile.Profile.TheVariants.{Manual, Udev}
use Rattle.text_bytes.specs.Text.{Text}
use Rattle.device_core.specs.Values.{DeviceValue}
use Rattle.rule_tokens.specs.Template.{Parts as Template}
use Rattle.eval_state.specs.declared.state.State.{State}
use Rattle.eval_rendering.specs.Bounds.{most_command_bytes, most_path_bytes, sysfs_path, within}
use Rattle.eval_rendering.specs.Rendering.{render, rendered_as_udev}
use Rattle.eval_rendering.specs.declared.rendered.Mode.TheVariants.{Plain}
use Rattle.eval_rendering.specs.declared.rendered.Rendered.{Rendered}
use Rattle.eval_rendering.specs.declared.rendered.Rendered.TheVariants as rendered

-- a rendered text, of which udev takes at most so many bytes
abbrev pub within_by : Profile → ℕ → Rendered → Rendered
within_by Manual most text = text
within_by Udev most text = within most text

-- whether udev has room for a path with the folder of a device before it; an absolute one is looked at as it is
abbrev pub has_room : DeviceValue → Text → Bool
has_room device path = begins_with slash path || nat_le (length (sysfs_path device path)) most_path_bytes

-- a path of TEST, for which there has to be room with the device's folder before it as well
abbrev pub with_room : DeviceValue → Rendered → Rendered
with_room device (rendered.Text path) = if has_room device path then rendered.Text path else rendered.TooLong
with_room device rendered.TooLong = rendered.TooLong

-- the path of TEST, by the event device
abbrev pub path_by : Profile → DeviceValue → Rendered → Rendered
path_by Manual device path = path
path_by Udev device path = with_room device (within most_path_bytes path)

-- the path of TEST
abbrev pub test_text : Template → State → Rendered
test_text template state = path_by state.event.profile state.event.device (render template state Plain)

-- the command of PROGRAM; for udev the earlier result is empty before it is rendered
abbrev pub program_text_by : Profile → Template → State → Rendered
program_text_by Manual template state = render template state Plain
program_text_by Udev template state = within most_command_bytes (render template (record state { result = [] }) Plain)

-- the command of PROGRAM
abbrev pub program_text : Template → State → Rendered
program_text template state = program_text_by state.event.profile template state

-- the value of an IMPORT, which for udev has at most so many bytes
abbrev pub import_text : ℕ → Template → State → Rendered
import_text most template state = within_by state.event.profile most (render template state Plain)

-- the value of IMPORT{parent} as udev renders it
abbrev pub names_text : Text → State → Rendered
names_text text state = within most_path_bytes (rendered_as_udev text state)
