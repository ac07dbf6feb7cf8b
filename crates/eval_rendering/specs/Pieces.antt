-- What each substitution is replaced with.
use Rattle.std.specs.Prelude.{ℕ, ◌-◌, Bool, false, ◌==◌, ◌||◌, nat_lt, if◌then◌else◌, List, [], length, take, Option, Some, None, option_map, unwrap_or, codes}
use Rattle.std.specs.List.{list_any, suffix_len}
use Rattle.std.specs.Option.{option_and_then}
use Rattle.text_bytes.specs.Names.{carriage_return, newline}
use Rattle.text_bytes.specs.Numbers.{is_digit}
use Rattle.text_bytes.specs.Texts.{is_empty, trimmed}
use Rattle.text_bytes.specs.declared.profile.Profile.{Profile}
use Rattle.text_bytes.specs.declared.profile.Profile.TheVariants.{Manual, Udev}
use Rattle.text_bytes.specs.Text.{Text}
use Rattle.text_tables.specs.Texts.{same_text}
use Rattle.text_tables.specs.Pairs.{value_of}
use Rattle.text_bytes.specs.Kernels.{longest_end}
use Rattle.text_bytes.specs.Safe.{attribute_marks, safe}
use Rattle.device_core.specs.Values.{DeviceValue, EventValue}
use Rattle.rule_tokens.specs.declared.piece.Piece.{Piece}
use Rattle.rule_tokens.specs.declared.piece.Piece.TheVariants as piece
use Rattle.eval_state.specs.Texts.{or_empty}
use Rattle.eval_state.specs.Chains.{device_at, kernel_of}
use Rattle.eval_state.specs.Named.{NamedValue, named, named_place}
use Rattle.eval_state.specs.Start.{node_path}
use Rattle.eval_state.specs.declared.state.State.{State}
use Rattle.eval_rendering.specs.Bounds.{most_value_bytes}
use Rattle.eval_rendering.specs.Paths.{read_value}
use Rattle.eval_rendering.specs.Words.{from_word, spaced, word_at}

-- a text, or another one if there is none
abbrev pub or_else : Option Text → Option Text → Option Text
or_else None other = other
or_else (Some text) other = Some text

-- the device that is selected; a place outside of the chain selects none
abbrev pub selected_device : State → Option DeviceValue
selected_device state = option_and_then (device_at state.event) state.selected

-- an attribute, of the event device or else of the selected one
abbrev pub attribute : Text → State → Option Text
attribute name state = or_else (value_of state.event.device.attrs name) (option_and_then (λ device. value_of device.attrs name) (selected_device state))

-- an attribute of a device, empty if the device has none of this name
abbrev pub attribute_of : Text → DeviceValue → Text
attribute_of name device = or_empty (value_of device.attrs name)

-- the attribute of a device of the chain that is named with its device; if that device is not there, what is given
-- instead; without a name of an attribute there is none
abbrev pub attribute_named : EventValue → (given : Option Text) → NamedValue → Option Text
attribute_named event given n =
    if is_empty n.attribute then None
    else or_else (option_map (attribute_of n.attribute) (option_and_then (device_at event) (named_place n event))) given

-- the same by the whole name, if it has the form `[SUBSYSTEM/KERNEL]ATTRIBUTE`; what is given is what the event device
-- has under this whole name
abbrev pub named_attribute : Text → EventValue → Option Text
named_attribute name event = option_and_then (attribute_named event (value_of event.device.attrs name)) (named name)

-- whether a byte ends a line: a newline or a carriage return
abbrev pub ends_line : ℕ → Bool
ends_line b = b == newline || b == carriage_return

-- an attribute as udev reads it: without the ends of lines at its end
abbrev pub as_read : Text → Text
as_read value = take (length value - suffix_len ends_line value) value

-- the same of an attribute that names its device, of which udev puts in so much
abbrev pub cut_off : Text → Text
cut_off value = take most_value_bytes (as_read value)

-- the same as udev reads it
abbrev pub attribute_read : Text → State → Option Text
attribute_read name state =
    or_else (read_value state.event state.event.device name) (option_and_then (λ device. read_value state.event device name) (selected_device state))

-- the attribute that is put into a text, as the device has it; udev also looks for a device that is named, and cuts
-- its attribute off
abbrev pub attribute_as : Profile → Text → State → Text
attribute_as Manual name state = or_empty (attribute name state)
attribute_as Udev name state = unwrap_or (option_map cut_off (named_attribute name state.event)) (as_read (or_empty (attribute_read name state)))

-- the number that the kernel's name ends in; for udev a name of digits alone has none
abbrev pub number_as : Profile → Text → Text
number_as Manual kernel = longest_end is_digit kernel
number_as Udev kernel = if same_text (longest_end is_digit kernel) kernel then [] else longest_end is_digit kernel

-- the name of a device to which no rule gave one: the kernel's, or for udev the node if there is one
abbrev pub own_name : Profile → DeviceValue → Text
own_name Manual device = kernel_of device
own_name Udev device = unwrap_or device.node (kernel_of device)

-- the node of the second device of the chain
abbrev pub parent_node : State → Option Text
parent_node state = option_and_then (λ parent. parent.node) (device_at state.event 1)

-- what each piece is replaced with, as it is
abbrev pub piece_text : State → Piece → Text
piece_text state (piece.Plain text) = text
piece_text state piece.Kernel = kernel_of state.event.device
piece_text state piece.Number = number_as state.event.profile (kernel_of state.event.device)
piece_text state piece.Devpath = state.event.device.path
piece_text state piece.Id = or_empty (option_map kernel_of (selected_device state))
piece_text state piece.Driver = or_empty (option_and_then (λ device. device.driver) (selected_device state))
piece_text state (piece.Attr name) = safe attribute_marks (trimmed (attribute_as state.event.profile name state))
piece_text state (piece.Env name) = or_empty (value_of state.env name)
piece_text state piece.Major = unwrap_or (option_map (λ number. number.major) state.event.device.number) (codes "0")
piece_text state piece.Minor = unwrap_or (option_map (λ number. number.minor) state.event.device.number) (codes "0")
piece_text state piece.Result = state.result
piece_text state (piece.Word number) = word_at (number - 1) state.result
piece_text state (piece.From number) = from_word (number - 1) state.result
piece_text state piece.Parent = or_empty (parent_node state)
piece_text state piece.Name = unwrap_or state.name (own_name state.event.profile state.event.device)
piece_text state piece.Links = spaced state.links
piece_text state piece.Root = codes "/dev"
piece_text state piece.Sys = codes "/sys"
piece_text state piece.Devnode = or_empty (option_map node_path state.event.device.node)

-- whether a piece is an attribute of more bytes than udev puts in
abbrev pub is_long : State → Piece → Bool
is_long state (piece.Attr name) = nat_lt most_value_bytes (length (attribute_as Udev name state))
is_long state other = false

-- whether a text with these pieces is too long whatever its own length is: for udev if an attribute is
abbrev pub has_long : Profile → State → List Piece → Bool
has_long Manual state pieces = false
has_long Udev state pieces = list_any (is_long state) pieces
