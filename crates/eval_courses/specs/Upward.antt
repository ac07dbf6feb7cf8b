-- What the matches of one device met, device by device, and the outcome of the search for one device.
use Rattle.std.specs.Prelude.{ℕ, zero, suc, Bool, true, false, if◌then◌else◌, List, [], ◌∷◌, ◌++◌, length}
use Rattle.std.specs.Prelude.{map, filter, count_by, Option, Some, None, option_map, codes, decimal}
use Rattle.std.specs.List.{list_any, range_with_len}
use Rattle.text_bytes.specs.Texts.{is_empty}
use Rattle.text_bytes.specs.Text.{Text}
use Rattle.device_core.specs.Values.{chain}
use Rattle.rule_types.specs.declared.part.UpMatch.{UpMatch}
use Rattle.eval_state.specs.Chains.{device_at, kernel_of}
use Rattle.eval_state.specs.Texts.{or_empty}
use Rattle.eval_state.specs.declared.state.State.{State}
use Rattle.eval_rendering.specs.Holding.{Subject, attribute, udev_attribute}
use Rattle.eval_rendering.specs.Subjects.{found_place, holds_at, up_subject}
use Rattle.eval_effects.specs.Shown.{joined, shown}
use Rattle.eval_courses.specs.Keys.{up_key}
use Rattle.eval_courses.specs.Looks.{looked}

-- the places of the chain, from the event device up
abbrev pub places : State → List ℕ
places state = range_with_len 0 (length (chain state.event))

-- the kernel's name of the device at a place
abbrev pub name_at : State → ℕ → Text
name_at state place = shown (or_empty (option_map kernel_of (device_at state.event place)))

-- whether a match looked at an attribute that is absent
abbrev pub is_absent : Subject → Bool
is_absent (attribute None) = true
is_absent (udev_attribute None) = true
is_absent _ = false

-- what a match met, by whether it holds and what it looked at
abbrev pub met_at : Bool → Subject → Text
met_at holds subject =
    if holds then codes " holds"
    else if is_absent subject then codes " has none"
    else codes " fails, " ++ looked subject

-- a device, and what a match met at it
unfoldable pub device_report : UpMatch → State → ℕ → Text
device_report part state place = name_at state place ++ met_at (holds_at state place part) (up_subject part.key state place)

-- a match of one device, and what it met at each device of the chain
unfoldable pub up_report : UpMatch → State → Text
up_report part state = up_key part ++ codes ": " ++ joined (map (device_report part state) (places state))

-- how many of the matches hold at a device
abbrev pub hits : List UpMatch → State → ℕ → ℕ
hits parts state place = count_by (holds_at state place) parts

-- a device that meets some of the matches
unfoldable pub partial_report : List UpMatch → State → ℕ → Text
partial_report parts state place = name_at state place ++ codes " meets " ++ decimal (hits parts state place) ++ codes " of " ++ decimal (length parts)

-- the places below a bound, the last one first
abbrev pub falling : ℕ → List ℕ
falling zero = []
falling (suc last) = last ∷ falling last

-- the places of the devices at which at least one match holds, from the farthest on
abbrev pub partly : List UpMatch → State → List ℕ
partly parts state = filter (λ place. list_any (holds_at state place) parts) (falling (length (chain state.event)))

-- what no device meets: any of the matches, or all of them, with the devices that meet some
abbrev pub unmet : List Text → Text
unmet devices = if is_empty devices then codes "any" else codes "all: " ++ joined devices

-- what the device that is found does: if the rule is skipped, it is not selected
abbrev pub meets_all : Bool → Text
meets_all true = codes " would meet all"
meets_all false = codes " meets all"

-- the outcome of the search, by whether the rule is skipped: the device at a place, or none
abbrev pub found_report : Bool → List UpMatch → State → Option ℕ → Text
found_report idle parts state (Some place) = name_at state place ++ meets_all idle
found_report idle parts state None = codes "no device meets " ++ unmet (map (partial_report parts state) (partly parts state))

-- the search for one device, by whether the rule is skipped: each of its matches, and its outcome
unfoldable pub search_reports : Bool → List UpMatch → State → List Text
search_reports idle [] state = []
search_reports idle (part ∷ parts) state =
    map (λ each. up_report each state) (part ∷ parts) ++ found_report idle (part ∷ parts) state (found_place (part ∷ parts) state) ∷ []
