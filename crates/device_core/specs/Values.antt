-- An event, regardless of where its texts are in memory.
use Rattle.std.specs.Prelude.{ℕ, ◌^◌, Bool, true, false, not, ◌==◌, ◌&&◌, if◌then◌else◌, List, [], ◌∷◌, ◌++◌, Option, Some, None, is_some}
use Rattle.std.specs.List.{list_all}
use Rattle.text_bytes.specs.Names.{carriage_return, digit_zero}
use Rattle.text_bytes.specs.Numbers.{decimal_below}
use Rattle.text_bytes.specs.Text.{Text}
use Rattle.text_tables.specs.Pairs.{Pair}
use Rattle.text_bytes.specs.declared.profile.Profile.{Profile}
use Rattle.text_bytes.specs.declared.profile.Profile.TheVariants.{Manual, Udev}

-- a device number, with its two parts as written
pub record NumberValue : Type 0 where
  pub major : Text
  pub minor : Text

-- a device of the chain; stored properties are those that udev had stored about it before the event
pub record DeviceValue : Type 0 where
  pub path : Text
  pub subsystem : Option Text
  pub driver : Option Text
  pub node : Option Text
  pub number : Option NumberValue
  pub attrs : List Pair
  pub env : List Pair
  pub stored : List Pair
  pub tags : List Text
  pub links : List Text

-- a device of which only the path, the subsystem and the attributes are known
abbrev pub described : (path subsystem : Text) → List Pair → DeviceValue
described path subsystem attrs = record {
  path = path;
  subsystem = Some subsystem;
  driver = None;
  node = None;
  number = None;
  attrs = attrs;
  env = [];
  stored = [];
  tags = [];
  links = [];
}

-- what a program answered; a carriage return is between two lines of its text
pub record AnswerValue : Type 0 where
  pub status : ℕ
  pub text : Text

-- an answer whose text has one more line
abbrev pub with_line : Text → AnswerValue → AnswerValue
with_line line answer = record answer { text = answer.text ++ carriage_return ∷ line }

-- an event: its action, its device, the parents of that from the nearest on, the answers of programs under their
-- commands, the constants, the first property behind a command below the last `P:`, and the profile by which rules are
-- evaluated over it
pub record EventValue : Type 0 where
  pub action : Text
  pub device : DeviceValue
  pub parents : List DeviceValue
  pub programs : List (Text × AnswerValue)
  pub constants : List Pair
  pub misplaced : Option Text
  pub profile : Profile

-- the devices of an event: its own, then the parents
abbrev pub chain : EventValue → List DeviceValue
chain event = event.device ∷ event.parents

-- whether udev takes a number for that of a device: it is one that the kernel gives, with a major from 1 to 4095, and a
-- minor of 20 bits
abbrev pub is_given : NumberValue → Bool
is_given number =
    is_some (decimal_below (2 ^ 12) number.major) && not (list_all (λ digit. digit == digit_zero) number.major)
    && is_some (decimal_below (2 ^ 20) number.minor)

-- whether a number is that of a device by a profile: by the manual each is
abbrev pub is_number_by : Profile → NumberValue → Bool
is_number_by Manual number = true
is_number_by Udev number = is_given number

-- the number that a device has by a profile, if its block gives it one
abbrev pub number_by : Profile → Option NumberValue → Option NumberValue
number_by profile None = None
number_by profile (Some number) = if is_number_by profile number then Some number else None

-- an event over which rules are evaluated by a profile
abbrev pub by_profile : Profile → EventValue → EventValue
by_profile profile event = record event { profile = profile; device = record event.device { number = number_by profile event.device.number } }

-- the most devices that an event may have
abbrev pub most_devices : ℕ
most_devices = 64
