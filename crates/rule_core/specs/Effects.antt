-- Whether the tokens of a line do anything but compare.
use Rattle.std.specs.Prelude.{Bool, true, false, not, ◌&&◌, if◌then◌else◌, List, find, Option, Some}
use Rattle.std.specs.List.{list_any}
use Rattle.text_bytes.specs.declared.profile.Profile.{Profile}
use Rattle.text_bytes.specs.declared.profile.Profile.TheVariants.{Manual, Udev}
use Rattle.rule_tokens.specs.Grammar.{Placed, compares}
use Rattle.rule_types.specs.Names.{key_of}
use Rattle.rule_types.specs.declared.keys.Key.{Key}
use Rattle.rule_types.specs.declared.keys.Key.TheVariants as key
use Rattle.rule_parts.specs.Options.{is_known_option}
use Rattle.rule_parts.specs.Parts.{meaning_of}

-- whether a key does something even when it is compared: it runs a command, or takes properties
abbrev pub acts_compared : Option Key → Bool
acts_compared (Some key.Program) = true
acts_compared (Some key.Import) = true
acts_compared _ = false

-- whether a key is that of the options
abbrev pub is_options : Option Key → Bool
is_options (Some key.Options) = true
is_options _ = false

-- whether a token is an option that udev does not know
abbrev pub is_unknown_option : Placed → Bool
is_unknown_option t = is_options (key_of t.parts.head.key) && not (is_known_option (meaning_of t))

-- whether a token does more than compare: it assigns something other than an option that is not known, or its key
-- does something when it is compared
unfoldable pub has_effect : Placed → Bool
has_effect t = if compares t.parts.head.operator then acts_compared (key_of t.parts.head.key) else not (is_unknown_option t)

-- the first option of a rule that udev does not know, if there is one
abbrev pub unknown_option : List Placed → Option Placed
unknown_option tokens = find is_unknown_option tokens

-- whether a rule is dropped because none of its tokens has an effect: for udev it is, by the manual it stays
abbrev pub lacks_effect : Profile → List Placed → Bool
lacks_effect Manual tokens = false
lacks_effect Udev tokens = not (list_any has_effect tokens)
