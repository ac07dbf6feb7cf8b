-- What is reported for a rule by itself.
use Rattle.std.specs.Prelude.{Bool, true, false, if◌then◌else◌, List, [], ◌∷◌, ◌++◌, flat_map, Option, Some, None}
use Rattle.std.specs.Bool.{then_some}
use Rattle.text_bytes.specs.Text.{Text}
use Rattle.text_bytes.specs.declared.profile.Profile.{Profile}
use Rattle.rule_tokens.specs.Grammar.{Placed}
use Rattle.rule_lints.specs.declared.lint.Lint.{Lint}
use Rattle.rule_lints.specs.declared.lint.Lint.TheVariants.{ModeNotOctal, SignOfShell, RelativeProgram, LetterCase, NoSuchDevice, NameOutsideNet}
use Rattle.rule_lints.specs.declared.lint.Lint.TheVariants.{LinkWithDev, QuotedName, NotAPattern, AlwaysHolds, NoPatternForUdev}
use Rattle.rule_lints.specs.declared.lint.Lint.TheVariants.{NeverFits, BlankBesideBar, NotSubstituted, NameTooLong, ForbiddenCommand, LinkOfNet}
use Rattle.rule_lints.specs.declared.devices.Side.TheVariants.{Event, Chain}
use Rattle.rule_lints.specs.Commands.{forbidden_command, relative_program, shell_command}
use Rattle.rule_lints.specs.Devices.{asked, is_of_net, stranger}
use Rattle.rule_lints.specs.LetterCase.{wrong_case}
use Rattle.rule_lints.specs.Modes.{wrong_mode}
use Rattle.rule_lints.specs.Names.{dev_link, is_outside_net, link_given, name_given, quoted_name}
use Rattle.rule_lints.specs.Patterns.{always_holds, expression, is_no_pattern}
use Rattle.rule_types.specs.Spots.{spot_at_key, value_spot}
use Rattle.rule_types.specs.Tokens.{WrittenPart}
use Rattle.rule_types.specs.declared.spot.Spot.{Spot}

-- the text with which a lint of single tokens is reported for this one, if it is reported
abbrev pub word_of : Profile → Lint → WrittenPart → Option Text
word_of profile ModeNotOctal w = wrong_mode profile w.part
word_of profile SignOfShell w = shell_command w.part
word_of profile RelativeProgram w = relative_program w.part
word_of profile LetterCase w = wrong_case w.part
word_of profile NameOutsideNet w = name_given w.part
word_of profile LinkWithDev w = dev_link profile w.part
word_of profile QuotedName w = quoted_name w.token
word_of profile NotAPattern w = expression w.part
word_of profile AlwaysHolds w = then_some (always_holds w.part) w.token.parts.head.key
word_of profile NoPatternForUdev w = then_some (is_no_pattern profile w.part) w.token.parts.head.key
word_of profile ForbiddenCommand w = forbidden_command w.part
word_of profile LinkOfNet w = link_given w.part
word_of profile _ w = None

-- whether a lint is about a token's key, and not about its value
abbrev pub is_of_key : Lint → Bool
is_of_key ModeNotOctal = false
is_of_key SignOfShell = false
is_of_key RelativeProgram = false
is_of_key LetterCase = false
is_of_key NameOutsideNet = false
is_of_key LinkWithDev = false
is_of_key NotAPattern = false
is_of_key NeverFits = false
is_of_key BlankBesideBar = false
is_of_key NotSubstituted = false
is_of_key NameTooLong = false
is_of_key ForbiddenCommand = false
is_of_key LinkOfNet = false
is_of_key _ = true

-- a lint about a token, if there is a text with which it is reported
abbrev pub spots_with : Lint → Placed → Option Text → List (Spot Lint)
spots_with lint t None = []
spots_with lint t (Some word) = (if is_of_key lint then spot_at_key lint word t else value_spot lint word t) ∷ []

-- Whether a lint of single tokens looks at those of a rule: W8 at those of a rule that holds for no network device, and W26 at
-- those of one for network devices alone.
abbrev pub looks_at : Lint → List WrittenPart → Bool
looks_at NameOutsideNet tokens = is_outside_net tokens
looks_at LinkOfNet tokens = is_of_net tokens
looks_at _ tokens = true

-- what a lint of single tokens finds in those of a rule, in written order
abbrev pub reported : Profile → Lint → List WrittenPart → List (Spot Lint)
reported profile lint tokens = if looks_at lint tokens then flat_map (λ w. spots_with lint w.token (word_of profile lint w)) tokens else []

-- the W5 of a side, given the token of which it is reported
abbrev pub spots_of_stranger : Option WrittenPart → List (Spot Lint)
spots_of_stranger None = []
spots_of_stranger (Some w) = spots_with NoSuchDevice w.token (Some (asked w.token))

-- what is reported for a rule's tokens: the lints in the order of their codes, and those of one code in written order
unfoldable pub lints_of_rule : Profile → List WrittenPart → List (Spot Lint)
lints_of_rule profile tokens =
    ((((((((((((reported profile ModeNotOctal tokens
    ++ reported profile SignOfShell tokens)
    ++ reported profile RelativeProgram tokens)
    ++ reported profile LetterCase tokens)
    ++ spots_of_stranger (stranger Event tokens))
    ++ spots_of_stranger (stranger Chain tokens))
    ++ reported profile NameOutsideNet tokens)
    ++ reported profile LinkWithDev tokens)
    ++ reported profile QuotedName tokens)
    ++ reported profile NotAPattern tokens)
    ++ reported profile AlwaysHolds tokens)
    ++ reported profile NoPatternForUdev tokens)
    ++ reported profile ForbiddenCommand tokens)
    ++ reported profile LinkOfNet tokens
