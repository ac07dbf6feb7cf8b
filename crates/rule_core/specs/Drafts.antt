-- A joined line read as a rule, before its jumps are followed.
use Rattle.std.specs.Prelude.{ℕ, nat_lt, if◌then◌else◌, List, [], ◌∷◌, ◌++◌, filter_map, length, Option, Some, None, option_map, Result, Ok, Err}
use Rattle.std.specs.List.{prefix_len}
use Rattle.text_bytes.specs.Text.{Text}
use Rattle.text_bytes.specs.Texts.{first, last}
use Rattle.text_bytes.specs.declared.profile.Profile.{Profile}
use Rattle.text_bytes.specs.declared.profile.Profile.TheVariants.{Manual, Udev}
use Rattle.file_messages.specs.declared.message.MessageKind.TheVariants.{BadValue, LineTooLong, GivenTwice, RuleWithoutEffect}
use Rattle.file_messages.specs.declared.message.MessageKind.{MessageKind}
use Rattle.rule_tokens.specs.Grammar.{Item, Placed, is_gap_byte}
use Rattle.rule_tokens.specs.Lines.{items_from}
use Rattle.rule_parts.specs.Parts.{part_of}
use Rattle.rule_types.specs.declared.part.Act.{Act}
use Rattle.rule_types.specs.declared.part.Assignment.{Assignment}
use Rattle.rule_types.specs.declared.part.Comparison.{Comparison}
use Rattle.rule_types.specs.declared.part.Part.{Part}
use Rattle.rule_types.specs.declared.part.PlainMatch.{PlainMatch}
use Rattle.rule_types.specs.declared.part.UpMatch.{UpMatch}
use Rattle.rule_parts.specs.declared.finding.Finding.{Finding}
use Rattle.rule_types.specs.declared.part.Part.TheVariants as part
use Rattle.rule_core.specs.Effects.{lacks_effect, unknown_option}
use Rattle.rule_types.specs.Spots.{spot, value_start}
use Rattle.rule_core.specs.Spots.{part_spot, token_spot, whole_spot}
use Rattle.rule_core.specs.Style.{style_findings}
use Rattle.rule_core.specs.Turns.{acts_by_turn, assignments_by_turn}
use Rattle.rule_types.specs.Tokens.{WrittenPart, tokens_in}
use Rattle.rule_core.specs.declared.names.NamePlace.{NamePlace}
use Rattle.rule_types.specs.declared.spot.Spot.{Spot}

-- a rule as its line alone gives it: its names for jumps, its tokens with the parts that they are, in written order,
-- and the findings about it
pub record Draft : Type 0 where
  pub label : Option NamePlace
  pub goto : Option NamePlace
  pub parts : List WrittenPart
  pub findings : List (Spot MessageKind)

-- the place in a line where its tokens begin: udev skips commas and blanks in front
abbrev pub first_place : Profile → Text → ℕ
first_place Manual line = 0
first_place Udev line = prefix_len is_gap_byte line

-- the items of a line
abbrev pub items_as : Profile → Text → List Item
items_as profile line = items_from (first_place profile line) line

-- a token with the part of a rule that it is, or the finding about it
abbrev pub written_part : Placed → Result Part Finding → Result WrittenPart (Spot MessageKind)
written_part t (Ok p) = Ok (record { token = t; part = p })
written_part t (Err found) = Err (part_spot found.kind t)

-- an item of a line as a token of a rule
abbrev pub part_of_item : Profile → Text → Item → Result WrittenPart (Spot MessageKind)
part_of_item profile line (Ok t) = written_part t (part_of profile t)
part_of_item profile line (Err fault) = Err (token_spot fault.kind fault.at line)

-- a token before others; of what is wrong the first
abbrev pub with_part : Result WrittenPart (Spot MessageKind) → Result (List WrittenPart) (Spot MessageKind) → Result (List WrittenPart) (Spot MessageKind)
with_part (Ok w) (Ok parts) = Ok (w ∷ parts)
with_part (Ok w) (Err wrong) = Err wrong
with_part (Err wrong) rest = Err wrong

-- the tokens that are the items of a line, each with its part, or what is wrong with the first item that is none
abbrev pub parts_of : Profile → Text → List Item → Result (List WrittenPart) (Spot MessageKind)
parts_of profile line [] = Ok []
parts_of profile line (i ∷ items) = with_part (part_of_item profile line i) (parts_of profile line items)

-- what a part is, if it is that
abbrev pub plain_in : Part → Option PlainMatch
plain_in (part.Plain m) = Some m
plain_in _ = None

abbrev pub up_in : Part → Option UpMatch
up_in (part.Up m) = Some m
up_in _ = None

abbrev pub act_in : Part → Option Act
act_in (part.Act a) = Some a
act_in _ = None

abbrev pub result_in : Part → Option Comparison
result_in (part.Result c) = Some c
result_in _ = None

abbrev pub assignment_in : Part → Option Assignment
assignment_in (part.Set a) = Some a
assignment_in _ = None

abbrev pub label_in : Part → Option Text
label_in (part.Label name) = Some name
label_in _ = None

abbrev pub goto_in : Part → Option Text
goto_in (part.Goto name) = Some name
goto_in _ = None

-- the acts and the assignments among parts, in the order of evaluation
abbrev pub acts_of : List Part → List Act
acts_of parts = acts_by_turn (filter_map act_in parts)

abbrev pub sets_of : Profile → List Part → List Assignment
sets_of profile parts = assignments_by_turn profile (filter_map assignment_in parts)

-- a name at the value of its token
abbrev pub name_place : Placed → Text → NamePlace
name_place t name = record { name = name; start = value_start t; size = length t.parts.value }

-- the name that a label gives, and that of a jump
abbrev pub label_at : WrittenPart → Option NamePlace
label_at w = option_map (name_place w.token) (label_in w.part)

abbrev pub goto_at : WrittenPart → Option NamePlace
goto_at w = option_map (name_place w.token) (goto_in w.part)

-- the label that counts of those that a rule gives: the first, for udev the last
abbrev pub label_among : Profile → List NamePlace → Option NamePlace
label_among Manual names = first names
label_among Udev names = last names

-- a name that does not count is reported at its value
abbrev pub given_twice : NamePlace → Spot MessageKind
given_twice n = spot GivenTwice n.name n.start n.size

-- a name, after those that were given before it
abbrev pub given_again : List NamePlace → NamePlace → List (Spot MessageKind)
given_again [] name = []
given_again (other ∷ names) name = given_twice name ∷ []

-- a name that is lost to a later one, if there is one
abbrev pub lost_name : Option NamePlace → List (Spot MessageKind)
lost_name None = []
lost_name (Some name) = given_twice name ∷ []

-- a label, after those that were given before it: the one that does not count is reported
abbrev pub label_again : Profile → List NamePlace → NamePlace → List (Spot MessageKind)
label_again Manual names name = given_again names name
label_again Udev names name = lost_name (last names)

-- a token that is this part, after others: a second label is one too many, and so is a second jump
abbrev pub part_again : Profile → List WrittenPart → Placed → Part → List (Spot MessageKind)
part_again profile before t (part.Label name) = label_again profile (filter_map label_at before) (name_place t name)
part_again profile before t (part.Goto name) = given_again (filter_map goto_at before) (name_place t name)
part_again profile before t _ = []

abbrev pub again_in : Profile → List WrittenPart → WrittenPart → List (Spot MessageKind)
again_in profile before w = part_again profile before w.token w.part

-- the names that are given again among tokens after others, in written order
abbrev pub given_again_after : Profile → List WrittenPart → List WrittenPart → List (Spot MessageKind)
given_again_after profile before [] = []
given_again_after profile before (w ∷ parts) = again_in profile before w ++ given_again_after profile (before ++ w ∷ []) parts

-- the draft of the tokens of a line: of several jumps the first counts
abbrev pub draft : Profile → Text → List WrittenPart → Draft
draft profile line parts = record {
  label = label_among profile (filter_map label_at parts);
  goto = first (filter_map goto_at parts);
  parts = parts;
  findings = given_again_after profile [] parts ++ style_findings profile line (tokens_in parts);
}

-- why a rule has no effect: it has an option that udev does not know, and so leaves out, or nothing but matches
abbrev pub idle_spot : Text → Option Placed → Spot MessageKind
idle_spot line None = whole_spot RuleWithoutEffect line
idle_spot line (Some t) = part_spot BadValue t

-- the draft of tokens that were read, or what is wrong with them: udev also drops a rule without effect
abbrev pub draft_with : Profile → Text → Result (List WrittenPart) (Spot MessageKind) → Result Draft (Spot MessageKind)
draft_with profile line (Ok parts) =
    if lacks_effect profile (tokens_in parts) then Err (idle_spot line (unknown_option (tokens_in parts))) else Ok (draft profile line parts)
draft_with profile line (Err wrong) = Err wrong

-- the most bytes of a joined line
abbrev pub most_bytes : Profile → ℕ
most_bytes Manual = 16384
most_bytes Udev = 16383

-- a joined line read as a rule: its draft, or what is wrong with it, first its length
unfoldable pub draft_of : Profile → Text → Result Draft (Spot MessageKind)
draft_of profile line =
    if nat_lt (most_bytes profile) (length line) then Err (whole_spot LineTooLong line)
    else draft_with profile line (parts_of profile line (items_as profile line))
