-- Lines of which the commas and blanks are to be mended.
use Rattle.std.specs.Prelude.{Bool, false, not, ◌&&◌, List, [], Result, Ok, Err}
use Rattle.std.specs.List.{list_all}
use Rattle.text_bytes.specs.Text.{Text}
use Rattle.file_messages.specs.Messages.{is_style}
use Rattle.file_messages.specs.declared.message.MessageKind.{MessageKind}
use Rattle.rule_types.specs.declared.jumps.Landing.{Landing}
use Rattle.rule_core.specs.Drafts.{Draft}
use Rattle.rule_core.specs.Rules.{Reading}
use Rattle.rule_types.specs.Tokens.{WrittenPart, tokens_in}
use Rattle.rule_types.specs.declared.spot.Spot.{Spot}
use Rattle.rule_places.specs.Gaps.{is_well_spaced}

-- whether only style is found about a rule: it has no fault, and its jump has a label
abbrev pub is_faultless : Draft → Landing → Bool
is_faultless d l = not l.lost && list_all (λ s. is_style s.kind) d.findings

-- whether a line is a rule about which only style is found
abbrev pub is_sound : Result Draft (Spot MessageKind) → Landing → Bool
is_sound (Err wrong) l = false
is_sound (Ok d) l = is_faultless d l

-- whether a line without a fault has commas or blanks that are not as they should be
abbrev pub is_badly_spaced : Text → Result Draft (Spot MessageKind) → Landing → Bool
is_badly_spaced text (Err wrong) l = false
is_badly_spaced text (Ok d) l = is_faultless d l && not (is_well_spaced text (tokens_in d.parts))

-- whether the commas and blanks of a line are to be mended
abbrev pub is_to_mend : Reading × Landing → Bool
is_to_mend x = is_badly_spaced x.0.text x.0.read x.1

-- the tokens of a line with their parts, none if it is not a rule
abbrev pub parts_read : Result Draft (Spot MessageKind) → List WrittenPart
parts_read (Err wrong) = []
parts_read (Ok d) = d.parts
