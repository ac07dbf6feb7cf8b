-- How a rule is written: commas and blanks between its tokens, and operators that are read as `=`.
use Rattle.std.specs.Prelude.{ℕ, ◌-◌, ◌==◌, Bool, false, not, ◌&&◌, if◌then◌else◌, List, [], ◌∷◌, ◌++◌, take, drop, length}
use Rattle.std.specs.List.{count_by}
use Rattle.text_bytes.specs.Text.{Text}
use Rattle.text_bytes.specs.Names.{comma, is_blank}
use Rattle.file_messages.specs.declared.message.MessageKind.{MessageKind}
use Rattle.file_messages.specs.declared.message.MessageKind.TheVariants.{CommaExpected, BlankExpected, ReadAsAssign, LeadingComma}
use Rattle.file_messages.specs.declared.message.MessageKind.TheVariants.{BlankBeforeComma, AssignExpected}
use Rattle.text_bytes.specs.declared.profile.Profile.{Profile}
use Rattle.text_bytes.specs.declared.profile.Profile.TheVariants.{Manual, Udev}
use Rattle.rule_tokens.specs.Grammar.{Placed}
use Rattle.rule_tokens.specs.Values.{ends_in}
use Rattle.rule_parts.specs.Parts.{is_read_as_assign}
use Rattle.rule_types.specs.Spots.{spot}
use Rattle.rule_core.specs.Spots.{key_spot}
use Rattle.rule_types.specs.declared.spot.Spot.{Spot}

-- how many commas a gap has
abbrev pub commas : Text → ℕ
commas gap = count_by (λ b. b == comma) gap

-- a whole gap, which begins at a place, if it has a comma
abbrev pub whole_gap : MessageKind → ℕ → Text → List (Spot MessageKind)
whole_gap kind place gap = if commas gap == 0 then [] else spot kind [] place (length gap) ∷ []

-- the commas of a gap before a token: that token's key
abbrev pub comma_findings : Text → Placed → List (Spot MessageKind)
comma_findings gap t =
    (if commas gap == 1 then [] else key_spot CommaExpected t ∷ [])
    ++ (if ends_in comma gap then key_spot BlankExpected t ∷ [] else [])

-- whether a gap has a comma and begins with a blank
abbrev pub has_blank_before_comma : Text → Bool
has_blank_before_comma [] = false
has_blank_before_comma (b ∷ gap) = is_blank b && not (commas gap == 0)

-- a gap before a token: that token's key; udev also reports blanks before a comma
abbrev pub gap_findings : Profile → Text → Placed → List (Spot MessageKind)
gap_findings Manual gap t = comma_findings gap t
gap_findings Udev gap t = comma_findings gap t ++ (if has_blank_before_comma gap then key_spot BlankBeforeComma t ∷ [] else [])

-- the gap before the first token, which only udev skips
abbrev pub leading_findings : Profile → Text → List (Spot MessageKind)
leading_findings Manual gap = []
leading_findings Udev gap = whole_gap LeadingComma 0 gap

-- what is reported for an operator that is read as `=`: a remark on style, for udev a fault
abbrev pub read_as_assign_kind : Profile → MessageKind
read_as_assign_kind Manual = ReadAsAssign
read_as_assign_kind Udev = AssignExpected

-- a token's operator: its key
abbrev pub operator_findings : Profile → Placed → List (Spot MessageKind)
operator_findings profile t = if is_read_as_assign t then key_spot (read_as_assign_kind profile) t ∷ [] else []

-- the bytes of a line from a place up to another
abbrev pub between : ℕ → ℕ → Text → Text
between from to line = take (to - from) (drop from line)

-- the gaps and tokens of a line after a place where a token ends; no token follows the last gap
abbrev pub style_after : Profile → Text → ℕ → List Placed → List (Spot MessageKind)
style_after profile line place [] = whole_gap CommaExpected place (drop place line)
style_after profile line place (t ∷ tokens) =
    gap_findings profile (between place t.span.start line) t ++ (operator_findings profile t ++ style_after profile line t.span.end tokens)

-- the gaps and tokens of a line, in the order of their places
abbrev pub style_findings : Profile → Text → List Placed → List (Spot MessageKind)
style_findings profile line [] = []
style_findings profile line (t ∷ tokens) =
    leading_findings profile (between 0 t.span.start line) ++ (operator_findings profile t ++ style_after profile line t.span.end tokens)
