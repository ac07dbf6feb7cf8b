-- Rules files that are read alike.
use Rattle.std.specs.Prelude.{Bool, true, false, not, ◌==◌, ◌&&◌, ◌||◌, nat_eq, if◌then◌else◌, Option}
use Rattle.std.specs.Bool.{beq}
use Rattle.std.specs.Cmp.Lexicographic.{pointwise}
use Rattle.std.specs.Option.{option_eq}
use Rattle.text_bytes.specs.Text.{Text}
use Rattle.text_bytes.specs.Texts.{is_empty}
use Rattle.text_bytes.specs.declared.profile.Profile.TheVariants.{Manual}
use Rattle.text_tables.specs.Texts.{same_text}
use Rattle.rule_tokens.specs.Grammar.{Placed}
use Rattle.rule_tokens.specs.declared.kinds.Quote.{Quote}
use Rattle.rule_tokens.specs.declared.kinds.Quote.TheVariants as quote
use Rattle.rule_types.specs.declared.jumps.Landing.{Landing}
use Rattle.rule_core.specs.Lines.{joined_lines}
use Rattle.rule_types.specs.Tokens.{WrittenPart, same_operator}
use Rattle.rule_places.specs.Faults.{is_sound, is_to_mend, parts_read}
use Rattle.rule_places.specs.Proposed.{Landed, landed_in}
use Rattle.rule_places.specs.WholeLines.{is_comment, whole_lines, written}

-- whether two values are quoted in the same way
abbrev pub same_quote : Quote → Quote → Bool
same_quote quote.Plain quote.Plain = true
same_quote quote.Escaped quote.Escaped = true
same_quote quote.Blind quote.Blind = true
same_quote quote.BlindEscaped quote.BlindEscaped = true
same_quote _ _ = false

-- whether two attributes are the same, or both are lacking
abbrev pub same_attribute : Option Text → Option Text → Bool
same_attribute a b = option_eq same_text a b

-- whether two tokens say the same, wherever they are
abbrev pub same_token : Placed → Placed → Bool
same_token s t =
    same_text s.parts.head.key t.parts.head.key
    && (same_attribute s.parts.head.attribute t.parts.head.attribute
    && (same_operator s.parts.head.operator t.parts.head.operator
    && (same_quote s.parts.quote t.parts.quote && same_text s.parts.value t.parts.value)))

-- whether the tokens of two parts say the same
abbrev pub same_part : WrittenPart → WrittenPart → Bool
same_part v w = same_token v.token w.token

-- whether the same becomes of two rules' jumps and labels
abbrev pub same_landing : Landing → Landing → Bool
same_landing l k = beq l.lost k.lost && beq l.unused k.unused

-- whether a joined line has the number of another, its jump and its label fare the same, and nothing is to mend in it
abbrev pub stands_for : Landed → Landed → Bool
stands_for x y = x.0.line == y.0.line && (same_landing x.1 y.1 && not (is_to_mend y))

-- whether a joined line has no fault and the tokens of another in which something was to mend, or else the other's bytes
abbrev pub says_same : Landed → Landed → Bool
says_same x y =
    if is_to_mend x then is_sound y.0.read y.1 && pointwise same_part (parts_read x.0.read) (parts_read y.0.read)
    else same_text x.0.text y.0.text

-- whether a joined line is another that was mended
abbrev pub is_mended_line : Landed → Landed → Bool
is_mended_line x y = stands_for x y && says_same x y

-- whether a line of a file is a comment, or has nothing but blanks
abbrev pub is_idle : Text → Bool
is_idle line = is_comment line || is_empty (written line)

-- whether a line of a file is the same if it is a comment or has nothing but blanks
abbrev pub same_if_idle : Text → Text → Bool
same_if_idle l k = not (is_idle l) || same_text l k

-- whether a file is another that was mended: it has as many lines, of which comments and empty ones are the same, the same line is
-- open at its end, and its joined lines are those of the other, mended
abbrev pub is_mended : Text → Text → Bool
is_mended old new =
    option_eq nat_eq (joined_lines Manual old).open_at (joined_lines Manual new).open_at
    && (pointwise same_if_idle (whole_lines old) (whole_lines new) && pointwise is_mended_line (landed_in old) (landed_in new))
