-- What stays of a line whose commas and blanks are mended.
use Rattle.std.specs.Prelude.{true, false, if◌then◌else◌, List, [], ◌∷◌}
use Rattle.text_bytes.specs.Text.{Text}
use Rattle.rule_tokens.specs.Grammar.{Placed}
use Rattle.rule_tokens.specs.declared.kinds.Span.{Span}
use Rattle.rule_core.specs.Style.{between}
use Rattle.rule_places.specs.Gaps.{is_good_gap}
use Rattle.rule_places.specs.declared.stretches.Stretch.{Stretch}

-- a token before another: it stays with the gap after it if that is good, and else alone, with a comma and a blank put after it
abbrev pub stretch_before : Text → Span → Span → Stretch
stretch_before line s next =
    if is_good_gap (between s.end next.start line) then record { start = s.start; end = next.start; comma = false }
    else record { start = s.start; end = s.end; comma = true }

-- a token and those that follow it: nothing stays of what is after the last
abbrev pub stretches_from : Text → Span → List Placed → List Stretch
stretches_from line s [] = record { start = s.start; end = s.end; comma = false } ∷ []
stretches_from line s (t ∷ tokens) = stretch_before line s t.span ∷ stretches_from line t.span tokens

-- what stays of a line with these tokens
abbrev pub stretches : Text → List Placed → List Stretch
stretches line [] = []
stretches line (t ∷ tokens) = stretches_from line t.span tokens
