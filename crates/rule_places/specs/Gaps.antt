-- Gaps between the tokens of a line that are written as they should be.
use Rattle.std.specs.Prelude.{ℕ, ◌==◌, Bool, true, not, ◌&&◌, List, [], ◌∷◌, drop}
use Rattle.text_bytes.specs.Text.{Text}
use Rattle.text_bytes.specs.Names.{comma}
use Rattle.text_bytes.specs.Texts.{ends_in}
use Rattle.rule_tokens.specs.Grammar.{Placed}
use Rattle.rule_core.specs.Style.{between, commas, has_blank_before_comma}

-- whether a gap has one comma, no blank before it, and at least one after it
abbrev pub is_good_gap : Text → Bool
is_good_gap gap = commas gap == 1 && (not (ends_in comma gap) && not (has_blank_before_comma gap))

-- whether after a place where a token ends each gap before a token is good, and no comma follows the last
abbrev pub is_good_after : Text → ℕ → List Placed → Bool
is_good_after line place [] = commas (drop place line) == 0
is_good_after line place (t ∷ tokens) = is_good_gap (between place t.span.start line) && is_good_after line t.span.end tokens

-- whether the commas and blanks of a line with these tokens are as they should be
abbrev pub is_well_spaced : Text → List Placed → Bool
is_well_spaced line [] = true
is_well_spaced line (t ∷ tokens) = is_good_after line t.span.end tokens
