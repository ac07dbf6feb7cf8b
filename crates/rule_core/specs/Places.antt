-- Serves inner proofs only: the findings if a token ends before, and if none does.
use Rattle.std.specs.Prelude.{ℕ, List, [], ◌∷◌, ⊤, drop, Option, Some, None}
use Rattle.text_bytes.specs.Text.{Text}
use Rattle.text_bytes.specs.declared.profile.Profile.{Profile}
use Rattle.file_messages.specs.declared.message.MessageKind.{MessageKind}
use Rattle.rule_tokens.specs.Grammar.{AllAre, Placed, is_gap_byte}
use Rattle.rule_core.specs.Style.{between, gap_findings, leading_findings, style_after, style_findings}
use Rattle.rule_types.specs.declared.spot.Spot.{Spot}

-- the gap before a token, from the place where the token before it ends, if there is one
abbrev pub findings_before : Profile → Text → Option ℕ → Placed → List (Spot MessageKind)
findings_before profile line None t = leading_findings profile (between 0 t.span.start line)
findings_before profile line (Some place) t = gap_findings profile (between place t.span.start line) t

-- the tokens after the place where a token ends, or all of them
abbrev pub findings_from : Profile → Text → Option ℕ → List Placed → List (Spot MessageKind)
findings_from profile line None tokens = style_findings profile line tokens
findings_from profile line (Some place) tokens = style_after profile line place tokens

-- after a place where a token ends, gaps are blanks and commas, as in the grammar of lines
abbrev pub AreGapsAfter : Text → ℕ → List Placed → Type 0
AreGapsAfter line place [] = AllAre is_gap_byte (drop place line)
AreGapsAfter line place (t ∷ tokens) = AllAre is_gap_byte (between place t.span.start line) × AreGapsAfter line t.span.end tokens

abbrev pub AreGaps : Text → List Placed → Type 0
AreGaps line [] = ⊤
AreGaps line (t ∷ tokens) = AreGapsAfter line t.span.end tokens
