-- Serves inner proofs only: the tokens that are left in the rules of lines, counted as the lines were read.
use Rattle.std.specs.Prelude.{ℕ, ◌+◌, Bool, true, false, not, ◌&&◌, if◌then◌else◌, List, is_some, sum_by, Result, Ok, Err}
use Rattle.std.specs.List.{count_by}
use Rattle.file_messages.specs.declared.message.MessageKind.{MessageKind}
use Rattle.rule_types.specs.declared.jumps.Landing.{Landing}
use Rattle.rule_types.specs.declared.part.Part.{Part}
use Rattle.rule_types.specs.declared.part.Part.TheVariants as part
use Rattle.rule_core.specs.Drafts.{Draft}
use Rattle.rule_core.specs.Rules.{Reading}
use Rattle.rule_types.specs.declared.spot.Spot.{Spot}

-- whether a part is counted by itself: it is no name for jumps
abbrev pub is_counted : Part → Bool
is_counted (part.Label name) = false
is_counted (part.Goto name) = false
is_counted _ = true

-- the tokens left in a rule: the name of its label, that of its jump unless it is lost, and its other parts
abbrev pub draft_tokens : Draft → Landing → ℕ
draft_tokens d l = (if is_some d.label then 1 else 0) + (if is_some d.goto && not l.lost then 1 else 0) + count_by (λ w. is_counted w.part) d.parts

-- the tokens left in the rule of a line, if it is one
abbrev pub line_tokens : Result Draft (Spot MessageKind) → Landing → ℕ
line_tokens (Ok d) l = draft_tokens d l
line_tokens (Err wrong) l = 0

-- the tokens left in the rules of lines
abbrev pub token_count : List (Reading × Landing) → ℕ
token_count lines = sum_by (λ x. line_tokens x.0.read x.1) lines
