use Rattle.std.proofs.Common.{◌≡◌, ℕ, take}
use Rattle.std.specs.List.{list_any}
use Rattle.text_bytes.specs.Text.{Text}
use Rattle.engine_checks.specs.Tables.{has_code_at, is_next_at}
use Rattle.engine_checks.proofs.silenced.codes_at_lines.Given as goal

abbrev pub invariant-loop-ignore : goal.invariant-loop-ignore
invariant-loop-ignore l = (line : ℕ) (code : Text) → has_code_at l.codes line code ≡ list_any (is_next_at line code) (take l.ignore-index l.ignores)
