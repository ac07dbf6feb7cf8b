use Rattle.std.proofs.Common.{◌≡◌, ℕ, map, take}
use Rattle.std.specs.List.{list_any}
use Rattle.text_bytes.specs.Text.{Text}
use Rattle.engine_formats.specs.Diagnostics.{shown}
use Rattle.engine_checks.specs.Tables.{has_code_at, has_code_in}
use Rattle.engine_checks.proofs.met.codes_at_lines.Given as goal

abbrev pub invariant-loop-diagnostic : goal.invariant-loop-diagnostic
invariant-loop-diagnostic l = (line : ℕ) (code : Text) → has_code_at l.codes line code ≡ list_any (has_code_in line code) (map shown (take l.diagnostic-index l.found))
