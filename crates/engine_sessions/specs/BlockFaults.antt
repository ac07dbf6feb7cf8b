-- What is said about a faulty block: `block N, line L: TEXT`, and for people what is wrong and what to do about it. Out of
-- memory is reported by a line of its own, not by this one.
use Rattle.std.specs.Prelude.{ℕ, Bool, if◌then◌else◌, [], ◌∷◌, ◌++◌, codes, decimal}
use Rattle.text_bytes.specs.Names.{newline}
use Rattle.text_bytes.specs.Text.{Text}
use Rattle.device_core.specs.declared.faults.BlockFault.{BlockFault}
use Rattle.device_core.specs.FaultTexts.{kind_text}
use Rattle.device_core.specs.declared.faults.BlockFaultKind.{BlockFaultKind}
use Rattle.engine_sessions.specs.BlockAdvice.{advice_on, wrong_in}

-- the line on the block of this number, counted from 1
unfoldable pub block_line : ℕ → BlockFault → Text
block_line number fault = codes "block " ++ decimal number ++ codes ", line " ++ decimal fault.line ++ codes ": " ++ kind_text fault.kind ++ newline ∷ []

-- the two lines for people on faults of a kind: what is wrong, and what to do about it
abbrev pub advice_lines : BlockFaultKind → Text
advice_lines kind = codes "  " ++ wrong_in kind ++ codes "\n  = " ++ advice_on kind ++ newline ∷ []

-- what is said about the block of this number, for people or not
unfoldable pub block_said : (for_people : Bool) → ℕ → BlockFault → Text
block_said for_people number fault = block_line number fault ++ (if for_people then advice_lines fault.kind else [])
