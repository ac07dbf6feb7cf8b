-- Serves inner proofs only: which matches are known not to fit a modalias before they are read as patterns.
use Rattle.std.specs.Prelude.{◌≡◌, Bool, true, false, not, ◌==◌, ◌&&◌, nat_le, if◌then◌else◌}
use Rattle.std.specs.Prelude.{List, [], ◌∷◌, length, Option, Some, None, position, is_none, Ok}
use Rattle.text_bytes.specs.Text.{Text}
use Rattle.text_bytes.specs.Names.{open_bracket}
use Rattle.text_core.specs.Fnmatch.{is_special}
use Rattle.text_core.specs.Spell.{max_len, spell}
use Rattle.text_core.specs.declared.item.Item.{Item}
use Rattle.hwdb_core.specs.Found.{counts}

-- whether a match and a modalias differ before the first byte of the match that means something other than itself, or
-- one ends where the other goes on
abbrev pub differs_in_prefix : Text → Text → Bool
differs_in_prefix [] [] = false
differs_in_prefix [] (c ∷ m) = true
differs_in_prefix (b ∷ t) [] = not (is_special b)
differs_in_prefix (b ∷ t) (c ∷ m) = if is_special b then false else if b == c then differs_in_prefix t m else true

-- whether a match can have no fault: no set, and not too many bytes
abbrev pub is_faultless : Text → Bool
is_faultless t = nat_le (length t) max_len && is_none (position (λ b. b == open_bracket) t)

-- whether a match is known not to fit
unfoldable pub is_ruled_out : Text → Text → Bool
is_ruled_out modalias t = differs_in_prefix t modalias && is_faultless t

-- the same, if just one modalias is asked for
abbrev pub passes_over : Option Text → Text → Bool
passes_over None t = false
passes_over (Some modalias) t = is_ruled_out modalias t

-- what a match spells that is not a fault, and whose entries do not count
pub record IsPassed (wanted : Option Text) (t : Text) : Type 0 where
  pub items : List Item
  pub spelled : spell t ≡ Ok items
  pub uncounted : counts wanted items ≡ false
