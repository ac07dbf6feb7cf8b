-- Choices: patterns with bars between, of which one has to fit.
use Rattle.std.specs.Prelude.{ℕ, ◌+◌, Bool, ◌==◌, nat_lt, if◌then◌else◌, List, ◌∷◌, [], length, Result, Ok, Err}
use Rattle.std.specs.List.{slice_split, list_any}
use Rattle.text_bytes.specs.Text.{Text}
use Rattle.text_bytes.specs.Names.{bar}
use Rattle.text_core.specs.Fits.{fits}
use Rattle.text_core.specs.Spell.{max_len, items_at}
use Rattle.text_core.specs.declared.choice.Parts.{Parts}
use Rattle.text_core.specs.declared.choice.Parts.TheVariants.{One, Several}
use Rattle.text_core.specs.declared.glob_fault.GlobFault.{GlobFault}
use Rattle.text_core.specs.declared.glob_fault.GlobFault.TheVariants.{TooLong}
use Rattle.text_core.specs.declared.item.Item.{Item}
use Rattle.text_core.specs.declared.reading.Reading.{Reading}
use Rattle.text_core.specs.declared.reading.Reading.TheVariants.{Exact, Blind}

-- A part, and after it the others; of faults the first.
abbrev pub with_part : Result (List Item) GlobFault → Result (List (List Item)) GlobFault → Result (List (List Item)) GlobFault
with_part (Ok part) (Ok parts) = Ok (part ∷ parts)
with_part (Ok part) (Err e) = Err e
with_part (Err e) rest = Err e

-- What the parts spell, of which the first is at a place and each other one byte after the one before it.
abbrev pub parts_at : Reading → List Text → ℕ → Result (List (List Item)) GlobFault
parts_at reading [] at = Ok []
parts_at reading (part ∷ parts) at = with_part (items_at reading part 0 at) (parts_at reading parts (at + length part + 1))

-- A byte between two parts.
abbrev pub is_bar : ℕ → Bool
is_bar b = b == bar

-- The patterns of a choice in a reading: those of the texts between the bars. That it is too long comes before all else.
unfoldable pub choice_by : Reading → Text → Result (List (List Item)) GlobFault
choice_by reading t = if nat_lt max_len (length t) then Err TooLong else parts_at reading (slice_split is_bar t) 0

-- The patterns of a choice.
unfoldable pub choice : Text → Result (List (List Item)) GlobFault
choice t = choice_by Exact t

-- The patterns of a choice with ASCII case ignored.
unfoldable pub choice_blind : Text → Result (List (List Item)) GlobFault
choice_blind t = choice_by Blind t

-- Whether a part fits.
abbrev pub choice_fits : List (List Item) → Text → Bool
choice_fits parts t = list_any (λ p. fits p t) parts

-- The patterns of a choice, by how they are held.
abbrev pub held_parts : Parts → List (List Item)
held_parts (One pattern) = pattern ∷ []
held_parts (Several patterns) = patterns.items
