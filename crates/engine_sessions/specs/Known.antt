-- Which blocks of an input are known once its first bytes were read.
use Rattle.std.specs.Prelude.{Bool, true, false, List, [], ◌∷◌, ◌++◌, if◌then◌else◌}
use Rattle.text_bytes.specs.Text.{Text}
use Rattle.device_core.specs.Runs.{complete_runs, rest_of, runs}
use Rattle.device_core.specs.RunBlocks.{is_too_long}

-- a rest that is too long already: however it goes on, it is a faulty block
abbrev pub overlong : Text → List Text
overlong rest = if is_too_long rest then rest ∷ [] else []

-- The blocks known of a text. If the input goes on after it, they are those that an empty line follows, and the rest
-- if that is too long; if it ends there, they are all.
abbrev pub known_blocks : Bool → Text → List Text
known_blocks true text = complete_runs text ++ overlong (rest_of text)
known_blocks false text = runs text
