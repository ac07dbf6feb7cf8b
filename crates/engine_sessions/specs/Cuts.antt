-- A text that was read in pieces.
use Rattle.std.specs.Prelude.{List, [], ◌∷◌, take, drop}
use Rattle.text_bytes.specs.Text.{Text}

-- the text's pieces of these sizes, from its front
abbrev pub cuts : Text → Text → List Text
cuts text [] = []
cuts text (size ∷ sizes) = take size text ∷ cuts (drop size text) sizes
