-- Files, lines and faults, written short for examples.
use Rattle.std.specs.Prelude.{ℕ, List, [], ◌∷◌, length}
use Rattle.text_bytes.specs.declared.source_file.FileKind.{FileKind}
use Rattle.text_bytes.specs.declared.source_file.SourceFile.{SourceFile}
use Rattle.text_bytes.specs.Text.{Text}
use Rattle.link_files.specs.Joined.{JoinedLine}
use Rattle.link_files.specs.declared.fault.LinkFault.{LinkFault}
use Rattle.link_files.specs.declared.placed_fault.PlacedFault.{PlacedFault}

-- a file of a kind and a rank, with its name and its bytes
abbrev pub at : FileKind → (rank : ℕ) → (name bytes : Text) → SourceFile
at kind rank name bytes = record { kind = kind; rank = rank; name = name; bytes = bytes }

-- a line with a number that is put together from no others
abbrev pub line : ℕ → Text → JoinedLine
line number text = record { number = number; width = length text; text = text }

-- one fault of a word, by the number of its line, its column and the column after it
abbrev pub of_fault : (number column end : ℕ) → LinkFault → Text → List PlacedFault
of_fault number column end fault word = record { line = number; column = column; end = end; fault = fault; word = word } ∷ []
