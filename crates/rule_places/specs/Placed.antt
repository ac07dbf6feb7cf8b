-- What is reported about parts of lines, for their file.
use Rattle.std.specs.Prelude.{ℕ, ◌+◌, List}
use Rattle.text_bytes.specs.Text.{Text}
use Rattle.rule_places.specs.Kept.{place_in}
use Rattle.rule_places.specs.declared.kept.KeptLine.{KeptLine}
use Rattle.rule_places.specs.declared.kept.Place.{Place}
use Rattle.rule_places.specs.declared.placed_finding.PlacedFinding.{PlacedFinding}
use Rattle.rule_types.specs.declared.spot.Spot.{Spot}

-- what is reported for a line of this number, at a place and with a text
abbrev pub found_at : {K : Type 0} → ℕ → Place → K → Text → PlacedFinding K
found_at begins p kind word = record { begins = begins; line = p.line; column = p.column; end = p.end; kind = kind; word = word }

-- what is reported about a part of a line, which follows so many bytes of other joined lines, with its place in the file
abbrev pub placed : {K : Type 0} → List KeptLine → ℕ → ℕ → Spot K → PlacedFinding K
placed kept number start s = found_at number (place_in kept (start + s.start) s.size) s.kind s.word
