-- Serves inner proofs only: the ranks of names.
use Rattle.std.specs.Prelude.{ℕ, Bool, false, List, nat_lt}
use Rattle.std.specs.Option.{option_map_or}
use Rattle.text_bytes.specs.declared.source_file.SourceFile.{SourceFile}
use Rattle.text_bytes.specs.Text.{Text}
use Rattle.text_tables.specs.Pairs.{value_of}

-- whether a file has a greater rank than that of its name
abbrev pub is_outranked : List (Text × ℕ) → SourceFile → Bool
is_outranked ranks file = option_map_or (λ least. nat_lt least file.rank) (value_of ranks file.name) false
