-- Serves inner proofs only: files in a map by their names.
use Rattle.std.specs.Prelude.{◌≡◌, Bool, false, nat_le, List, Option, Some, None}
use Rattle.std.specs.List.{AllByRecursion}
use Rattle.text_bytes.specs.Text.{Text}
use Rattle.text_bytes.specs.declared.source_file.SourceFile.{SourceFile}

-- each file is under its own name, by the text of a key
abbrev pub AreUnderTheirNames : {K : Type 0} → (K → Text) → List (K × SourceFile) → Type 0
AreUnderTheirNames text files = AllByRecursion (λ entry. text entry.0 ≡ entry.1.name) files

-- whether a file, if there is one, has no greater rank than another
abbrev pub hides : Option SourceFile → SourceFile → Bool
hides None file = false
hides (Some held) file = nat_le held.rank file.rank
