-- What is true of the order of files, however it is made.
use Rattle.std.specs.Prelude.{◌≡◌, ◌<◌, ◌≤◌, List, ◌∷◌, ◌++◌, All, map}
use Rattle.std.specs.List.Sorted.{IsStrictlySortedBy}
use Rattle.std.specs.Ordering.{nat_cmp}
use Rattle.std.specs.Cmp.Lexicographic.{slice_cmp}
use Rattle.text_bytes.specs.Text.{Text}
use Rattle.text_bytes.specs.declared.source_file.SourceFile.{SourceFile}

-- the names of files
abbrev pub file_names : List SourceFile → List Text
file_names files = map (λ file. file.name) files

-- each name is below those after it, byte by byte
abbrev pub NamesRise : List SourceFile → Type 0
NamesRise files = IsStrictlySortedBy (slice_cmp nat_cmp) (file_names files)

-- Of these files, those of f's name that come before f have a greater rank, and those after it no lesser one.
pub record IsFirstOfLeastRank (files : List SourceFile) (f : SourceFile) : Type 0 where
  pub before : List SourceFile
  pub following : List SourceFile
  pub is_present : files ≡ before ++ f ∷ following
  pub greater : All (λ g. g.name ≡ f.name → f.rank < g.rank) before
  pub no_less : All (λ g. g.name ≡ f.name → f.rank ≤ g.rank) following
