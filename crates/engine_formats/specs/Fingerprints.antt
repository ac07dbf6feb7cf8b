-- What distinguishes the diagnostics of a report from one another, in each run in the same way.
use Rattle.std.specs.Prelude.{ℕ, suc, ◌-◌, nat_le, if◌then◌else◌, List, [], ◌∷◌, ◌++◌, count_by, decimal, drop, length, map, string_bytes, take}
use Rattle.std.specs.Str.Lossy.{utf8_lossy}
use Rattle.text_bytes.specs.Names.{colon}
use Rattle.text_bytes.specs.Text.{Text}
use Rattle.text_tables.specs.Texts.{same_text}
use Rattle.engine_formats.specs.Diagnostics.{DiagnosticValue, shown}
use Rattle.file_catalogue.specs.Catalogue.{code_of}
use Rattle.engine_formats.specs.declared.fingerprints.Fingerprinted.{Fingerprinted}

-- at most how many bytes a line has that a fingerprint has whole
abbrev pub most_of_line : ℕ
most_of_line = 200

-- how many bytes it has of each end of a longer one
abbrev pub end_of_line : ℕ
end_of_line = 100

-- the text of a line, or of a longer one its first bytes, its length and its last bytes, `FIRST:LENGTH:LAST`
abbrev pub line_part : Text → Text
line_part source =
    if nat_le (length source) most_of_line then source
    else take end_of_line source ++ colon ∷ decimal (length source) ++ colon ∷ drop (length source - end_of_line) source

-- what a diagnostic is known by, wherever its line is in the file: `V6:PATH:LINE`, the code, the path and the text of
-- the line, or of a longer one its ends; what is not UTF-8 becomes U+FFFD
abbrev pub mark_of : DiagnosticValue → Text
mark_of d = utf8_lossy (code_of d.remark ++ colon ∷ d.path ++ colon ∷ line_part d.source)

-- a fingerprint, by the marks of the diagnostics before it: `COUNT:MARK`, where the count says which of those with this
-- mark it is
abbrev pub fingerprint_after : List Text → Text → Text
fingerprint_after before mark = decimal (suc (count_by (same_text mark) before)) ++ colon ∷ mark

-- a diagnostic with its fingerprint
pub record FingerprintedValue : Type 0 where
  pub diagnostic : DiagnosticValue
  pub fingerprint : Text

-- what a contract sees of one
abbrev pub shown_given : Fingerprinted → FingerprintedValue
shown_given f = record { diagnostic = shown f.diagnostic.now; fingerprint = string_bytes f.fingerprint }

-- diagnostics with their fingerprints, by the marks of those before them
abbrev pub fingerprinted_after : List Text → List DiagnosticValue → List FingerprintedValue
fingerprinted_after before [] = []
fingerprinted_after before (d ∷ ds) =
    record { diagnostic = d; fingerprint = fingerprint_after before (mark_of d) } ∷ fingerprinted_after (before ++ mark_of d ∷ []) ds

-- the diagnostics of a report with their fingerprints
abbrev pub fingerprinted : List DiagnosticValue → List FingerprintedValue
fingerprinted ds = fingerprinted_after [] ds

-- the fingerprints of the diagnostics of a report
abbrev pub fingerprints : List DiagnosticValue → List Text
fingerprints ds = map (λ f. f.fingerprint) (fingerprinted ds)
