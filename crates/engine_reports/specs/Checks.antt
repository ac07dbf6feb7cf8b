-- What `verify` says about files, by what is reported for them.
use Rattle.std.specs.Prelude.{ℕ, ◌-◌, Bool, ◌==◌, if◌then◌else◌, List, [], ◌++◌, length, codes, decimal}
use Rattle.std.specs.List.{count_by}
use Rattle.text_bytes.specs.declared.source_file.SourceFile.{SourceFile}
use Rattle.text_bytes.specs.Text.{Text}
use Rattle.text_tables.specs.Texts.{is_among}
use Rattle.engine_sessions.specs.Delivery.{RunOutcome}

-- how many of the files are bad: something is reported under their name
abbrev pub bad_count : List SourceFile → List Text → ℕ
bad_count files names = count_by (λ f. is_among names f.name) files

-- the line that counts files: all of them, and those that are bad
unfoldable pub summary_line : ℕ → ℕ → Text
summary_line all bad = decimal all ++ codes " files checked, " ++ decimal (all - bad) ++ codes " good, " ++ decimal bad ++ codes " bad\n"

-- 0 if no file is bad, else 1
abbrev pub verify_status : ℕ → ℕ
verify_status bad = if bad == 0 then 0 else 1

-- what is said about files, by the names under which something is reported and the lines that report it
abbrev pub files_said : Bool → List SourceFile → List Text → Text → RunOutcome
files_said summary files names lines = record {
  output = if summary then summary_line (length files) (bad_count files names) else [];
  messages = lines;
  status = verify_status (bad_count files names);
}
