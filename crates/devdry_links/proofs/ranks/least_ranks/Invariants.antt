use Rattle.std.proofs.Common.{◌≡◌, take}
use Rattle.std.specs.List.{list_any}
use Rattle.text_bytes.specs.declared.source_file.SourceFile.{SourceFile}
use Rattle.devdry_links.specs.Notes.{hides}
use Rattle.devdry_links.specs.Ranks.{is_outranked}
use Rattle.devdry_links.proofs.ranks.least_ranks.Given as goal

abbrev pub invariant-loop-file : goal.invariant-loop-file
invariant-loop-file l = (other : SourceFile) → is_outranked l.ranks other ≡ list_any (hides other) (take l.file-index l.files)
