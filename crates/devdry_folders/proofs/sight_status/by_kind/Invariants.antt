use Rattle.std.proofs.Common.{◌≡◌}
use Rattle.text_bytes.specs.declared.source_file.FileKind.TheVariants.{Hwdb, Rules}
use Rattle.devdry_folders.specs.SightStatus.{sights_of}
use Rattle.devdry_folders.proofs.sight_status.by_kind.Given as goal

abbrev pub invariant-loop-visit : goal.invariant-loop-visit
invariant-loop-visit l = record {
  rules : l.held.rules.items ≡ sights_of Rules l.yielded;
  database : l.held.database.items ≡ sights_of Hwdb l.yielded;
}
