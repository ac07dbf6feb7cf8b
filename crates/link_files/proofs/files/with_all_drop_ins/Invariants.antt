use Rattle.std.proofs.Common.{◌≡◌, ◌++◌, drop}
use Rattle.std.specs.Prelude.{filter_map}
use Rattle.link_files.specs.Files.{link_file}
use Rattle.link_files.proofs.files.with_all_drop_ins.Given as goal

abbrev pub invariant-loop-file : goal.invariant-loop-file
invariant-loop-file l =
    l.files.items ++ filter_map (link_file l.drop_ins) (drop l.file-index l.links) ≡ filter_map (link_file l.drop_ins) l.links
