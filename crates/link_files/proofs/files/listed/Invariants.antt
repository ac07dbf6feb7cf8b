use Rattle.std.proofs.Common.{◌≡◌, ◌∷◌, drop, map}
use Rattle.std.specs.List.{join_with_byte}
use Rattle.text_bytes.specs.Names.{colon}
use Rattle.link_files.specs.Files.{listed_path}
use Rattle.link_files.proofs.files.listed.Given as goal

abbrev pub invariant-loop-file : goal.invariant-loop-file
invariant-loop-file l =
    join_with_byte colon (l.text.items ∷ map listed_path (map (λ f. f.now) (drop l.file-index l.others))) ≡ join_with_byte colon (map listed_path (map (λ f. f.now) l.fn.files))
