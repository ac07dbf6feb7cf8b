use Rattle.std.proofs.Common.{◌≡◌, ◌∷◌, drop, map}
use Rattle.link_files.specs.Files.{reading_of}
use Rattle.link_files.specs.Settings.{unread}
use Rattle.link_files.proofs.files.with_drop_ins.Given as goal

abbrev pub invariant-loop-file : goal.invariant-loop-file
invariant-loop-file l =
    reading_of l.reading (map (λ f. f.now) (drop l.file-index l.drop_ins)) ≡ reading_of unread (l.fn.file ∷ map (λ f. f.now) l.drop_ins)
