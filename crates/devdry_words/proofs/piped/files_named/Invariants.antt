use Rattle.std.proofs.Common.{◌≡◌, map, take}
use Rattle.devdry_words.specs.Lines.{file_named}
use Rattle.devdry_words.proofs.piped.files_named.Given as goal

abbrev pub invariant-loop-file : goal.invariant-loop-file
invariant-loop-file l = map (λ f. f.now) l.named.items ≡ map (file_named l.input_name) (map (λ f. f.now) (take l.file-index l.files))
