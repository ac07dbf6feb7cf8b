use Rattle.std.proofs.Common.{◌≡◌, map, string_bytes, take}
use Rattle.clap.specs.Words.{found_of, rows_of}
use Rattle.devdry_words.specs.Options.{added_to}
use Rattle.devdry_words.proofs.options.added_to.Given as goal

abbrev pub invariant-loop-word : goal.invariant-loop-word
invariant-loop-word l = map string_bytes l.kept.items ≡ added_to (rows_of (found_of l.matches)) (map (λ w. w.now) (take l.word-index l.added))
