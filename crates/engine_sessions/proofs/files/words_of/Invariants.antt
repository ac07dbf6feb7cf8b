use Rattle.std.proofs.Common.{◌≡◌, ◌++◌, map}
use Rattle.std.specs.List.{filter_map}
use Rattle.engine_sessions.specs.Files.{word_in, words_of}
use Rattle.engine_sessions.proofs.files.words_of.Given as goal

abbrev pub invariant-loop-line : goal.invariant-loop-line
invariant-loop-line l = map (λ w. w.now) l.words.items ++ filter_map (λ line. word_in line.text) l.line-iterator ≡ words_of l.bytes
