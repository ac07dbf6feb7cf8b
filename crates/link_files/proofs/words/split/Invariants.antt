use Rattle.std.proofs.Common.{◌≡◌, drop, fold}
use Rattle.link_files.specs.Words.{split, split_byte}
use Rattle.link_files.proofs.words.split.Given as goal

abbrev pub invariant-loop-byte : goal.invariant-loop-byte
invariant-loop-byte l =
    fold (split_byte l.kind) l.splitting (drop l.byte-index l.value) ≡ split l.kind l.value
