use Rattle.std.proofs.Common.{refl}
use Rattle.link_files.specs.Lines.{stripped}
use Rattle.link_files.specs.Words.{is_whole, split, split_byte, words_of}
use Rattle.builtin_link.specs.Versions.{version_ranks}
use Rattle.builtin_link.proofs.laws.kernels_are_compared.Goals as goal

pub returns : goal.returns
unfolding version_ranks stripped is_whole split split_byte words_of
returns c = record {
  newer = refl;
  apart = refl;
  not_older = refl;
  itself = refl;
  same = refl;
  other = refl;
  unequal = refl;
  equal = refl;
  between = refl;
  older = refl;
  shorter = refl;
  number = refl;
  higher = refl;
  lower = refl;
  second = refl;
  hundred = refl;
  alone = refl;
  alone_later = refl;
}
