use Rattle.std.proofs.Common.{refl}
use Rattle.trie_build.specs.Image.{image}
use Rattle.trie_build.specs.Written.{written}
use Rattle.rule_laws.proofs.images.two_images.Goals as goal

pub returns : goal.returns
unfolding image written
returns c = record { none = refl; one = refl }
