use Rattle.rule_laws.proofs.Accepting.{image_accepted, image_len}
use Rattle.rule_laws.proofs.HwdbListing.{image_lists, image_paths, image_permutes}
use Rattle.rule_laws.proofs.images.images_are_indexes.Goals as goal

pub returns : goal.returns
returns c = record { accepted = image_accepted; length = image_len; listed = image_permutes; paths = image_paths; in_order = image_lists }
