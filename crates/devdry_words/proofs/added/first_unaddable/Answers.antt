use Rattle.std.proofs.Common.{not}
use Rattle.devdry_words.specs.Refusals.{is_addable}
use Rattle.devdry_words.proofs.Found.{found_seen}
use Rattle.devdry_words.proofs.added.first_unaddable.Goals as goal

pub returns : goal.returns
returns c = found_seen (λ path. not (is_addable c.args.rules_alone path)) (λ p. p.now) c.args.paths.now _ c.find_unaddable.ensures
