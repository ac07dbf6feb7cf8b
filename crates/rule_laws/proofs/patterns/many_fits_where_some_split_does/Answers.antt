use Rattle.std.proofs.Common.{ap, ◌∙◌}
use Rattle.text_core.specs.Fits.{fits, some_suffix}
use Rattle.rule_laws.proofs.Splitting.{suffix_cut, cut_suffix}
use Rattle.rule_laws.proofs.patterns.many_fits_where_some_split_does.Goals as goal

pub returns : goal.returns
returns c = λ p t. (suffix_cut (fits p) t, λ s. ap (some_suffix (fits p)) s.whole ∙ cut_suffix (fits p) s.prefix s.back s.second_passes)
