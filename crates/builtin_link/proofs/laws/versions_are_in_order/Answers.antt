use Rattle.std.proofs.lemmas.Cmp.{nat_list_cmp_total}
use Rattle.builtin_link.specs.Versions.{version_ranks}
use Rattle.builtin_link.proofs.laws.versions_are_in_order.Goals as goal

pub returns : goal.returns
returns c = record {
  antisymm = λ x y. nat_list_cmp_total.antisymm (version_ranks x) (version_ranks y);
  trans = λ x y z. nat_list_cmp_total.trans (version_ranks x) (version_ranks y) (version_ranks z);
  congr = λ x y z. nat_list_cmp_total.congr (version_ranks x) (version_ranks y) (version_ranks z);
}
