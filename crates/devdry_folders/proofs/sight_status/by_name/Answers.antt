use Rattle.std.proofs.Common.{Bool, of_calls, rules}
use Rattle.std.proofs.lemmas.Cmp.{nat_list_cmp_total}
use Rattle.std.proofs.lemmas.Fn.{always_returns_same}
use Rattle.std.proofs.lemmas.List.Sorted.{ranks_by}
use Rattle.std.specs.Ordering.{is_lt}
use Rattle.text_bytes.specs.Insertion.{text_order}
use Rattle.devdry_folders.specs.declared.sights.Sight.{Sight}
use Rattle.devdry_folders.proofs.sight_status.by_name.Goals as goal

-- whether the name of a sight comes before that of another
abbrev before : Sight → Sight → Bool
before s other = is_lt (text_order s.name other.name)

pub returns : goal.returns
returns c = record {
  same = c.in_ok-sort_by.ensures.permutation;
  rise = c.in_ok-sort_by.ensures.sorted before (ranks_by nat_list_cmp_total (λ s. s.name)) (always_returns_same _ _ _ (λ a r f k. search (rules, of_calls)));
  stable = c.in_ok-sort_by.ensures.stable before (ranks_by nat_list_cmp_total (λ s. s.name)) (always_returns_same _ _ _ (λ a r f k. search (rules, of_calls)));
}
