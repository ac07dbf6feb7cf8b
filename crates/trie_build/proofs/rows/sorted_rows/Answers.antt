use Rattle.std.proofs.Common.{length, map, subst, rules, of_calls}
use Rattle.std.proofs.lemmas.Fn.{always_returns_same}
use Rattle.std.proofs.lemmas.List.Sorted.{All-permutation, IsPermutation-map, ranks_by}
use Rattle.std.specs.List.{range_with_len}
use Rattle.std.specs.List.Sorted.{IsPermutation}
use Rattle.std.specs.Ordering.{is_lt}
use Rattle.trie_build.specs.Rows.{Reports, row_cmp}
use Rattle.trie_build.proofs.Sorting.{patterns_rise, rows_total, same_rise}
use Rattle.trie_build.proofs.rows.sorted_rows.Goals as goal

pub returns-clause-numbers : goal.returns-clause-numbers
returns-clause-numbers c =
    subst (λ l. IsPermutation l (map (λ r. r.number) c.sort_by.new.self.items)) c.in_ok-rows.ensures.numbers (IsPermutation-map (λ r. r.number) c.in_ok-rows.rows.items c.sort_by.new.self.items c.in_ok-sort_by.ensures.permutation)

pub returns-clause-rows : goal.returns-clause-rows
returns-clause-rows c = All-permutation (Reports c.args.entries.now) c.in_ok-rows.rows.items c.sort_by.new.self.items c.in_ok-sort_by.ensures.permutation c.in_ok-rows.ensures.rows

pub returns-clause-sorted : goal.returns-clause-sorted
returns-clause-sorted c =
    patterns_rise c.args.entries.now c.sort_by.new.self.items (All-permutation (Reports c.args.entries.now) c.in_ok-rows.rows.items c.sort_by.new.self.items c.in_ok-sort_by.ensures.permutation c.in_ok-rows.ensures.rows) (c.in_ok-sort_by.ensures.sorted (λ r s. is_lt (row_cmp r s)) (ranks_by rows_total (λ z. z)) (always_returns_same _ _ _ (λ a r f k. search (rules, of_calls))))

pub returns-clause-rise : goal.returns-clause-rise
returns-clause-rise c =
    let numbers : IsPermutation (range_with_len 0 (length c.args.entries.now)) (map (λ r. r.number) c.sort_by.new.self.items) =
    subst (λ l. IsPermutation l (map (λ r. r.number) c.sort_by.new.self.items)) c.in_ok-rows.ensures.numbers (IsPermutation-map (λ r. r.number) c.in_ok-rows.rows.items c.sort_by.new.self.items c.in_ok-sort_by.ensures.permutation) in
    same_rise c.args.entries.now c.sort_by.new.self.items (All-permutation (Reports c.args.entries.now) c.in_ok-rows.rows.items c.sort_by.new.self.items c.in_ok-sort_by.ensures.permutation c.in_ok-rows.ensures.rows)
    (c.in_ok-sort_by.ensures.sorted (λ r s. is_lt (row_cmp r s)) (ranks_by rows_total (λ z. z)) (always_returns_same _ _ _ (λ a r f k. search (rules, of_calls)))) (length c.args.entries.now) numbers
