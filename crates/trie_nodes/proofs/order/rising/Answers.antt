use Rattle.std.proofs.Common.{◌≡◌, ◌<◌, length, nat_lt, rules, of_calls, tests}
use Rattle.std.proofs.lemmas.Fn.{always_returns_same}
use Rattle.std.proofs.lemmas.Iterator.{cases_from_all, YieldsList-from_slice}
use Rattle.trie_nodes.proofs.Orders.{keys_kept, rising_by}
use Rattle.trie_nodes.proofs.order.rising.Goals as goal

pub returns-then-all : goal.returns-then-all
returns-then-all c =
    let keys = cases_from_all _ _ _ (λ e. 0 < length e.key) (λ e. length e.key ≡ 0) c.all.ensures.ran (YieldsList-from_slice c.args.entries.now c.iter.ensures.rest) (λ x r k. search (rules, tests)) (λ x r k. search (rules, tests)) in
    rising_by c.args.entries.now c.is_sorted_by.result
    (c.is_sorted_by.ensures.cases (λ e next. nat_lt e.order next.order) (always_returns_same _ _ _ (λ a r f k. search (rules, of_calls)))) (keys_kept c.args.entries.now c.all.result c.if-all.true keys)
