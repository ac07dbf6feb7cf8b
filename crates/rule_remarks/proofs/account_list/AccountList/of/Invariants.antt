use Rattle.std.proofs.Common.{◌≡◌, [], map}
use Rattle.text_tables.specs.Pairs.{with_values}
use Rattle.rule_remarks.specs.AccountTables.{named_number}
use Rattle.rule_remarks.proofs.account_list.AccountList.of.Given as goal

abbrev pub invariant-loop-account : goal.invariant-loop-account
invariant-loop-account l = map (λ e. (e.0.items, e.1)) l.numbers.entries ≡ with_values [] (map named_number (map (λ r. r.now) l.yielded))
