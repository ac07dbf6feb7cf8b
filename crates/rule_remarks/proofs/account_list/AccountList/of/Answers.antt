use Rattle.std.proofs.Common.{◌≡◌, ap, arith, map, ◌∙◌}
use Rattle.std.proofs.lemmas.Grind.{common_steps}
use Rattle.text_tables.specs.Pairs.{with_value}
use Rattle.text_tables.proofs.Held.{set}
use Rattle.rule_remarks.proofs.account_list.AccountList.of.Goals as goal

pub loop-account-preserved : goal.loop-account-preserved
loop-account-preserved c =
    let one : map (λ e. (e.0.items, e.1)) c.insert.new.self.entries ≡ with_value (map (λ e. (e.0.items, e.1)) c.loop-account.numbers.entries) c.in-Some.account.now.name c.in-Some.account.now.number =
    rw c.in_ok-insert.ensures.entries
    (set (λ k. k.items) (λ v. v) c.loop-account.numbers.entries c.in_ok-name.name c.in-Some.account.now.number
    ∙ ap (λ name. with_value (map (λ e. (e.0.items, e.1)) c.loop-account.numbers.entries) name c.in-Some.account.now.number) (c.in_ok-name.ensures.items ∙ c.as_slice.ensures)) in
    grind (arith, common_steps)
