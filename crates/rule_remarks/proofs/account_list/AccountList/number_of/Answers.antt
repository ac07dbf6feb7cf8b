use Rattle.std.proofs.Common.{ap, ◌∙◌}
use Rattle.text_tables.specs.Pairs.{value_of}
use Rattle.text_tables.proofs.Held.{borrowed}
use Rattle.rule_remarks.proofs.AccountTables.{number_found}
use Rattle.rule_remarks.proofs.account_list.AccountList.number_of.Goals as goal

pub returns : goal.returns
returns c =
    rw (← c.self.view_is)
    (c.copied.ensures ∙ borrowed (λ k. k.items) (λ v. v) c.self.inside.numbers.entries c.args.name.now c.get.result c.get.ensures.value
    ∙ ap (λ held. value_of held c.args.name.now) c.self.invariant ∙ number_found c.self.inside.listed.items c.args.name.now)
