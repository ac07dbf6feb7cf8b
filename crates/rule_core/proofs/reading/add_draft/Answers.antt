use Rattle.std.proofs.Common.{◌∷◌, [], ◌∙◌, ap, subst}
use Rattle.rule_types.specs.Rules.{Rule}
use Rattle.rule_core.specs.Drafts.{Draft}
use Rattle.rule_core.specs.Gathering.{Adds}
use Rattle.rule_core.specs.Rules.{name_of}
use Rattle.rule_core.proofs.Drafting.{kept_is, rule_is}
use Rattle.rule_core.proofs.reading.add_draft.Goals as goal

pub returns-clause-rules : goal.returns-clause-rules
returns-clause-rules c =
    subst (λ (r : Rule). Adds c.args.rules.now c.add.new.self (r ∷ []) c.add.result)
    (rule_is c.args.profile c.args.place.file.now c.args.place.line c.args.draft c.args.landing c.name_unless.result c.name_unless-kept.result c.draft.inside.parts.items c.in_ok-rule_of.field-0
    c.in_ok-rule_of.ensures
    (c.name_unless.ensures ∙ ap (λ (d : Draft). name_of d.label) c.draft.view_is)
    (kept_is c.name_unless-kept.result c.draft.inside.goto c.args.draft c.args.landing c.name_unless-kept.ensures (ap (λ (d : Draft). d.goto) c.draft.view_is))
    (ap (λ (d : Draft). d.parts) c.draft.view_is))
    c.add.ensures
