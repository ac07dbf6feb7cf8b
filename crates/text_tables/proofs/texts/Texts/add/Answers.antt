use Rattle.std.proofs.Common.{not, ap, ◌∙◌}
use Rattle.text_tables.proofs.Held.{among, added}
use Rattle.text_tables.proofs.texts.Texts.add.Goals as goal

pub returns-clause-new : goal.returns-clause-new
returns-clause-new c = rw (← c.self.view_is) (c.in_ok-new.ensures.added ∙ ap not (among (λ k. k.now) c.self.inside.held.keys c.args.text.now))

pub returns-clause-texts : goal.returns-clause-texts
returns-clause-texts c = rw (c.in_ok-new.ensures.keys, ← c.self.view_is) (added (λ k. k.now) c.self.inside.held.keys c.args.text)
