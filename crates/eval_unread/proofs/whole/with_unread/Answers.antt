use Rattle.std.proofs.Common.{sym, ◌∙◌}
use Rattle.eval_unread.specs.Unread.{unread}
use Rattle.eval_unread.proofs.Unasked.{none_unread, same_outcome}
use Rattle.eval_unread.proofs.whole.with_unread.Goals as goal

pub returns-then-not-asks : goal.returns-then-not-asks
returns-then-not-asks g c =
    let known = g.K.Knowledge.known c.args.knowledge.now in
    let none = sym c.requires ∙ c.if-not-asks.true in
    same_outcome c.args.outcome (unread c.args.rules.now known c.args.event.now) (none_unread c.args.rules.now known c.args.event.now none)
