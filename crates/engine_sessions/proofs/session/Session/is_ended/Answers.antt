use Rattle.std.proofs.Common.{rules, ◌≡◌, true, false}
use Rattle.engine_sessions.specs.Sessions.{asked_by}
use Rattle.engine_sessions.proofs.TurnLemmas.{going_is, gone_is}
use Rattle.engine_sessions.proofs.session.Session.is_ended.Goals as goal

pub returns-clause-going : goal.returns-clause-going
returns-clause-going g c = λ e.
    let going : c.self.inside.ended ≡ false = search rules in
    rw (← c.self.view_is) (going_is (asked_by c.self.inside.profile c.self.inside.answering.now) c.self.inside.splitter c.self.inside.answered c.self.inside.ended going (c.self.invariant going))

pub returns-clause-gone : goal.returns-clause-gone
returns-clause-gone g c = λ e.
    let gone : c.self.inside.ended ≡ true = search rules in
    rw (← c.self.view_is) (gone_is (asked_by c.self.inside.profile c.self.inside.answering.now) c.self.inside.splitter.pending c.self.inside.answered c.self.inside.ended gone)
