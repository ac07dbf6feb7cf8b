use Rattle.std.proofs.Common.{◌++◌, ap, ◌∙◌}
use Rattle.text_bytes.specs.Text.{Text}
use Rattle.engine_sessions.specs.Sessions.{answer_of, asked_by}
use Rattle.engine_sessions.specs.Tallies.{events_of}
use Rattle.engine_sessions.proofs.Saying.{said_as}
use Rattle.engine_sessions.proofs.tallying.tally_in_steps.Goals as goal

pub returns-in-Ok : goal.returns-in-Ok
returns-in-Ok g c =
    let made = c.in-Ok.ensures in
    let h = c.in-Ok.hearing in
    let tally = c.args.tally in
    let profile = c.args.profile in
    let same = ap {B = Text → Text} (λ t text. g.T.Tally.says t (events_of h.profile (h.splitter.pending ++ text))) made.2
    ∙ ap {B = Text → Text} (λ p text. g.T.Tally.says tally (events_of p (h.splitter.pending ++ text))) made.1
    ∙ ap {B = Text → Text} (λ x text. g.T.Tally.says tally (events_of profile (x ++ text))) made.0 in
    said_as c.args.telling c.args.messages.now (answer_of g.A.Answering.answers (asked_by profile c.args.answering.now)) _ _ _ _ _ same c.tally_heard.ensures
