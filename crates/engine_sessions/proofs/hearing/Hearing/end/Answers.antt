use Rattle.std.proofs.Common.{◌≡◌, ◌++◌, [], append-nil, IfOk, ap, sym, ◌∙◌, subst}
use Rattle.device_core.specs.Splits.{completed}
use Rattle.engine_sessions.specs.Tallies.{events_in, events_of}
use Rattle.engine_sessions.proofs.ToldText.{last_told}
use Rattle.engine_sessions.proofs.hearing.Hearing.end.Goals as goal

pub returns-in_ok-count_if_complete-in-Ok : goal.returns-in_ok-count_if_complete-in-Ok
returns-in_ok-count_if_complete-in-Ok g c =
    let ends = c.in-Ok.ensures.ok in
    let profile = c.args.self.now.profile in
    let pending = c.args.self.now.splitter.pending in
    let block : c.block-block.result.now ≡ pending = c.block-block.ensures ∙ ap (λ s. s.block) ends.gives in
    let says = g.T.Tally.says c.args.self.now.tally in
    let same : g.T.Tally.says c.count_if_complete.new.tally [] ≡ says (events_of profile (pending ++ [])) =
    c.in_ok-count_if_complete-in-Ok.ensures []
    ∙ ap says (append-nil (events_in profile (completed c.in-Ok.some c.block-block.result.now)) ∙ ap (λ b. events_in profile (completed c.in-Ok.some b)) block
    ∙ sym (last_told profile pending c.in-Ok.some c.args.self.now.none_complete c.args.self.now.is_rest ends.answers)) in
    subst (λ t. IfOk c.end-in-Ok.result (λ text. text ≡ t)) same c.end-in-Ok.ensures
