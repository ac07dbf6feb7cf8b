use Rattle.std.proofs.Common.{rules, ◌≡◌, true, false, map, refl, inl, inr, subst, sym, ◌∙◌}
use Rattle.engine_sessions.proofs.Saying.{said_as}
use Rattle.engine_courses.specs.Rows.{unreached}
use Rattle.engine_courses.specs.Unused.{rules_named}
use Rattle.engine_core.proofs.Running.{tally_says}
use Rattle.engine_core.proofs.events.answer_and_say.Goals as goal

pub returns-then-not-line-clause-says : goal.returns-then-not-line-clause-says
returns-then-not-line-clause-says g c = λ e. let both : true ≡ false = sym e ∙ c.if-not-line.true in absurd cc

pub returns-then-not-line-clause-answers : goal.returns-then-not-line-clause-answers
returns-then-not-line-clause-answers g c = λ e. rw c.telling_of-telling.ensures at c.answer_after_messages.ensures.steps

pub returns-in-Ok-clause-says : goal.returns-in-Ok-clause-says
returns-in-Ok-clause-says g c = λ e.
    let added : c.deref.result.now ≡ c.args.line.now.added.items = search rules in
    let tally = subst (λ paths. c.in-Ok.tally ≡ record { names = rules_named (map (λ f. f.now) paths); rules = c.args.rules.now; knowledge = c.args.knowledge.now; rows = map unreached c.args.rules.now }) added c.in-Ok.ensures in
    said_as _ _ _ _ _ _ _ _
    (tally_says g.K.Knowledge.known (map (λ f. f.now) c.args.line.now.added.items) c.args.rules.now c.args.knowledge.now c.in-Ok.tally c.args.line.now.profile tally)
    (rw c.telling_of-telling.ensures at c.answer_and_tally.ensures.steps)

pub returns-in-Ok-clause-answers : goal.returns-in-Ok-clause-answers
returns-in-Ok-clause-answers g c = λ e. let both : true ≡ false = sym c.if-not-line.false ∙ e in absurd cc

pub returns-in-Err-clause-says : goal.returns-in-Err-clause-says
returns-in-Err-clause-says g c = λ e. inl (record { unread = refl; unanswered = refl; reports = inr c.report_out_of_memory.ensures })

pub returns-in-Err-clause-answers : goal.returns-in-Err-clause-answers
returns-in-Err-clause-answers g c = λ e. inl (record { unread = refl; unanswered = refl; reports = inr c.report_out_of_memory.ensures })
