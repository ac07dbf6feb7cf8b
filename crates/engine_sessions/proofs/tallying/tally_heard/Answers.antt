use Rattle.std.proofs.Common.{rules, ◌&&◌, ◌++◌, [], Ok, Err, append-nil, refl, ap, ◌∙◌, subst, inr}
use Rattle.engine_sessions.specs.Sinks.{HandsOn}
use Rattle.engine_sessions.specs.Tallies.{SaysLast, events_of}
use Rattle.engine_sessions.specs.Turns.{joined}
use Rattle.engine_sessions.proofs.tallying.tally_heard.Goals as goal

pub returns-in-Ok : goal.returns-in-Ok
returns-in-Ok g c =
    let says : HandsOn (g.E.Sink.shown c.args.error.now) c.args.messages.now (g.E.Sink.shown c.hand_on.new.sink) = search rules in
    let heard = c.in-Ok.ensures in
    let hearing = c.args.hearing.now in
    let read = joined heard.finds.answers.read in
    let last = heard.told [] ∙ ap (λ text. g.T.Tally.says hearing.tally (events_of hearing.profile (hearing.splitter.pending ++ text))) (append-nil read) in
    inr (record {
      after = g.E.Sink.shown c.hand_on.new.sink;
      written = says;
      end = Ok tt;
      out = g.W.Sink.shown c.answer_heard.new.output;
      answers = heard.finds.answers;
      concludes = subst (λ none. SaysLast (c.args.telling.no_block && none) (g.T.Tally.says hearing.tally (events_of hearing.profile (hearing.splitter.pending ++ read))) c.say_last.result (g.W.Sink.shown c.answer_heard.new.output) (g.W.Sink.shown c.say_last.new.output) (g.E.Sink.shown c.hand_on.new.sink) (g.E.Sink.shown c.say_last.new.error)) heard.finds.none_is
          (subst (λ t. SaysLast (c.args.telling.no_block && c.in-Ok.found.no_block) t c.say_last.result (g.W.Sink.shown c.answer_heard.new.output) (g.W.Sink.shown c.say_last.new.output) (g.E.Sink.shown c.hand_on.new.sink) (g.E.Sink.shown c.say_last.new.error)) last c.say_last.ensures);
    })

pub returns-in-Err : goal.returns-in-Err
returns-in-Err g c =
    let says : HandsOn (g.E.Sink.shown c.args.error.now) c.args.messages.now (g.E.Sink.shown c.hand_on.new.sink) = search rules in
    inr (record {
      after = g.E.Sink.shown c.hand_on.new.sink;
      written = says;
      end = Err c.in-Err.fault;
      out = g.W.Sink.shown c.answer_heard.new.output;
      answers = c.in-Err.ensures.finds.answers;
      concludes = (refl, c.conclude.ensures);
    })
