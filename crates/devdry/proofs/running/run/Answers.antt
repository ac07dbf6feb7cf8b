use Rattle.std.proofs.Common.{◌≡◌, inl, rules, subst}
use Rattle.engine_sessions.specs.Sinks.{HandsOn}
use Rattle.devdry.proofs.running.run.Goals as goal

pub returns-in-Ok : goal.returns-in-Ok
returns-in-Ok g c =
    let said : c.deref.result.now ≡ c.args.gathered.report.lines.items = search rules in
    inl (record {
      err = g.E.Sink.shown c.hand_on.new.sink;
      hands_on = subst (λ text. HandsOn (g.E.Sink.shown c.args.error.now) text (g.E.Sink.shown c.hand_on.new.sink)) said c.in-Ok.ensures.whole;
      own = c.do_work-own.result;
      does = c.do_work-own.ensures;
      status_is = search rules;
    })
