use Rattle.std.proofs.Common.{rules, ◌≡◌, true, false, [], take, append-nil, refl, ap, sym, ◌∙◌}
use Rattle.std.proofs.lemmas.Result.{err_from_is_err_and}
use Rattle.engine_sessions.specs.Sessions.{answer_of}
use Rattle.engine_sessions.specs.Turns.{Reads}
use Rattle.engine_sessions.specs.Tallies.{IsTold}
use Rattle.engine_sessions.proofs.TurnLemmas.{turn_fails}
use Rattle.engine_sessions.proofs.FindingLemmas.{turn_tells}
use Rattle.engine_sessions.proofs.turning.turn_told.Goals as goal

pub returns-in_err-finds-in-Ok-clause-err : goal.returns-in_err-finds-in-Ok-clause-err
returns-in_err-finds-in-Ok-clause-err g c =
    let going : c.args.session.now.ended ≡ false = search rules in
    let reads : Reads true (g.R.Source.shown c.args.input.now) (take c.in-Ok.len c.read.new.into) (g.R.Source.shown c.read.new.self) = search rules in
    let p = err_from_is_err_and c.from_residual-in_err-finds-in-Ok.result c.from_residual-in_err-finds-in-Ok.ensures.1 in
    rw (p.1, p.2)
    (turn_fails (answer_of g.A.Answering.answers c.args.session.now.answering) c.in_err-finds-in-Ok.field-0.0 c.args.session.now _ _ _ _ true (take c.in-Ok.len c.read.new.into) going reads c.in_err-finds-in-Ok.ensures.err _)

pub returns-in_ok-finds-in-Ok-eq0-clause-ok : goal.returns-in_ok-finds-in-Ok-eq0-clause-ok
returns-in_ok-finds-in-Ok-eq0-clause-ok g c =
    let going : c.args.session.now.ended ≡ false = search rules in
    let reads : Reads false (g.R.Source.shown c.args.input.now) [] (g.R.Source.shown c.read.new.self) = search rules in
    turn_tells (answer_of g.A.Answering.answers c.args.session.now.answering) (IsTold (g.L.Listener.says c.args.listener.now) (g.L.Listener.says c.args.listener.now)) false c.in_ok-finds-in-Ok-eq0.finds c.args.session.now c.answer_last.new.session _ _ _ _
    (record { proceeds = going; piece = []; reads = reads; sends = c.in_ok-finds-in-Ok-eq0.ensures.ok }) c.in_ok-finds-in-Ok-eq0.ensures.finds (λ rest. refl)

pub returns-in-Ok-hear-clause-ok : goal.returns-in-Ok-hear-clause-ok
returns-in-Ok-hear-clause-ok g c =
    let going : c.args.session.now.ended ≡ false = search rules in
    let reads : Reads true (g.R.Source.shown c.args.input.now) (take c.in-Ok.len c.read.new.into) (g.R.Source.shown c.read.new.self) = search rules in
    turn_tells (answer_of g.A.Answering.answers c.args.session.now.answering) (IsTold (g.L.Listener.says c.args.listener.now) (g.L.Listener.says c.hear.new.self)) true c.in_ok-finds-in-Ok.finds c.args.session.now c.answer_piece.new.session _ _ _ _
    (record { proceeds = going; piece = take c.in-Ok.len c.read.new.into; reads = reads; sends = c.in_ok-finds-in-Ok.ensures.ok }) c.in_ok-finds-in-Ok.ensures.finds c.in-Ok-hear.ensures

pub returns-in-Err-hear-clause-err : goal.returns-in-Err-hear-clause-err
returns-in-Err-hear-clause-err g c =
    let going : c.args.session.now.ended ≡ false = search rules in
    let reads : Reads true (g.R.Source.shown c.args.input.now) (take c.in-Ok.len c.read.new.into) (g.R.Source.shown c.read.new.self) = search rules in
    let due = c.in_ok-finds-in-Ok.ensures.ok in
    record {
      proceeds = going;
      more = true;
      piece = take c.in-Ok.len c.read.new.into;
      reads = reads;
      sends = record { sent = due.texts; first = ([], ap (λ a. a.texts) due.answers ∙ sym (append-nil due.texts)); sends = due.sends };
    }
