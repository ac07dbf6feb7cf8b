use Rattle.std.proofs.Common.{◌≡◌, ◌==◌, false, ne_eqb}
use Rattle.text_bytes.specs.Names.{newline}
use Rattle.engine_reports.specs.LookupOutcomes.{answer_to}
use Rattle.engine_reports.proofs.TakingLemmas.{answers-byte, answers-line, err_so, ok_both, stops-byte, stops-line}
use Rattle.engine_reports.proofs.held.Held.take.Goals as goal

pub returns-then-byte-eq10-clause-ok : goal.returns-then-byte-eq10-clause-ok
returns-then-byte-eq10-clause-ok g c =
    let answer = answer_to c.args.sources (g.L.Lookup.entries c.args.database.now) in
    rw c.if-byte-eq10.true (ok_both c.answer.result _ _ _ (λ e h. answers-line answer c.args.self.now c.answer.new.self _ _ c.requires.open e h) c.answer.ensures.next c.answer.ensures.sends)

pub returns-then-byte-eq10-clause-err : goal.returns-then-byte-eq10-clause-err
returns-then-byte-eq10-clause-err g c =
    let answer = answer_to c.args.sources (g.L.Lookup.entries c.args.database.now) in
    rw c.if-byte-eq10.true (err_so c.answer.result _ _ (λ fault s. stops-line answer fault c.args.self.now _ _ c.requires.open s) c.answer.ensures.err)

pub returns-else-byte-eq10-clause-ok : goal.returns-else-byte-eq10-clause-ok
returns-else-byte-eq10-clause-ok g c =
    let answer = answer_to c.args.sources (g.L.Lookup.entries c.args.database.now) in
    let other : (c.args.byte == newline) ≡ false = ne_eqb c.args.byte 10 c.if-byte-eq10.false in
    ok_both c.push.result _ _ _ (λ e l. answers-byte answer c.args.self.now c.push.new.self c.args.byte _ c.requires.open other l e) c.push.ensures.more c.push.ensures.fits

pub returns-else-byte-eq10-clause-err : goal.returns-else-byte-eq10-clause-err
returns-else-byte-eq10-clause-err g c =
    let answer = answer_to c.args.sources (g.L.Lookup.entries c.args.database.now) in
    let other : (c.args.byte == newline) ≡ false = ne_eqb c.args.byte 10 c.if-byte-eq10.false in
    err_so c.push.result _ _ (λ fault s. stops-byte answer fault c.args.self.now c.args.byte _ c.requires.open other s) c.push.ensures.err
