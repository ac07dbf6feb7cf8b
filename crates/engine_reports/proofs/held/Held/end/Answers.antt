use Rattle.std.proofs.Common.{rules, ◌≡◌, ◌<◌, length, arith}
use Rattle.std.proofs.lemmas.Bool.Decides.{nat_tests}
use Rattle.engine_reports.specs.LookupOutcomes.{answer_to}
use Rattle.engine_reports.proofs.TakingLemmas.{end-line, end-stops, end_leads, err_so, ok_so}
use Rattle.engine_reports.proofs.held.Held.end.Goals as goal

pub returns-clause-leads : goal.returns-clause-leads
returns-clause-leads g c = end_leads (answer_to c.args.sources (g.L.Lookup.entries c.args.database.now)) c.args.self.now c.requires

pub returns-clause-ok : goal.returns-clause-ok
returns-clause-ok g c =
    let answer = answer_to c.args.sources (g.L.Lookup.entries c.args.database.now) in
    let bytes : c.as_slice-modalias.result.now ≡ c.args.self.now.bytes = search rules in
    let some : 0 < length c.args.self.now.bytes = grind (arith, nat_tests) in
    ok_so c.send_answer.result _ _ (λ h. end-line answer c.args.self.now _ _ c.requires some h) (rw bytes at c.send_answer.ensures.ok)

pub returns-clause-err : goal.returns-clause-err
returns-clause-err g c =
    let answer = answer_to c.args.sources (g.L.Lookup.entries c.args.database.now) in
    let bytes : c.as_slice-modalias.result.now ≡ c.args.self.now.bytes = search rules in
    let some : 0 < length c.args.self.now.bytes = grind (arith, nat_tests) in
    err_so c.send_answer.result _ _ (λ fault s. end-stops answer fault c.args.self.now _ _ c.requires some s) (rw bytes at c.send_answer.ensures.err)
