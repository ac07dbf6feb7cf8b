use Rattle.std.proofs.Common.{◌≡◌, refl, rules, subst, sym}
use Rattle.std.proofs.lemmas.Result.{IfOk-weaker}
use Rattle.devdry_gathering.specs.Gathers.{GathersRequest, GathersRun}
use Rattle.devdry_gathering.specs.Terminals.{shown_line}
use Rattle.devdry_gathering.proofs.gathering.gather_request.Goals as goal

pub returns-in-Run-clause-gathered : goal.returns-in-Run-clause-gathered
returns-in-Run-clause-gathered g c =
    let may = g.D.Disk.may_answer c.args.disk.now in
    let before = g.I.Source.shown c.args.input.now in
    let now = g.I.Source.shown c.gather_run.new.input in
    let shown : record c.in-Run.line { format = c.shown_format-line.result } ≡ shown_line c.args.terminals.colors c.in-Run.line = search rules in
    IfOk-weaker c.gather_run.result _ _ (λ gathered h. subst (λ r. GathersRequest c.args.terminals may r before gathered now) (sym c.in-Run.is)
    (subst (λ l. GathersRun may c.args.terminals.input l before gathered now) shown h)) c.gather_run.ensures.gathered

pub returns-in-Compare-clause-gathered : goal.returns-in-Compare-clause-gathered
returns-in-Compare-clause-gathered g c =
    let may = g.D.Disk.may_answer c.args.disk.now in
    let before = g.I.Source.shown c.args.input.now in
    IfOk-weaker c.gather_both.result _ _ (λ gathered h. subst (λ r. GathersRequest c.args.terminals may r before gathered before) (sym c.in-Compare.is) (h, refl)) c.gather_both.ensures

-- The names of the step are guesses.
pub returns-in_ok-lines-in-Files-clause-gathered : goal.returns-in_ok-lines-in-Files-clause-gathered
returns-in_ok-lines-in-Files-clause-gathered g c =
    rw c.in-Files.is ((c.in_ok-lines-in-Files.field-0, c.in_ok-lines-in-Files.ensures.listed, search rules, search rules), refl)
