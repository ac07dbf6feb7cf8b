use Rattle.std.proofs.Common.{◌≡◌, Bool, List, false, rules, subst, sym, true}
use Rattle.std.specs.Prelude.{MatchBool}
use Rattle.std.proofs.lemmas.Bool.{false≢true}
use Rattle.text_bytes.specs.declared.source_file.SourceFile.{SourceFile}
use Rattle.engine_sessions.specs.declared.line.Line.{Line}
use Rattle.devdry_files.specs.Answers.{Answer}
use Rattle.devdry_folders.specs.Surveys.{IsReportOnFiles}
use Rattle.devdry_folders.specs.declared.reading.ReadSome.{ReadSome}
use Rattle.devdry_folders.specs.declared.reading.Report.{Report}
use Rattle.devdry_gathering.specs.Reading.{IsAllRead, IsSomeRead}
use Rattle.devdry_gathering.proofs.reading.reported.Goals as goal

-- with what is reported on it, all that was read is that of a side of `compare`
all_on : (may : Answer → Type 0) (takes all : Bool) (line : Line) (read : ReadSome) (report : Report) → all ≡ false
    → IsReportOnFiles may line read.files.items report → MatchBool all (IsSomeRead may takes line read) (IsAllRead may takes false line read)
    → MatchBool all (IsSomeRead may takes line (record read { report = report })) (IsAllRead may takes true line (record read { report = report }))
all_on may takes true line read report is h all = absurd (false≢true (sym is))
all_on may takes false line read report is h all =
    record { wanted = all.wanted; wants = all.wants; are_files = all.are_files; is_index = all.is_index; reported = h }

-- what can be read stays as it is
some_on : (may : Answer → Type 0) (takes all : Bool) (line : Line) (read : ReadSome) → all ≡ true
    → MatchBool all (IsSomeRead may takes line read) (IsAllRead may takes false line read)
    → MatchBool all (IsSomeRead may takes line read) (IsAllRead may takes true line read)
some_on may takes true line read is some = some
some_on may takes false line read is some = absurd (false≢true is)

pub returns : goal.returns
returns g c takes h =
    let may = g.D.Disk.may_answer c.args.disk.now in
    let line = c.args.line.now in
    let report = c.in_ok-read.field-0 in
    let files : c.deref.result.now ≡ c.args.read.files.items = search rules in
    all_on may takes line.all line c.args.read report c.if-line.false (subst (λ (s : List SourceFile). IsReportOnFiles may line s report) files c.in_ok-read.ensures.report) h

pub returns-then-line : goal.returns-then-line
returns-then-line g c takes h = some_on (g.D.Disk.may_answer c.args.disk.now) takes c.args.line.now.all c.args.line.now c.args.read c.if-line.true h
