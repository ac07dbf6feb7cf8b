use Rattle.std.proofs.Common.{◌≡◌, List, ℕ, inl, inr, rules, string_bytes, subst}
use Rattle.std.proofs.lemmas.Result.{IfOk-weaker}
use Rattle.engine_formats.specs.Masked.{masked}
use Rattle.devdry_gathering.specs.Gathered.{IsEnded}
use Rattle.devdry_gathering.specs.Gathers.{GathersLine}
use Rattle.devdry_gathering.specs.Reading.{Says}
use Rattle.devdry_gathering.specs.Said.{cannot_read}
use Rattle.devdry_gathering.proofs.gathering.gather_known.Goals as goal

pub returns-in-Ok : goal.returns-in-Ok
returns-in-Ok g c =
    let may = g.D.Disk.may_answer c.args.disk.now in
    let line = c.read_account_files.new.line in
    IfOk-weaker c.gather_line.result (GathersLine may c.args.from_terminal line) _ (λ gathered h. inl (line, c.in-Ok.ensures.files, h)) c.gather_line.ensures

pub returns-in-Err-Path : goal.returns-in-Err-Path
returns-in-Err-Path g c =
    let path = string_bytes c.in-Err-Path.path in
    let said : c.in_ok-said-in-Err-Path.said.items ≡ cannot_read (masked path) = search rules in
    inr (path, rw c.in-Err-Path.field-0-is at c.in-Err-Path.ensures.fault, subst (λ (text : List ℕ). IsEnded (Says text 3) c.refusing.result) said c.refusing.ensures)
