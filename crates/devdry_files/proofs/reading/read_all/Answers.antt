use Rattle.std.proofs.Common.{map}
use Rattle.devdry_files.specs.Faults.{IsFaultyWanted, file_steps, unnamed_steps}
use Rattle.devdry_files.proofs.Adding.{behind, handed_on, in_front, were_named}
use Rattle.devdry_files.proofs.reading.read_all.Goals as goal

pub returns-in_err-files-clause-fault : goal.returns-in_err-files-clause-fault
returns-in_err-files-clause-fault g c =
    let may = g.D.Disk.may_answer c.args.disk.now in
    let w = c.args.wanted.now in
    let fault = c.in_err-files.field-0.0 in
    handed_on (IsFaultyWanted may w) c.from_residual.result fault c.from_residual.ensures.1
    (in_front (file_steps may (map (λ f. f.now) w.files.now)) (unnamed_steps may w) fault c.in_err-files.ensures.fault)

pub returns-in_err-unnamed_files-clause-fault : goal.returns-in_err-unnamed_files-clause-fault
returns-in_err-unnamed_files-clause-fault g c =
    let may = g.D.Disk.may_answer c.args.disk.now in
    let w = c.args.wanted.now in
    let paths = map (λ f. f.now) w.files.now in
    let fault = c.in_err-unnamed_files.field-0.0 in
    handed_on (IsFaultyWanted may w) c.from_residual-in_err-unnamed_files.result fault c.from_residual-in_err-unnamed_files.ensures.1
    (behind (file_steps may paths) (unnamed_steps may w) fault (were_named may w.kind paths c.in_ok-files.files.items c.in_ok-files.ensures.files) c.in_err-unnamed_files.ensures.fault)
