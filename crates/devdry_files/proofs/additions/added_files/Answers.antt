use Rattle.std.proofs.Common.{map, rules}
use Rattle.devdry_files.specs.Faults.{FirstFails, file_steps}
use Rattle.devdry_files.proofs.Adding.{added_more, at_added, handed_on}
use Rattle.devdry_files.proofs.additions.added_files.Goals as goal

pub returns-in_err-added_file-clause-fault : goal.returns-in_err-added_file-clause-fault
returns-in_err-added_file-clause-fault g c =
    let may = g.D.Disk.may_answer c.args.disk.now in
    let paths = c.args.paths.now in
    let fault = c.in_err-added_file.field-0.0 in
    handed_on (FirstFails (file_steps may (map (λ p. p.now) paths))) c.from_residual.result fault c.from_residual.ensures.1
    (at_added (λ p. p.now) may paths c.loop-path.path-index _ c.loop-path.files.items fault (search rules) c.loop-path.invariant c.in_err-added_file.ensures.fault)

pub loop-path-preserved : goal.loop-path-preserved
loop-path-preserved g c =
    let may = g.D.Disk.may_answer c.args.disk.now in
    rw c.in_ok-push.ensures.items
    (added_more (λ p. p.now) may c.args.paths.now c.loop-path.path-index _ c.loop-path.files.items c.in_ok-added_file.field-0 (search rules) c.loop-path.invariant c.in_ok-added_file.ensures.file)
