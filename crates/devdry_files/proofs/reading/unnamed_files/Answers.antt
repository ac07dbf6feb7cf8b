use Rattle.std.proofs.Common.{map, subst}
use Rattle.devdry_files.specs.Faults.{FirstFails, HasPath, file_steps, folder_steps, unnamed_steps}
use Rattle.devdry_files.specs.Inside.{MayInside}
use Rattle.devdry_files.proofs.Adding.{behind, handed_on, in_front, were_added}
use Rattle.devdry_files.proofs.reading.unnamed_files.Goals as goal

pub returns-in_err-files-clause-fault : goal.returns-in_err-files-clause-fault
returns-in_err-files-clause-fault g c =
    let may = g.D.Disk.may_answer c.args.disk.now in
    let w = c.args.wanted.now in
    let fault = c.in_err-files.field-0.0 in
    handed_on (FirstFails (unnamed_steps may w)) c.from_residual.result fault c.from_residual.ensures.1
    (in_front (file_steps may (map (λ f. f.now) w.added.now)) (folder_steps (MayInside may w.root.now) w.folders.items) fault c.in_err-files.ensures.fault)

pub returns-in_err-files_of_folders-clause-fault : goal.returns-in_err-files_of_folders-clause-fault
returns-in_err-files_of_folders-clause-fault g c =
    let may = g.D.Disk.may_answer c.args.disk.now in
    let w = c.args.wanted.now in
    let paths = map (λ f. f.now) w.added.now in
    let folders = w.folders.items in
    let inside = c.new-inside.result in
    let fault = c.in_err-files_of_folders.field-0.0 in
    let at_slice = subst (λ fs. HasPath (FirstFails (folder_steps (MayInside (g.D.Disk.may_answer inside.disk.now) inside.root.now) fs)) fault) c.as_slice.ensures.value c.in_err-files_of_folders.ensures.fault in
    let at_root = subst (λ root. HasPath (FirstFails (folder_steps (MayInside (g.D.Disk.may_answer inside.disk.now) root) folders)) fault) c.new-inside.ensures.root at_slice in
    let at_disk = subst (λ disk. HasPath (FirstFails (folder_steps (MayInside (g.D.Disk.may_answer disk) w.root.now) folders)) fault) c.new-inside.ensures.disk at_root in
    handed_on (FirstFails (unnamed_steps may w)) c.from_residual-in_err-files_of_folders.result fault c.from_residual-in_err-files_of_folders.ensures.1
    (behind (file_steps may paths) (folder_steps (MayInside may w.root.now) folders) fault (were_added may paths c.in_ok-files.files.items c.in_ok-files.ensures.files) at_disk)
