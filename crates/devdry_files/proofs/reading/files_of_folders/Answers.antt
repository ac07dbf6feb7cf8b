use Rattle.std.proofs.Common.{◌≡◌, ◌∙◌, ◌++◌, ◌+◌, ◌∷◌, [], ap, drop, rules, subst, suc, sym, take}
use Rattle.std.proofs.Math.Seq.{split_at}
use Rattle.devdry_files.specs.Faults.{FirstFails, folder_steps}
use Rattle.devdry_files.specs.Found.{AreInFolders}
use Rattle.devdry_files.proofs.Adding.{among, folders_more, handed_on, one_more}
use Rattle.devdry_files.proofs.reading.files_of_folders.Goals as goal

pub returns-in_err-files_in-clause-fault : goal.returns-in_err-files_in-clause-fault
returns-in_err-files_in-clause-fault g c =
    let may = g.D.Disk.may_answer c.args.disk.now in
    let folders = c.args.folders.now in
    let folder = c.folder-item.result in
    let fault = c.in_err-files_in.field-0.0 in
    let place = c.loop-folder.folder-index in
    let cut : folders ≡ take place folders ++ folder ∷ drop (suc place) folders = subst (λ f. folders ≡ take place folders ++ f ∷ drop (suc place) folders) (sym c.folder-item.is) (split_at folders place folder (search rules)) in
    handed_on (FirstFails (folder_steps may folders)) c.from_residual.result fault c.from_residual.ensures.1
    (among may folders (take place folders) folder (drop (suc place) folders) c.loop-folder.files.items fault cut c.loop-folder.invariant c.in_err-files_in.ensures.fault)

pub loop-folder-preserved : goal.loop-folder-preserved
loop-folder-preserved g c =
    let may = g.D.Disk.may_answer c.args.disk.now in
    let folders = c.args.folders.now in
    let folder = c.folder-item.result in
    let index = c.loop-folder.folder-index in
    let next : take (index + 1) folders ≡ take index folders ++ folder ∷ [] = one_more folders index folder (search rules) ∙ ap (λ f. take index folders ++ f ∷ []) (sym c.folder-item.is) in
    let more : AreInFolders may (take index folders ++ folder ∷ []) (c.loop-folder.files.items ++ c.in_ok-files_in.field-0.items) = folders_more may (take index folders) c.loop-folder.files.items folder c.in_ok-files_in.field-0.items c.loop-folder.invariant c.in_ok-files_in.ensures.files in
    let grown : c.append.new.self.items ≡ c.loop-folder.files.items ++ c.in_ok-files_in.field-0.items = search rules in
    rw (next, grown) more
