use Rattle.std.proofs.Common.{◌≡◌, ◌∙◌, ◌++◌, ◌+◌, ◌∷◌, [], ap, drop, map, rules, string_bytes, subst, suc, sym, take}
use Rattle.std.proofs.Math.Seq.{split_at}
use Rattle.devdry_files.specs.Faults.{HasPath, IsFaultyIn, IsUnread}
use Rattle.devdry_files.specs.Found.{AreFilesAt, IsFileAt, path_in}
use Rattle.devdry_files.proofs.Adding.{at_file_in, at_folder, file_more, handed_on, one_more}
use Rattle.devdry_files.proofs.reading.files_in.Goals as goal

pub returns-in_err-file_in-clause-fault : goal.returns-in_err-file_in-clause-fault
returns-in_err-file_in-clause-fault g c =
    let may = g.D.Disk.may_answer c.args.disk.now in
    let folder = c.args.folder.now in
    let names = c.in_ok-names.names.items in
    let items = c.deref-name-items.result.now in
    let name = c.name-item.result in
    let fault = c.in_err-file_in.field-0.0 in
    let place = c.loop-name.name-index in
    let cut : items ≡ take place items ++ name ∷ drop (suc place) items = subst (λ n. items ≡ take place items ++ n ∷ drop (suc place) items) (sym c.name-item.is) (split_at items place name (search rules)) in
    let here : HasPath (λ p. (p ≡ path_in folder (string_bytes name)) × IsUnread may p) fault = subst (λ text. HasPath (λ p. (p ≡ path_in folder text) × IsUnread may p) fault) c.as_str.ensures.value c.in_err-file_in.ensures.fault in
    handed_on (IsFaultyIn may folder) c.from_residual-in_err-file_in.result fault c.from_residual-in_err-file_in.ensures.1
    (at_file_in may folder names (take place items) name (drop (suc place) items) c.loop-name.files.items fault c.in_ok-names.ensures.names (sym c.deref-name-items.ensures.value ∙ cut) c.loop-name.invariant here)

pub loop-name-preserved : goal.loop-name-preserved
loop-name-preserved g c =
    let may = g.D.Disk.may_answer c.args.disk.now in
    let folder = c.args.folder.now in
    let items = c.deref-name-items.result.now in
    let name = c.name-item.result in
    let index = c.loop-name.name-index in
    let file = c.in_ok-file_in.field-0 in
    let files = c.loop-name.files.items in
    let here : IsFileAt may folder.kind folder.rank (path_in folder (string_bytes name)) (string_bytes name) file = subst (λ text. IsFileAt may folder.kind folder.rank (path_in folder text) text file) c.as_str.ensures.value c.in_ok-file_in.ensures.file in
    let next : take (index + 1) items ≡ take index items ++ name ∷ [] = one_more items index name (search rules) ∙ ap (λ n. take index items ++ n ∷ []) (sym c.name-item.is) in
    let more : AreFilesAt may folder.kind folder.rank (path_in folder) (map string_bytes (take index items ++ name ∷ [])) (files ++ file ∷ []) =
    file_more string_bytes may folder.kind folder.rank (path_in folder) (take index items) files name file c.loop-name.invariant here in
    rw (next, c.in_ok-push.ensures.items) more

pub returns-in_err-names-clause-fault : goal.returns-in_err-names-clause-fault
returns-in_err-names-clause-fault g c =
    let may = g.D.Disk.may_answer c.args.disk.now in
    let folder = c.args.folder.now in
    let fault = c.in_err-names.field-0.0 in
    handed_on (IsFaultyIn may folder) c.from_residual.result fault c.from_residual.ensures.1
    (at_folder may folder fault c.in_err-names.ensures.fault)
