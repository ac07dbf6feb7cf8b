use Rattle.std.proofs.Common.{◌∙◌, ap, filter_map, map, sym, Some}
use Rattle.builtin_devices.specs.Files.{file_below}
use Rattle.builtin_devices.specs.Folders.{file_of, files_in, with_files}
use Rattle.builtin_devices.proofs.Gathered.{one_file}
use Rattle.builtin_devices.proofs.folders.described_folders.Goals as goal

pub loop-path-init : goal.loop-path-init
loop-path-init c = λ folder among marked.
    ap (with_files folder (map file_of c.into_iter-path-iterator.result)) (c.in_ok-folders.ensures folder among)
    ∙ ap (λ files. Some (filter_map (file_below folder) files))
    (ap (map file_of) (c.into_iter-path-iterator.ensures.into_iter_gives ∙ c.iter-path-items.ensures.rest) ∙ c.as_map.ensures ∙ c.constants.ensures)

pub loop-path-preserved : goal.loop-path-preserved
loop-path-preserved c = λ folder among marked.
    ap (with_files folder (map file_of c.next.new.self)) (c.in_ok-add_file.ensures folder marked)
    ∙ one_file folder (c.in-Some.path.now.now, c.in-Some.text.now.now) (map file_of c.next.new.self) (files_in c.loop-path.folders folder)
    ∙ ap (λ files. with_files folder (map file_of files) (files_in c.loop-path.folders folder)) (sym c.in-Some.ensures.steps)
    ∙ c.loop-path.invariant folder among marked
