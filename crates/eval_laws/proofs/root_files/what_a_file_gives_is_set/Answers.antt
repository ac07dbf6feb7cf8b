use Rattle.std.proofs.Common.{Some, ap, ◌∙◌}
use Rattle.builtin_devices.specs.declared.root_files.RootFile.TheVariants.{Absent, Read}
use Rattle.eval_acts.specs.Acts.{tried}
use Rattle.eval_laws.proofs.FileImports.{as_found, read_set}
use Rattle.eval_laws.proofs.root_files.what_a_file_gives_is_set.Goals as goal

pub returns : goal.returns
returns c = record {
  set = λ known rule template path bytes scene udev is there fits. as_found known rule template scene path (Some (Read bytes)) udev is there ∙ ap tried (read_set rule bytes scene fits);
  absent = λ known rule template path scene udev is there. as_found known rule template scene path (Some Absent) udev is there;
}
