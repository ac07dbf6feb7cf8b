use Rattle.std.proofs.Common.{None, Some, ap, ◌∙◌}
use Rattle.builtin_devices.specs.declared.root_files.RootFile.TheVariants.{Read}
use Rattle.eval_acts.specs.Acts.{tried}
use Rattle.eval_laws.proofs.FileImports.{as_found, by_manual, read_long}
use Rattle.eval_laws.proofs.root_files.a_file_that_was_not_read_is_noted.Goals as goal

pub returns : goal.returns
returns c = record {
  manual = λ known rule template scene manual. by_manual known rule template scene manual;
  unread = λ known rule template path scene udev is there. as_found known rule template scene path None udev is there;
  long = λ known rule template path bytes scene udev is there over. as_found known rule template scene path (Some (Read bytes)) udev is there ∙ ap tried (read_long rule bytes scene over);
}
