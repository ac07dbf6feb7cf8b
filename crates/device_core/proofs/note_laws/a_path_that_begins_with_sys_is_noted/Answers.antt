use Rattle.device_core.specs.Notes.{begins_with_sys}
use Rattle.device_core.specs.declared.kinds.BlockNoteKind.TheVariants.{PathBeginsWithSys}
use Rattle.device_core.proofs.Noting.{below_sys, noted, once, notes_are}
use Rattle.device_core.proofs.note_laws.a_path_that_begins_with_sys_is_noted.Goals as goal

pub returns : goal.returns
returns c = record {
  noted = λ event udev.
      let there = noted PathBeginsWithSys event.device.path event (begins_with_sys event.device.path) udev (notes_are PathBeginsWithSys event) in
      let below = below_sys event.device.path in
      ((λ h. below.0 (there.0 h)), λ h. there.1 (below.1 h));
  once = λ event. once PathBeginsWithSys event.device.path event (begins_with_sys event.device.path) (notes_are PathBeginsWithSys event);
}
