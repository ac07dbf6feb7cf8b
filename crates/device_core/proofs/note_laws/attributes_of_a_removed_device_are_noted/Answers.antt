use Rattle.device_core.specs.Notes.{has_gone_attributes}
use Rattle.device_core.specs.declared.kinds.BlockNoteKind.TheVariants.{GoneAttributes}
use Rattle.device_core.proofs.Noting.{gone_is, noted, notes_are, once}
use Rattle.device_core.proofs.note_laws.attributes_of_a_removed_device_are_noted.Goals as goal

pub returns : goal.returns
returns c = record {
  noted = λ event udev.
      let there = noted GoneAttributes event.device.path event (has_gone_attributes event) udev (notes_are GoneAttributes event) in
      let gone = gone_is event in
      ((λ h. gone.0 (there.0 h)), λ h. there.1 (gone.1 h));
  once = λ event. once GoneAttributes event.device.path event (has_gone_attributes event) (notes_are GoneAttributes event);
}
