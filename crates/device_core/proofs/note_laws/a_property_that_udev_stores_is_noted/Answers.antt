use Rattle.std.proofs.Common.{codes}
use Rattle.device_core.specs.Notes.{is_stored_by_udev}
use Rattle.device_core.specs.declared.kinds.BlockNoteKind.TheVariants.{StoredByUdev}
use Rattle.device_core.proofs.Noting.{noted, once, stored_is, notes_are}
use Rattle.device_core.proofs.note_laws.a_property_that_udev_stores_is_noted.Goals as goal

pub returns : goal.returns
returns c = record {
  noted = λ event udev.
      let there = noted StoredByUdev (codes "USEC_INITIALIZED") event (is_stored_by_udev event) udev (notes_are StoredByUdev event) in
      let stored = stored_is event in
      ((λ h. stored.0 (there.0 h)), λ h. there.1 (stored.1 h));
  once = λ event. once StoredByUdev (codes "USEC_INITIALIZED") event (is_stored_by_udev event) (notes_are StoredByUdev event);
}
