use Rattle.device_core.specs.Notes.{actions, is_unknown_action}
use Rattle.device_core.specs.declared.kinds.BlockNoteKind.TheVariants.{UnknownAction}
use Rattle.device_core.proofs.Noting.{notes_are, none_of, noted, once}
use Rattle.device_core.proofs.note_laws.an_action_that_udev_does_not_have_is_noted.Goals as goal

pub returns : goal.returns
returns c = record {
  noted = λ event udev.
      let there = noted UnknownAction event.action event (is_unknown_action event.action) udev (notes_are UnknownAction event) in
      let none = none_of actions event.action in
      ((λ h. none.0 (there.0 h)), λ h. there.1 (none.1 h));
  once = λ event. once UnknownAction event.action event (is_unknown_action event.action) (notes_are UnknownAction event);
}
