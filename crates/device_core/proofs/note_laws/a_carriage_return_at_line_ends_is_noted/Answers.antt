use Rattle.std.proofs.Common.{ap, ◌∙◌}
use Rattle.text_bytes.specs.Names.{carriage_return}
use Rattle.text_bytes.specs.Texts.{ends_in}
use Rattle.device_core.specs.Notes.{note_if}
use Rattle.device_core.specs.declared.kinds.BlockNoteKind.TheVariants.{ReturnAtEnds}
use Rattle.device_core.proofs.Noting.{ends_so, none_by, noted, notes_are, so_by}
use Rattle.device_core.proofs.note_laws.a_carriage_return_at_line_ends_is_noted.Goals as goal

pub returns : goal.returns
returns c = record {
  noted = λ event front udev is.
      (noted ReturnAtEnds event.device.path event (ends_in carriage_return event.device.path) udev (notes_are ReturnAtEnds event)).1
      (ap (ends_in carriage_return) is ∙ ends_so front);
  none = λ event other.
      notes_are ReturnAtEnds event ∙ ap (λ t. note_if (so_by event.profile t) ReturnAtEnds event.device.path) other
      ∙ ap (λ t. note_if t ReturnAtEnds event.device.path) (none_by event.profile);
}
