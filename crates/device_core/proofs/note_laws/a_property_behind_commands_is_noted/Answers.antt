use Rattle.std.proofs.Common.{◌≡◌, [], ◌∷◌, Option, unwrap_or, subst, ap, ◌∙◌, ◌↔◌, ◌≢◌}
use Rattle.text_bytes.specs.Text.{Text}
use Rattle.device_core.specs.Laws.{notes_of}
use Rattle.device_core.specs.Notes.{is_behind_commands, note_about, note_if}
use Rattle.device_core.specs.declared.kinds.BlockNoteKind.TheVariants.{BehindCommands}
use Rattle.device_core.proofs.Noting.{behind_is, notes_are, none_behind, none_by, noted, once, so_by}
use Rattle.device_core.proofs.note_laws.a_property_behind_commands_is_noted.Goals as goal

pub returns : goal.returns
returns c = record {
  noted = λ event name udev is.
      let there = noted BehindCommands (unwrap_or event.misplaced []) event (is_behind_commands event) udev (notes_are BehindCommands event) in
      let behind = behind_is event name is in
      subst (λ (o : Option Text). (notes_of BehindCommands event ≡ note_about BehindCommands (unwrap_or o []) ∷ []) ↔ (event.parents ≢ [])) is
      ((λ h. behind.0 (there.0 h)), λ h. there.1 (behind.1 h));
  none = λ event is.
      notes_are BehindCommands event ∙ ap (λ t. note_if (so_by event.profile t) BehindCommands (unwrap_or event.misplaced [])) (none_behind event is)
      ∙ ap (λ t. note_if t BehindCommands (unwrap_or event.misplaced [])) (none_by event.profile);
  once = λ event. once BehindCommands (unwrap_or event.misplaced []) event (is_behind_commands event) (notes_are BehindCommands event);
}
