use Rattle.std.proofs.Common.{◌≡◌, ◌≢◌, ℕ, Bool, true, false, cond, [], ◌∷◌, refl, ap, ◌∙◌}
use Rattle.device_core.specs.Values.{EventValue}
use Rattle.device_core.specs.Notes.{note_about, note_if}
use Rattle.device_core.specs.Tried.{lacks_event}
use Rattle.device_core.specs.declared.kinds.BlockNoteKind.TheVariants.{NoSubsystem}
use Rattle.device_core.proofs.Noting.{notes_are, lacks_is}
use Rattle.device_core.proofs.note_laws.a_device_without_an_event_is_noted.Goals as goal

there : (event : EventValue) (rule : ℕ) (lacks : Bool) → cond lacks [] (rule ∷ []) ≡ [] → note_if lacks NoSubsystem event.device.path ≡ note_about NoSubsystem event.device.path ∷ []
there event rule true h = refl
there event rule false h = cc

absent : (event : EventValue) (rule : ℕ) (lacks : Bool) → cond lacks [] (rule ∷ []) ≢ [] → note_if lacks NoSubsystem event.device.path ≡ []
absent event rule true h = absurd (h refl)
absent event rule false h = refl

pub returns : goal.returns
returns c = record {
  noted = λ event rule h. notes_are NoSubsystem event ∙ ap (λ is_so. note_if is_so NoSubsystem event.device.path) (lacks_is event) ∙ there event rule (lacks_event event) h;
  none = λ event rule h. notes_are NoSubsystem event ∙ ap (λ is_so. note_if is_so NoSubsystem event.device.path) (lacks_is event) ∙ absent event rule (lacks_event event) h;
}
