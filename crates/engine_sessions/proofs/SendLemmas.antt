-- Answers sent one after another.
use Rattle.std.proofs.Common.{◌≡◌, List, [], ◌∷◌, ◌++◌, refl, ap, sym, ◌∙◌, subst}
use Rattle.std.proofs.lemmas.List.{append-nil}
use Rattle.std.proofs.lemmas.Grind.{flat_map-append}
use Rattle.text_bytes.specs.Text.{Text}
use Rattle.engine_sessions.specs.Reported.{followed_by}
use Rattle.engine_sessions.specs.Sinks.{SinkState, HandsOn}
use Rattle.engine_sessions.proofs.Reported.{followed_by-append, followed_by-nil}
use Rattle.engine_sessions.specs.Turns.{Sends, joined}

pub hands_after : (before between now : SinkState) (first second : Text) → HandsOn before first between → HandsOn between second now → HandsOn before (first ++ second) now
hands_after before between now first second h k = record {
  taken = k.taken ∙ ap (λ shown. followed_by shown second) h.taken ∙ followed_by-append before.taken first second;
  flushed = k.flushed;
  well = k.well ∙ h.well;
}

pub sends-none : (sink : SinkState) → Sends sink [] sink
sends-none sink = refl

pub sends-one : (before now : SinkState) (text : Text) → HandsOn before text now → Sends before (text ∷ []) now
sends-one before now text h = subst (λ said. HandsOn before said now) (sym (append-nil text)) h

pub sends-more : (before between now : SinkState) (first second : List Text) → Sends before first between → Sends between second now → Sends before (first ++ second) now
sends-more before between now [] second h k = subst (λ sink. Sends sink second now) h k
sends-more before between now (text ∷ first) [] h k = subst (λ sink. Sends before (text ∷ (first ++ [])) sink) (sym k) (subst (λ texts. Sends before (text ∷ texts) between) (sym (append-nil first)) h)
sends-more before between now (text ∷ first) (next ∷ second) h k =
    subst (λ said. HandsOn before said now) (sym (flat_map-append (λ t. t) (text ∷ first) (next ∷ second))) (hands_after before between now (joined (text ∷ first)) (joined (next ∷ second)) h k)

-- what a sink that took these answers has taken, and how many of its calls failed
pub sends_taken : (before now : SinkState) (texts : List Text) → Sends before texts now → now.taken ≡ followed_by before.taken (joined texts)
sends_taken before now [] s = ap (λ sink. sink.taken) s ∙ sym (followed_by-nil before.taken)
sends_taken before now (text ∷ texts) s = s.taken

pub sends_well : (before now : SinkState) (texts : List Text) → Sends before texts now → now.faults ≡ before.faults
sends_well before now [] s = ap (λ sink. sink.faults) s
sends_well before now (text ∷ texts) s = s.well
