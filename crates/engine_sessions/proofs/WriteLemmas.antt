-- What is written of texts, one after another.
use Rattle.std.proofs.Common.{◌≡◌, inl, inr, [], ◌∷◌, ◌++◌, refl, ap, sym, ◌∙◌, subst}
use Rattle.std.proofs.lemmas.List.{append-nil}
use Rattle.text_bytes.specs.Text.{Text}
use Rattle.engine_sessions.specs.Reported.{followed_by}
use Rattle.engine_sessions.specs.Sinks.{HandsOn, SinkState}
use Rattle.engine_sessions.proofs.Reported.{followed_by-nil}
use Rattle.engine_sessions.specs.Serves.{HasFlushed, WritesOut}
use Rattle.engine_sessions.proofs.SendLemmas.{hands_after}

pub writes-none : (sink : SinkState) → WritesOut sink [] sink
writes-none sink = inr (refl, refl)

pub writes-one : (before now : SinkState) (text : Text) → HandsOn before text now → WritesOut before (text ++ []) now
writes-one before now text h = inl (subst (λ said. HandsOn before said now) (sym (append-nil text)) h)

pub writes-after : (before middle now : SinkState) (first second : Text) → WritesOut before first middle → WritesOut middle second now → WritesOut before (first ++ second) now
writes-after before middle now first second (inl h) (inl k) = inl (hands_after before middle now first second h k)
writes-after before middle now first second (inl h) (inr q) =
    inl (subst (λ sink. HandsOn before (first ++ second) sink) (sym q.1) (subst (λ text. HandsOn before text middle) (sym (ap (λ text. first ++ text) q.0 ∙ append-nil first)) h))
writes-after before middle now first second (inr p) v =
    subst (λ text. WritesOut before text now) (sym (ap (λ text. text ++ second) p.0)) (subst (λ sink. WritesOut sink second now) p.1 v)

-- what a sink that a text was written to has taken, and how many of its calls failed
pub writes_taken : (before now : SinkState) (text : Text) → WritesOut before text now → now.taken ≡ followed_by before.taken text
writes_taken before now text (inl h) = h.taken
writes_taken before now text (inr p) = ap (λ sink. sink.taken) p.1 ∙ sym (followed_by-nil before.taken) ∙ ap (followed_by before.taken) (sym p.0)

pub writes_well : (before now : SinkState) (text : Text) → WritesOut before text now → now.faults ≡ before.faults
writes_well before now text (inl h) = h.well
writes_well before now text (inr p) = ap (λ sink. sink.faults) p.1

first_empty : (first second : Text) → first ++ second ≡ [] → first ≡ []
first_empty [] second e = refl
first_empty (byte ∷ first) second e = absurd cc

-- what was written first is flushed first
pub flushed_first : (before after now : SinkState) (first second : Text) → now.flushed ≡ after.flushed → WritesOut before (first ++ second) after → HasFlushed before first now
flushed_first before after now first second e (inl h) = inr (second, e ∙ h.flushed ∙ h.taken)
flushed_first before after now first second e (inr p) = inl (first_empty first second p.0)
