-- What a listener was told over several turns.
use Rattle.std.proofs.Common.{◌≡◌, ℕ, ◌+◌, ◌≤◌, ◌==◌, ◌||◌, Bool, true, false, List, [], ◌∷◌, ◌++◌, length, Ok, Err, refl, ap, sym, ◌∙◌, subst}
use Rattle.text_bytes.specs.Text.{Text}
use Rattle.device_core.specs.Values.{EventValue}
use Rattle.device_core.specs.RunBlocks.{most_bytes}
use Rattle.engine_sessions.specs.Sinks.{SinkState}
use Rattle.engine_sessions.specs.Sources.{SourceState}
use Rattle.engine_sessions.specs.Sessions.{Held, opened}
use Rattle.engine_sessions.specs.Turns.{TurnFailsBy, joined}
use Rattle.engine_sessions.specs.Inputs.{most_turns}
use Rattle.engine_sessions.specs.Holding.{TurnsTold}
use Rattle.engine_sessions.specs.Tallies.{HearsInput, IsTold}
use Rattle.engine_sessions.specs.declared.turning.TurnFault.{TurnFault}
use Rattle.engine_sessions.specs.declared.turning.TurnFault.TheVariants.{Read}
use Rattle.engine_sessions.proofs.TurnLemmas.{at}
use Rattle.engine_sessions.proofs.ReadPieces.{joined-push, shown}
use Rattle.engine_sessions.proofs.FindingLemmas.{ServedFinding, finding_at_start, finding_at_start_read, finding_failed, finding_finished, finding_finished_read, finding_more, finding_more_read, finding_used_up}
use Rattle.engine_sessions.proofs.ToldText.{told_more}

-- some turns, and what a listener was told in them
pub record Heard {A : Type 0} (answer : EventValue → Text) (first : Held A) (input now : SourceState) (output sink : SinkState) (session : Held A) (turns : ℕ) (finds : Bool) (old new : Text → Text) : Type 0 where
  pub finding : ServedFinding answer first input now output sink session turns finds
  pub told : IsTold old new (joined finding.served.read)

pub heard_at_start : {A : Type 0} (answer : EventValue → Text) (session : Held A) (input : SourceState) (output : SinkState) (says : Text → Text) → session ≡ opened session.answering → Heard answer session input input output output session 0 false says says
heard_at_start answer session input output says e = record {
  finding = finding_at_start answer session input output e;
  told = subst (λ read. IsTold says says (joined read)) (sym (finding_at_start_read answer session input output e)) (λ rest. refl);
}

-- what was told with one more piece
pushed : (old now next : Text → Text) (read : List Text) (piece : Text) → IsTold old now (joined read) → IsTold now next piece → IsTold old next (joined (read ++ piece ∷ []))
pushed old now next read piece h k rest = told_more old now next (joined read) piece h k rest ∙ ap (λ text. old (text ++ rest)) (sym (joined-push read piece))

pub heard_more : {A : Type 0} (answer : EventValue → Text) (first session next : Held A) (input now later : SourceState) (output sink sink_later : SinkState) (turns : ℕ) (finds says : Bool) (old new newer : Text → Text)
    → Heard answer first input now output sink session turns finds old new → TurnsTold answer (IsTold new newer) true says (at session now sink) (at next later sink_later) → length next.pending ≤ most_bytes
    → Heard answer first input later output sink_later next (turns + 1) (finds || says) old newer
heard_more answer first session next input now later output sink sink_later turns finds says old new newer s t fits = record {
  finding = finding_more answer first session next input now later output sink sink_later turns finds says s.finding t.finding fits;
  told = subst (λ read. IsTold old newer (joined read)) (sym (finding_more_read answer first session next input now later output sink sink_later turns finds says s.finding t.finding fits))
      (pushed old new newer s.finding.served.read t.finding.turn.piece s.told t.told);
}

pub heard_finished : {A : Type 0} (answer : EventValue → Text) (first session next : Held A) (input now later : SourceState) (output sink sink_later : SinkState) (turns : ℕ) (finds says none : Bool) (old new newer : Text → Text)
    → Heard answer first input now output sink session turns finds old new → TurnsTold answer (IsTold new newer) false says (at session now sink) (at next later sink_later) → none ≡ (next.answered == 0)
    → HearsInput answer old newer (Ok (record { no_block = none; finds = finds || says })) (shown input output) (shown later sink_later)
heard_finished answer first session next input now later output sink sink_later turns finds says none old new newer s t e = record {
  finds = finding_finished answer first session next input now later output sink sink_later turns finds says none s.finding t.finding e;
  told = subst (λ read. IsTold old newer (joined read)) (sym (finding_finished_read answer first session next input now later output sink sink_later turns finds says none s.finding t.finding e))
      (pushed old new newer s.finding.served.read t.finding.turn.piece s.told t.told);
}

pub heard_failed : {A : Type 0} (answer : EventValue → Text) (fault : TurnFault) (first session next : Held A) (input now later : SourceState) (output sink sink_later : SinkState) (turns : ℕ) (finds : Bool) (old new newer : Text → Text)
    → Heard answer first input now output sink session turns finds old new → TurnFailsBy answer fault (at session now sink) (at next later sink_later)
    → HearsInput answer old newer (Err fault) (shown input output) (shown later sink_later)
heard_failed answer fault first session next input now later output sink sink_later turns finds old new newer s f = record { finds = finding_failed answer fault first session next input now later output sink sink_later turns finds s.finding f; told = tt }

pub heard_used_up : {A : Type 0} (answer : EventValue → Text) (first session : Held A) (input now : SourceState) (output sink : SinkState) (finds : Bool) (old new : Text → Text)
    → Heard answer first input now output sink session most_turns finds old new → HearsInput answer old new (Err Read) (shown input output) (shown now sink)
heard_used_up answer first session input now output sink finds old new s = record { finds = finding_used_up answer first session input now output sink finds s.finding; told = tt }
