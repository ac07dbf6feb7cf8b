-- From the steps of a run that ends with a text about all of its input to what it serves.
use Rattle.std.proofs.Common.{◌≡◌, ℕ, Bool, true, false, inl, inr, cond, Result, Ok, Err, List, [], ◌∷◌, ◌++◌, length, refl, ap, sym, ◌∙◌, subst, arith}
use Rattle.std.proofs.lemmas.Bool.{ne_eqb}
use Rattle.std.proofs.lemmas.List.{append-nil}
use Rattle.text_bytes.specs.Text.{Text}
use Rattle.device_core.specs.Values.{EventValue}
use Rattle.engine_sessions.specs.Counts.{Counts}
use Rattle.engine_sessions.specs.Sinks.{BreaksOff, HandsOn, HasBegun, SinkState}
use Rattle.engine_sessions.specs.Streams.{Streams, outputs}
use Rattle.engine_sessions.specs.Delivery.{IsWhole, ReportsFailure, RunOutcome, out_of_memory, write_failed}
use Rattle.engine_sessions.specs.Turns.{Sends, joined}
use Rattle.engine_sessions.specs.Inputs.{AnswersInput, Devices, devices_of}
use Rattle.engine_sessions.specs.Outcomes.{input_outcome, no_block_line, tells_none}
use Rattle.engine_sessions.specs.Serves.{EndsWell, IsCutShort, ReportsFailures, SaysFault, Serves, WritesOut}
use Rattle.engine_sessions.specs.declared.following.Telling.{Telling}
use Rattle.engine_sessions.specs.Tallies.{ConcludesSaying, SaysAll, SaysLast, with_said}
use Rattle.engine_sessions.specs.declared.turning.TurnFault.{TurnFault}
use Rattle.engine_sessions.proofs.FindServing.{says_some, stops_some}
use Rattle.engine_sessions.proofs.SendLemmas.{hands_after, sends_taken, sends_well}
use Rattle.engine_sessions.proofs.Serving.{answers_serve, at_memory, begun-first, begun-following, begun-taken, cut_by, memory_most, memory_status, none_is, not_four, not_under, none_first, outcome_well, reports_begun, rest_reported, served_none}

-- what is sent, and a text after it
sends_then : (before after now : SinkState) (sent : List Text) (text : Text) → Sends before sent after → HandsOn after text now → HandsOn before (joined sent ++ text) now
sends_then before after now [] text s h = subst (λ sink. HandsOn sink text now) s h
sends_then before after now (first ∷ sent) text s h = hands_after before after now (joined (first ∷ sent)) text s h

-- nothing is said if a block is faulty
none_said : (text : Text) (outcome : RunOutcome) → (outcome.status ≡ 0 → ⊥) → with_said text outcome ≡ outcome
none_said text outcome n =
    ap (λ b. record { output = outcome.output ++ cond b text []; messages = outcome.messages; status = outcome.status }) (ne_eqb outcome.status 0 n)
    ∙ ap (λ o. record { output = o; messages = outcome.messages; status = outcome.status }) (append-nil outcome.output)

module _ (telling : Telling) (messages : Text) (answer : EventValue → Text) (says : Text → Text) (status : ℕ) (before now : Streams) where
  abbrev outcome : Text → RunOutcome
  outcome text = with_said (says text) (input_outcome telling messages answer text)

  still_is : (text : Text) → (status ≡ 0 → ⊥) → status ≡ (input_outcome telling messages answer text).status → outcome text ≡ input_outcome telling messages answer text
  still_is text n e = none_said (says text) (input_outcome telling messages answer text) (λ z. n (e ∙ z))

  said_still : (status ≡ 0 → ⊥) → Serves (input_outcome telling messages answer) status before now → Serves outcome status before now
  said_still n s = record {
    read = s.read;
    pieces = s.pieces;
    whole = λ h. let w = s.whole h in subst (λ o. IsWhole WritesOut o status (outputs before) (outputs now)) (sym (still_is (joined s.read) n w.status_is)) w;
    all = λ h text e. let w = s.whole h in let same = s.all h text e in
        still_is text n (w.status_is ∙ ap (λ o. o.status) (sym same)) ∙ same ∙ sym (still_is (joined s.read) n w.status_is);
    cut = λ h. let c = s.cut h in
        let inner : RunOutcome = input_outcome telling messages answer (joined s.read) in
        record { output = begun-first before.out now.out inner.output _ c.output; after = c.after; messages = c.messages; line = c.line; line_is = c.line_is; begun = c.begun; memory = c.memory };
    failures = s.failures;
    statuses = s.statuses;
  }

  module _ (after out : SinkState) (written : HandsOn before.err messages after) where
    abbrev At : SinkState → Devices
    At sink = record { input = now.input; output = sink }

    abbrev whole_by : (none : Bool) (t : AnswersInput answer (Ok tt) (devices_of before) (At out)) → RunOutcome
    whole_by none t = record { output = joined t.sent ++ says (joined t.read); messages = cond none (messages ++ no_block_line) messages; status = 0 }

    outcome_by : (none : Bool) (t : AnswersInput answer (Ok tt) (devices_of before) (At out)) → tells_none telling (length t.sent) ≡ none → outcome (joined t.read) ≡ whole_by none t
    outcome_by none t e = ap (with_said (says (joined t.read))) (outcome_well telling messages answer (joined t.read) t.sent none t.ends.answers e)

    abbrev whole_is : (t : AnswersInput answer (Ok tt) (devices_of before) (At out)) → RunOutcome
    whole_is t = whole_by (tells_none telling (length t.sent)) t

    outcome_is : (t : AnswersInput answer (Ok tt) (devices_of before) (At out)) → outcome (joined t.read) ≡ whole_is t
    outcome_is t = outcome_by (tells_none telling (length t.sent)) t refl

    messages_first : (t : AnswersInput answer (Ok tt) (devices_of before) (At out)) → HasBegun before.err (whole_is t).messages after
    messages_first t = none_first (tells_none telling (length t.sent)) messages before.err after (begun-taken before.err after messages written.taken)

    sent_all : (t : AnswersInput answer (Ok tt) (devices_of before) (At out)) → Sends before.out t.sent out
    sent_all t = subst (λ sink. Sends before.out t.sent sink) (sym t.ends.untouched) t.sends

    said_well : (t : AnswersInput answer (Ok tt) (devices_of before) (At out)) → HandsOn out (says (joined t.read)) now.out → (none : Bool) → tells_none telling (length t.sent) ≡ none → EndsWell none 0 status after now.err → Serves outcome status before now
    said_well t h true k c =
        let all : HandsOn before.out (joined t.sent ++ says (joined t.read)) now.out = sends_then before.out out now.out t.sent (says (joined t.read)) (sent_all t) h in
        served_none telling messages answer status before now after written outcome (joined t.sent ++ says (joined t.read)) t.read t.pieces t.left t.ends.none_left t.counts.well (inl all) all.taken all.well (outcome_by true t k) c
    said_well t h false k c = record {
      read = t.read;
      pieces = t.pieces;
      whole = λ l. subst (λ o. IsWhole WritesOut o status (outputs before) (outputs now)) (sym (outcome_by false t k))
          (record { output = inl (sends_then before.out out now.out t.sent (says (joined t.read)) (sent_all t) h); messages = rw c.1 written; status_is = c.0 });
      all = λ l text k. let r = rest_reported text (joined t.read) now.input.left (sym k ∙ t.left) in
          ap outcome (r.2 ∙ ap (λ rest. joined t.read ++ rest) (none_is now.input.left r.0 t.ends.none_left r.1) ∙ append-nil (joined t.read));
      cut = λ l. absurd (omega (arith, l, c.0));
      failures = record {
        failed = λ l. absurd (omega (arith, l, c.0));
        well = λ l. (t.counts.well, h.well ∙ sends_well before.out out t.sent (sent_all t), ap (λ s. s.faults) c.1 ∙ written.well);
      };
      statuses = omega (arith, c.0);
    }

    three : (line : Text) → ReportsFailure line 3 status after now.err → status ≡ 3
    three line (inl p) = p.0
    three line (inr p) = p.0

    said_broken : (t : AnswersInput answer (Ok tt) (devices_of before) (At out)) → BreaksOff out (says (joined t.read)) now.out → ReportsFailure write_failed 3 status after now.err → status ≡ 3 → Serves outcome status before now
    said_broken t b c e = record {
      read = t.read;
      pieces = t.pieces;
      whole = not_under status (omega (arith, e));
      all = not_under status (omega (arith, e));
      cut = λ h. subst (λ o. IsCutShort o status before now) (sym (outcome_is t))
          (cut_by (whole_is t) status before now after write_failed (inr (inr (inl refl)))
          (begun-following before.out out now.out (joined t.sent) (says (joined t.read)) (sends_taken before.out out t.sent (sent_all t)) b.taken)
          (messages_first t) (reports_begun write_failed 3 status after now.err c) (not_four status e));
      failures = record {
        failed = λ f. inr (inl (subst (λ n. Counts 1 n now.out.faults) (sends_well before.out out t.sent (sent_all t)) b.failed));
        well = λ h. absurd (h e);
      };
      statuses = omega (arith, e);
    }

    refused_failures : (reads : ℕ) → ReportsFailure out_of_memory 4 status after now.err → now.input.faults ≡ before.input.faults → now.out.faults ≡ before.out.faults → ReportsFailures status reads before now
    refused_failures reads (inl p) e f = record { failed = λ g. not_four status g p.0; well = λ h. (e, f, p.1.well ∙ written.well) }
    refused_failures reads (inr p) e f = record { failed = λ g. inr (inr (inl (subst (λ n. Counts 1 n now.err.faults) written.well p.1.failed))); well = λ h. absurd (h p.0) }

    said_refused : (t : AnswersInput answer (Ok tt) (devices_of before) (At out)) → now.out ≡ out → ReportsFailure out_of_memory 4 status after now.err → Serves outcome status before now
    said_refused t e c = record {
      read = t.read;
      pieces = t.pieces;
      whole = not_under status (memory_status status after now.err c);
      all = not_under status (memory_status status after now.err c);
      cut = λ h. subst (λ o. IsCutShort o status before now) (sym (outcome_is t))
          (cut_by (whole_is t) status before now after out_of_memory (inr (inr (inr refl)))
          (begun-first before.out now.out (joined t.sent) (says (joined t.read)) (begun-taken before.out now.out (joined t.sent) (ap (λ s. s.taken) e ∙ sends_taken before.out out t.sent (sent_all t))))
          (messages_first t) (reports_begun out_of_memory 4 status after now.err c) (at_memory status after now.err c));
      failures = refused_failures (length t.read) c t.counts.well (ap (λ s. s.faults) e ∙ sends_well before.out out t.sent (sent_all t));
      statuses = memory_most status after now.err c;
    }

    said_last : (t : AnswersInput answer (Ok tt) (devices_of before) (At out)) → SaysLast (tells_none telling (length t.sent)) (says (joined t.read)) status out now.out after now.err → Serves outcome status before now
    said_last t (inl p) = said_well t p.0 (tells_none telling (length t.sent)) refl p.1
    said_last t (inr (inl p)) = said_broken t p.0 p.1 (three write_failed p.1)
    said_last t (inr (inr p)) = said_refused t p.0 p.1

    said_fault : (fault : TurnFault) → AnswersInput answer (Err fault) (devices_of before) (At out) → now.out ≡ out → SaysFault telling.for_people fault status after now.err → Serves outcome status before now
    said_fault fault t e c =
        let all : AnswersInput answer (Err fault) (devices_of before) (devices_of now) = subst (λ sink. AnswersInput answer (Err fault) (devices_of before) (At sink)) (sym e) t in
        said_still (says_some telling.for_people fault status after now.err c) (answers_serve telling messages answer status before now (inr (record { after = after; says = written; end = Err fault; answers = all; concludes = c })))

    said_by : (end : Result (Unit {0}) TurnFault) (t : AnswersInput answer end (devices_of before) (At out)) → ConcludesSaying telling t.sent end (says (joined t.read)) status out now.out after now.err → Serves outcome status before now
    said_by (Ok done) t c = said_last t c
    said_by (Err fault) t c = said_fault fault t c.0 c.1

-- from the steps of a run that ends with a text to what it serves
pub said_serve : (telling : Telling) (messages : Text) (answer : EventValue → Text) (says : Text → Text) (status : ℕ) (before now : Streams) → SaysAll telling messages answer says status before now
    → Serves (λ text. with_said (says text) (input_outcome telling messages answer text)) status before now
said_serve telling messages answer says status before now (inl s) = said_still telling messages answer says status before now (stops_some messages status before now s) (answers_serve telling messages answer status before now (inl s))
said_serve telling messages answer says status before now (inr b) = said_by telling messages answer says status before now b.after b.out b.written b.end b.answers b.concludes

-- the same, of a text that is said in another way
pub said_as : (telling : Telling) (messages : Text) (answer : EventValue → Text) (says other : Text → Text) (status : ℕ) (before now : Streams) → says ≡ other → SaysAll telling messages answer says status before now → SaysAll telling messages answer other status before now
said_as telling messages answer says other status before now e s = subst (λ (f : Text → Text). SaysAll telling messages answer f status before now) e s
