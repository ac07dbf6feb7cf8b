-- From the steps of a run whose answers are findings to what it serves.
use Rattle.std.proofs.Common.{◌≡◌, ℕ, ◌≤◌, ◌<◌, ◌==◌, ◌⊎◌, inl, inr, Bool, true, false, cond, not, ◌&&◌, Result, Ok, Err, Option, Some, None, List, [], ◌∷◌, ◌++◌, length, refl, ap, sym, ◌∙◌, subst, arith}
use Rattle.std.proofs.lemmas.Bool.{eqb-true}
use Rattle.std.proofs.lemmas.List.{append-nil}
use Rattle.text_bytes.specs.Text.{Text}
use Rattle.device_core.specs.Values.{EventValue}
use Rattle.device_core.specs.declared.faults.BlockFault.{BlockFault}
use Rattle.engine_sessions.specs.Reported.{followed_by}
use Rattle.engine_sessions.specs.Sinks.{BreaksOff, HandsOn, SinkState}
use Rattle.engine_sessions.specs.Streams.{Streams, outputs}
use Rattle.engine_sessions.specs.Delivery.{IsWhole, ReportsFailure, out_of_memory}
use Rattle.engine_sessions.specs.Turns.{joined, say_something}
use Rattle.engine_sessions.specs.Answers.{answers_of}
use Rattle.engine_sessions.specs.Inputs.{AnswersInput, devices_of}
use Rattle.engine_sessions.specs.Outcomes.{answered_until, input_outcome, no_block_line, tells_none}
use Rattle.engine_sessions.specs.Serves.{Serves, SaysFault, StopsBefore, Concludes, EndsWell, WritesOut, fault_said}
use Rattle.engine_sessions.specs.declared.following.Telling.{Telling}
use Rattle.engine_sessions.specs.Findings.{FindsAll, found, status_found}
use Rattle.engine_sessions.specs.declared.session.SessionFault.TheVariants.{Block, Memory, Ended}
use Rattle.engine_sessions.specs.declared.turning.TurnFault.{TurnFault}
use Rattle.engine_sessions.specs.declared.turning.TurnFault.TheVariants.{Read, Write, Session}
use Rattle.engine_sessions.proofs.SendLemmas.{sends_taken, sends_well}
use Rattle.engine_sessions.proofs.Serving.{answers_serve, none_is, outcome_well, rest_reported, sends_output, served_none}

status_under : (telling : Telling) (messages output : Text) (count : ℕ) (fault : Option BlockFault) → (answered_until telling messages output count fault).status ≤ 1
status_under telling messages output count None = omega arith
status_under telling messages output count (Some fault) = omega arith

outcome_under : (telling : Telling) (messages : Text) (answer : EventValue → Text) (text : Text) → (input_outcome telling messages answer text).status ≤ 1
outcome_under telling messages answer text = let a = answers_of answer text in status_under telling messages (joined a.texts) (length a.texts) a.fault

-- a status that is not 0 stays, whatever is found
status_stays : (status wanted : ℕ) (none : Bool) → (status ≡ 0 → ⊥) → wanted ≤ 1 → status ≡ wanted → status ≡ cond none wanted 1
status_stays status wanted true n h e = e
status_stays status wanted false n h e = one status wanted n h e
  where
    one : (status wanted : ℕ) → (status ≡ 0 → ⊥) → wanted ≤ 1 → status ≡ wanted → status ≡ 1
    one status wanted n h e = omega (arith, n, h, e)

serves_still : (telling : Telling) (messages : Text) (answer : EventValue → Text) (status : ℕ) (before now : Streams) → (status ≡ 0 → ⊥) → Serves (input_outcome telling messages answer) status before now → Serves (λ text. found (input_outcome telling messages answer text)) status before now
serves_still telling messages answer status before now n s = record {
  read = s.read;
  pieces = s.pieces;
  whole = λ h. let w = s.whole h in
      let outcome = input_outcome telling messages answer (joined s.read) in
      record {
        output = w.output;
        messages = w.messages;
        status_is = status_stays status outcome.status (length outcome.output == 0) n (outcome_under telling messages answer (joined s.read)) w.status_is;
      };
  all = λ h text e. ap found (s.all h text e);
  cut = λ h. let c = s.cut h in record { output = c.output; after = c.after; messages = c.messages; line = c.line; line_is = c.line_is; begun = c.begun; memory = c.memory };
  failures = s.failures;
  statuses = s.statuses;
}

reports_some : (line : Text) (wanted status : ℕ) (after now : SinkState) → 0 < wanted → ReportsFailure line wanted status after now → status ≡ 0 → ⊥
reports_some line wanted status after now h (inl p) e = absurd (omega (arith, h, p.0, e))
reports_some line wanted status after now h (inr p) e = absurd (omega (arith, p.0, e))

-- no fault has the status 0
fault_some : (for_people : Bool) (fault : TurnFault) → 0 < (fault_said for_people fault).1
fault_some for_people Read = omega arith
fault_some for_people Write = omega arith
fault_some for_people (Session (Block number fault)) = omega arith
fault_some for_people (Session Memory) = omega arith
fault_some for_people (Session Ended) = omega arith

pub says_some : (for_people : Bool) (fault : TurnFault) (status : ℕ) (after now : SinkState) → SaysFault for_people fault status after now → status ≡ 0 → ⊥
says_some for_people fault status after now c = let said = fault_said for_people fault in reports_some said.0 said.1 status after now (fault_some for_people fault) c

pub stops_some : (messages : Text) (status : ℕ) (before now : Streams) → StopsBefore messages status before now → status ≡ 0 → ⊥
stops_some messages status before now s e = by s.reports
  where
    by : ((status ≡ 3) × BreaksOff before.err messages now.err) ⊎ ReportsFailure out_of_memory 4 status before.err now.err → ⊥
    by (inl p) = absurd (omega (arith, p.0, e))
    by (inr p) = reports_some out_of_memory 4 status before.err now.err (omega arith) p e

after_turn : (b : Bool) (m n : ℕ) → cond (not b) m n ≡ cond b n m
after_turn true m n = refl
after_turn false m n = refl

-- if it is told that there are no answers, none was sent
none_sent : (telling : Bool) (sent : List Text) → (telling && (length sent == 0)) ≡ true → sent ≡ []
none_sent telling [] e = refl
none_sent true (text ∷ sent) e = absurd (omega (arith, eqb-true (length (text ∷ sent)) 0 e))
none_sent false (text ∷ sent) e = absurd (cc)

low : (b : Bool) (status : ℕ) → status ≡ cond b 1 0 → status ≤ 1
low true status e = omega (arith, e)
low false status e = omega (arith, e)

module _ (telling : Telling) (messages : Text) (answer : EventValue → Text) (status : ℕ) (before now : Streams) (after : SinkState) (says : HandsOn before.err messages after) where
  found_well : (t : AnswersInput answer (Ok tt) (devices_of before) (devices_of now)) → Concludes telling t.sent (status_found t.sent) (Ok tt) status after now.err → Serves (λ text. found (input_outcome telling messages answer text)) status before now
  found_well t c = by (tells_none telling (length t.sent)) refl c
    where
      by : (none : Bool) → tells_none telling (length t.sent) ≡ none → EndsWell none (status_found t.sent) status after now.err → Serves (λ text. found (input_outcome telling messages answer text)) status before now
      by true e c =
          let empty : t.sent ≡ [] = none_sent telling.no_block t.sent e in
          let nothing : joined t.sent ≡ [] = ap joined empty in
          served_none telling messages answer status before now after says (λ text. found (input_outcome telling messages answer text)) [] t.read t.pieces t.left t.ends.none_left t.counts.well
          (subst (λ text. WritesOut before.out text now.out) nothing (sends_output before.out t.after now.out t.sent t.sends t.ends.untouched))
          (ap (λ s. s.taken) t.ends.untouched ∙ sends_taken before.out t.after t.sent t.sends ∙ ap (followed_by before.out.taken) nothing)
          (ap (λ s. s.faults) t.ends.untouched ∙ sends_well before.out t.after t.sent t.sends)
          (ap found (outcome_well telling messages answer (joined t.read) t.sent true t.ends.answers e) ∙ ap (λ text. found (record { output = text; messages = messages ++ no_block_line; status = 0 })) nothing)
          (subst (λ sent. ReportsFailure no_block_line (status_found sent) status after now.err) empty c)
      by false e c =
          let is = ap found (outcome_well telling messages answer (joined t.read) t.sent false t.ends.answers e) in
          let few : status ≤ 1 = low (say_something t.sent) status c.0 in
          record {
            read = t.read;
            pieces = t.pieces;
            whole = λ h. subst (λ o. IsWhole WritesOut o status (outputs before) (outputs now)) (sym is)
                (record { output = sends_output before.out t.after now.out t.sent t.sends t.ends.untouched; messages = rw c.1 says; status_is = c.0 ∙ after_turn (length (joined t.sent) == 0) 1 0 });
            all = λ h text e. let r = rest_reported text (joined t.read) now.input.left (sym e ∙ t.left) in
                ap (λ x. found (input_outcome telling messages answer x)) (r.2 ∙ ap (λ rest. joined t.read ++ rest) (none_is now.input.left r.0 t.ends.none_left r.1) ∙ append-nil (joined t.read));
            cut = λ h. absurd (omega (arith, h, few));
            failures = record {
              failed = λ e. absurd (omega (arith, e, few));
              well = λ h. (t.counts.well, ap (λ s. s.faults) t.ends.untouched ∙ sends_well before.out t.after t.sent t.sends, ap (λ s. s.faults) c.1 ∙ says.well);
            };
            statuses = omega (arith, few);
          }

  found_fault : (fault : TurnFault) → AnswersInput answer (Err fault) (devices_of before) (devices_of now) → SaysFault telling.for_people fault status after now.err → Serves (λ text. found (input_outcome telling messages answer text)) status before now
  found_fault fault t c = serves_still telling messages answer status before now (says_some telling.for_people fault status after now.err c) (answers_serve telling messages answer status before now (inr (record { after = after; says = says; end = Err fault; answers = t; concludes = c })))

  found_by : (end : Result (Unit {0}) TurnFault) (t : AnswersInput answer end (devices_of before) (devices_of now)) → Concludes telling t.sent (status_found t.sent) end status after now.err → Serves (λ text. found (input_outcome telling messages answer text)) status before now
  found_by (Ok done) t c = found_well t c
  found_by (Err fault) t c = found_fault fault t c

pub finds_serve : (telling : Telling) (messages : Text) (answer : EventValue → Text) (status : ℕ) (before now : Streams) → FindsAll telling messages answer status before now → Serves (λ text. found (input_outcome telling messages answer text)) status before now
finds_serve telling messages answer status before now (inl s) = serves_still telling messages answer status before now (stops_some messages status before now s) (answers_serve telling messages answer status before now (inl s))
finds_serve telling messages answer status before now (inr b) = found_by telling messages answer status before now b.after b.says b.end b.answers b.concludes
