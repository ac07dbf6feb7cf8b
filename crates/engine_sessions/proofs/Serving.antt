-- From the steps of a run to what it serves.
use Rattle.std.proofs.Common.{◌≡◌, ℕ, Bool, true, false, cond, ◌+◌, ◌≤◌, ◌<◌, ◌⊎◌, inl, inr, length, take, Option, None, Some, List, [], ◌∷◌, ◌++◌, refl, Result, Ok, Err, length-append, ap, sym, ◌∙◌, subst, arith}
use Rattle.std.proofs.lemmas.Bool.{cases_lt}
use Rattle.std.proofs.lemmas.List.{append-nil, take-append-le}
use Rattle.std.proofs.lemmas.Grind.{flat_map-append}
use Rattle.std.proofs.Math.Seq.{take-append-add, take-length}
use Rattle.text_bytes.specs.Text.{Text}
use Rattle.device_core.specs.Runs.{complete_runs, rest_of, not_empty}
use Rattle.device_core.specs.Values.{EventValue}
use Rattle.device_core.specs.declared.faults.BlockFault.{BlockFault}
use Rattle.engine_sessions.specs.Reported.{followed_by, led_by, NoneLeft}
use Rattle.engine_sessions.specs.Counts.{Counts}
use Rattle.engine_sessions.specs.Sinks.{BreaksOff, HandsOn, HasBegun, SinkState}
use Rattle.engine_sessions.specs.Streams.{Streams, outputs}
use Rattle.engine_sessions.proofs.Reported.{followed_by-append, followed_by-nil}
use Rattle.engine_sessions.specs.Answers.{answers_to, answers_of, well, number_after}
use Rattle.engine_sessions.specs.Turns.{Sends, joined}
use Rattle.engine_sessions.specs.declared.session.SessionFault.TheVariants.{Block, Memory, Ended}
use Rattle.engine_sessions.specs.declared.turning.TurnFault.{TurnFault}
use Rattle.engine_sessions.specs.declared.turning.TurnFault.TheVariants.{Read, Write, Session}
use Rattle.engine_sessions.proofs.AnswerLemmas.{answers_to-append}
use Rattle.engine_sessions.proofs.LawLemmas.{until}
use Rattle.engine_sessions.proofs.SendLemmas.{hands_after, sends_taken, sends_well}
use Rattle.engine_sessions.specs.Delivery.{Delivers, IsWhole, ReportsFailure, RunOutcome, out_of_memory, write_failed}
use Rattle.engine_sessions.specs.BlockFaults.{block_said}
use Rattle.engine_sessions.specs.Inputs.{AnswersInput, devices_of}
use Rattle.engine_sessions.specs.Outcomes.{answered, answered_until, input_outcome, no_block_line, tells_none}
use Rattle.engine_sessions.specs.Serves.{read_failed, WritesOut, IsStatusLine, IsCutShort, ReportsFailures, SaysFault, Serves, Concludes, EndsWell, StopsBefore, AnswersAll, Reports}
use Rattle.engine_sessions.specs.declared.following.Telling.{Telling}

pub not_four : (status : ℕ) {P : Type 0} → status ≡ 3 → status ≡ 4 → P
not_four status e f = absurd (omega (arith, e, f))

pub not_under : (status : ℕ) {P : Type 0} → 3 ≤ status → status < 3 → P
not_under status h k = absurd (omega (arith, h, k))

pub begun-none : (sink : SinkState) (text : Text) → HasBegun sink text sink
begun-none sink text = (0, omega arith, sym (followed_by-nil sink.taken))

begun-same : (before now : SinkState) (text : Text) → now ≡ before → HasBegun before text now
begun-same before now text e = rw e (begun-none before text)

pub begun-taken : (before now : SinkState) (text : Text) → now.taken ≡ followed_by before.taken text → HasBegun before text now
begun-taken before now text e = (length text, omega arith, e ∙ ap (followed_by before.taken) (sym (take-length text)))

pub begun-first : (before now : SinkState) (first second : Text) → HasBegun before first now → HasBegun before (first ++ second) now
begun-first before now first second b = (b.0, omega (arith, b.1, length-append first second), b.2 ∙ ap (followed_by before.taken) (sym (take-append-le b.0 first second b.1)))

pub begun-following : (before after now : SinkState) (first second : Text) → after.taken ≡ followed_by before.taken first → HasBegun after second now → HasBegun before (first ++ second) now
begun-following before after now first second e b = (
  length first + b.0,
  omega (arith, b.1, length-append first second),
  b.2 ∙ ap (λ t. followed_by t (take b.0 second)) e ∙ followed_by-append before.taken first (take b.0 second) ∙ ap (followed_by before.taken) (sym (take-append-add first second b.0)),
)

pub reports_begun : (line : Text) (wanted status : ℕ) (after now : SinkState) → ReportsFailure line wanted status after now → HasBegun after line now
reports_begun line wanted status after now (inl p) = begun-taken after now line p.1.taken
reports_begun line wanted status after now (inr p) = p.1.taken

-- a run that is cut short, by the line that says about it
pub cut_by : (outcome : RunOutcome) (status : ℕ) (before now : Streams) (after : SinkState) (line : Text) → IsStatusLine line → HasBegun before.out outcome.output now.out → HasBegun before.err outcome.messages after → HasBegun after line now.err
    → (status ≡ 4 → HandsOn after out_of_memory now.err) → IsCutShort outcome status before now
cut_by outcome status before now after line is output messages begun memory = record { output = output; after = after; messages = messages; line = line; line_is = is; begun = begun; memory = memory }

pub at_memory : (status : ℕ) (after now : SinkState) → ReportsFailure out_of_memory 4 status after now → status ≡ 4 → HandsOn after out_of_memory now
at_memory status after now (inl p) e = p.1
at_memory status after now (inr p) e = not_four status p.0 e

pub memory_status : (status : ℕ) (after now : SinkState) → ReportsFailure out_of_memory 4 status after now → 3 ≤ status
memory_status status after now (inl p) = omega (arith, p.0)
memory_status status after now (inr p) = omega (arith, p.0)

pub memory_most : (status : ℕ) (after now : SinkState) → ReportsFailure out_of_memory 4 status after now → status ≤ 4
memory_most status after now (inl p) = omega (arith, p.0)
memory_most status after now (inr p) = omega (arith, p.0)

-- what was refused
pub refused_cut : (outcome : RunOutcome) (status : ℕ) (before now : Streams) → now.out ≡ before.out → ReportsFailure out_of_memory 4 status before.err now.err → IsCutShort outcome status before now
refused_cut outcome status before now untouched reports =
    cut_by outcome status before now before.err out_of_memory (inr (inr (inr refl))) (begun-same before.out now.out outcome.output untouched) (begun-none before.err outcome.messages) (reports_begun out_of_memory 4 status before.err now.err reports) (at_memory status before.err now.err reports)

-- what the error output broke off in
pub messages_cut : (outcome : RunOutcome) (status : ℕ) (before now : Streams) → now.out ≡ before.out → status ≡ 3 → HasBegun before.err outcome.messages now.err → IsCutShort outcome status before now
messages_cut outcome status before now untouched e begun =
    cut_by outcome status before now now.err [] (inl refl) (begun-same before.out now.out outcome.output untouched) begun (begun-none now.err []) (not_four status e)

report_cut : (outcome : RunOutcome) (status : ℕ) (before now : Streams) → Delivers outcome status (outputs before) (outputs now) → (status ≡ 3) ⊎ (status ≡ 4) → IsCutShort outcome status before now
report_cut outcome status before now d (inl e) = elim (d.failed e) [
  | inl f ↦ messages_cut outcome status before now f.untouched e f.messages.taken
  | inr rest ↦ elim rest [
    | inl f ↦ cut_by outcome status before now f.after write_failed (inr (inr (inl refl))) f.output.taken (begun-taken before.err f.after outcome.messages f.messages.taken) (reports_begun write_failed 3 status f.after now.err f.line) (not_four status e)
    | inr f ↦ refused_cut outcome status before now f.untouched f.line
  ]
]
report_cut outcome status before now d (inr e) = let f = d.refused e in refused_cut outcome status before now f.untouched f.line

three_or_four : (status : ℕ) → 3 ≤ status → status ≤ 4 → (status ≡ 3) ⊎ (status ≡ 4)
three_or_four status h k = by_case (cases_lt status 4)
  where
    by_case : (status < 4) ⊎ (4 ≤ status) → (status ≡ 3) ⊎ (status ≡ 4)
    by_case (inl l) = inl (omega (arith, h, l))
    by_case (inr l) = inr (omega (arith, k, l))

-- what is said of files is served, whatever the input
pub reports_serve : (outcome : Text → RunOutcome) (said : RunOutcome) (status : ℕ) (before now : Streams) → ((text : Text) → outcome text ≡ said) → Reports said status before now → Serves outcome status before now
reports_serve outcome said status before now same r = record {
  read = [];
  pieces = ap (λ s. s.pieces) r.unread ∙ sym (followed_by-nil before.input.pieces);
  whole = λ h. let w = r.delivers.whole h in subst (λ o. IsWhole WritesOut o status (outputs before) (outputs now)) (sym (same []))
      (record { output = inl w.output; messages = w.messages; status_is = w.status_is });
  all = λ h text e. same text ∙ sym (same []);
  cut = λ h. subst (λ o. IsCutShort o status before now) (sym (same [])) (report_cut said status before now r.delivers (three_or_four status h r.delivers.statuses));
  failures = record {
    failed = λ e. elim (r.faults.failed e) [ inl f ↦ inr (inl f) | inr f ↦ inr (inr (inl f)) ];
    well = λ h. (ap (λ s. s.faults) r.unread, (r.faults.well h).0, (r.faults.well h).1);
  };
  statuses = r.delivers.statuses;
}

-- messages are the first of what is reported
pub none_first : (none : Bool) (messages : Text) (err after : SinkState) → HasBegun err messages after → HasBegun err (cond none (messages ++ no_block_line) messages) after
none_first true messages err after b = begun-first err after messages no_block_line b
none_first false messages err after b = b

opening_first : (telling : Telling) (messages : Text) (output : Text) (count : ℕ) (fault : Option BlockFault) (err after : SinkState) → HasBegun err messages after → HasBegun err (answered_until telling messages output count fault).messages after
opening_first telling messages output count None err after b = none_first (tells_none telling count) messages err after b
opening_first telling messages output count (Some fault) err after b = begun-first err after messages (block_said telling.for_people (number_after count) fault) b

-- the outcome, if the answers are known, by whether it is told that there are none
pub outcome_well : (telling : Telling) (messages : Text) (answer : EventValue → Text) (text : Text) (sent : List Text) (none : Bool) → answers_of answer text ≡ well sent → tells_none telling (length sent) ≡ none
    → input_outcome telling messages answer text ≡ record { output = joined sent; messages = cond none (messages ++ no_block_line) messages; status = 0 }
outcome_well telling messages answer text sent none e is =
    ap (answered telling messages) e ∙ ap (λ b. record { output = joined sent; messages = cond b (messages ++ no_block_line) messages; status = 0 }) is

outcome_faulty : (telling : Telling) (messages : Text) (answer : EventValue → Text) (text : Text) (sent : List Text) (number : ℕ) (fault : BlockFault) → answers_of answer text ≡ until sent fault → number ≡ number_after (length sent)
    → input_outcome telling messages answer text ≡ record { output = joined sent; messages = messages ++ block_said telling.for_people number fault; status = 1 }
outcome_faulty telling messages answer text sent number fault e n = ap (answered telling messages) e ∙ ap (λ k. record { output = joined sent; messages = messages ++ block_said telling.for_people k fault; status = 1 }) (sym n)

-- a text that is reported, by what was read of it and what is left
pub rest_reported : (text first : Text) (left : Option Text) → Some text ≡ led_by first left → (rest : Text) × (left ≡ Some rest) × (text ≡ first ++ rest)
rest_reported text first None e = absurd cc
rest_reported text first (Some rest) e = (rest, refl, some_is text (first ++ rest) e)
  where
    some_is : (a b : Text) → Some a ≡ Some b → a ≡ b
    some_is a b e = cc

pub none_is : (left : Option Text) (rest : Text) → NoneLeft left → left ≡ Some rest → rest ≡ []
none_is None rest h e = absurd cc
none_is (Some other) rest h e = let same : other ≡ rest = some_is other rest e in sym same ∙ h
  where
    some_is : (a b : Text) → Some a ≡ Some b → a ≡ b
    some_is a b e = cc

pub sends_output : (out after out_now : SinkState) (sent : List Text) → Sends out sent after → out_now ≡ after → WritesOut out (joined sent) out_now
sends_output out after out_now [] s e = inr (refl, e ∙ s)
sends_output out after out_now (text ∷ sent) s e = inl (subst (λ sink. HandsOn out (joined (text ∷ sent)) sink) (sym e) s)

-- the output, whatever the fault
output_is : (telling : Telling) (messages output : Text) (count : ℕ) (fault : Option BlockFault) → (answered_until telling messages output count fault).output ≡ output
output_is telling messages output count None = refl
output_is telling messages output count (Some fault) = refl

-- the answers sent are the first of all
sent_begun : (out after out_now : SinkState) (sent : List Text) (unsent : List Text) (texts : List Text) → texts ≡ sent ++ unsent → Sends out sent after → HasBegun after (joined unsent) out_now → HasBegun out (joined texts) out_now
sent_begun out after out_now sent unsent texts e s b =
    subst (λ text. HasBegun out text out_now) (sym (ap joined e ∙ flat_map-append (λ text. text) sent unsent)) (begun-following out after out_now (joined sent) (joined unsent) (sends_taken out after sent s) b)

read_first : (answer : EventValue → Text) (text : Text) (sent : List Text) → answers_to answer (complete_runs text) ≡ well sent → (answers_of answer text).texts ≡ sent ++ (answers_to answer (not_empty (rest_of text ∷ []))).texts
read_first answer text sent e = ap (λ a. a.texts) (answers_to-append answer (complete_runs text) (not_empty (rest_of text ∷ [])) sent e)

module _ (telling : Telling) (messages : Text) (answer : EventValue → Text) (status : ℕ) (before now : Streams) (after : SinkState) (says : HandsOn before.err messages after) where
  first_reported : (text : Text) → HasBegun before.err (input_outcome telling messages answer text).messages after
  first_reported text = opening_first telling messages (joined (answers_of answer text).texts) (length (answers_of answer text).texts) (answers_of answer text).fault before.err after (begun-taken before.err after messages says.taken)

  output_begun : (text : Text) → HasBegun before.out (joined (answers_of answer text).texts) now.out → HasBegun before.out (input_outcome telling messages answer text).output now.out
  output_begun text b = subst (λ o. HasBegun before.out o now.out) (sym (output_is telling messages (joined (answers_of answer text).texts) (length (answers_of answer text).texts) (answers_of answer text).fault)) b

  -- all is answered, and it is told that there is no block
  pub served_none : (outcome : Text → RunOutcome) (output : Text) (read : List Text) → now.input.pieces ≡ followed_by before.input.pieces read → before.input.left ≡ led_by (joined read) now.input.left → NoneLeft now.input.left
      → now.input.faults ≡ before.input.faults → WritesOut before.out output now.out → now.out.taken ≡ followed_by before.out.taken output → now.out.faults ≡ before.out.faults
      → outcome (joined read) ≡ record { output = output; messages = messages ++ no_block_line; status = 0 } → ReportsFailure no_block_line 0 status after now.err → Serves outcome status before now
  served_none outcome output read pieces left none_left input_well written taken well is (inl p) = record {
    read = read;
    pieces = pieces;
    whole = λ h. subst (λ o. IsWhole WritesOut o status (outputs before) (outputs now)) (sym is)
        (record { output = written; messages = hands_after before.err after now.err messages no_block_line says p.1; status_is = p.0 });
    all = λ h text e. let r = rest_reported text (joined read) now.input.left (sym e ∙ left) in
        ap outcome (r.2 ∙ ap (λ rest. joined read ++ rest) (none_is now.input.left r.0 none_left r.1) ∙ append-nil (joined read));
    cut = λ h. absurd (omega (arith, h, p.0));
    failures = record {
      failed = λ e. absurd (omega (arith, e, p.0));
      well = λ h. (input_well, well, p.1.well ∙ says.well);
    };
    statuses = omega (arith, p.0);
  }
  served_none outcome output read pieces left none_left input_well written taken well is (inr p) = record {
    read = read;
    pieces = pieces;
    whole = not_under status (omega (arith, p.0));
    all = not_under status (omega (arith, p.0));
    cut = λ h. subst (λ o. IsCutShort o status before now) (sym is)
        (cut_by (record { output = output; messages = messages ++ no_block_line; status = 0 }) status before now now.err [] (inl refl)
        (begun-taken before.out now.out output taken) (begun-following before.err after now.err messages no_block_line says.taken p.1.taken) (begun-none now.err []) (not_four status p.0));
    failures = record {
      failed = λ g. inr (inr (inl (subst (λ n. Counts 1 n now.err.faults) says.well p.1.failed)));
      well = λ h. absurd (h p.0);
    };
    statuses = omega (arith, p.0);
  }

  served_well : (t : AnswersInput answer (Ok tt) (devices_of before) (devices_of now)) → Concludes telling t.sent 0 (Ok tt) status after now.err → Serves (input_outcome telling messages answer) status before now
  served_well t c = by (tells_none telling (length t.sent)) refl c
    where
      by : (none : Bool) → tells_none telling (length t.sent) ≡ none → EndsWell none 0 status after now.err → Serves (input_outcome telling messages answer) status before now
      by true e c =
          served_none (input_outcome telling messages answer) (joined t.sent) t.read t.pieces t.left t.ends.none_left t.counts.well (sends_output before.out t.after now.out t.sent t.sends t.ends.untouched)
          (ap (λ s. s.taken) t.ends.untouched ∙ sends_taken before.out t.after t.sent t.sends) (ap (λ s. s.faults) t.ends.untouched ∙ sends_well before.out t.after t.sent t.sends)
          (outcome_well telling messages answer (joined t.read) t.sent true t.ends.answers e) c
      by false e c =
          let is = outcome_well telling messages answer (joined t.read) t.sent false t.ends.answers e in
          record {
            read = t.read;
            pieces = t.pieces;
            whole = λ h. subst (λ o. IsWhole WritesOut o status (outputs before) (outputs now)) (sym is)
                (record { output = sends_output before.out t.after now.out t.sent t.sends t.ends.untouched; messages = rw c.1 says; status_is = c.0 });
            all = λ h text e. let r = rest_reported text (joined t.read) now.input.left (sym e ∙ t.left) in
                ap (input_outcome telling messages answer) (r.2 ∙ ap (λ rest. joined t.read ++ rest) (none_is now.input.left r.0 t.ends.none_left r.1) ∙ append-nil (joined t.read));
            cut = λ h. absurd (omega (arith, h, c.0));
            failures = record {
              failed = λ e. absurd (omega (arith, e, c.0));
              well = λ h. (t.counts.well, ap (λ s. s.faults) t.ends.untouched ∙ sends_well before.out t.after t.sent t.sends, ap (λ s. s.faults) c.1 ∙ says.well);
            };
            statuses = omega (arith, c.0);
          }

  served_read : (t : AnswersInput answer (Err Read) (devices_of before) (devices_of now)) → SaysFault telling.for_people Read status after now.err → status ≡ 3 → Serves (input_outcome telling messages answer) status before now
  served_read t c e = record {
    read = t.read;
    pieces = t.pieces;
    whole = not_under status (omega (arith, e));
    all = not_under status (omega (arith, e));
    cut = λ h. cut_by (input_outcome telling messages answer (joined t.read)) status before now after read_failed (inr (inl refl))
        (output_begun (joined t.read) (sent_begun before.out t.after now.out t.sent _ (answers_of answer (joined t.read)).texts (read_first answer (joined t.read) t.sent t.ends.0) t.sends (rw t.ends.1 (begun-none t.after _))))
        (first_reported (joined t.read)) (reports_begun read_failed 3 status after now.err c) (not_four status e);
    failures = record {
      failed = λ f. elim t.counts [ inl c ↦ inl c.failed | inr c ↦ inr (inr (inr c.0)) ];
      well = λ h. absurd (h e);
    };
    statuses = omega (arith, e);
  }

  served_write : (t : AnswersInput answer (Err Write) (devices_of before) (devices_of now)) → SaysFault telling.for_people Write status after now.err → status ≡ 3 → Serves (input_outcome telling messages answer) status before now
  served_write t c e = record {
    read = t.read;
    pieces = t.pieces;
    whole = not_under status (omega (arith, e));
    all = not_under status (omega (arith, e));
    cut = λ h. cut_by (input_outcome telling messages answer (joined t.read)) status before now after write_failed (inr (inr (inl refl)))
        (output_begun (joined t.read) (sent_begun before.out t.after now.out t.sent (t.ends.next ∷ t.ends.unsent) (answers_of answer (joined t.read)).texts t.ends.texts_are t.sends (begun-first t.after now.out t.ends.next (joined t.ends.unsent) t.ends.breaks.taken)))
        (first_reported (joined t.read)) (reports_begun write_failed 3 status after now.err c) (not_four status e);
    failures = record {
      failed = λ f. inr (inl (subst (λ n. Counts 1 n now.out.faults) (sends_well before.out t.after t.sent t.sends) t.ends.breaks.failed));
      well = λ h. absurd (h e);
    };
    statuses = omega (arith, e);
  }

  served_memory : (t : AnswersInput answer (Err (Session Memory)) (devices_of before) (devices_of now)) → SaysFault telling.for_people (Session Memory) status after now.err → Serves (input_outcome telling messages answer) status before now
  served_memory t c = record {
    read = t.read;
    pieces = t.pieces;
    whole = not_under status (memory_status status after now.err c);
    all = not_under status (memory_status status after now.err c);
    cut = λ h. cut_by (input_outcome telling messages answer (joined t.read)) status before now after out_of_memory (inr (inr (inr refl)))
        (output_begun (joined t.read) (sent_begun before.out t.after now.out t.sent t.ends.0.0 (answers_of answer (joined t.read)).texts t.ends.0.1 t.sends (rw t.ends.1 (begun-none t.after (joined t.ends.0.0)))))
        (first_reported (joined t.read)) (reports_begun out_of_memory 4 status after now.err c) (at_memory status after now.err c);
    failures = reported_failures c t.counts.well (ap (λ s. s.faults) t.ends.1 ∙ sends_well before.out t.after t.sent t.sends);
    statuses = memory_most status after now.err c;
  }
    where
      reported_failures : ReportsFailure out_of_memory 4 status after now.err → now.input.faults ≡ before.input.faults → now.out.faults ≡ before.out.faults → ReportsFailures status (length t.read) before now
      reported_failures (inl p) e f = record { failed = λ g. not_four status g p.0; well = λ h. (e, f, p.1.well ∙ says.well) }
      reported_failures (inr p) e f = record { failed = λ g. inr (inr (inl (subst (λ n. Counts 1 n now.err.faults) says.well p.1.failed))); well = λ h. absurd (h p.0) }

  served_block : (number : ℕ) (fault : BlockFault) (t : AnswersInput answer (Err (Session (Block number fault))) (devices_of before) (devices_of now)) → SaysFault telling.for_people (Session (Block number fault)) status after now.err → Serves (input_outcome telling messages answer) status before now
  served_block number fault t (inl p) =
      let is = outcome_faulty telling messages answer (joined t.read) t.sent number fault t.ends.0.answers t.ends.0.numbered in
      record {
        read = t.read;
        pieces = t.pieces;
        whole = λ h. subst (λ o. IsWhole WritesOut o status (outputs before) (outputs now)) (sym is)
            (record { output = sends_output before.out t.after now.out t.sent t.sends t.ends.1; messages = hands_after before.err after now.err messages (block_said telling.for_people number fault) says p.1; status_is = p.0 });
        all = λ h text e. let r = rest_reported text (joined t.read) now.input.left (sym e ∙ t.left) in
            ap (input_outcome telling messages answer) r.2 ∙ outcome_faulty telling messages answer (joined t.read ++ r.0) t.sent number fault (t.ends.0.stays r.0 r.1) t.ends.0.numbered ∙ sym is;
        cut = λ h. absurd (omega (arith, h, p.0));
        failures = record {
          failed = λ e. absurd (omega (arith, e, p.0));
          well = λ h. (t.counts.well, ap (λ s. s.faults) t.ends.1 ∙ sends_well before.out t.after t.sent t.sends, p.1.well ∙ says.well);
        };
        statuses = omega (arith, p.0);
      }
  served_block number fault t (inr p) =
      let is = outcome_faulty telling messages answer (joined t.read) t.sent number fault t.ends.0.answers t.ends.0.numbered in
      record {
        read = t.read;
        pieces = t.pieces;
        whole = not_under status (omega (arith, p.0));
        all = not_under status (omega (arith, p.0));
        cut = λ h. subst (λ o. IsCutShort o status before now) (sym is)
            (cut_by (record { output = joined t.sent; messages = messages ++ block_said telling.for_people number fault; status = 1 }) status before now now.err [] (inl refl)
            (begun-taken before.out now.out (joined t.sent) (ap (λ s. s.taken) t.ends.1 ∙ sends_taken before.out t.after t.sent t.sends)) (begun-following before.err after now.err messages (block_said telling.for_people number fault) says.taken p.1.taken) (begun-none now.err []) (not_four status p.0));
        failures = record {
          failed = λ g. inr (inr (inl (subst (λ n. Counts 1 n now.err.faults) says.well p.1.failed)));
          well = λ h. absurd (h p.0);
        };
        statuses = omega (arith, p.0);
      }

  three : (line : Text) → ReportsFailure line 3 status after now.err → status ≡ 3
  three line (inl p) = p.0
  three line (inr p) = p.0

  served_after : (end : Result (Unit {0}) TurnFault) → (t : AnswersInput answer end (devices_of before) (devices_of now)) → Concludes telling t.sent 0 end status after now.err → Serves (input_outcome telling messages answer) status before now
  served_after (Ok done) t c = served_well t c
  served_after (Err Read) t c = served_read t c (three read_failed c)
  served_after (Err Write) t c = served_write t c (three write_failed c)
  served_after (Err (Session (Block number fault))) t c = served_block number fault t c
  served_after (Err (Session Memory)) t c = served_memory t c
  served_after (Err (Session Ended)) t c = absurd t.ends

-- nothing was read or answered
served_before : (telling : Telling) (messages : Text) (answer : EventValue → Text) (status : ℕ) (before now : Streams) → StopsBefore messages status before now
    → Serves (input_outcome telling messages answer) status before now
served_before telling messages answer status before now s = record {
  read = [];
  pieces = ap (λ x. x.pieces) s.unread ∙ sym (followed_by-nil before.input.pieces);
  whole = not_under status (least s.reports);
  all = not_under status (least s.reports);
  cut = λ h. cuts s.reports;
  failures = fails s.reports;
  statuses = most s.reports;
}
  where
    least : ((status ≡ 3) × BreaksOff before.err messages now.err) ⊎ ReportsFailure out_of_memory 4 status before.err now.err → 3 ≤ status
    least (inl p) = omega (arith, p.0)
    least (inr p) = memory_status status before.err now.err p

    most : ((status ≡ 3) × BreaksOff before.err messages now.err) ⊎ ReportsFailure out_of_memory 4 status before.err now.err → status ≤ 4
    most (inl p) = omega (arith, p.0)
    most (inr p) = memory_most status before.err now.err p

    cuts : ((status ≡ 3) × BreaksOff before.err messages now.err) ⊎ ReportsFailure out_of_memory 4 status before.err now.err → IsCutShort (input_outcome telling messages answer []) status before now
    cuts (inl p) =
        messages_cut (input_outcome telling messages answer []) status before now s.unanswered p.0
        (opening_first telling messages (joined (answers_of answer []).texts) (length (answers_of answer []).texts) (answers_of answer []).fault before.err now.err p.1.taken)
    cuts (inr p) = refused_cut (input_outcome telling messages answer []) status before now s.unanswered p

    fails : ((status ≡ 3) × BreaksOff before.err messages now.err) ⊎ ReportsFailure out_of_memory 4 status before.err now.err → ReportsFailures status 0 before now
    fails (inl p) = record { failed = λ e. inr (inr (inl p.1.failed)); well = λ h. absurd (h p.0) }
    fails (inr (inl p)) = record { failed = λ e. not_four status e p.0; well = λ h. (ap (λ x. x.faults) s.unread, ap (λ x. x.faults) s.unanswered, p.1.well) }
    fails (inr (inr p)) = record { failed = λ e. inr (inr (inl p.1.failed)); well = λ h. absurd (h p.0) }

-- from the steps of `events` to what it serves
pub answers_serve : (telling : Telling) (messages : Text) (answer : EventValue → Text) (status : ℕ) (before now : Streams) → AnswersAll telling messages answer status before now
    → Serves (input_outcome telling messages answer) status before now
answers_serve telling messages answer status before now (inl s) = served_before telling messages answer status before now s
answers_serve telling messages answer status before now (inr b) = served_after telling messages answer status before now b.after b.says b.end b.answers b.concludes
