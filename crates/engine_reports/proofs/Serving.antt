-- From the steps of a run to what it serves.
use Rattle.std.proofs.Common.{◌≡◌, ℕ, ◌+◌, ◌≤◌, ◌<◌, ◌⊎◌, inl, inr, List, [], ◌∷◌, ◌++◌, Option, Some, None, Result, Ok, Err, length, flat_map, refl, ap, sym, ◌∙◌, subst, arith}
use Rattle.std.proofs.lemmas.List.{append-nil}
use Rattle.text_bytes.specs.Lines.{lines}
use Rattle.text_bytes.specs.Text.{Text}
use Rattle.engine_sessions.specs.Reported.{followed_by}
use Rattle.engine_sessions.specs.Counts.{Counts}
use Rattle.engine_sessions.specs.Sinks.{BreaksOff, HandsOn, HasBegun, SinkState}
use Rattle.engine_sessions.specs.declared.line.Line.{Line}
use Rattle.engine_sessions.specs.Streams.{Streams, outputs}
use Rattle.engine_sessions.specs.Delivery.{Delivers, IsWhole, ReportsFailure, ReportsFaults, RunOutcome, out_of_memory, write_failed}
use Rattle.engine_sessions.proofs.Counting.{counts-none}
use Rattle.engine_sessions.proofs.Reported.{followed_by-nil}
use Rattle.engine_reports.specs.Databases.{DatabaseValue}
use Rattle.engine_reports.specs.Indexes.{refused_index}
use Rattle.engine_reports.specs.Outcomes.{too_many_entries, too_many_rules}
use Rattle.engine_reports.specs.Reports.{IsRefused, IsSaid}
use Rattle.engine_reports.specs.declared.refusal.Refusal.{Refusal}
use Rattle.engine_reports.specs.declared.refusal.Refusal.TheVariants as Refused
use Rattle.engine_sessions.specs.Serves.{IsCutShort, ReportsFailures, Serves, StopsBefore, WritesOut, read_failed}
use Rattle.engine_sessions.specs.Inputs.{devices_of}
use Rattle.engine_sessions.specs.Turns.{joined}
use Rattle.engine_sessions.proofs.SendLemmas.{hands_after}
use Rattle.engine_sessions.proofs.Serving.{at_memory, begun-first, begun-following, begun-none, begun-taken, cut_by, memory_most, memory_status, messages_cut, none_is, not_four, not_under, refused_cut, reports_begun, rest_reported}
use Rattle.engine_reports.specs.LookupOutcomes.{after_answer, after_messages, answer_to, answered_from, lines_outcome, too_long_line}
use Rattle.engine_reports.specs.LookupDatabases.{LooksUpBy}
use Rattle.engine_reports.specs.Runs.{AnswersFirst, BreaksOffAtFirst, LooksThrough, LooksUp, SaysHow}
use Rattle.engine_reports.specs.Taking.{Answers, Leads, StopsAt, StopsBy, StopsIn}
use Rattle.engine_reports.specs.Inputs.{AnswersInput, Concludes, StopsInput}
use Rattle.engine_reports.specs.declared.held.LookupFault.{LookupFault}
use Rattle.engine_reports.specs.declared.held.LookupFault.TheVariants.{Read, Write, TooLong, Memory}
use Rattle.engine_reports.proofs.LineLemmas.{cut_lines}
use Rattle.engine_sessions.proofs.WriteLemmas.{writes_taken, writes_well}
use Rattle.engine_reports.proofs.AnswerLemmas.{answered_all, answered_long, answered_short, stopped}

three : (line : Text) (status : ℕ) (after now : SinkState) → ReportsFailure line 3 status after now → status ≡ 3
three line status after now (inl p) = p.0
three line status after now (inr p) = p.0

-- the outcome of a text whose first lines are answered
first_lines : (answer : Text → Text) (text : Text) (ended others : List Text) → Leads answer ended → lines text ≡ ended ++ others → answered_from answer 1 (lines text) ≡ after_answer (flat_map answer ended) (answered_from answer (1 + length ended) others)
first_lines answer text ended others l e = ap (answered_from answer 1) e ∙ l 1 others

-- the outcome of a text that has a line that is too long after these
long_text : (answer : Text → Text) (counted : ℕ) (text : Text) (ended : List Text) (after now : SinkState) → Leads answer ended → StopsAt answer (TooLong counted) 1 ended text after now → answered_from answer 1 (lines text) ≡ record { output = flat_map answer ended; messages = too_long_line counted; status = 1 }
long_text answer counted text ended after now l s =
    first_lines answer text ended s.others l s.lines_are
    ∙ ap (λ ls. after_answer (flat_map answer ended) (answered_from answer (1 + length ended) ls)) s.stops.lines_are
    ∙ ap (after_answer (flat_map answer ended)) (answered_long answer (1 + length ended) s.stops.line s.stops.others s.stops.long)
    ∙ ap (λ n. after_answer (flat_map answer ended) (stopped n)) (sym s.stops.numbered)
    ∙ ap (λ said. record { output = said; messages = too_long_line counted; status = 1 }) (append-nil (flat_map answer ended))

-- the output has the answers to these lines, and a first part of what follows them
output_begun : (answer : Text → Text) (text : Text) (ended others : List Text) (before after now : SinkState) → Leads answer ended → lines text ≡ ended ++ others → WritesOut before (flat_map answer ended) after
    → HasBegun after (answered_from answer (1 + length ended) others).output now → HasBegun before (answered_from answer 1 (lines text)).output now
output_begun answer text ended others before after now l e w b =
    subst (λ outcome. HasBegun before outcome.output now) (sym (first_lines answer text ended others l e))
    (begun-following before after now (flat_map answer ended) (answered_from answer (1 + length ended) others).output (writes_taken before after (flat_map answer ended) w) b)

-- it breaks off in the answer to the next line
answer_begun : (answer : Text → Text) (number : ℕ) (ls others : List Text) (next : Text) (after now : SinkState) → ls ≡ next ∷ others → answered_from answer number (next ∷ others) ≡ after_answer (answer next) (answered_from answer (number + 1) others) → HasBegun after (answer next) now → HasBegun after (answered_from answer number ls).output now
answer_begun answer number ls others next after now e short b =
    subst (λ outcome. HasBegun after outcome.output now) (sym (ap (answered_from answer number) e ∙ short))
    (begun-first after now (answer next) (answered_from answer (number + 1) others).output b)

module _ (messages : Text) (answer : Text → Text) (status : ℕ) (before now : Streams) (after : SinkState) (says : HandsOn before.err messages after) where
  messages_begun : (text : Text) → HasBegun before.err (lines_outcome messages answer text).messages after
  messages_begun text = begun-first before.err after messages (answered_from answer 1 (lines text)).messages (begun-taken before.err after messages says.taken)

  -- that it serves, with these pieces read
  abbrev ServesOver : List Text → Type 0
  ServesOver read = (s : Serves (lines_outcome messages answer) status before now) × (s.read ≡ read)

  looked_well : (t : AnswersInput answer (Ok tt) (devices_of before) (devices_of now)) → Concludes (Ok tt) status after now.err → ServesOver t.read
  looked_well t c =
      let is : lines_outcome messages answer (joined t.read) ≡ record { output = flat_map answer (lines (joined t.read)); messages = messages; status = 0 } =
      ap (after_messages messages) (answered_all answer 1 (lines (joined t.read)) t.ends.leads)
      ∙ ap (λ said. record { output = flat_map answer (lines (joined t.read)); messages = said; status = 0 }) (append-nil messages) in (
        record {
          read = t.read;
          pieces = t.pieces;
          whole = λ h. subst (λ o. IsWhole WritesOut o status (outputs before) (outputs now)) (sym is) (record { output = t.ends.writes; messages = rw c.1 says; status_is = c.0 });
          all = λ h text e. let r = rest_reported text (joined t.read) now.input.left (sym e ∙ t.left) in
              ap (lines_outcome messages answer) (r.2 ∙ ap (λ rest. joined t.read ++ rest) (none_is now.input.left r.0 t.ends.none_left r.1) ∙ append-nil (joined t.read));
          cut = λ h. absurd (omega (arith, h, c.0));
          failures = record {
            failed = λ e. absurd (omega (arith, e, c.0));
            well = λ h. (t.faults, writes_well before.out now.out (flat_map answer (lines (joined t.read))) t.ends.writes, ap (λ s. s.faults) c.1 ∙ says.well);
          };
          statuses = omega (arith, c.0);
        },
        refl,
      )

  looked_read : (t : AnswersInput answer (Err Read) (devices_of before) (devices_of now)) → Concludes (Err Read) status after now.err → status ≡ 3 → ServesOver t.read
  looked_read t c e =
      let a = t.ends.answers in (
        record {
          read = t.read;
          pieces = t.pieces;
          whole = not_under status (omega (arith, e));
          all = not_under status (omega (arith, e));
          cut = λ h. cut_by (lines_outcome messages answer (joined t.read)) status before now after read_failed (inr (inl refl))
              (output_begun answer (joined t.read) a.ended (lines t.ends.held.bytes) before.out now.out now.out a.leads (cut_lines (joined t.read) a.ended t.ends.held.bytes a.cut) a.writes (begun-none now.out _))
              (messages_begun (joined t.read)) (reports_begun read_failed 3 status after now.err c) (not_four status e);
          failures = record {
            failed = λ f. elim t.faults [ inl n ↦ inl n | inr u ↦ inr (inr (inr u)) ];
            well = λ h. absurd (h e);
          };
          statuses = omega (arith, e);
        },
        refl,
      )

  looked_write : (t : AnswersInput answer (Err Write) (devices_of before) (devices_of now)) → Concludes (Err Write) status after now.err → status ≡ 3 → ServesOver t.read
  looked_write t c e =
      let s = t.ends.stops in
      let there = s.at [] (λ f. refl) in
      let stops = there.stops in (
        record {
          read = t.read;
          pieces = t.pieces;
          whole = not_under status (omega (arith, e));
          all = not_under status (omega (arith, e));
          cut = λ h. cut_by (lines_outcome messages answer (joined t.read)) status before now after write_failed (inr (inr (inl refl)))
              (output_begun answer (joined t.read) s.ended there.others before.out s.after now.out s.leads (ap lines (sym (append-nil (joined t.read))) ∙ there.lines_are) s.writes
              (answer_begun answer (1 + length s.ended) there.others stops.others stops.next s.after now.out stops.lines_are (answered_short answer (1 + length s.ended) stops.next stops.others stops.short) stops.breaks.taken))
              (messages_begun (joined t.read)) (reports_begun write_failed 3 status after now.err c) (not_four status e);
          failures = record {
            failed = λ f. inr (inl (subst (λ n. Counts 1 n now.out.faults) (writes_well before.out s.after (flat_map answer s.ended) s.writes) stops.breaks.failed));
            well = λ h. absurd (h e);
          };
          statuses = omega (arith, e);
        },
        refl,
      )

  looked_memory : (t : AnswersInput answer (Err Memory) (devices_of before) (devices_of now)) → Concludes (Err Memory) status after now.err → ServesOver t.read
  looked_memory t c =
      let s = t.ends.stops in
      let there = s.at [] (λ f. refl) in (
        record {
          read = t.read;
          pieces = t.pieces;
          whole = not_under status (memory_status status after now.err c);
          all = not_under status (memory_status status after now.err c);
          cut = λ h. cut_by (lines_outcome messages answer (joined t.read)) status before now after out_of_memory (inr (inr (inr refl)))
              (output_begun answer (joined t.read) s.ended there.others before.out s.after now.out s.leads (ap lines (sym (append-nil (joined t.read))) ∙ there.lines_are) s.writes (rw there.stops (begun-none s.after _)))
              (messages_begun (joined t.read)) (reports_begun out_of_memory 4 status after now.err c) (at_memory status after now.err c);
          failures = reported_failures c t.faults (ap (λ sink. sink.faults) there.stops ∙ writes_well before.out s.after (flat_map answer s.ended) s.writes);
          statuses = memory_most status after now.err c;
        },
        refl,
      )
    where
      reported_failures : ReportsFailure out_of_memory 4 status after now.err → now.input.faults ≡ before.input.faults → now.out.faults ≡ before.out.faults → ReportsFailures status (length t.read) before now
      reported_failures (inl p) e f = record { failed = λ g. not_four status g p.0; well = λ h. (e, f, p.1.well ∙ says.well) }
      reported_failures (inr p) e f = record { failed = λ g. inr (inr (inl (subst (λ n. Counts 1 n now.err.faults) says.well p.1.failed))); well = λ h. absurd (h p.0) }

  -- the outcome of a text in which a line is too long
  long_outcome : (counted : ℕ) (text : Text) (ended : List Text) (sink : SinkState) → Leads answer ended → StopsAt answer (TooLong counted) 1 ended text sink now.out → lines_outcome messages answer text ≡ record { output = flat_map answer ended; messages = messages ++ too_long_line counted; status = 1 }
  long_outcome counted text ended sink l s = ap (after_messages messages) (long_text answer counted text ended sink now.out l s)

  looked_long : (counted : ℕ) (t : AnswersInput answer (Err (TooLong counted)) (devices_of before) (devices_of now)) → Concludes (Err (TooLong counted)) status after now.err → ServesOver t.read
  looked_long counted t (inl p) =
      let s = t.ends.stops in
      let there = s.at [] (λ f. refl) in
      let of : (rest : Text) → now.input.left ≡ Some rest → lines_outcome messages answer (joined t.read ++ rest) ≡ record { output = flat_map answer s.ended; messages = messages ++ too_long_line counted; status = 1 } =
      λ rest e. long_outcome counted (joined t.read ++ rest) s.ended s.after s.leads (s.at rest (t.ends.last rest e)) in
      let is : lines_outcome messages answer (joined t.read) ≡ record { output = flat_map answer s.ended; messages = messages ++ too_long_line counted; status = 1 } =
      ap (lines_outcome messages answer) (sym (append-nil (joined t.read))) ∙ long_outcome counted (joined t.read ++ []) s.ended s.after s.leads there in (
        record {
          read = t.read;
          pieces = t.pieces;
          whole = λ h. subst (λ o. IsWhole WritesOut o status (outputs before) (outputs now)) (sym is)
              (record { output = rw there.stops.untouched s.writes; messages = hands_after before.err after now.err messages (too_long_line counted) says p.1; status_is = p.0 });
          all = λ h text e. let r = rest_reported text (joined t.read) now.input.left (sym e ∙ t.left) in
              ap (lines_outcome messages answer) r.2 ∙ of r.0 r.1 ∙ sym is;
          cut = λ h. absurd (omega (arith, h, p.0));
          failures = record {
            failed = λ e. absurd (omega (arith, e, p.0));
            well = λ h. (t.faults, ap (λ sink. sink.faults) there.stops.untouched ∙ writes_well before.out s.after (flat_map answer s.ended) s.writes, p.1.well ∙ says.well);
          };
          statuses = omega (arith, p.0);
        },
        refl,
      )
  looked_long counted t (inr p) =
      let s = t.ends.stops in
      let there = s.at [] (λ f. refl) in
      let is : lines_outcome messages answer (joined t.read) ≡ record { output = flat_map answer s.ended; messages = messages ++ too_long_line counted; status = 1 } =
      ap (lines_outcome messages answer) (sym (append-nil (joined t.read))) ∙ long_outcome counted (joined t.read ++ []) s.ended s.after s.leads there in (
        record {
          read = t.read;
          pieces = t.pieces;
          whole = not_under status (omega (arith, p.0));
          all = not_under status (omega (arith, p.0));
          cut = λ h. subst (λ o. IsCutShort o status before now) (sym is)
              (cut_by (record { output = flat_map answer s.ended; messages = messages ++ too_long_line counted; status = 1 }) status before now now.err [] (inl refl)
              (begun-taken before.out now.out (flat_map answer s.ended) (ap (λ sink. sink.taken) there.stops.untouched ∙ writes_taken before.out s.after (flat_map answer s.ended) s.writes))
              (begun-following before.err after now.err messages (too_long_line counted) says.taken p.1.taken) (begun-none now.err []) (not_four status p.0));
          failures = record {
            failed = λ g. inr (inr (inl (subst (λ n. Counts 1 n now.err.faults) says.well p.1.failed)));
            well = λ h. absurd (h p.0);
          };
          statuses = omega (arith, p.0);
        },
        refl,
      )

  served_over : (end : Result (Unit {0}) LookupFault) (t : AnswersInput answer end (devices_of before) (devices_of now)) → Concludes end status after now.err → ServesOver t.read
  served_over (Ok done) t c = looked_well t c
  served_over (Err Read) t c = looked_read t c (three read_failed status after now.err c)
  served_over (Err Write) t c = looked_write t c (three write_failed status after now.err c)
  served_over (Err (TooLong counted)) t c = looked_long counted t c
  served_over (Err Memory) t c = looked_memory t c

  -- how it stops in the answers
  stops_first : (fault : LookupFault) (number : ℕ) (others : List Text) (sink : SinkState) → StopsBy answer fault number others sink now.out → (now.out ≡ sink) ⊎ BreaksOffAtFirst answer others sink now.out
  stops_first Read number others sink s = absurd s
  stops_first Write number others sink s = inr (subst (λ ls. BreaksOffAtFirst answer ls sink now.out) (sym s.lines_are) s.breaks)
  stops_first (TooLong counted) number others sink s = inl s.untouched
  stops_first Memory number others sink s = inl s

  stopped_first : (fault : LookupFault) (text : Text) (left : Option Text) → StopsInput answer fault text left before.out now.out → AnswersFirst answer text before.out now.out
  stopped_first fault text left t =
      let s = t.stops in
      let there = s.at [] (λ f. refl) in
      record {
        answered = s.ended;
        others = there.others;
        lines_are = ap lines (sym (append-nil text)) ∙ there.lines_are;
        after = s.after;
        writes = s.writes;
        ends = stops_first fault (1 + length s.ended) there.others s.after there.stops;
      }

  answered_first : (end : Result (Unit {0}) LookupFault) (t : AnswersInput answer end (devices_of before) (devices_of now)) → AnswersFirst answer (joined t.read) before.out now.out
  answered_first (Ok done) t =
      record { answered = lines (joined t.read); others = []; lines_are = sym (append-nil (lines (joined t.read))); after = now.out; writes = t.ends.writes; ends = inl refl }
  answered_first (Err Read) t =
      let a = t.ends.answers in
      record { answered = a.ended; others = lines t.ends.held.bytes; lines_are = cut_lines (joined t.read) a.ended t.ends.held.bytes a.cut; after = now.out; writes = a.writes; ends = inl refl }
  answered_first (Err Write) t = stopped_first Write (joined t.read) now.input.left t.ends
  answered_first (Err (TooLong counted)) t = stopped_first (TooLong counted) (joined t.read) now.input.left t.ends
  answered_first (Err Memory) t = stopped_first Memory (joined t.read) now.input.left t.ends

  -- the line that says how it ended
  concluded : (end : Result (Unit {0}) LookupFault) (t : AnswersInput answer end (devices_of before) (devices_of now)) → Concludes end status after now.err
      → SaysHow (length (answered_first end t).answered) status before now after
  unfolding answered_first stopped_first
  concluded (Ok done) t c = inl c
  concluded (Err Read) t c = inr (inr (inr (inl (writes_well before.out now.out (flat_map answer t.ends.answers.ended) t.ends.answers.writes, c))))
  concluded (Err Write) t c =
      let s = t.ends.stops in
      let there = s.at [] (λ f. refl) in
      let failed = subst (λ n. Counts 1 n now.out.faults) (writes_well before.out s.after (flat_map answer s.ended) s.writes) there.stops.breaks.failed in
      inr (inr (inr (inr (failed, c))))
  concluded (Err (TooLong counted)) t c =
      let s = t.ends.stops in
      let there = s.at [] (λ f. refl) in
      let numbered : counted ≡ length s.ended + 1 = omega (arith, there.stops.numbered) in
      inr (inl (subst (λ n. ReportsFailure (too_long_line n) 1 status after now.err) numbered c))
  concluded (Err Memory) t c = inr (inr (inl c))

  pub looked_up : (end : Result (Unit {0}) LookupFault) → AnswersInput answer end (devices_of before) (devices_of now) → Concludes end status after now.err → LooksUp messages answer status before now
  looked_up end t c =
      let s = served_over end t c in
      let steps : LooksThrough messages answer t.read status before now = record {
        order = inr (record { after = after; says = says; answers = answered_first end t; concludes = concluded end t c });
        reads = t.reads;
        goes_on = t.goes_on;
        due = t.due;
        fits = t.fits;
      } in
      record { serves = s.0; steps = subst (λ read. LooksThrough messages answer read status before now) (sym s.1) steps }

-- nothing is read
through_nothing : (messages : Text) (answer : Text → Text) (status : ℕ) (before now : Streams) → StopsBefore messages status before now → LooksThrough messages answer [] status before now
through_nothing messages answer status before now stops = record {
  order = inl stops;
  reads = inl (rw stops.unread (record { reads = counts-none before.input.reads; well = refl }));
  goes_on = (tt, λ failed. tt);
  due = (inl refl, λ failed. inl refl);
  fits = λ n h. absurd (omega (arith, h));
}

-- nothing is read or answered: the error output failed at the messages
pub looked_at_messages : (messages : Text) (answer : Text → Text) (status : ℕ) (before now : Streams) → now.input ≡ before.input → now.out ≡ before.out → status ≡ 3 → BreaksOff before.err messages now.err → LooksUp messages answer status before now
looked_at_messages messages answer status before now unread untouched e breaks = record {
  serves = record {
    read = [];
    pieces = ap (λ s. s.pieces) unread ∙ sym (followed_by-nil before.input.pieces);
    whole = not_under status (omega (arith, e));
    all = not_under status (omega (arith, e));
    cut = λ h. messages_cut (lines_outcome messages answer []) status before now untouched e (begun-first before.err now.err messages [] breaks.taken);
    failures = record { failed = λ f. inr (inr (inl breaks.failed)); well = λ h. absurd (h e) };
    statuses = omega (arith, e);
  };
  steps = through_nothing messages answer status before now (record { unread = unread; unanswered = untouched; reports = inl (e, breaks) });
}

-- or memory runs out before them
pub looked_refused : (messages : Text) (answer : Text → Text) (status : ℕ) (before now : Streams) → now.input ≡ before.input → now.out ≡ before.out → ReportsFailure out_of_memory 4 status before.err now.err → LooksUp messages answer status before now
looked_refused messages answer status before now unread untouched reports = record {
  serves = record {
    read = [];
    pieces = ap (λ s. s.pieces) unread ∙ sym (followed_by-nil before.input.pieces);
    whole = not_under status (memory_status status before.err now.err reports);
    all = not_under status (memory_status status before.err now.err reports);
    cut = λ h. refused_cut (lines_outcome messages answer []) status before now untouched reports;
    failures = fails reports;
    statuses = memory_most status before.err now.err reports;
  };
  steps = through_nothing messages answer status before now (record { unread = unread; unanswered = untouched; reports = inr reports });
}
  where
    fails : ReportsFailure out_of_memory 4 status before.err now.err → ReportsFailures status 0 before now
    fails (inl p) = record { failed = λ e. not_four status e p.0; well = λ h. (ap (λ s. s.faults) unread, ap (λ s. s.faults) untouched, p.1.well) }
    fails (inr p) = record { failed = λ e. inr (inr (inl p.1.failed)); well = λ h. absurd (h p.0) }

-- what is said if there is no database
pub refused_looks : (line : Line) (refusal : Refusal) (read : Result DatabaseValue RunOutcome) (status : ℕ) (before now : Streams) → IsRefused refusal read
    → ((outcome : RunOutcome) → IsSaid refusal outcome → Delivers outcome status (outputs before) (outputs now)) → ReportsFaults status (outputs before) (outputs now)
    → (refusal ≡ Refused.Memory → ReportsFailure out_of_memory 4 status before.err now.err × (now.out ≡ before.out)) → now.input ≡ before.input → LooksUpBy line read status before now
refused_looks line Refused.TooManyEntries read status before now is delivers faults memory unread = rw is (record { delivers = delivers too_many_entries refl; faults = faults; unread = unread })
refused_looks line Refused.TooManyRules read status before now is delivers faults memory unread = rw is (record { delivers = delivers too_many_rules refl; faults = faults; unread = unread })
refused_looks line (Refused.Index fault) read status before now is delivers faults memory unread = rw is (record { delivers = delivers (refused_index fault) refl; faults = faults; unread = unread })
refused_looks line Refused.Memory (Ok database) status before now is delivers faults memory unread = looked_refused database.messages (answer_to line.sources database.entries) status before now unread (memory refl).1 (memory refl).0
refused_looks line Refused.Memory (Err said) status before now is delivers faults memory unread = record { delivers = delivers said tt; faults = faults; unread = unread }
