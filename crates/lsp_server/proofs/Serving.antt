-- From the steps of a session to what it serves.
use Rattle.std.proofs.Common.{◌≡◌, ℕ, ◌<◌, inl, inr, List, [], ◌++◌, Option, Some, None, Result, Ok, Err, length, refl, ap, sym, ◌∙◌, subst, arith}
use Rattle.std.proofs.lemmas.List.{append-nil}
use Rattle.text_bytes.specs.Text.{Text}
use Rattle.engine_sessions.specs.Counts.{Counts}
use Rattle.engine_sessions.specs.Sinks.{BreaksOff, HandsOn, HasBegun, SinkState}
use Rattle.engine_sessions.specs.Streams.{Streams}
use Rattle.engine_sessions.specs.Delivery.{ReportsFailure, RunOutcome, out_of_memory, write_failed}
use Rattle.engine_sessions.proofs.Counting.{counts-none}
use Rattle.engine_sessions.proofs.Reported.{followed_by-nil}
use Rattle.engine_sessions.specs.Serves.{ReportsFailures, Serves, WritesOut, read_failed}
use Rattle.engine_sessions.specs.Inputs.{devices_of}
use Rattle.engine_sessions.specs.Turns.{joined}
use Rattle.engine_sessions.proofs.Serving.{at_memory, begun-first, begun-following, begun-taken, cut_by, memory_most, memory_status, messages_cut, none_is, not_four, not_under, reports_begun, rest_reported}
use Rattle.lsp_server.specs.AnyServer.{Server, said_of}
use Rattle.lsp_server.specs.Outcomes.{outcome_of, session_outcome, status_of}
use Rattle.lsp_server.specs.Runs.{Replies, SaysWhy, ServesEditor}
use Rattle.lsp_server.specs.Taking.{StopsIn, opened}
use Rattle.lsp_server.specs.Inputs.{Concludes, ServesInput}
use Rattle.lsp_server.specs.declared.replying.Exit.{Exit}
use Rattle.lsp_server.specs.declared.replying.Exit.TheVariants.{AfterShutdown, WithoutShutdown}
use Rattle.lsp_server.specs.declared.sending.SessionFault.{SessionFault}
use Rattle.lsp_server.specs.declared.sending.SessionFault.TheVariants.{Read, Write, Memory}
use Rattle.engine_sessions.proofs.WriteLemmas.{writes_taken, writes_well}

three : (line : Text) (status : ℕ) (after now : SinkState) → ReportsFailure line 3 status after now → status ≡ 3
three line status after now (inl p) = p.0
three line status after now (inr p) = p.0

small_status : (exit : Option Exit) → status_of exit < 3
small_status None = omega arith
small_status (Some AfterShutdown) = omega arith
small_status (Some WithoutShutdown) = omega arith

module _ {A : Type 0} (messages : Text) (server : Server A) (status : ℕ) (before now : Streams) (after : SinkState) (says : HandsOn before.err messages after) where
  abbrev outcome : Text → RunOutcome
  outcome = session_outcome messages server

  messages_begun : HasBegun before.err messages after
  messages_begun = begun-taken before.err after messages says.taken

  -- that it serves, with these pieces read
  abbrev ServesOver : List Text → Type 0
  ServesOver read = (s : Serves outcome status before now) × (s.read ≡ read)

  -- what was said to the bytes read is what is said to the whole input, and all of it is written
  over_well : (end : Option Exit) (t : ServesInput server (Ok end) (devices_of before) (devices_of now)) → Concludes (Ok end) status after now.err → (said_of server (joined t.read)).exit ≡ end → WritesOut before.out (said_of server (joined t.read)).text now.out
      → ((text : Text) → before.input.left ≡ Some text → said_of server text ≡ said_of server (joined t.read)) → ServesOver t.read
  over_well end t c exit writes all =
      let status_is : status ≡ status_of (said_of server (joined t.read)).exit = c.0 ∙ ap status_of (sym exit) in
      let small = small_status (said_of server (joined t.read)).exit in (
        record {
          read = t.read;
          pieces = t.pieces;
          whole = λ h. record { output = writes; messages = rw c.1 says; status_is = status_is };
          all = λ h text e. ap (outcome_of messages) (all text e);
          cut = λ h. absurd (omega (arith, h, status_is, small));
          failures = record {
            failed = λ e. absurd (omega (arith, e, status_is, small));
            well = λ h. (t.faults, writes_well before.out now.out (said_of server (joined t.read)).text writes, ap (λ s. s.faults) c.1 ∙ says.well);
          };
          statuses = omega (arith, status_is, small);
        },
        refl,
      )

  -- the input ends
  over_ended : (t : ServesInput server (Ok None) (devices_of before) (devices_of now)) → Concludes (Ok None) status after now.err → ServesOver t.read
  over_ended t c = over_well None t c t.ends.0.stays t.ends.0.writes (λ text e.
      let r = rest_reported text (joined t.read) now.input.left (sym e ∙ t.left) in
      ap (said_of server) (r.2 ∙ ap (λ rest. joined t.read ++ rest) (none_is now.input.left r.0 t.ends.1 r.1) ∙ append-nil (joined t.read)))

  -- the client exits
  over_exited : (exit : Exit) (t : ServesInput server (Ok (Some exit)) (devices_of before) (devices_of now)) → Concludes (Ok (Some exit)) status after now.err → ServesOver t.read
  over_exited exit t c =
      let is : said_of server (joined t.read) ≡ record { text = t.ends.said; exit = Some exit } = ap (said_of server) (sym (append-nil (joined t.read))) ∙ t.ends.leads [] in
      over_well (Some exit) t c (ap (λ said. said.exit) is) (subst (λ text. WritesOut before.out text now.out) (sym (ap (λ said. said.text) is)) t.ends.writes) (λ text e.
      let r = rest_reported text (joined t.read) now.input.left (sym e ∙ t.left) in
      ap (said_of server) r.2 ∙ t.ends.leads r.0 ∙ sym is)

  over_read : (t : ServesInput server (Err Read) (devices_of before) (devices_of now)) → Concludes (Err Read) status after now.err → status ≡ 3 → ServesOver t.read
  over_read t c e = (
    record {
      read = t.read;
      pieces = t.pieces;
      whole = not_under status (omega (arith, e));
      all = not_under status (omega (arith, e));
      cut = λ h. cut_by (outcome (joined t.read)) status before now after read_failed (inr (inl refl))
          (begun-taken before.out now.out (said_of server (joined t.read)).text (writes_taken before.out now.out (said_of server (joined t.read)).text t.ends.writes))
          messages_begun (reports_begun read_failed 3 status after now.err c) (not_four status e);
      failures = record {
        failed = λ f. elim t.faults [ inl n ↦ inl n | inr u ↦ inr (inr (inr u)) ];
        well = λ h. absurd (h e);
      };
      statuses = omega (arith, e);
    },
    refl,
  )

  -- a first part of a reply is a first part of all that is said
  stops_begun : (fault : SessionFault) (text : Text) (s : StopsIn fault (opened server) text before.out now.out) → HasBegun s.after s.next now.out → HasBegun before.out (said_of server text).text now.out
  stops_begun fault text s b =
      let there = s.leads [] in
      let is : (said_of server text).text ≡ (s.said ++ s.next) ++ there.0 = ap (λ text. (said_of server text).text) (sym (append-nil text)) ∙ there.1 in
      subst (λ text. HasBegun before.out text now.out) (sym is)
      (begun-first before.out now.out (s.said ++ s.next) there.0 (begun-following before.out s.after now.out s.said s.next (writes_taken before.out s.after s.said s.writes) b))

  over_write : (t : ServesInput server (Err Write) (devices_of before) (devices_of now)) → Concludes (Err Write) status after now.err → status ≡ 3 → ServesOver t.read
  over_write t c e =
      let s = t.ends in (
        record {
          read = t.read;
          pieces = t.pieces;
          whole = not_under status (omega (arith, e));
          all = not_under status (omega (arith, e));
          cut = λ h. cut_by (outcome (joined t.read)) status before now after write_failed (inr (inr (inl refl)))
              (stops_begun Write (joined t.read) s s.stops.taken) messages_begun (reports_begun write_failed 3 status after now.err c) (not_four status e);
          failures = record {
            failed = λ f. inr (inl (subst (λ n. Counts 1 n now.out.faults) (writes_well before.out s.after s.said s.writes) s.stops.failed));
            well = λ h. absurd (h e);
          };
          statuses = omega (arith, e);
        },
        refl,
      )

  over_memory : (t : ServesInput server (Err Memory) (devices_of before) (devices_of now)) → Concludes (Err Memory) status after now.err → ServesOver t.read
  over_memory t c =
      let s = t.ends in (
        record {
          read = t.read;
          pieces = t.pieces;
          whole = not_under status (memory_status status after now.err c);
          all = not_under status (memory_status status after now.err c);
          cut = λ h. cut_by (outcome (joined t.read)) status before now after out_of_memory (inr (inr (inr refl)))
              (stops_begun Memory (joined t.read) s (0, omega arith, ap (λ sink. sink.taken) s.stops ∙ sym (followed_by-nil s.after.taken)))
              messages_begun (reports_begun out_of_memory 4 status after now.err c) (at_memory status after now.err c);
          failures = reported_failures c t.faults (ap (λ sink. sink.faults) s.stops ∙ writes_well before.out s.after s.said s.writes);
          statuses = memory_most status after now.err c;
        },
        refl,
      )
    where
      reported_failures : ReportsFailure out_of_memory 4 status after now.err → now.input.faults ≡ before.input.faults → now.out.faults ≡ before.out.faults → ReportsFailures status (length t.read) before now
      reported_failures (inl p) e f = record { failed = λ g. not_four status g p.0; well = λ h. (e, f, p.1.well ∙ says.well) }
      reported_failures (inr p) e f = record { failed = λ g. inr (inr (inl (subst (λ n. Counts 1 n now.err.faults) says.well p.1.failed))); well = λ h. absurd (h p.0) }

  served_over : (end : Result (Option Exit) SessionFault) (t : ServesInput server end (devices_of before) (devices_of now)) → Concludes end status after now.err → ServesOver t.read
  served_over (Ok None) t c = over_ended t c
  served_over (Ok (Some exit)) t c = over_exited exit t c
  served_over (Err Read) t c = over_read t c (three read_failed status after now.err c)
  served_over (Err Write) t c = over_write t c (three write_failed status after now.err c)
  served_over (Err Memory) t c = over_memory t c

  concluded : (end : Result (Option Exit) SessionFault) (t : ServesInput server end (devices_of before) (devices_of now)) → Concludes end status after now.err → SaysWhy (length t.read) status after before now
  concluded (Ok exit) t c = inl (omega (arith, c.0, small_status exit), c.1)
  concluded (Err Read) t c = inr (inl (t.faults, c))
  concluded (Err Write) t c = let s = t.ends in inr (inr (inl (subst (λ n. Counts 1 n now.out.faults) (writes_well before.out s.after s.said s.writes) s.stops.failed, c)))
  concluded (Err Memory) t c = let s = t.ends in inr (inr (inr (t.faults, ap (λ sink. sink.faults) s.stops ∙ writes_well before.out s.after s.said s.writes, c)))

  pub served : (end : Result (Option Exit) SessionFault) → ServesInput server end (devices_of before) (devices_of now) → Concludes end status after now.err → ServesEditor messages server status before now
  served end t c =
      let s = served_over end t c in
      let steps : Replies messages server t.read status before now = record {
        order = inr (record { after = after; says = says; concludes = concluded end t c });
        reads = t.reads;
        goes_on = t.goes_on;
        due = t.due;
      } in
      record { serves = s.0; steps = subst (λ read. Replies messages server read status before now) (sym s.1) steps }

-- nothing is read or replied: the error output failed at the messages
pub stopped_at_messages : {A : Type 0} (messages : Text) (server : Server A) (status : ℕ) (before now : Streams) → now.input ≡ before.input → now.out ≡ before.out → status ≡ 3 → BreaksOff before.err messages now.err → ServesEditor messages server status before now
stopped_at_messages messages server status before now unread untouched e breaks = record {
  serves = record {
    read = [];
    pieces = ap (λ s. s.pieces) unread ∙ sym (followed_by-nil before.input.pieces);
    whole = not_under status (omega (arith, e));
    all = not_under status (omega (arith, e));
    cut = λ h. messages_cut (session_outcome messages server []) status before now untouched e breaks.taken;
    failures = record { failed = λ f. inr (inr (inl breaks.failed)); well = λ h. absurd (h e) };
    statuses = omega (arith, e);
  };
  steps = record {
    order = inl (record { unread = unread; unanswered = untouched; reports = inl (e, breaks) });
    reads = inl (rw unread (record { reads = counts-none before.input.reads; well = refl }));
    goes_on = (tt, λ failed. tt);
    due = (record { stays = refl; flushed = inl refl }, λ failed. record { stays = refl; flushed = inl refl });
  };
}
