-- Turn after turn over an input.
use Rattle.std.proofs.Common.{◌≡◌, ℕ, ◌+◌, inl, inr, true, Option, Some, None, List, [], ◌∷◌, ◌++◌, Ok, Err, length, refl, ap, sym, ◌∙◌, subst, length-append}
use Rattle.std.proofs.lemmas.List.{append-nil}
use Rattle.text_bytes.specs.Text.{Text}
use Rattle.engine_sessions.specs.Reported.{followed_by, led_by}
use Rattle.engine_sessions.specs.Counts.{Counts}
use Rattle.engine_sessions.specs.Sources.{SourceState}
use Rattle.engine_sessions.specs.Sinks.{SinkState}
use Rattle.engine_sessions.proofs.Counting.{counts-none}
use Rattle.engine_sessions.proofs.Reported.{followed_by-nil}
use Rattle.engine_sessions.specs.Inputs.{BeforeReads, GoesOn, ReadsWell, all_but_last, most_turns}
use Rattle.engine_sessions.specs.Serves.{WritesOut}
use Rattle.engine_sessions.specs.Turns.{Reads, joined}
use Rattle.engine_sessions.proofs.ReadPieces.{all_but_last-push, goes_on-few, goes_on-push, joined-push, led_by-nil, left_after, none_left_after, one_more, reads_after, reads_more, shown, some_byte, to_fault, went_on}
use Rattle.lsp_server.specs.AnyServer.{Server, said_of}
use Rattle.lsp_server.specs.Runs.{HasReplied}
use Rattle.lsp_server.specs.Taking.{ExitsIn, GoesBy, Situation, StopsIn, StopsInReply, opened, said_by}
use Rattle.lsp_server.specs.Inputs.{EndsBy, Exits, FailsAfterRead, FaultsBy, InputEnds, IsReplied, Proceeds, ServesInput, TurnFails, Turns}
use Rattle.lsp_server.specs.declared.replying.Exit.{Exit}
use Rattle.lsp_server.specs.declared.sending.SessionFault.{SessionFault}
use Rattle.lsp_server.specs.declared.sending.SessionFault.TheVariants.{Read, Write, Memory}
use Rattle.lsp_server.specs.declared.turning.Next.{Next}
use Rattle.lsp_server.specs.declared.turning.Next.TheVariants.{GoesOn as More, Ends}
use Rattle.engine_sessions.proofs.WriteLemmas.{flushed_first, writes-after, writes-none}
use Rattle.lsp_server.proofs.TakingLemmas.{exits-after, goes-after, goes-none, stops-after}

module _ {A : Type 0} (server : Server A) where
  -- After some turns the client has not exited, and all items that are complete are replied to.
  pub record AfterTurns (turns : ℕ) (held : Situation A) (input now : SourceState) (output sink : SinkState) : Type 0 where
    pub read : List Text
    pub pieces : now.pieces ≡ followed_by input.pieces read
    pub left : input.left ≡ led_by (joined read) now.left
    pub counts : ReadsWell turns input now
    pub turn_count : length read ≡ turns
    pub goes_on : GoesOn read
    pub goes : GoesBy (opened server) (joined read) held output sink
    pub due : HasReplied server (all_but_last read) output sink

  -- what is said to a text after which the client has not exited
  said_so_far : (text : Text) (held : Situation A) (output sink : SinkState) (g : GoesBy (opened server) text held output sink) → said_of server text ≡ record { text = g.said; exit = None }
  said_so_far text held output sink g =
      ap (said_by (opened server)) (sym (append-nil text)) ∙ g.leads [] ∙ ap (λ text. record { text = text; exit = None }) (append-nil g.said)

  is_replied : (text : Text) (held : Situation A) (output sink : SinkState) → GoesBy (opened server) text held output sink → IsReplied server text output sink
  is_replied text held output sink g =
      let is = said_so_far text held output sink g in
      record { stays = ap (λ said. said.exit) is; writes = subst (λ text. WritesOut output text sink) (sym (ap (λ said. said.text) is)) g.writes }

  -- the replies to the items of the pieces are flushed in front of what was written then
  has_replied : (read : List Text) (held : Situation A) (output sink after now : SinkState) (more : Text) → GoesBy (opened server) (joined read) held output sink → WritesOut sink more after → now.flushed ≡ after.flushed → HasReplied server read output now
  has_replied read held output sink after now more g w e =
      let r = is_replied (joined read) held output sink g in
      record { stays = r.stays; flushed = flushed_first output after now (said_of server (joined read)).text more e (writes-after output sink after (said_of server (joined read)).text more r.writes w) }

  -- the same of all pieces but the last
  has_replied_due : (read : List Text) (piece : Text) (output now : SinkState) → HasReplied server read output now → HasReplied server (all_but_last (read ++ piece ∷ [])) output now
  has_replied_due read piece output now h = subst (λ pieces. HasReplied server pieces output now) (sym (all_but_last-push read piece)) h

  -- and before each read, if none failed
  had_replied : (read : List Text) (piece : Text) (input input_now : SourceState) (output now : SinkState) → input_now.faults ≡ input.faults → HasReplied server read output now
      → BeforeReads (λ pieces. HasReplied server pieces output now) (read ++ piece ∷ []) input input_now
  had_replied read piece input input_now output now well h = (has_replied_due read piece output now h, λ f. absurd (f well))

  pub turns_at_start : (held : Situation A) (input : SourceState) (output : SinkState) → held ≡ opened server → AfterTurns 0 held input input output output
  turns_at_start held input output e = rw e (record {
    read = [];
    pieces = sym (followed_by-nil input.pieces);
    left = sym (led_by-nil input.left);
    counts = record { reads = counts-none input.reads; well = refl };
    turn_count = refl;
    goes_on = tt;
    goes = goes-none (opened server) output;
    due = record { stays = refl; flushed = inl refl };
  })

  module _ (turns : ℕ) (held : Situation A) (input now later : SourceState) (output sink sink_later : SinkState) (t : AfterTurns turns held input now output sink) where
    pub turns_more : (next : Situation A) → Proceeds held next (shown now sink) (shown later sink_later) → AfterTurns (turns + 1) next input later output sink_later
    turns_more next g = record {
      read = t.read ++ g.piece ∷ [];
      pieces = one_more input now later t.read g.piece t.pieces g.reads.gives.pieces;
      left = left_after input now later t.read g.piece t.left g.reads.gives.left;
      counts = reads_more turns input now later t.counts g.reads.gives.reads g.reads.gives.well;
      turn_count = length-append t.read (g.piece ∷ []) ∙ ap (λ n. n + 1) t.turn_count;
      goes_on = goes_on-push t.read g.piece t.goes_on (some_byte now later g.piece g.reads);
      goes = subst (λ all. GoesBy (opened server) all next output sink_later) (sym (joined-push t.read g.piece))
          (goes-after (opened server) held next (joined t.read) g.piece output sink sink_later t.goes g.goes);
      due = has_replied_due t.read g.piece output sink_later (has_replied t.read held output sink sink_later sink_later g.goes.said t.goes g.goes.writes refl);
    }

    -- the input ends
    pub finished : InputEnds (shown now sink) (shown later sink_later) → ServesInput server (Ok None) (shown input output) (shown later sink_later)
    finished e =
        let none : e.piece ≡ [] = e.reads.ends.0 refl in
        let text : joined (t.read ++ e.piece ∷ []) ≡ joined t.read = joined-push t.read e.piece ∙ ap (λ piece. joined t.read ++ piece) none ∙ append-nil (joined t.read) in
        let well : later.faults ≡ input.faults = e.reads.gives.well ∙ t.counts.well in
        let replied : IsReplied server (joined t.read) output sink_later = subst (λ s. IsReplied server (joined t.read) output s) (sym e.untouched) (is_replied (joined t.read) held output sink t.goes) in
        record {
          read = t.read ++ e.piece ∷ [];
          pieces = one_more input now later t.read e.piece t.pieces e.reads.gives.pieces;
          left = left_after input now later t.read e.piece t.left e.reads.gives.left;
          faults = well;
          reads = inl (reads_after turns input now later t.read e.piece t.turn_count t.counts e.reads.gives);
          goes_on = went_on t.read e.piece input later t.goes_on well;
          due = had_replied t.read e.piece input later output sink_later well
              (has_replied t.read held output sink sink sink_later [] t.goes (writes-none sink) (ap (λ s. s.flushed) e.untouched));
          ends = (subst (λ all. IsReplied server all output sink_later) (sym text) replied, none_left_after now.left later.left e.piece none e.reads.gives.left (e.reads.none_left refl));
        }

    -- the client exits
    pub exited : (exit : Exit) → Exits exit held (shown now sink) (shown later sink_later) → ServesInput server (Ok (Some exit)) (shown input output) (shown later sink_later)
    exited exit e =
        let well : later.faults ≡ input.faults = e.reads.gives.well ∙ t.counts.well in
        record {
          read = t.read ++ e.piece ∷ [];
          pieces = one_more input now later t.read e.piece t.pieces e.reads.gives.pieces;
          left = left_after input now later t.read e.piece t.left e.reads.gives.left;
          faults = well;
          reads = inl (reads_after turns input now later t.read e.piece t.turn_count t.counts e.reads.gives);
          goes_on = went_on t.read e.piece input later t.goes_on well;
          due = had_replied t.read e.piece input later output sink_later well (has_replied t.read held output sink sink_later sink_later e.exits.said t.goes e.exits.writes refl);
          ends = subst (λ all. ExitsIn exit (opened server) all output sink_later) (sym (joined-push t.read e.piece))
              (exits-after exit (opened server) held (joined t.read) e.piece output sink sink_later t.goes e.exits);
        }

    -- what a turn after which nothing comes leaves
    pub ended : (next : Next) (exit : Option Exit) (new : Situation A) → next ≡ Ends exit → Turns next held new (shown now sink) (shown later sink_later) → ServesInput server (Ok exit) (shown input output) (shown later sink_later)
    ended next exit new is made = by_exit exit (subst (λ n. Turns n held new (shown now sink) (shown later sink_later)) is made)
      where
        by_exit : (exit : Option Exit) → Turns (Ends exit) held new (shown now sink) (shown later sink_later) → ServesInput server (Ok exit) (shown input output) (shown later sink_later)
        by_exit None e = finished e
        by_exit (Some exit) e = exited exit e

    -- and one after which another comes
    pub gone_on : (next : Next) (new : Situation A) → ((exit : Option Exit) → next ≡ Ends exit → ⊥) → Turns next held new (shown now sink) (shown later sink_later) → AfterTurns (turns + 1) new input later output sink_later
    gone_on More new more made = turns_more new made
    gone_on (Ends exit) new more made = absurd (more exit refl)

    -- if it stops, nothing more is flushed than the replies before
    stops_flushed : (fault : SessionFault) (next : Text) (after : SinkState) → StopsInReply fault next after sink_later → sink_later.flushed ≡ after.flushed
    stops_flushed Read next after s = absurd s
    stops_flushed Write next after s = s.flushed
    stops_flushed Memory next after s = ap (λ s. s.flushed) s

    after_read : (fault : SessionFault) (f : FailsAfterRead fault held (shown now sink) (shown later sink_later))
        → (StopsIn fault (opened server) (joined (t.read ++ f.piece ∷ [])) output sink_later → EndsBy server (Err fault) (joined (t.read ++ f.piece ∷ [])) later.left output sink_later)
        → (later.faults ≡ input.faults → FaultsBy (Err fault) (length (t.read ++ f.piece ∷ [])) input later) → ServesInput server (Err fault) (shown input output) (shown later sink_later)
    after_read fault f ends faults =
        let well : later.faults ≡ input.faults = f.reads.gives.well ∙ t.counts.well in
        record {
          read = t.read ++ f.piece ∷ [];
          pieces = one_more input now later t.read f.piece t.pieces f.reads.gives.pieces;
          left = left_after input now later t.read f.piece t.left f.reads.gives.left;
          faults = faults well;
          reads = inl (reads_after turns input now later t.read f.piece t.turn_count t.counts f.reads.gives);
          goes_on = went_on t.read f.piece input later t.goes_on well;
          due = had_replied t.read f.piece input later output sink_later well
              (has_replied t.read held output sink f.stops.after sink_later f.stops.said t.goes f.stops.writes (stops_flushed fault f.stops.next f.stops.after f.stops.stops));
          ends = ends (subst (λ all. StopsIn fault (opened server) all output sink_later) (sym (joined-push t.read f.piece))
              (stops-after fault (opened server) held (joined t.read) f.piece output sink sink_later t.goes f.stops));
        }

    pub failed : (fault : SessionFault) → TurnFails fault held (shown now sink) (shown later sink_later) → ServesInput server (Err fault) (shown input output) (shown later sink_later)
    failed Read f = record {
      read = t.read;
      pieces = f.0.pieces ∙ t.pieces;
      left = t.left ∙ ap (led_by (joined t.read)) (sym f.0.left);
      faults = inl (subst (λ n. Counts 1 n later.faults) t.counts.well f.0.failed);
      reads = inr (to_fault turns (length t.read) input now later t.turn_count t.counts f.0);
      goes_on = (goes_on-few t.read t.goes_on, λ failed. t.goes_on);
      due = (
        subst (λ s. HasReplied server (all_but_last t.read) output s) (sym f.1) t.due,
        λ failed. has_replied t.read held output sink sink sink_later [] t.goes (writes-none sink) (ap (λ s. s.flushed) f.1),
      );
      ends = subst (λ s. IsReplied server (joined t.read) output s) (sym f.1) (is_replied (joined t.read) held output sink t.goes);
    }
    failed Write f = after_read Write f (λ s. s) (λ e. e)
    failed Memory f = after_read Memory f (λ s. s) (λ e. e)

  -- no turn is left
  pub used_up : (held : Situation A) (input now : SourceState) (output sink : SinkState) → AfterTurns most_turns held input now output sink → ServesInput server (Err Read) (shown input output) (shown now sink)
  used_up held input now output sink t = record {
    read = t.read;
    pieces = t.pieces;
    left = t.left;
    faults = inr (record { all = t.turn_count; reads = t.counts.reads });
    reads = inl (subst (λ n. ReadsWell n input now) (sym t.turn_count) t.counts);
    goes_on = (goes_on-few t.read t.goes_on, λ failed. t.goes_on);
    due = (t.due, λ failed. absurd (failed t.counts.well));
    ends = is_replied (joined t.read) held output sink t.goes;
  }

-- a turn that stops after its read
pub turn_fails : {A : Type 0} (fault : SessionFault) (old : Situation A) (input input_now : SourceState) (output output_now : SinkState) (piece : Text) → Reads true input piece input_now → StopsIn fault old piece output output_now → TurnFails fault old (shown input output) (shown input_now output_now)
turn_fails Read old input input_now output output_now piece r s = absurd s.stops
turn_fails Write old input input_now output output_now piece r s = record { piece = piece; reads = r; stops = s }
turn_fails Memory old input input_now output output_now piece r s = record { piece = piece; reads = r; stops = s }
