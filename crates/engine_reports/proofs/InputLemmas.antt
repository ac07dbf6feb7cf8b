-- Turn after turn over an input.
use Rattle.std.proofs.Common.{◌≡◌, ℕ, ◌+◌, ◌*◌, ◌<◌, ◌≤◌, ◌⊎◌, inl, inr, Bool, true, false, Option, Some, None, List, [], ◌∷◌, ◌++◌, Result, Ok, Err, length, take, flat_map, refl, ap, sym, ◌∙◌, subst, append_assoc, length-append, arith}
use Rattle.std.proofs.lemmas.Bool.{cases_lt}
use Rattle.std.proofs.lemmas.List.{append-nil, take-append-le}
use Rattle.std.proofs.lemmas.Grind.{flat_map-append}
use Rattle.std.proofs.Math.Seq.{take-length}
use Rattle.text_bytes.specs.Lines.{lines}
use Rattle.text_bytes.specs.Text.{Text}
use Rattle.device_core.specs.RunBlocks.{newline_count}
use Rattle.engine_sessions.specs.Reported.{followed_by, led_by, NoneLeft}
use Rattle.engine_sessions.specs.Counts.{Counts}
use Rattle.engine_sessions.specs.Sources.{Gives, SourceFails, SourceState}
use Rattle.engine_sessions.specs.Sinks.{HandsOn, SinkState}
use Rattle.engine_sessions.proofs.Counting.{counts-none}
use Rattle.engine_sessions.proofs.Reported.{followed_by-nil}
use Rattle.engine_sessions.specs.Inputs.{BeforeReads, GoesOn, ReadsWell, UsesUp, all_but_last, most_turns}
use Rattle.engine_sessions.specs.Serves.{HasFlushed, WritesOut}
use Rattle.engine_sessions.specs.Turns.{Reads, joined, most_read}
use Rattle.engine_sessions.proofs.ReadPieces.{all_but_last-push, goes_on-few, goes_on-push, joined-push, later_none, led_by-nil, left_after, none_left_after, one_more, reads_after, reads_more, shown, some_byte, to_fault, went_on}
use Rattle.engine_reports.specs.LookupOutcomes.{most_bytes}
use Rattle.engine_reports.specs.Runs.{HasAnswered, HoldsFew, ended_lines, unended}
use Rattle.engine_reports.specs.Taking.{Answers, HeldLine, IsOpen, Leads, StopsBy, StopsIn, first_line}
use Rattle.engine_reports.specs.Inputs.{AnswersInput, Ends, EndsBy, FailsAfterRead, FaultsBy, IsAnswered, IsAnsweredSoFar, Proceeds, StopsInput, TurnFails}
use Rattle.engine_reports.specs.declared.held.LookupFault.{LookupFault}
use Rattle.engine_reports.specs.declared.held.LookupFault.TheVariants.{Read, Write, TooLong, Memory}
use Rattle.engine_reports.proofs.LineLemmas.{cut_lines, ended_are, unended_is}
use Rattle.engine_sessions.proofs.WriteLemmas.{flushed_first, writes-after, writes-none}
use Rattle.engine_reports.proofs.AnswerLemmas.{leads-after}
use Rattle.engine_reports.proofs.TakingLemmas.{answers-after, answers-none, few_ended, open_is, stops-after}

-- no more is held of a line, neither before one of these pieces nor after them, than a line may have
abbrev pub HoldsUpTo : List Text → Type 0
HoldsUpTo read = (n : ℕ) → n ≤ length read → length (unended (joined (take n read))) ≤ most_bytes

-- All lines that ended in some turns are answered.
pub record AfterTurns (answer : Text → Text) (turns : ℕ) (held : HeldLine) (input now : SourceState) (output sink : SinkState) : Type 0 where
  pub read : List Text
  pub pieces : now.pieces ≡ followed_by input.pieces read
  pub left : input.left ≡ led_by (joined read) now.left
  pub counts : ReadsWell turns input now
  pub turn_count : length read ≡ turns
  pub goes_on : GoesOn read
  pub fits : HoldsUpTo read
  pub answers : Answers answer first_line (joined read) held output sink
  pub due : HasAnswered answer (all_but_last read) output sink
  pub few : held.number ≤ turns * 4096 + 1

few_after : (read : List Text) (piece : Text) → HoldsUpTo read → HoldsFew (read ++ piece ∷ [])
few_after read piece fits n h =
    let within : n ≤ length read = omega (arith, h, length-append read (piece ∷ [])) in
    subst (λ pieces. length (unended (joined pieces)) ≤ most_bytes) (sym (take-append-le n read (piece ∷ []) within)) (fits n within)

few_of : (read : List Text) → HoldsUpTo read → HoldsFew read
few_of read fits n h = fits n (omega (arith, h))

up_to_after : (read : List Text) (piece : Text) → HoldsUpTo read → length (unended (joined (read ++ piece ∷ []))) ≤ most_bytes → HoldsUpTo (read ++ piece ∷ [])
up_to_after read piece fits last n h = by_case (cases_lt n (length (read ++ piece ∷ [])))
  where
    by_case : (n < length (read ++ piece ∷ [])) ⊎ (length (read ++ piece ∷ []) ≤ n) → length (unended (joined (take n (read ++ piece ∷ [])))) ≤ most_bytes
    by_case (inl l) = few_after read piece fits n l
    by_case (inr l) =
        let all : n ≡ length (read ++ piece ∷ []) = omega (arith, h, l) in
        subst (λ pieces. length (unended (joined pieces)) ≤ most_bytes) (sym (ap (λ k. take k (read ++ piece ∷ [])) all ∙ take-length (read ++ piece ∷ []))) last

none_at_start : HoldsUpTo []
none_at_start n h = let none : n ≡ 0 = omega (arith, h) in rw none (omega arith)

-- what is held after lines are answered
held_few : (answer : Text → Text) (text : Text) (held : HeldLine) (output sink : SinkState) → Answers answer first_line text held output sink → length (unended text) ≤ most_bytes
held_few answer text held output sink a = subst (λ rest. length rest ≤ most_bytes) (sym (unended_is text a.ended held.bytes a.cut)) a.fits

first_open : IsOpen first_line
first_open = record { none = refl; fits = omega arith }

-- the lines that ended in the pieces are answered in front of what was written then
has_answered : (answer : Text → Text) (read : List Text) (held : HeldLine) (output sink after now : SinkState) (more : Text) → Answers answer first_line (joined read) held output sink → WritesOut sink more after → now.flushed ≡ after.flushed → HasAnswered answer read output now
has_answered answer read held output sink after now more a w e =
    subst (λ ls. HasFlushed output (flat_map answer ls) now) (sym (ended_are (joined read) a.ended held.bytes a.cut))
    (flushed_first output after now (flat_map answer a.ended) more e (writes-after output sink after (flat_map answer a.ended) more a.writes w))

-- the same of all pieces but the last
has_answered_due : (answer : Text → Text) (read : List Text) (piece : Text) (output now : SinkState) → HasAnswered answer read output now → HasAnswered answer (all_but_last (read ++ piece ∷ [])) output now
has_answered_due answer read piece output now h = subst (λ pieces. HasAnswered answer pieces output now) (sym (all_but_last-push read piece)) h

-- and before each read, if none failed
had_answered : (answer : Text → Text) (read : List Text) (piece : Text) (input input_now : SourceState) (output now : SinkState) → input_now.faults ≡ input.faults → HasAnswered answer read output now
    → BeforeReads (λ pieces. HasAnswered answer pieces output now) (read ++ piece ∷ []) input input_now
had_answered answer read piece input input_now output now well h = (has_answered_due answer read piece output now h, λ f. absurd (f well))

pub turns_at_start : (answer : Text → Text) (held : HeldLine) (input : SourceState) (output : SinkState) → held ≡ first_line → AfterTurns answer 0 held input input output output
turns_at_start answer held input output e = rw e (record {
  read = [];
  pieces = sym (followed_by-nil input.pieces);
  left = sym (led_by-nil input.left);
  counts = record { reads = counts-none input.reads; well = refl };
  turn_count = refl;
  goes_on = tt;
  fits = none_at_start;
  answers = answers-none answer first_line output first_open;
  due = inl refl;
  few = omega arith;
})

pub turns_open : (answer : Text → Text) (turns : ℕ) (held : HeldLine) (input now : SourceState) (output sink : SinkState) → AfterTurns answer turns held input now output sink → IsOpen held
turns_open answer turns held input now output sink t = open_is answer first_line (joined t.read) held output sink t.answers

pub turns_more : (answer : Text → Text) (turns : ℕ) (held next : HeldLine) (input now later : SourceState) (output sink sink_later : SinkState) → AfterTurns answer turns held input now output sink → Proceeds answer held next (shown now sink) (shown later sink_later) → AfterTurns answer (turns + 1) next input later output sink_later
turns_more answer turns held next input now later output sink sink_later t g =
    let text : joined (t.read ++ g.piece ∷ []) ≡ joined t.read ++ g.piece = joined-push t.read g.piece in
    let both : Answers answer first_line (joined (t.read ++ g.piece ∷ [])) next output sink_later = subst (λ all. Answers answer first_line all next output sink_later) (sym text) (answers-after answer first_line held next (joined t.read) g.piece output sink sink_later t.answers g.answers) in
    record {
      read = t.read ++ g.piece ∷ [];
      pieces = one_more input now later t.read g.piece t.pieces g.reads.gives.pieces;
      left = left_after input now later t.read g.piece t.left g.reads.gives.left;
      counts = reads_more turns input now later t.counts g.reads.gives.reads g.reads.gives.well;
      turn_count = length-append t.read (g.piece ∷ []) ∙ ap (λ n. n + 1) t.turn_count;
      goes_on = goes_on-push t.read g.piece t.goes_on (some_byte now later g.piece g.reads);
      fits = up_to_after t.read g.piece t.fits (held_few answer (joined (t.read ++ g.piece ∷ [])) next output sink_later both);
      answers = both;
      due = has_answered_due answer t.read g.piece output sink_later (has_answered answer t.read held output sink sink_later sink_later (flat_map answer g.answers.ended) t.answers g.answers.writes refl);
      few = omega (arith, t.few, g.reads.most, few_ended answer held g.piece next sink sink_later (turns_open answer turns held input now output sink t) g.answers);
    }

pub finished : (answer : Text → Text) (turns : ℕ) (held : HeldLine) (input now later : SourceState) (output sink sink_later : SinkState) → AfterTurns answer turns held input now output sink → Ends answer held (shown now sink) (shown later sink_later) → AnswersInput answer (Ok tt) (shown input output) (shown later sink_later)
finished answer turns held input now later output sink sink_later t e =
    let none : e.piece ≡ [] = e.reads.ends.0 refl in
    let last : lines (joined (t.read ++ e.piece ∷ [])) ≡ t.answers.ended ++ lines held.bytes =
    ap lines (joined-push t.read e.piece ∙ ap (λ piece. joined t.read ++ piece) none ∙ append-nil (joined t.read)) ∙ cut_lines (joined t.read) t.answers.ended held.bytes t.answers.cut in
    let text : flat_map answer (t.answers.ended ++ lines held.bytes) ≡ flat_map answer t.answers.ended ++ flat_map answer (lines held.bytes) = flat_map-append answer t.answers.ended (lines held.bytes) in
    let all : WritesOut output (flat_map answer t.answers.ended ++ flat_map answer (lines held.bytes)) sink_later =
    writes-after output sink sink_later (flat_map answer t.answers.ended) (flat_map answer (lines held.bytes)) t.answers.writes e.writes in
    record {
      read = t.read ++ e.piece ∷ [];
      pieces = one_more input now later t.read e.piece t.pieces e.reads.gives.pieces;
      left = left_after input now later t.read e.piece t.left e.reads.gives.left;
      faults = e.reads.gives.well ∙ t.counts.well;
      reads = inl (reads_after turns input now later t.read e.piece t.turn_count t.counts e.reads.gives);
      goes_on = went_on t.read e.piece input later t.goes_on (e.reads.gives.well ∙ t.counts.well);
      fits = few_after t.read e.piece t.fits;
      due = had_answered answer t.read e.piece input later output sink_later (e.reads.gives.well ∙ t.counts.well)
          (has_answered answer t.read held output sink sink_later sink_later (flat_map answer (lines held.bytes)) t.answers e.writes refl);
      ends = record {
        leads = subst (Leads answer) (sym last) (leads-after answer t.answers.ended (lines held.bytes) t.answers.leads e.leads);
        writes = subst (λ said. WritesOut output said sink_later) (sym (ap (flat_map answer) last ∙ text)) all;
        none_left = none_left_after now.left later.left e.piece none e.reads.gives.left (e.reads.none_left refl);
      };
    }

-- if it stops, nothing more is flushed than the answers before
stops_flushed : (answer : Text → Text) (fault : LookupFault) (number : ℕ) (others : List Text) (after now : SinkState) → StopsBy answer fault number others after now → now.flushed ≡ after.flushed
stops_flushed answer Read number others after now s = absurd s
stops_flushed answer Write number others after now s = s.breaks.flushed
stops_flushed answer (TooLong counted) number others after now s = ap (λ sink. sink.flushed) s.untouched
stops_flushed answer Memory number others after now s = ap (λ sink. sink.flushed) s

after_read : (answer : Text → Text) (fault : LookupFault) (turns : ℕ) (held : HeldLine) (input now later : SourceState) (output sink sink_later : SinkState) (t : AfterTurns answer turns held input now output sink) (f : FailsAfterRead answer fault held (shown now sink) (shown later sink_later))
    → (StopsInput answer fault (joined (t.read ++ f.piece ∷ [])) later.left output sink_later → EndsBy answer (Err fault) (joined (t.read ++ f.piece ∷ [])) later.left output sink_later)
    → (later.faults ≡ input.faults → FaultsBy (Err fault) (length (t.read ++ f.piece ∷ [])) input later) → AnswersInput answer (Err fault) (shown input output) (shown later sink_later)
after_read answer fault turns held input now later output sink sink_later t f ends faults =
    let well : later.faults ≡ input.faults = f.reads.gives.well ∙ t.counts.well in
    let flushed : sink_later.flushed ≡ f.stops.after.flushed = stops_flushed answer fault (held.number + length f.stops.ended) (f.stops.at [] (λ e. refl)).others f.stops.after sink_later (f.stops.at [] (λ e. refl)).stops in
    let stops : StopsIn answer fault f.more 1 (joined t.read ++ f.piece) output sink_later = stops-after answer fault f.more first_line held (joined t.read) f.piece output sink sink_later t.answers f.stops in
    record {
      read = t.read ++ f.piece ∷ [];
      pieces = one_more input now later t.read f.piece t.pieces f.reads.gives.pieces;
      left = left_after input now later t.read f.piece t.left f.reads.gives.left;
      faults = faults well;
      reads = inl (reads_after turns input now later t.read f.piece t.turn_count t.counts f.reads.gives);
      goes_on = went_on t.read f.piece input later t.goes_on well;
      fits = few_after t.read f.piece t.fits;
      due = had_answered answer t.read f.piece input later output sink_later well
          (has_answered answer t.read held output sink f.stops.after sink_later (flat_map answer f.stops.ended) t.answers f.stops.writes flushed);
      ends = ends (record {
        more = f.more;
        stops = subst (λ text. StopsIn answer fault f.more 1 text output sink_later) (sym (joined-push t.read f.piece)) stops;
        last = λ rest e g. later_none f.more now later f.piece rest f.reads e g;
      });
    }

pub failed : (answer : Text → Text) (fault : LookupFault) (turns : ℕ) (held : HeldLine) (input now later : SourceState) (output sink sink_later : SinkState) → AfterTurns answer turns held input now output sink → TurnFails answer fault held (shown now sink) (shown later sink_later) → AnswersInput answer (Err fault) (shown input output) (shown later sink_later)
failed answer Read turns held input now later output sink sink_later t f = record {
  read = t.read;
  pieces = f.0.pieces ∙ t.pieces;
  left = t.left ∙ ap (led_by (joined t.read)) (sym f.0.left);
  faults = inl (subst (λ n. Counts 1 n later.faults) t.counts.well f.0.failed);
  reads = inr (to_fault turns (length t.read) input now later t.turn_count t.counts f.0);
  goes_on = (goes_on-few t.read t.goes_on, λ failed. t.goes_on);
  fits = few_of t.read t.fits;
  due = (
    subst (λ s. HasAnswered answer (all_but_last t.read) output s) (sym f.1) t.due,
    λ failed. has_answered answer t.read held output sink sink sink_later [] t.answers (writes-none sink) (ap (λ s. s.flushed) f.1),
  );
  ends = subst (λ s. IsAnsweredSoFar answer (joined t.read) output s) (sym f.1) (record { held = held; answers = t.answers });
}
failed answer Write turns held input now later output sink sink_later t f = after_read answer Write turns held input now later output sink sink_later t f (λ s. s) (λ e. e)
failed answer (TooLong counted) turns held input now later output sink sink_later t f = after_read answer (TooLong counted) turns held input now later output sink sink_later t f (λ s. s) (λ e. e)
failed answer Memory turns held input now later output sink sink_later t f = after_read answer Memory turns held input now later output sink sink_later t f (λ s. s) (λ e. e)

-- no turn is left
pub used_up : (answer : Text → Text) (held : HeldLine) (input now : SourceState) (output sink : SinkState) → AfterTurns answer most_turns held input now output sink → AnswersInput answer (Err Read) (shown input output) (shown now sink)
used_up answer held input now output sink t = record {
  read = t.read;
  pieces = t.pieces;
  left = t.left;
  faults = inr (record { all = t.turn_count; reads = t.counts.reads });
  reads = inl (subst (λ n. ReadsWell n input now) (sym t.turn_count) t.counts);
  goes_on = (goes_on-few t.read t.goes_on, λ failed. t.goes_on);
  fits = few_of t.read t.fits;
  due = (t.due, λ failed. absurd (failed t.counts.well));
  ends = record { held = held; answers = t.answers };
}

-- a turn that stops after its read
pub turn_fails : (answer : Text → Text) (fault : LookupFault) (old : HeldLine) (input input_now : SourceState) (output output_now : SinkState) (more : Bool) (piece : Text) → Reads more input piece input_now → StopsIn answer fault more old.number (old.bytes ++ piece) output output_now → TurnFails answer fault old (shown input output) (shown input_now output_now)
turn_fails answer Read old input input_now output output_now more piece r s = let there = s.at [] (λ e. refl) in absurd there.stops
turn_fails answer Write old input input_now output output_now more piece r s = record { more = more; piece = piece; reads = r; stops = s }
turn_fails answer (TooLong counted) old input input_now output output_now more piece r s = record { more = more; piece = piece; reads = r; stops = s }
turn_fails answer Memory old input input_now output output_now more piece r s = record { more = more; piece = piece; reads = r; stops = s }

pub end_fails : (answer : Text → Text) (fault : LookupFault) (old : HeldLine) (input input_now : SourceState) (output output_now : SinkState) → Reads false input [] input_now → StopsIn answer fault false old.number old.bytes output output_now → TurnFails answer fault old (shown input output) (shown input_now output_now)
end_fails answer fault old input input_now output output_now r s =
    turn_fails answer fault old input input_now output output_now false [] r (subst (λ text. StopsIn answer fault false old.number text output output_now) (sym (append-nil old.bytes)) s)
