-- Turn after turn.
use Rattle.std.proofs.Common.{◌≡◌, ℕ, ◌+◌, ◌≤◌, inl, inr, length, Bool, true, false, Some, List, [], ◌∷◌, ◌++◌, refl, Ok, Err, append_assoc, length-append, ap, sym, ◌∙◌, subst, arith}
use Rattle.std.proofs.lemmas.List.{append-nil}
use Rattle.text_bytes.specs.Text.{Text}
use Rattle.device_core.specs.Runs.{complete_runs, rest_of}
use Rattle.device_core.specs.RunBlocks.{most_bytes}
use Rattle.device_core.proofs.Law.{complete_runs-append, rest_of-append}
use Rattle.device_core.specs.Values.{EventValue}
use Rattle.device_core.specs.declared.faults.BlockFault.{BlockFault}
use Rattle.engine_sessions.specs.Reported.{followed_by, led_by}
use Rattle.engine_sessions.specs.Sources.{SourceState}
use Rattle.engine_sessions.specs.Sinks.{SinkState}
use Rattle.engine_sessions.proofs.Counting.{counts-none}
use Rattle.engine_sessions.proofs.Reported.{followed_by-nil}
use Rattle.engine_sessions.specs.Answers.{Answers, answers_to, answers_of, well, counted, number_after}
use Rattle.engine_sessions.specs.Sessions.{Held, opened}
use Rattle.engine_sessions.specs.Turns.{Sends, joined, Reads, SendsDue, due, Refuses, Turns, TurnFailsBy}
use Rattle.engine_sessions.specs.declared.session.SessionFault.TheVariants.{Block, Memory, Ended}
use Rattle.engine_sessions.specs.declared.turning.TurnFault.{TurnFault}
use Rattle.engine_sessions.specs.declared.turning.TurnFault.TheVariants.{Read, Write, Session}
use Rattle.engine_sessions.proofs.AnswerLemmas.{with_texts, answers_to-append, counted-add}
use Rattle.engine_sessions.proofs.SendLemmas.{sends-none, sends-more}
use Rattle.engine_sessions.proofs.TurnLemmas.{at}
use Rattle.engine_sessions.proofs.LawLemmas.{Given, until, complete_well, after_well, first_answers, stays_faulty}
use Rattle.engine_sessions.specs.Inputs.{most_turns, BeforeReads, GoesOn, HasSentDue, HoldsFew, StopsAtBlock, ReadsWell, AnswersInput}
use Rattle.engine_sessions.proofs.ReadPieces.{HoldsUpTo, all_but_last-push, few_after, few_of, goes_on-few, goes_on-push, joined-push, later_none, led_by-nil, left_after, none_at_start, none_left_after, one_more, reads_after, reads_more, shown, some_byte, to_fault, up_to_after, went_on}

-- All that is due after some turns is sent.
pub record Served {A : Type 0} (answer : EventValue → Text) (first : Held A) (input now : SourceState) (output sink : SinkState) (session : Held A) (turns : ℕ) : Type 0 where
  pub read : List Text
  pub pieces : now.pieces ≡ followed_by input.pieces read
  pub left : input.left ≡ led_by (joined read) now.left
  pub counts : ReadsWell turns input now
  pub after_turn : length read ≡ turns
  pub goes_on : GoesOn read
  pub fits : HoldsUpTo read
  pub sent : List Text
  pub sends : Sends output sent sink
  pub due : HasSentDue answer read sent
  pub given : Given answer (joined read) sent session
  pub proceeds : session.ended ≡ false
  pub answering : session.answering ≡ first.answering

-- nothing is due at the start
due_at_start : (answer : EventValue → Text) → HasSentDue answer [] []
due_at_start answer = ([], refl)

-- what is due after one more piece
due_after : (answer : EventValue → Text) (read : List Text) (piece : Text) (sent more : List Text) → answers_to answer (complete_runs (joined read)) ≡ well sent → HasSentDue answer (read ++ piece ∷ []) (sent ++ more)
due_after answer read piece sent more e =
    (more, ap (λ texts. texts ++ more) (sym (ap (λ pieces. (answers_to answer (complete_runs (joined pieces))).texts) (all_but_last-push read piece) ∙ ap (λ a. a.texts) e)))

pub served_at_start : {A : Type 0} (answer : EventValue → Text) (session : Held A) (input : SourceState) (output : SinkState) → session ≡ opened session.answering → Served answer session input input output output session 0
served_at_start answer session input output e = record {
  read = [];
  pieces = sym (followed_by-nil input.pieces);
  left = sym (led_by-nil input.left);
  counts = record { reads = counts-none input.reads; well = refl };
  after_turn = refl;
  goes_on = tt;
  fits = none_at_start;
  sent = [];
  sends = sends-none output;
  due = due_at_start answer;
  given = record { answers = refl; pending = sym (ap (λ h. h.pending) e); answered = ap (λ h. h.answered) e };
  proceeds = ap (λ h. h.ended) e;
  answering = refl;
}

pub served_at_start_sent : {A : Type 0} (answer : EventValue → Text) (session : Held A) (input : SourceState) (output : SinkState) (e : session ≡ opened session.answering) → (served_at_start answer session input output e).sent ≡ []
unfolding served_at_start
served_at_start_sent answer session input output e = refl

pub served_at_start_read : {A : Type 0} (answer : EventValue → Text) (session : Held A) (input : SourceState) (output : SinkState) (e : session ≡ opened session.answering) → (served_at_start answer session input output e).read ≡ []
unfolding served_at_start
served_at_start_read answer session input output e = refl

given_more : {A : Type 0} (answer : EventValue → Text) (session next : Held A) (text piece : Text) (sent : List Text) (sink later : SinkState) (g : Given answer text sent session) (s : SendsDue answer true session piece next sink later)
    → Given answer (text ++ piece) (sent ++ s.texts) next
given_more answer session next text piece sent sink later g s = record {
  answers = ap (answers_to answer) (complete_runs-append text piece ∙ ap (λ rest. complete_runs text ++ complete_runs (rest ++ piece)) g.pending)
      ∙ answers_to-append answer (complete_runs text) (complete_runs (session.pending ++ piece)) sent g.answers
      ∙ ap (with_texts sent) (complete_well answer (session.pending ++ piece) s.texts s.answers);
  pending = rest_of-append text piece ∙ ap (λ rest. rest_of (rest ++ piece)) g.pending ∙ sym (ap (λ h. h.pending) s.leaves);
  answered = ap (λ h. h.answered) s.leaves ∙ ap (λ n. counted (n + length s.texts)) g.answered ∙ counted-add (length sent) (length s.texts) ∙ ap counted (sym (length-append sent s.texts));
}

pub served_more : {A : Type 0} (answer : EventValue → Text) (first session next : Held A) (input now later : SourceState) (output sink sink_later : SinkState) (turns : ℕ)
    → Served answer first input now output sink session turns → Turns answer true (at session now sink) (at next later sink_later) → length next.pending ≤ most_bytes → Served answer first input later output sink_later next (turns + 1)
served_more answer first session next input now later output sink sink_later turns s t fits =
    let given : Given answer (joined (s.read ++ t.piece ∷ [])) (s.sent ++ t.sends.texts) next = rw joined-push (given_more answer session next (joined s.read) t.piece s.sent sink sink_later s.given t.sends) in
    let held : length (rest_of (joined (s.read ++ t.piece ∷ []))) ≤ most_bytes = subst (λ text. length text ≤ most_bytes) (sym given.pending) fits in
    record {
      read = s.read ++ t.piece ∷ [];
      pieces = one_more input now later s.read t.piece s.pieces t.reads.gives.pieces;
      left = left_after input now later s.read t.piece s.left t.reads.gives.left;
      counts = reads_more turns input now later s.counts t.reads.gives.reads t.reads.gives.well;
      goes_on = goes_on-push s.read t.piece s.goes_on (some_byte now later t.piece t.reads);
      fits = up_to_after s.read t.piece s.fits held;
      after_turn = length-append s.read (t.piece ∷ []) ∙ ap (λ n. n + 1) s.after_turn;
      sent = s.sent ++ t.sends.texts;
      sends = sends-more output sink sink_later s.sent t.sends.texts s.sends t.sends.sends;
      due = due_after answer s.read t.piece s.sent t.sends.texts s.given.answers;
      given = given;
      proceeds = ap (λ h. h.ended) t.sends.leaves;
      answering = ap (λ h. h.answering) t.sends.leaves ∙ s.answering;
    }

pub served_more_sent : {A : Type 0} (answer : EventValue → Text) (first session next : Held A) (input now later : SourceState) (output sink sink_later : SinkState) (turns : ℕ)
    → (s : Served answer first input now output sink session turns) (t : Turns answer true (at session now sink) (at next later sink_later)) (fits : length next.pending ≤ most_bytes)
    → (served_more answer first session next input now later output sink sink_later turns s t fits).sent ≡ s.sent ++ t.sends.texts
unfolding served_more
served_more_sent answer first session next input now later output sink sink_later turns s t fits = refl

pub served_more_read : {A : Type 0} (answer : EventValue → Text) (first session next : Held A) (input now later : SourceState) (output sink sink_later : SinkState) (turns : ℕ)
    → (s : Served answer first input now output sink session turns) (t : Turns answer true (at session now sink) (at next later sink_later)) (fits : length next.pending ≤ most_bytes)
    → (served_more answer first session next input now later output sink sink_later turns s t fits).read ≡ s.read ++ t.piece ∷ []
unfolding served_more
served_more_read answer first session next input now later output sink sink_later turns s t fits = refl

-- all answers to the text with one more piece and what follows it
all_answers : {A : Type 0} (answer : EventValue → Text) (session : Held A) (read : List Text) (piece later : Text) (sent : List Text) → Given answer (joined read) sent session
    → answers_of answer (joined (read ++ piece ∷ []) ++ later) ≡ with_texts sent (answers_of answer ((session.pending ++ piece) ++ later))
all_answers answer session read piece later sent g =
    ap (λ text. answers_of answer (text ++ later)) (joined-push read piece) ∙ ap (answers_of answer) (append_assoc (joined read) piece later)
    ∙ after_well answer (joined read) (piece ++ later) sent g.answers
    ∙ ap (λ rest. with_texts sent (answers_of answer (rest ++ (piece ++ later)))) g.pending
    ∙ ap (λ text. with_texts sent (answers_of answer text)) (sym (append_assoc session.pending piece later))

answers_now : {A : Type 0} (answer : EventValue → Text) (session : Held A) (read : List Text) (piece : Text) (sent : List Text) → Given answer (joined read) sent session
    → answers_of answer (joined (read ++ piece ∷ [])) ≡ with_texts sent (answers_of answer (session.pending ++ piece))
answers_now answer session read piece sent g = rw (append-nil (joined (read ++ piece ∷ [])), append-nil (session.pending ++ piece)) at (all_answers answer session read piece [] sent g)

pub finished : {A : Type 0} (answer : EventValue → Text) (first session next : Held A) (input now later : SourceState) (output sink sink_later : SinkState) (turns : ℕ)
    → Served answer first input now output sink session turns → Turns answer false (at session now sink) (at next later sink_later) → AnswersInput answer (Ok tt) (shown input output) (shown later sink_later)
finished answer first session next input now later output sink sink_later turns s t = record {
  read = s.read ++ t.piece ∷ [];
  pieces = one_more input now later s.read t.piece s.pieces t.reads.gives.pieces;
  left = left_after input now later s.read t.piece s.left t.reads.gives.left;
  counts = reads_after turns input now later s.read t.piece s.after_turn s.counts t.reads.gives;
  goes_on = went_on s.read t.piece input later s.goes_on (t.reads.gives.well ∙ s.counts.well);
  fits = few_after s.read t.piece s.fits;
  sent = s.sent ++ t.sends.texts;
  after = sink_later;
  sends = sends-more output sink sink_later s.sent t.sends.texts s.sends t.sends.sends;
  due = due_after answer s.read t.piece s.sent t.sends.texts s.given.answers;
  ends = record {
    answers = answers_now answer session s.read t.piece s.sent s.given ∙ ap (with_texts s.sent) t.sends.answers;
    none_left = none_left_after now.left later.left t.piece (t.reads.ends.0 refl) t.reads.gives.left (t.reads.none_left refl);
    untouched = refl;
  };
}

pub finished_sent : {A : Type 0} (answer : EventValue → Text) (first session next : Held A) (input now later : SourceState) (output sink sink_later : SinkState) (turns : ℕ)
    → (s : Served answer first input now output sink session turns) (t : Turns answer false (at session now sink) (at next later sink_later))
    → (finished answer first session next input now later output sink sink_later turns s t).sent ≡ s.sent ++ t.sends.texts
unfolding finished
finished_sent answer first session next input now later output sink sink_later turns s t = refl

pub finished_read : {A : Type 0} (answer : EventValue → Text) (first session next : Held A) (input now later : SourceState) (output sink sink_later : SinkState) (turns : ℕ)
    → (s : Served answer first input now output sink session turns) (t : Turns answer false (at session now sink) (at next later sink_later))
    → (finished answer first session next input now later output sink sink_later turns s t).read ≡ s.read ++ t.piece ∷ []
unfolding finished
finished_read answer first session next input now later output sink sink_later turns s t = refl

-- the first answers to a piece are those that are due when it was read
due_first : (answer : EventValue → Text) (more : Bool) (pending piece : Text) → (following : List Text) × ((answers_of answer (pending ++ piece)).texts ≡ (due answer more pending piece).texts ++ following)
due_first answer true pending piece = rw append-nil at (first_answers answer (pending ++ piece) [])
due_first answer false pending piece = ([], sym (append-nil (answers_of answer (pending ++ piece)).texts))

-- what is read, if a turn fails after its read
record ReadOn (input later : SourceState) (read : List Text) : Type 0 where
  pub pieces : later.pieces ≡ followed_by input.pieces read
  pub left : input.left ≡ led_by (joined read) later.left
  pub counts : ReadsWell (length read) input later
  pub goes_on : BeforeReads GoesOn read input later
  pub fits : HoldsFew read

read_on : {A : Type 0} (answer : EventValue → Text) (first session : Held A) (input now later : SourceState) (output sink : SinkState) (turns : ℕ) (more : Bool) (piece : Text) (s : Served answer first input now output sink session turns) → Reads more now piece later
    → ReadOn input later (s.read ++ piece ∷ [])
read_on answer first session input now later output sink turns more piece s r = record {
  pieces = one_more input now later s.read piece s.pieces r.gives.pieces;
  left = left_after input now later s.read piece s.left r.gives.left;
  counts = reads_after turns input now later s.read piece s.after_turn s.counts r.gives;
  goes_on = went_on s.read piece input later s.goes_on (r.gives.well ∙ s.counts.well);
  fits = few_after s.read piece s.fits;
}

-- the answers sent, and those after them
sent_first : {A : Type 0} (answer : EventValue → Text) (session : Held A) (read : List Text) (more : Bool) (piece : Text) (sent some others : List Text) → Given answer (joined read) sent session → (due answer more session.pending piece).texts ≡ some ++ others
    → (following : List Text) × ((answers_of answer (joined (read ++ piece ∷ []))).texts ≡ (sent ++ some) ++ (others ++ following))
sent_first answer session read more piece sent some others g e =
    let first = due_first answer more session.pending piece in
    (first.0, ap (λ a. a.texts) (answers_now answer session read piece sent g) ∙ ap (λ texts. sent ++ texts) (first.1 ∙ ap (λ texts. texts ++ first.0) e ∙ append_assoc some others first.0) ∙ sym (append_assoc sent some (others ++ first.0)))

-- the faulty block
until_texts : (given : Answers) (fault : BlockFault) → given.fault ≡ Some fault → given ≡ until given.texts fault
until_texts given fault e = ap (λ f. record { texts = given.texts; fault = f }) e

faulty_later : {A : Type 0} (answer : EventValue → Text) (session : Held A) (read : List Text) (more : Bool) (piece later : Text) (sent : List Text) (fault : BlockFault) → Given answer (joined read) sent session
    → (due answer more session.pending piece).fault ≡ Some fault → (more ≡ false → later ≡ [])
    → answers_of answer (joined (read ++ piece ∷ []) ++ later) ≡ until (sent ++ (due answer more session.pending piece).texts) fault
faulty_later answer session read true piece later sent fault g e none =
    all_answers answer session read piece later sent g
    ∙ ap (with_texts sent) (stays_faulty answer (session.pending ++ piece) later (due answer true session.pending piece).texts fault (until_texts (due answer true session.pending piece) fault e))
faulty_later answer session read false piece later sent fault g e none =
    ap (λ text. answers_of answer (joined (read ++ piece ∷ []) ++ text)) (none refl) ∙ ap (answers_of answer) (append-nil (joined (read ++ piece ∷ [])))
    ∙ answers_now answer session read piece sent g ∙ ap (with_texts sent) (until_texts (due answer false session.pending piece) fault e)

stops_at_block : {A : Type 0} (answer : EventValue → Text) (session : Held A) (now later : SourceState) (read : List Text) (more : Bool) (piece : Text) (sent : List Text) (number : ℕ) (fault : BlockFault) (sink sink_later : SinkState)
    → Given answer (joined read) sent session → Reads more now piece later → Refuses (due answer more session.pending piece) session.answered number fault sink sink_later
    → StopsAtBlock answer (record { text = joined (read ++ piece ∷ []); left = later.left; sent = sent ++ (due answer more session.pending piece).texts; after = sink_later }) number fault
stops_at_block answer session now later read more piece sent number fault sink sink_later g reads r = record {
  answers = rw append-nil at (faulty_later answer session read more piece [] sent fault g r.faulty (λ h. refl));
  stays = λ rest e. faulty_later answer session read more piece rest sent fault g r.faulty (later_none more now later piece rest reads e);
  numbered = r.numbered ∙ ap (λ n. number_after (n + length (due answer more session.pending piece).texts)) g.answered ∙ number_is (length sent) (length (due answer more session.pending piece).texts)
      ∙ ap number_after (sym (length-append sent (due answer more session.pending piece).texts));
}
  where
    number_is : (a b : ℕ) → number_after (counted a + b) ≡ number_after (a + b)
    number_is a b = ap (λ n. counted n) (assoc (counted a) b) ∙ counted-add a (b + 1) ∙ ap counted (sym (assoc a b))
      where
        assoc : (x y : ℕ) → x + y + 1 ≡ x + (y + 1)
        assoc x y = omega arith

pub failed : {A : Type 0} (answer : EventValue → Text) (fault : TurnFault) (first session next : Held A) (input now later : SourceState) (output sink sink_later : SinkState) (turns : ℕ)
    → Served answer first input now output sink session turns → TurnFailsBy answer fault (at session now sink) (at next later sink_later) → AnswersInput answer (Err fault) (shown input output) (shown later sink_later)
failed answer Read first session next input now later output sink sink_later turns s f = record {
  read = s.read;
  pieces = f.1.pieces ∙ s.pieces;
  left = s.left ∙ ap (led_by (joined s.read)) (sym f.1.left);
  counts = inl (to_fault turns (length s.read) input now later s.after_turn s.counts f.1);
  goes_on = (goes_on-few s.read s.goes_on, λ failed. s.goes_on);
  fits = few_of s.read s.fits;
  sent = s.sent;
  after = sink;
  sends = s.sends;
  due = s.due;
  ends = (s.given.answers, f.2);
}
failed answer Write first session next input now later output sink sink_later turns s f =
    let on = read_on answer first session input now later output sink turns f.more f.piece s f.reads in
    let all = sent_first answer session s.read f.more f.piece s.sent f.sends.sent (f.sends.stops.next ∷ f.sends.stops.unsent) s.given f.sends.stops.texts_are in
    record {
      read = s.read ++ f.piece ∷ [];
      pieces = on.pieces;
      left = on.left;
      counts = on.counts;
      goes_on = on.goes_on;
      fits = on.fits;
      sent = s.sent ++ f.sends.sent;
      after = f.sends.after;
      sends = sends-more output sink f.sends.after s.sent f.sends.sent s.sends f.sends.sends;
      due = due_after answer s.read f.piece s.sent f.sends.sent s.given.answers;
      ends = record { next = f.sends.stops.next; unsent = f.sends.stops.unsent ++ all.0; texts_are = all.1; breaks = f.sends.stops.breaks };
    }
failed answer (Session (Block number fault)) first session next input now later output sink sink_later turns s f =
    let on = read_on answer first session input now later output sink turns f.more f.piece s f.reads in
    let texts : List Text = (due answer f.more session.pending f.piece).texts in
    record {
      read = s.read ++ f.piece ∷ [];
      pieces = on.pieces;
      left = on.left;
      counts = on.counts;
      goes_on = on.goes_on;
      fits = on.fits;
      sent = s.sent ++ texts;
      after = sink_later;
      sends = sends-more output sink sink_later s.sent texts s.sends f.sends.sends;
      due = due_after answer s.read f.piece s.sent texts s.given.answers;
      ends = (stops_at_block answer session now later s.read f.more f.piece s.sent number fault sink sink_later s.given f.reads f.sends, refl);
    }
failed answer (Session Memory) first session next input now later output sink sink_later turns s f =
    let on = read_on answer first session input now later output sink turns f.more f.piece s f.reads in
    let all = sent_first answer session s.read f.more f.piece s.sent f.sends.sent f.sends.first.0 s.given f.sends.first.1 in
    record {
      read = s.read ++ f.piece ∷ [];
      pieces = on.pieces;
      left = on.left;
      counts = on.counts;
      goes_on = on.goes_on;
      fits = on.fits;
      sent = s.sent ++ f.sends.sent;
      after = sink_later;
      sends = sends-more output sink sink_later s.sent f.sends.sent s.sends f.sends.sends;
      due = due_after answer s.read f.piece s.sent f.sends.sent s.given.answers;
      ends = ((f.sends.first.0 ++ all.0, all.1), refl);
    }
failed answer (Session Ended) first session next input now later output sink sink_later turns s f = let both : true ≡ false = sym f.0 ∙ s.proceeds in absurd cc

-- no turn is left
pub used_up : {A : Type 0} (answer : EventValue → Text) (first session : Held A) (input now : SourceState) (output sink : SinkState)
    → Served answer first input now output sink session most_turns → AnswersInput answer (Err Read) (shown input output) (shown now sink)
used_up answer first session input now output sink s = record {
  read = s.read;
  pieces = s.pieces;
  left = s.left;
  counts = inr (record { all = s.after_turn; reads = s.counts.reads }, s.counts.well);
  goes_on = (goes_on-few s.read s.goes_on, λ failed. s.goes_on);
  fits = few_of s.read s.fits;
  sent = s.sent;
  after = sink;
  sends = s.sends;
  due = s.due;
  ends = (s.given.answers, refl);
}

-- without a session nothing is read or sent
pub unstarted : (answer : EventValue → Text) (input : SourceState) (output : SinkState) → AnswersInput answer (Err (Session Memory)) (shown input output) (shown input output)
unstarted answer input output = record {
  read = [];
  pieces = sym (followed_by-nil input.pieces);
  left = sym (led_by-nil input.left);
  counts = record { reads = counts-none input.reads; well = refl };
  goes_on = (tt, λ failed. tt);
  fits = λ n h. absurd (omega (arith, h));
  sent = [];
  after = output;
  sends = sends-none output;
  due = due_at_start answer;
  ends = (((answers_of answer []).texts, refl), refl);
}
