-- A piece taken in steps, each with its answer sent.
use Rattle.std.proofs.Common.{◌≡◌, ℕ, ◌+◌, ◌-◌, ◌≤◌, Bool, true, false, List, [], ◌∷◌, ◌++◌, Option, Some, None, length, take, drop, refl, append_assoc, length-append, ap, sym, ◌∙◌, subst, arith, add-zero}
use Rattle.std.specs.Option.{option_to_list}
use Rattle.std.proofs.lemmas.List.{append-nil, take-append-drop}
use Rattle.std.proofs.lemmas.Grind.{common_steps}
use Rattle.std.proofs.Math.Seq.{take-add}
use Rattle.text_bytes.specs.Text.{Text}
use Rattle.device_core.specs.Runs.{complete_runs, rest_of, runs}
use Rattle.device_core.specs.RunBlocks.{most_bytes}
use Rattle.device_core.specs.Splits.{Split}
use Rattle.device_core.proofs.Law.{complete_runs-append, rest_of-append}
use Rattle.device_core.specs.Values.{EventValue}
use Rattle.engine_sessions.specs.Sinks.{SinkState}
use Rattle.engine_sessions.specs.Sources.{SourceState}
use Rattle.engine_sessions.specs.Answers.{answers_to, well, counted, number_after}
use Rattle.engine_sessions.specs.Known.{known_blocks}
use Rattle.engine_sessions.specs.Sessions.{Held, closed, SessionTakes, SessionEnds, CallFailsBy}
use Rattle.engine_sessions.specs.Turns.{HasEnded, Sends, Situation, SendsDue, SendsUntil, due, Reads, TurnFailsBy}
use Rattle.engine_sessions.specs.Holding.{IsGoing, IsOpen, held, BreaksOffAt}
use Rattle.engine_sessions.specs.declared.session.Step.{Step}
use Rattle.engine_sessions.specs.declared.session.SessionFault.{SessionFault}
use Rattle.engine_sessions.specs.declared.session.SessionFault.TheVariants.{Block, Memory, Ended}
use Rattle.engine_sessions.specs.declared.turning.TurnFault.{TurnFault}
use Rattle.engine_sessions.specs.declared.turning.TurnFault.TheVariants.{Read, Write, Session}
use Rattle.engine_sessions.proofs.KnownLemmas.{known-fits, known-append}
use Rattle.engine_sessions.proofs.AnswerLemmas.{with_texts, answers_to-append, answers_to-faulty, counted-add}
use Rattle.engine_sessions.proofs.SendLemmas.{sends-none, sends-more}

-- a session with its devices
abbrev pub at : {A : Type 0} → Held A → SourceState → SinkState → Situation A
at session input output = record { session = session; input = input; output = output }

-- the first bytes of a piece were taken, and their answers sent
pub record Sent {A : Type 0} (answer : EventValue → Text) (old : Held A) (part : Text) (now : Held A) (before sink : SinkState) : Type 0 where
  pub texts : List Text
  pub answers : answers_to answer (complete_runs (old.pending ++ part)) ≡ well texts
  pub sends : Sends before texts sink
  pub fits : length now.pending ≤ most_bytes
  pub leaves : now ≡ record { answering = old.answering; pending = rest_of (old.pending ++ part); answered = counted (old.answered + length texts); ended = false }

pub sent-none : {A : Type 0} (answer : EventValue → Text) (old : Held A) (sink : SinkState) → IsGoing old → Sent answer old [] old sink sink
sent-none answer old sink going = record {
  texts = [];
  answers = ap (answers_to answer) (ap complete_runs (append-nil old.pending) ∙ going.pending.none);
  sends = sends-none sink;
  fits = going.pending.fits;
  leaves = leaves_old (rest_of (old.pending ++ [])) (counted (old.answered + 0)) (ap rest_of (append-nil old.pending) ∙ going.pending.rest) (ap counted (add-zero old.answered) ∙ going.counts);
}
  where
    leaves_old : (pending : Text) (answered : ℕ) → pending ≡ old.pending → answered ≡ old.answered → old ≡ record { answering = old.answering; pending = pending; answered = answered; ended = false }
    leaves_old pending answered e f = rw (e, f, ← going.proceeds) refl

-- what follows the part taken
pending_is : {A : Type 0} (answer : EventValue → Text) (old now : Held A) (part : Text) (before sink : SinkState) → Sent answer old part now before sink → rest_of (old.pending ++ part) ≡ now.pending
pending_is answer old now part before sink s = sym (ap (λ h. h.pending) s.leaves)

runs_more : (pending part next now : Text) → rest_of (pending ++ part) ≡ now → complete_runs (pending ++ (part ++ next)) ≡ complete_runs (pending ++ part) ++ complete_runs (now ++ next)
runs_more pending part next now e = ap complete_runs (sym (append_assoc pending part next)) ∙ complete_runs-append (pending ++ part) next ∙ ap (λ rest. complete_runs (pending ++ part) ++ complete_runs (rest ++ next)) e

known_more : (more : Bool) (pending part next now : Text) → rest_of (pending ++ part) ≡ now → known_blocks more (pending ++ (part ++ next)) ≡ complete_runs (pending ++ part) ++ known_blocks more (now ++ next)
known_more more pending part next now e = ap (known_blocks more) (sym (append_assoc pending part next)) ∙ known-append more (pending ++ part) next ∙ ap (λ rest. complete_runs (pending ++ part) ++ known_blocks more (rest ++ next)) e

sum_is : (answered : ℕ) (texts more : List Text) → answered + length texts + length more ≡ answered + length (texts ++ more)
sum_is answered texts more = omega (arith, length-append texts more)

-- one more step
pub sent-more : {A : Type 0} (answer : EventValue → Text) (old now next : Held A) (part piece : Text) (step : Step) (before sink later : SinkState)
    → Sent answer old part now before sink → SessionTakes answer now piece step next → Sends sink (option_to_list step.answer) later → Sent answer old (part ++ take step.used piece) next before later
sent-more answer old now next part piece step before sink later s t k =
    let used : Text = take step.used piece in
    let more : List Text = option_to_list step.answer in
    let pending = pending_is answer old now part before sink s in
    let rest : rest_of (old.pending ++ (part ++ used)) ≡ rest_of (now.pending ++ used) =
    ap rest_of (sym (append_assoc old.pending part used)) ∙ rest_of-append (old.pending ++ part) used ∙ ap (λ r. rest_of (r ++ used)) pending in
    let count : counted (now.answered + length more) ≡ counted (old.answered + length (s.texts ++ more)) =
    ap (λ h. counted (h.answered + length more)) s.leaves ∙ counted-add (old.answered + length s.texts) (length more)
    ∙ ap counted (sum_is old.answered s.texts more) in
    let answering : now.answering ≡ old.answering = ap (λ h. h.answering) s.leaves in
    record {
      texts = s.texts ++ more;
      answers = ap (answers_to answer) (runs_more old.pending part used now.pending pending) ∙ answers_to-append answer (complete_runs (old.pending ++ part)) (complete_runs (now.pending ++ used)) s.texts s.answers
          ∙ ap (with_texts s.texts) t.answers;
      sends = sends-more before sink later s.texts more s.sends k;
      fits = t.fits;
      leaves = t.leaves ∙ rw (answering, rest, count) refl;
    }

pub sent-none_texts : {A : Type 0} (answer : EventValue → Text) (old : Held A) (sink : SinkState) (going : IsGoing old) → (sent-none answer old sink going).texts ≡ []
unfolding sent-none
sent-none_texts answer old sink going = refl

pub sent-more_texts : {A : Type 0} (answer : EventValue → Text) (old now next : Held A) (part piece : Text) (step : Step) (before sink later : SinkState)
    → (s : Sent answer old part now before sink) (t : SessionTakes answer now piece step next) (k : Sends sink (option_to_list step.answer) later)
    → (sent-more answer old now next part piece step before sink later s t k).texts ≡ s.texts ++ option_to_list step.answer
unfolding sent-more
sent-more_texts answer old now next part piece step before sink later s t k = refl

-- the answers due are those sent and those to what follows
due_more : {A : Type 0} (answer : EventValue → Text) (more : Bool) (old now : Held A) (part piece : Text) (before sink : SinkState) (s : Sent answer old part now before sink)
    → due answer more old.pending (part ++ piece) ≡ with_texts s.texts (due answer more now.pending piece)
due_more answer more old now part piece before sink s =
    ap (answers_to answer) (known_more more old.pending part piece now.pending (pending_is answer old now part before sink s))
    ∙ answers_to-append answer (complete_runs (old.pending ++ part)) (known_blocks more (now.pending ++ piece)) s.texts s.answers

-- the whole piece was taken
pub sent-all : {A : Type 0} (answer : EventValue → Text) (old now : Held A) (piece : Text) (before sink : SinkState) → Sent answer old piece now before sink → SendsDue answer true old piece now before sink
sent-all answer old now piece before sink s = record {
  texts = s.texts;
  answers = ap (answers_to answer) (known-fits (old.pending ++ piece) (subst (λ rest. length rest ≤ most_bytes) (sym (pending_is answer old now piece before sink s)) s.fits)) ∙ s.answers;
  sends = s.sends;
  leaves = s.leaves;
}

pub sent-all_texts : {A : Type 0} (answer : EventValue → Text) (old now : Held A) (piece : Text) (before sink : SinkState) (s : Sent answer old piece now before sink) → (sent-all answer old now piece before sink s).texts ≡ s.texts
unfolding sent-all
sent-all_texts answer old now piece before sink s = refl

-- a later call of the session fails
pub sent-fails : {A : Type 0} (answer : EventValue → Text) (more : Bool) (fault : SessionFault) (old now next : Held A) (part piece : Text) (before sink : SinkState)
    → Sent answer old part now before sink → CallFailsBy fault now (known_blocks more (now.pending ++ piece)) next → SendsUntil (Session fault) (due answer more old.pending (part ++ piece)) old.answered before sink
sent-fails answer more (Block number fault) old now next part piece before sink s f =
    let first = f.0 in
    let faulty : due answer more now.pending piece ≡ record { texts = []; fault = Some fault } = ap (answers_to answer) first.first ∙ answers_to-faulty answer first.block first.others fault first.gives in
    let all : due answer more old.pending (part ++ piece) ≡ record { texts = s.texts; fault = Some fault } =
    due_more answer more old now part piece before sink s ∙ ap (with_texts s.texts) faulty ∙ ap (λ l. record { texts = l; fault = Some fault }) (append-nil s.texts) in
    rw all (record {
      faulty = refl;
      numbered = first.numbered ∙ ap (λ h. number_after h.answered) s.leaves ∙ counted-add (old.answered + length s.texts) 1;
      sends = s.sends;
    })
sent-fails answer more Memory old now next part piece before sink s f = record {
  sent = s.texts;
  first = ((due answer more now.pending piece).texts, ap (λ a. a.texts) (due_more answer more old now part piece before sink s));
  sends = s.sends;
}
sent-fails answer more Ended old now next part piece before sink s f = let both : true ≡ false = sym f.0 ∙ ap (λ h. h.ended) s.leaves in absurd cc

-- the output breaks off at the answer of the next step
pub sent-breaks : {A : Type 0} (answer : EventValue → Text) (old now next : Held A) (part piece : Text) (step : Step) (before sink later : SinkState)
    → Sent answer old part now before sink → SessionTakes answer now piece step next → BreaksOffAt sink step.answer later → SendsUntil Write (due answer true old.pending (part ++ piece)) old.answered before later
sent-breaks answer old now next part piece step before sink later s t b = at_answer step.answer refl b
  where
    after_it : (text : Text) → step.answer ≡ Some text → due answer true now.pending piece ≡ with_texts (text ∷ []) (answers_to answer (known_blocks true (rest_of (now.pending ++ take step.used piece) ++ drop step.used piece)))
    after_it text e =
        ap (λ l. due answer true now.pending l) (sym (take-append-drop step.used piece))
        ∙ ap (answers_to answer) (known_more true now.pending (take step.used piece) (drop step.used piece) (rest_of (now.pending ++ take step.used piece)) refl)
        ∙ answers_to-append answer (complete_runs (now.pending ++ take step.used piece)) (known_blocks true (rest_of (now.pending ++ take step.used piece) ++ drop step.used piece)) (text ∷ []) (t.answers ∙ ap (λ a. well (option_to_list a)) e)

    at_answer : (given : Option Text) → step.answer ≡ given → BreaksOffAt sink given later → SendsUntil Write (due answer true old.pending (part ++ piece)) old.answered before later
    at_answer None e b = absurd b
    at_answer (Some text) e b = record {
      sent = s.texts;
      after = sink;
      sends = s.sends;
      stops = record {
        next = text;
        unsent = (answers_to answer (known_blocks true (rest_of (now.pending ++ take step.used piece) ++ drop step.used piece))).texts;
        texts_are = ap (λ a. a.texts) (due_more answer true old now part piece before sink s ∙ ap (with_texts s.texts) (after_it text e));
        breaks = b;
      };
    }

-- the end of an input
pub end_sends : {A : Type 0} (answer : EventValue → Text) (old now : Held A) (last : Option Text) (before sink : SinkState) → SessionEnds answer old last now → Sends before (option_to_list last) sink → SendsDue answer false old [] now before sink
end_sends answer old now last before sink e k = record {
  texts = option_to_list last;
  answers = ap (λ text. answers_to answer (runs text)) (append-nil old.pending) ∙ e.answers;
  sends = k;
  leaves = e.leaves;
}

pub end_breaks : {A : Type 0} (answer : EventValue → Text) (old now : Held A) (last : Option Text) (before sink : SinkState) → SessionEnds answer old last now → BreaksOffAt before last sink → SendsUntil Write (due answer false old.pending []) old.answered before sink
end_breaks answer old now None before sink e b = absurd b
end_breaks answer old now (Some text) before sink e b = record {
  sent = [];
  after = before;
  sends = sends-none before;
  stops = record {
    next = text;
    unsent = [];
    texts_are = ap (λ a. a.texts) (ap (λ t. answers_to answer (runs t)) (append-nil old.pending) ∙ e.answers);
    breaks = b;
  };
}

pub end_fails : {A : Type 0} (answer : EventValue → Text) (fault : SessionFault) (old next : Held A) (sink : SinkState) → IsGoing old → CallFailsBy fault old (known_blocks false old.pending) next → SendsUntil (Session fault) (due answer false old.pending []) old.answered sink sink
end_fails answer fault old next sink going f =
    sent-fails answer false fault old old next [] [] sink sink (sent-none answer old sink going) (rw (append-nil) f)

-- the slice from a place on
pub rest_of_slice : (text : Text) (done : ℕ) → take (length text - done) (drop done text) ≡ drop done text
rest_of_slice text done = grind (arith, common_steps)

-- the part taken, with a step more
pub part_more : (piece : Text) (done used : ℕ) → take done piece ++ take used (drop done piece) ≡ take (done + used) piece
part_more piece done used = sym (take-add done used piece)

-- what answers stays
pub answering_is : {A : Type 0} (answer : EventValue → Text) (old now : Held A) (part : Text) (before sink : SinkState) → Sent answer old part now before sink → now.answering ≡ old.answering
answering_is answer old now part before sink s = ap (λ h. h.answering) s.leaves

pub proceeding : {A : Type 0} (answer : EventValue → Text) (old now : Held A) (part : Text) (before sink : SinkState) → Sent answer old part now before sink → now.ended ≡ false
proceeding answer old now part before sink s = ap (λ h. h.ended) s.leaves

pub going_is : {A : Type 0} (answering : A) (split : Split) (answered : ℕ) (ended : Bool) → ended ≡ false → IsOpen split answered → IsGoing (held answering split.pending answered ended)
going_is answering split answered true e h = absurd cc
going_is answering split answered false e h = record { proceeds = refl; pending = h.pending; counts = h.counts }

pub gone_is : {A : Type 0} (answering : A) (pending : Text) (answered : ℕ) (ended : Bool) → ended ≡ true → (held answering pending answered ended).pending ≡ []
gone_is answering pending answered true e = refl
gone_is answering pending answered false e = absurd cc

-- a session that is closed after some calls has ended
ended_after : {A : Type 0} (old now : Held A) → now.answering ≡ old.answering → HasEnded old (closed now)
ended_after old now e = rw e refl

-- a call of the session fails after others
pub ended_by : {A : Type 0} (fault : SessionFault) (old now next : Held A) (blocks : List Text) → now.answering ≡ old.answering → now.ended ≡ false → CallFailsBy fault now blocks next → HasEnded old next
ended_by (Block number fault) old now next blocks e going f = rw f.2 (ended_after old now e)
ended_by Memory old now next blocks e going f = rw f.1 (ended_after old now e)
ended_by Ended old now next blocks e going f = let both : true ≡ false = sym f.0 ∙ going in absurd cc

-- a turn that fails after its read
pub turn_fails : {A : Type 0} (answer : EventValue → Text) (fault : TurnFault) (old : Held A) (input input_now : SourceState) (output output_now : SinkState) (more : Bool) (piece : Text)
    → old.ended ≡ false → Reads more input piece input_now → SendsUntil fault (due answer more old.pending piece) old.answered output output_now → (new : Held A) → TurnFailsBy answer fault (at old input output) (at new input_now output_now)
turn_fails answer Read old input input_now output output_now more piece going reads s new = absurd s
turn_fails answer Write old input input_now output output_now more piece going reads s new = record { proceeds = going; more = more; piece = piece; reads = reads; sends = s }
turn_fails answer (Session (Block number fault)) old input input_now output output_now more piece going reads s new = record { proceeds = going; more = more; piece = piece; reads = reads; sends = s }
turn_fails answer (Session Memory) old input input_now output output_now more piece going reads s new = record { proceeds = going; more = more; piece = piece; reads = reads; sends = s }
turn_fails answer (Session Ended) old input input_now output output_now more piece going reads s new = absurd s
