-- Whether answers that are sent one after another have a byte.
use Rattle.std.proofs.Common.{◌≡◌, ℕ, zero, suc, ◌+◌, ◌==◌, Bool, true, false, cond, not, ◌&&◌, ◌||◌, inr, List, [], ◌∷◌, ◌++◌, length, take, ◌≤◌, Ok, Err, ap, ap₂, subst, sym, ◌∙◌, refl, arith, zero-add, length-append}
use Rattle.std.specs.Option.{option_to_list}
use Rattle.std.proofs.lemmas.Bool.{ne_eqb}
use Rattle.std.proofs.lemmas.Grind.{flat_map-append}
use Rattle.text_bytes.specs.Text.{Text}
use Rattle.device_core.specs.Values.{EventValue}
use Rattle.device_core.specs.RunBlocks.{most_bytes}
use Rattle.engine_sessions.specs.Sinks.{HandsOn, SinkState}
use Rattle.engine_sessions.specs.Sources.{SourceState}
use Rattle.engine_sessions.specs.Streams.{Streams}
use Rattle.engine_sessions.specs.Sessions.{Held, SessionTakes, opened}
use Rattle.engine_sessions.specs.Turns.{Sends, SendsDue, TurnFailsBy, Turns, due, joined, say_something}
use Rattle.engine_sessions.specs.Inputs.{devices_of, most_turns}
use Rattle.engine_sessions.specs.Answers.{counted}
use Rattle.engine_sessions.specs.Outcomes.{tells_none}
use Rattle.engine_sessions.specs.Serves.{EndsWell}
use Rattle.engine_sessions.specs.Findings.{AnswersFinding, FindsAll}
use Rattle.engine_sessions.specs.declared.following.Telling.{Telling}
use Rattle.engine_sessions.specs.declared.inputs.Findings.{Findings}
use Rattle.engine_sessions.specs.Holding.{IsGoing, TurnsFinding, TurnsTold}
use Rattle.engine_sessions.specs.declared.session.Step.{Step}
use Rattle.engine_sessions.specs.declared.turning.TurnFault.{TurnFault}
use Rattle.engine_sessions.specs.declared.turning.TurnFault.TheVariants.{Read}
use Rattle.engine_sessions.proofs.AnswerLemmas.{counted-add}
use Rattle.engine_sessions.proofs.LawLemmas.{Given}
use Rattle.engine_sessions.proofs.TurnLemmas.{Sent, at, sent-all, sent-all_texts, sent-more, sent-more_texts, sent-none, sent-none_texts}
use Rattle.engine_sessions.proofs.ReadPieces.{shown}
use Rattle.engine_sessions.proofs.Turns.{Served, failed, finished, finished_read, finished_sent, served_at_start, served_at_start_read, served_at_start_sent, served_more, served_more_read, served_more_sent, used_up}

some_either : (m n : ℕ) → not (m + n == 0) ≡ (not (m == 0) || not (n == 0))
some_either zero n = ap (λ k. not (k == 0)) (zero-add n)
some_either (suc m) n = ap not (ne_eqb (suc m + n) 0 (λ e. omega (arith, e))) ∙ sym (ap (λ b. not b || not (n == 0)) (ne_eqb (suc m) 0 (λ e. omega (arith, e))))

pub something-append : (first second : List Text) → say_something (first ++ second) ≡ (say_something first || say_something second)
something-append first second =
    ap (λ text. not (length text == 0)) (flat_map-append (λ text. text) first second)
    ∙ ap (λ n. not (n == 0)) (length-append (joined first) (joined second)) ∙ some_either (length (joined first)) (length (joined second))

-- the first bytes of a piece were taken, and whether any of their answers has a byte
pub record SentFinding {A : Type 0} (answer : EventValue → Text) (old : Held A) (part : Text) (now : Held A) (before sink : SinkState) (finds : Bool) : Type 0 where
  pub sent : Sent answer old part now before sink
  pub finds_is : finds ≡ say_something sent.texts

pub sent_nothing : {A : Type 0} (answer : EventValue → Text) (old : Held A) (sink : SinkState) → IsGoing old → SentFinding answer old [] old sink sink false
sent_nothing answer old sink going = record { sent = sent-none answer old sink going; finds_is = sym (ap say_something (sent-none_texts answer old sink going)) }

pub finding-more : {A : Type 0} (answer : EventValue → Text) (old now next : Held A) (part piece : Text) (step : Step) (before sink later : SinkState) (finds says : Bool)
    → SentFinding answer old part now before sink finds → SessionTakes answer now piece step next → Sends sink (option_to_list step.answer) later → says ≡ say_something (option_to_list step.answer)
    → SentFinding answer old (part ++ take step.used piece) next before later (finds || says)
finding-more answer old now next part piece step before sink later finds says s t k e = record {
  sent = sent-more answer old now next part piece step before sink later s.sent t k;
  finds_is = ap₂ (λ a b. a || b) s.finds_is e ∙ sym (something-append s.sent.texts (option_to_list step.answer))
      ∙ sym (ap say_something (sent-more_texts answer old now next part piece step before sink later s.sent t k));
}

pub finding-all : {A : Type 0} (answer : EventValue → Text) (old now : Held A) (piece : Text) (before sink : SinkState) (finds : Bool) → SentFinding answer old piece now before sink finds → finds ≡ say_something (due answer true old.pending piece).texts
finding-all answer old now piece before sink finds s = s.finds_is ∙ sym (ap say_something (sent-all_texts answer old now piece before sink s.sent)) ∙ sym (ap (λ a. say_something a.texts) (sent-all answer old now piece before sink s.sent).answers)

-- a turn, by what was due
pub turn_finds : {A : Type 0} (answer : EventValue → Text) (more finds : Bool) (old new : Held A) (input input_now : SourceState) (output output_now : SinkState) (t : Turns answer more (at old input output) (at new input_now output_now))
    → finds ≡ say_something (due answer more old.pending t.piece).texts → TurnsFinding answer more finds (at old input output) (at new input_now output_now)
turn_finds answer more finds old new input input_now output output_now t e = record { turn = t; finds_is = e ∙ ap (λ a. say_something a.texts) t.sends.answers }

-- a turn, by what was due and what was told
pub turn_tells : {A : Type 0} (answer : EventValue → Text) (Told : Text → Type 0) (more finds : Bool) (old new : Held A) (input input_now : SourceState) (output output_now : SinkState) (t : Turns answer more (at old input output) (at new input_now output_now))
    → finds ≡ say_something (due answer more old.pending t.piece).texts → Told t.piece → TurnsTold answer Told more finds (at old input output) (at new input_now output_now)
turn_tells answer Told more finds old new input input_now output output_now t e h = record { finding = record { turn = t; finds_is = e ∙ ap (λ a. say_something a.texts) t.sends.answers }; told = h }

-- some turns, and whether any of their answers has a byte
pub record ServedFinding {A : Type 0} (answer : EventValue → Text) (first : Held A) (input now : SourceState) (output sink : SinkState) (session : Held A) (turns : ℕ) (finds : Bool) : Type 0 where
  pub served : Served answer first input now output sink session turns
  pub finds_is : finds ≡ say_something served.sent

pub finding_at_start : {A : Type 0} (answer : EventValue → Text) (session : Held A) (input : SourceState) (output : SinkState) → session ≡ opened session.answering → ServedFinding answer session input input output output session 0 false
finding_at_start answer session input output e = record { served = served_at_start answer session input output e; finds_is = sym (ap say_something (served_at_start_sent answer session input output e)) }

pub finding_more : {A : Type 0} (answer : EventValue → Text) (first session next : Held A) (input now later : SourceState) (output sink sink_later : SinkState) (turns : ℕ) (finds says : Bool)
    → ServedFinding answer first input now output sink session turns finds → TurnsFinding answer true says (at session now sink) (at next later sink_later) → length next.pending ≤ most_bytes
    → ServedFinding answer first input later output sink_later next (turns + 1) (finds || says)
finding_more answer first session next input now later output sink sink_later turns finds says s t fits = record {
  served = served_more answer first session next input now later output sink sink_later turns s.served t.turn fits;
  finds_is = ap₂ (λ a b. a || b) s.finds_is t.finds_is ∙ sym (something-append s.served.sent t.turn.sends.texts)
      ∙ sym (ap say_something (served_more_sent answer first session next input now later output sink sink_later turns s.served t.turn fits));
}

-- a count is 0 if no block is counted, and only then
counted_none : (n : ℕ) → (counted n == 0) ≡ (n == 0)
counted_none zero = refl
counted_none (suc n) = ne_eqb (counted (suc n)) 0 (λ e. absurd (omega (arith, e))) ∙ sym (ne_eqb (suc n) 0 (λ e. absurd (omega (arith, e))))

-- whether no block is answered, by what the session counted
none_answered : {A : Type 0} (answer : EventValue → Text) (text : Text) (sent : List Text) (session next : Held A) (more : Bool) (piece : Text) (sink later : SinkState) (g : Given answer text sent session)
    (s : SendsDue answer more session piece next sink later) → (next.answered == 0) ≡ (length (sent ++ s.texts) == 0)
none_answered answer text sent session next more piece sink later g s =
    ap (λ n. n == 0) (ap (λ h. h.answered) s.leaves ∙ ap (λ n. counted (n + length s.texts)) g.answered ∙ counted-add (length sent) (length s.texts))
    ∙ counted_none (length sent + length s.texts) ∙ ap (λ n. n == 0) (sym (length-append sent s.texts))

pub finding_finished : {A : Type 0} (answer : EventValue → Text) (first session next : Held A) (input now later : SourceState) (output sink sink_later : SinkState) (turns : ℕ) (finds says none : Bool)
    → ServedFinding answer first input now output sink session turns finds → TurnsFinding answer false says (at session now sink) (at next later sink_later) → none ≡ (next.answered == 0)
    → AnswersFinding answer (Ok (record { no_block = none; finds = finds || says })) (shown input output) (shown later sink_later)
finding_finished answer first session next input now later output sink sink_later turns finds says none s t e = record {
  answers = finished answer first session next input now later output sink sink_later turns s.served t.turn;
  none_is = e ∙ none_answered answer (joined s.served.read) s.served.sent session next false t.turn.piece sink sink_later s.served.given t.turn.sends
      ∙ sym (ap (λ sent. length sent == 0) (finished_sent answer first session next input now later output sink sink_later turns s.served t.turn));
  finds_is = ap₂ (λ a b. a || b) s.finds_is t.finds_is ∙ sym (something-append s.served.sent t.turn.sends.texts)
      ∙ sym (ap say_something (finished_sent answer first session next input now later output sink sink_later turns s.served t.turn));
}

pub finding_at_start_read : {A : Type 0} (answer : EventValue → Text) (session : Held A) (input : SourceState) (output : SinkState) (e : session ≡ opened session.answering) → (finding_at_start answer session input output e).served.read ≡ []
unfolding finding_at_start
finding_at_start_read answer session input output e = served_at_start_read answer session input output e

pub finding_more_read : {A : Type 0} (answer : EventValue → Text) (first session next : Held A) (input now later : SourceState) (output sink sink_later : SinkState) (turns : ℕ) (finds says : Bool)
    → (s : ServedFinding answer first input now output sink session turns finds) (t : TurnsFinding answer true says (at session now sink) (at next later sink_later)) (fits : length next.pending ≤ most_bytes)
    → (finding_more answer first session next input now later output sink sink_later turns finds says s t fits).served.read ≡ s.served.read ++ t.turn.piece ∷ []
unfolding finding_more
finding_more_read answer first session next input now later output sink sink_later turns finds says s t fits = served_more_read answer first session next input now later output sink sink_later turns s.served t.turn fits

pub finding_finished_read : {A : Type 0} (answer : EventValue → Text) (first session next : Held A) (input now later : SourceState) (output sink sink_later : SinkState) (turns : ℕ) (finds says none : Bool)
    → (s : ServedFinding answer first input now output sink session turns finds) (t : TurnsFinding answer false says (at session now sink) (at next later sink_later)) (e : none ≡ (next.answered == 0))
    → (finding_finished answer first session next input now later output sink sink_later turns finds says none s t e).answers.read ≡ s.served.read ++ t.turn.piece ∷ []
unfolding finding_finished
finding_finished_read answer first session next input now later output sink sink_later turns finds says none s t e = finished_read answer first session next input now later output sink sink_later turns s.served t.turn

pub finding_failed : {A : Type 0} (answer : EventValue → Text) (fault : TurnFault) (first session next : Held A) (input now later : SourceState) (output sink sink_later : SinkState) (turns : ℕ) (finds : Bool)
    → ServedFinding answer first input now output sink session turns finds → TurnFailsBy answer fault (at session now sink) (at next later sink_later) → AnswersFinding answer (Err fault) (shown input output) (shown later sink_later)
finding_failed answer fault first session next input now later output sink sink_later turns finds s f = record { answers = failed answer fault first session next input now later output sink sink_later turns s.served f; none_is = tt; finds_is = tt }

pub finding_used_up : {A : Type 0} (answer : EventValue → Text) (first session : Held A) (input now : SourceState) (output sink : SinkState) (finds : Bool) → ServedFinding answer first input now output sink session most_turns finds
    → AnswersFinding answer (Err Read) (shown input output) (shown now sink)
finding_used_up answer first session input now output sink finds s = record { answers = used_up answer first session input now output sink s.served; none_is = tt; finds_is = tt }

-- all is answered, and what is found is reported by the status
pub found_after : (telling : Telling) (messages : Text) (answer : EventValue → Text) (findings : Findings) (status : ℕ) (before now : Streams) (after : SinkState) → HandsOn before.err messages after
    → AnswersFinding answer (Ok findings) (devices_of before) (devices_of now) → EndsWell (telling.no_block && findings.no_block) (cond findings.finds 1 0) status after now.err → FindsAll telling messages answer status before now
found_after telling messages answer findings status before now after h a e =
    inr (record {
      after = after;
      says = h;
      end = Ok tt;
      answers = a.answers;
      concludes = subst (λ wanted. EndsWell (tells_none telling (length a.answers.sent)) wanted status after now.err) (ap (λ b. cond b 1 0) a.finds_is)
          (subst (λ none. EndsWell (telling.no_block && none) (cond findings.finds 1 0) status after now.err) a.none_is e);
    })
