-- What is known stays, and what calls in a row give.
use Rattle.std.proofs.Common.{◌≡◌, ◌≢◌, ℕ, ◌+◌, ◌<◌, Bool, true, false, cond, List, [], ◌∷◌, ◌++◌, map, length, take, drop, Option, Some, None, Result, Ok, Err, refl, append_assoc, length-append, ap, sym, ◌∙◌, arith}
use Rattle.std.specs.Option.{option_to_list}
use Rattle.std.proofs.lemmas.Bool.Decides.{nat_tests}
use Rattle.std.proofs.lemmas.List.{append-nil, take-append-le}
use Rattle.text_bytes.specs.Text.{Text}
use Rattle.device_core.specs.Runs.{complete_runs, rest_of, runs}
use Rattle.device_core.specs.RunBlocks.{is_too_long, most_bytes, newline_count, line_of_excess}
use Rattle.device_core.proofs.Law.{complete_runs-append, rest_of-append, runs-append, runs-rest}
use Rattle.device_core.specs.Values.{EventValue}
use Rattle.device_core.specs.Faults.{block_gives}
use Rattle.device_core.specs.declared.faults.BlockFault.{BlockFault}
use Rattle.device_core.specs.declared.faults.BlockFaultKind.TheVariants.{TooLong}
use Rattle.engine_sessions.specs.Answers.{Answers, well, with_block, answers_to, answers_of, counted, number_after}
use Rattle.engine_sessions.specs.Known.{known_blocks}
use Rattle.engine_sessions.specs.Sessions.{Held, opened, SessionTakes, SessionEnds, BeginsFaulty, CallFailsBy}
use Rattle.engine_sessions.specs.Calls.{Call, TakesAll, used_by, given_by, GiveAnswers, GiveAll, GiveUntil}
use Rattle.engine_sessions.specs.declared.session.SessionFault.TheVariants.{Block}
use Rattle.engine_sessions.proofs.KnownLemmas.{too_long_gives}
use Rattle.engine_sessions.proofs.AnswerLemmas.{with_texts, well_texts, answers_to-append, answers_to-faulty, counted-add}

-- answers that end in a fault
abbrev pub until : List Text → BlockFault → Answers
until texts fault = record { texts = texts; fault = Some fault }

abbrev pub first_or : {X : Type 0} → X → List X → X
first_or x [] = x
first_or x (y ∷ ys) = y

pub good_blocks : (answer : EventValue → Text) (blocks : List Text) (events : List EventValue) → map block_gives blocks ≡ map Ok events → answers_to answer blocks ≡ well (map answer events)
good_blocks answer [] [] e = refl
good_blocks answer [] (event ∷ events) e = absurd cc
good_blocks answer (block ∷ blocks) [] e = absurd cc
good_blocks answer (block ∷ blocks) (event ∷ events) e =
    let first : block_gives block ≡ Ok event = ap (first_or (Ok event)) e in
    let rest : map block_gives blocks ≡ map Ok events = ap (drop 1) e in
    ap (λ given. with_block answer given (answers_to answer blocks)) first ∙ ap (λ a. with_block answer (Ok event) a) (good_blocks answer blocks events rest)

pub faulty_after : (answer : EventValue → Text) (before : List Text) (texts : List Text) (block : Text) (fault : BlockFault) (following : List Text) → answers_to answer before ≡ well texts → block_gives block ≡ Err fault
    → answers_to answer (before ++ block ∷ following) ≡ until texts fault
faulty_after answer before texts block fault following e f =
    answers_to-append answer before (block ∷ following) texts e ∙ ap (with_texts texts) (answers_to-faulty answer block following fault f) ∙ ap (λ l. until l fault) (append-nil texts)

-- nothing after a faulty block counts
stays_block : (answer : EventValue → Text) (given : Result EventValue BlockFault) (first all : Answers) (texts : List Text) (fault : BlockFault)
    → ((some : List Text) → first ≡ until some fault → all ≡ until some fault) → with_block answer given first ≡ until texts fault → with_block answer given all ≡ until texts fault
stays_block answer (Ok event) first all texts fault more e =
    let same : answer event ∷ first.texts ≡ texts = ap (λ a. a.texts) e in
    let ends : first ≡ until first.texts fault = ap (λ (f : Option BlockFault). record { texts = first.texts; fault = f }) (ap (λ a. a.fault) e) in
    ap (λ a. with_block answer (Ok event) a) (more first.texts ends) ∙ ap (λ l. until l fault) same
stays_block answer (Err other) first all texts fault more e = e

pub until-append : (answer : EventValue → Text) (first second : List Text) (texts : List Text) (fault : BlockFault) → answers_to answer first ≡ until texts fault → answers_to answer (first ++ second) ≡ until texts fault
until-append answer [] second texts fault e = let both : None ≡ Some fault = ap (λ a. a.fault) e in absurd cc
until-append answer (block ∷ first) second texts fault e =
    stays_block answer (block_gives block) (answers_to answer first) (answers_to answer (first ++ second)) texts fault (λ some h. until-append answer first second some fault h) e

-- a rest that is too long is faulty, however it goes on
long_rest : (rest : Text) → is_too_long rest ≡ true → most_bytes < length rest
long_rest rest e = grind (arith, nat_tests)

same_line : (rest more : Text) → most_bytes < length rest → line_of_excess (rest ++ more) ≡ line_of_excess rest
unfolding line_of_excess
same_line rest more h = ap (λ l. newline_count l + 1) (take-append-le most_bytes rest more (omega arith))

not_nothing : (rest : Text) → most_bytes < length rest → rest ≢ []
not_nothing [] h e = absurd (omega arith)
not_nothing (byte ∷ rest) h e = absurd cc

long_proceeds : (answer : EventValue → Text) (text later : Text) → is_too_long (rest_of text) ≡ true → answers_to answer (runs (rest_of text ++ later)) ≡ answers_to answer (rest_of text ∷ [])
long_proceeds answer text later e =
    let rest : Text = rest_of text in
    let long : most_bytes < length rest = long_rest rest e in
    let first = runs-rest text later (not_nothing rest long) in
    let longer : most_bytes < length (rest ++ first.more) = omega (arith, long, length-append rest first.more) in
    let gives : block_gives (rest ++ first.more) ≡ Err (record { line = line_of_excess rest; kind = TooLong }) = too_long_gives (rest ++ first.more) longer ∙ ap (λ n. Err (record { line = n; kind = TooLong })) (same_line rest first.more long) in
    ap (answers_to answer) first.is ∙ answers_to-faulty answer (rest ++ first.more) first.others _ gives ∙ sym (answers_to-faulty answer rest [] _ (too_long_gives rest long))

-- the answers of a longer input, if those before the rest are well
pub after_well : (answer : EventValue → Text) (text later : Text) (texts : List Text) → answers_to answer (complete_runs text) ≡ well texts → answers_of answer (text ++ later) ≡ with_texts texts (answers_of answer (rest_of text ++ later))
after_well answer text later texts e = ap (answers_to answer) (runs-append text later) ∙ answers_to-append answer (complete_runs text) (runs (rest_of text ++ later)) texts e

differ : (texts others : List Text) (fault : BlockFault) → well texts ≡ until others fault → ⊥
differ texts others fault e = let both : None ≡ Some fault = ap (λ a. a.fault) e in absurd cc

known_well : (answer : EventValue → Text) (text : Text) (texts : List Text) (long : Bool) → is_too_long (rest_of text) ≡ long → answers_to answer (complete_runs text ++ cond long (rest_of text ∷ []) []) ≡ well texts
    → (fault : Option BlockFault) → (answers_to answer (complete_runs text)).fault ≡ fault → answers_to answer (complete_runs text) ≡ well texts
known_well answer text texts long e h (Some fault) f =
    let first : answers_to answer (complete_runs text) ≡ until (answers_to answer (complete_runs text)).texts fault = ap (λ (x : Option BlockFault). record { texts = (answers_to answer (complete_runs text)).texts; fault = x }) f in
    let both : None ≡ Some fault = ap (λ a. a.fault) (sym h ∙ until-append answer (complete_runs text) (cond long (rest_of text ∷ []) []) _ fault first) in
    absurd cc
known_well answer text texts true e h None f =
    let whole = faulty_after answer (complete_runs text) _ (rest_of text) _ [] (well_texts (answers_to answer (complete_runs text)) f) (too_long_gives (rest_of text) (long_rest (rest_of text) e)) in
    absurd (differ texts _ _ (sym h ∙ whole))
known_well answer text texts false e h None f = ap (answers_to answer) (sym (append-nil (complete_runs text))) ∙ h

-- the answers to the complete runs, if those to the blocks known are well
pub complete_well : (answer : EventValue → Text) (text : Text) (texts : List Text) → answers_to answer (known_blocks true text) ≡ well texts → answers_to answer (complete_runs text) ≡ well texts
complete_well answer text texts h = known_well answer text texts (is_too_long (rest_of text)) refl h (answers_to answer (complete_runs text)).fault refl

pub stays_well : (answer : EventValue → Text) (text later : Text) (texts : List Text) → answers_to answer (known_blocks true text) ≡ well texts → answers_of answer (text ++ later) ≡ with_texts texts (answers_of answer (rest_of text ++ later))
stays_well answer text later texts h = after_well answer text later texts (complete_well answer text texts h)

known_faulty : (answer : EventValue → Text) (text later : Text) (texts : List Text) (fault : BlockFault) (long : Bool) → is_too_long (rest_of text) ≡ long → answers_to answer (complete_runs text ++ cond long (rest_of text ∷ []) []) ≡ until texts fault
    → (given : Option BlockFault) → (answers_to answer (complete_runs text)).fault ≡ given → answers_of answer (text ++ later) ≡ until texts fault
known_faulty answer text later texts fault long e h (Some other) f =
    let some : List Text = (answers_to answer (complete_runs text)).texts in
    let first : answers_to answer (complete_runs text) ≡ until some other = ap (λ (x : Option BlockFault). record { texts = some; fault = x }) f in
    ap (answers_to answer) (runs-append text later) ∙ until-append answer (complete_runs text) (runs (rest_of text ++ later)) some other first
    ∙ sym (until-append answer (complete_runs text) (cond long (rest_of text ∷ []) []) some other first) ∙ h
known_faulty answer text later texts fault true e h None f =
    let some : List Text = (answers_to answer (complete_runs text)).texts in
    let first = well_texts (answers_to answer (complete_runs text)) f in
    after_well answer text later some first ∙ ap (with_texts some) (long_proceeds answer text later e)
    ∙ sym (answers_to-append answer (complete_runs text) (rest_of text ∷ []) some first) ∙ h
known_faulty answer text later texts fault false e h None f =
    let none : None ≡ Some fault = sym f ∙ ap (λ a. a.fault) (ap (answers_to answer) (sym (append-nil (complete_runs text))) ∙ h) in
    absurd cc

pub stays_faulty : (answer : EventValue → Text) (text later : Text) (texts : List Text) (fault : BlockFault) → answers_to answer (known_blocks true text) ≡ until texts fault → answers_of answer (text ++ later) ≡ until texts fault
stays_faulty answer text later texts fault h = known_faulty answer text later texts fault (is_too_long (rest_of text)) refl h (answers_to answer (complete_runs text)).fault refl

-- the first answers to an input are those to the blocks known of its first bytes
pub first_answers : (answer : EventValue → Text) (text later : Text) → (following : List Text) × ((answers_of answer (text ++ later)).texts ≡ (answers_to answer (known_blocks true text)).texts ++ following)
first_answers answer text later = by_fault (answers_to answer (known_blocks true text)).fault refl
  where
    by_fault : (given : Option BlockFault) → (answers_to answer (known_blocks true text)).fault ≡ given → (following : List Text) × ((answers_of answer (text ++ later)).texts ≡ (answers_to answer (known_blocks true text)).texts ++ following)
    by_fault None f = ((answers_of answer (rest_of text ++ later)).texts, ap (λ a. a.texts) (stays_well answer text later (answers_to answer (known_blocks true text)).texts (well_texts (answers_to answer (known_blocks true text)) f)))
    by_fault (Some fault) f =
        let known : answers_to answer (known_blocks true text) ≡ until (answers_to answer (known_blocks true text)).texts fault = ap (λ (x : Option BlockFault). record { texts = (answers_to answer (known_blocks true text)).texts; fault = x }) f in
        ([], ap (λ a. a.texts) (stays_faulty answer text later (answers_to answer (known_blocks true text)).texts fault known) ∙ sym (append-nil (answers_to answer (known_blocks true text)).texts))

-- what calls in a row give, after a text that was answered before
pub record Given {A : Type 0} (answer : EventValue → Text) (text : Text) (texts : List Text) (now : Held A) : Type 0 where
  pub answers : answers_to answer (complete_runs text) ≡ well texts
  pub pending : rest_of text ≡ now.pending
  pub answered : now.answered ≡ counted (length texts)

one_call : {A : Type 0} (answer : EventValue → Text) (call : Call A) (old : Held A) (text : Text) (texts : List Text) → Given answer text texts old → SessionTakes answer old call.piece call.step call.after
    → Given answer (text ++ take call.step.used call.piece) (texts ++ option_to_list call.step.answer) call.after
one_call answer call old text texts g t =
    let used : Text = take call.step.used call.piece in
    let more : List Text = option_to_list call.step.answer in
    record {
      answers = ap (answers_to answer) (complete_runs-append text used ∙ ap (λ rest. complete_runs text ++ complete_runs (rest ++ used)) g.pending)
          ∙ answers_to-append answer (complete_runs text) (complete_runs (old.pending ++ used)) texts g.answers ∙ ap (with_texts texts) t.answers;
      pending = rest_of-append text used ∙ ap (λ rest. rest_of (rest ++ used)) g.pending ∙ sym (ap (λ h. h.pending) t.leaves);
      answered = ap (λ h. h.answered) t.leaves ∙ ap (λ n. counted (n + length more)) g.answered ∙ counted-add (length texts) (length more) ∙ ap counted (sym (length-append texts more));
    }

all_calls : {A : Type 0} (answer : EventValue → Text) (calls : List (Call A)) (old now : Held A) (text : Text) (texts : List Text) → Given answer text texts old → TakesAll answer old calls now
    → Given answer (text ++ used_by calls) (texts ++ given_by calls) now
all_calls answer [] old now text texts g h = rw (append-nil text, append-nil texts, ← h) g
all_calls answer (call ∷ calls) old now text texts g h =
    let used : Text = take call.step.used call.piece in
    let more : List Text = option_to_list call.step.answer in
    let later = all_calls answer calls call.after now (text ++ used) (texts ++ more) (one_call answer call old text texts g h.0) h.1 in
    rw (append_assoc text used (used_by calls), append_assoc texts more (given_by calls)) at later

from_start : {A : Type 0} (answer : EventValue → Text) (answering : A) (calls : List (Call A)) (now : Held A) → TakesAll answer (opened answering) calls now → Given answer (used_by calls) (given_by calls) now
from_start answer answering calls now h = all_calls answer calls (opened answering) now [] [] (record { answers = refl; pending = refl; answered = refl }) h

pub give_answers : {A : Type 0} (answer : EventValue → Text) (answering : A) (calls : List (Call A)) (now : Held A) → TakesAll answer (opened answering) calls now → GiveAnswers answer calls now
give_answers answer answering calls now h = let g = from_start answer answering calls now h in record { answers = g.answers; pending = sym g.pending; answered = g.answered }

-- the answers to all that was used and what follows it
after_calls : {A : Type 0} (answer : EventValue → Text) (calls : List (Call A)) (now : Held A) (later : Text) → Given answer (used_by calls) (given_by calls) now → answers_of answer (used_by calls ++ later) ≡ with_texts (given_by calls) (answers_of answer (now.pending ++ later))
after_calls answer calls now later g = after_well answer (used_by calls) later (given_by calls) g.answers ∙ ap (λ rest. with_texts (given_by calls) (answers_of answer (rest ++ later))) g.pending

at_end : {A : Type 0} (answer : EventValue → Text) (calls : List (Call A)) (now : Held A) → Given answer (used_by calls) (given_by calls) now → answers_of answer (used_by calls) ≡ with_texts (given_by calls) (answers_of answer now.pending)
at_end answer calls now g = ap (answers_of answer) (sym (append-nil (used_by calls))) ∙ after_calls answer calls now [] g ∙ ap (λ text. with_texts (given_by calls) (answers_of answer text)) (append-nil now.pending)

pub give_all : {A : Type 0} (answer : EventValue → Text) (answering : A) (calls : List (Call A)) (now last : Held A) (given : Option Text) → TakesAll answer (opened answering) calls now → SessionEnds answer now given last → GiveAll answer calls given
give_all answer answering calls now last given h e = at_end answer calls now (from_start answer answering calls now h) ∙ ap (with_texts (given_by calls)) e.answers

first_is_faulty : {A : Type 0} (answer : EventValue → Text) (now : Held A) (blocks : List Text) (number : ℕ) (fault : BlockFault) → BeginsFaulty now blocks number fault → answers_to answer blocks ≡ until [] fault
first_is_faulty answer now blocks number fault b = ap (answers_to answer) b.first ∙ answers_to-faulty answer b.block b.others fault b.gives

number_is : {A : Type 0} (answer : EventValue → Text) (calls : List (Call A)) (now : Held A) (blocks : List Text) (number : ℕ) (fault : BlockFault) → Given answer (used_by calls) (given_by calls) now → BeginsFaulty now blocks number fault → number ≡ number_after (length (given_by calls))
number_is answer calls now blocks number fault g b = b.numbered ∙ ap number_after g.answered ∙ counted-add (length (given_by calls)) 1

pub give_until : {A : Type 0} (answer : EventValue → Text) (answering : A) (calls : List (Call A)) (now last : Held A) (piece later : Text) (number : ℕ) (fault : BlockFault) → TakesAll answer (opened answering) calls now
    → CallFailsBy (Block number fault) now (known_blocks true (now.pending ++ piece)) last → GiveUntil answer (used_by calls ++ piece ++ later) (given_by calls) number fault
give_until answer answering calls now last piece later number fault h f =
    let g = from_start answer answering calls now h in
    let rest : answers_of answer (now.pending ++ (piece ++ later)) ≡ until [] fault =
    ap (answers_of answer) (sym (append_assoc now.pending piece later)) ∙ stays_faulty answer (now.pending ++ piece) later [] fault (first_is_faulty answer now (known_blocks true (now.pending ++ piece)) number fault f.0) in
    record {
      answers = ap (answers_of answer) (append_assoc (used_by calls) piece later) ∙ after_calls answer calls now (piece ++ later) g ∙ ap (with_texts (given_by calls)) rest ∙ ap (λ l. until l fault) (append-nil (given_by calls));
      numbered = number_is answer calls now (known_blocks true (now.pending ++ piece)) number fault g f.0;
    }

pub give_until_end : {A : Type 0} (answer : EventValue → Text) (answering : A) (calls : List (Call A)) (now last : Held A) (number : ℕ) (fault : BlockFault) → TakesAll answer (opened answering) calls now
    → CallFailsBy (Block number fault) now (known_blocks false now.pending) last → GiveUntil answer (used_by calls) (given_by calls) number fault
give_until_end answer answering calls now last number fault h f =
    let g = from_start answer answering calls now h in
    record {
      answers = at_end answer calls now g ∙ ap (with_texts (given_by calls)) (first_is_faulty answer now (known_blocks false now.pending) number fault f.0) ∙ ap (λ l. until l fault) (append-nil (given_by calls));
      numbered = number_is answer calls now (known_blocks false now.pending) number fault g f.0;
    }
