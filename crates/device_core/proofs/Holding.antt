-- What the reader holds says what the lines above say, and stays so by one line more.
use Rattle.std.proofs.Common.{◌≡◌, suc, ◌+◌, true, false, ◌||◌, List, [], ◌∷◌, ◌++◌, length, Option, Some, None, is_some, Result, Ok, Err, refl, ap, sym, ◌∙◌, subst, arith}
use Rattle.std.proofs.lemmas.List.{append-nil, length-append}
use Rattle.std.specs.Option.{option_and_then, option_to_list}
use Rattle.std.specs.List.{zip}
use Rattle.text_bytes.specs.Texts.{first, is_empty, last}
use Rattle.text_bytes.specs.Text.{Text}
use Rattle.text_tables.specs.Texts.{is_among, same_text}
use Rattle.text_tables.specs.Pairs.{Pair as NameAndValue, named}
use Rattle.text_tables.proofs.Found.{set_after}
use Rattle.device_core.specs.Lines.{Row, begins_answer}
use Rattle.device_core.specs.Parts.{pair_of, answer_of}
use Rattle.device_core.specs.Values.{DeviceValue, AnswerValue, with_line}
use Rattle.device_core.specs.Blocks.{is_kind, texts, pairs, answers, answers_after, change_last, devices}
use Rattle.device_core.specs.Faults.{device_above, is_command, follows_command, is_of_answer, follows_answer}
use Rattle.device_core.specs.Steps.{Sofar, settled, with_pending}
use Rattle.device_core.specs.declared.lines.LineKind.TheVariants.{Action, Device, Constant, Command, Answer, Output}
use Rattle.device_core.specs.declared.faults.BlockFaultKind.{BlockFaultKind}
use Rattle.device_core.proofs.Rows.{added, texts_more, pairs_more, answers_more, none_in, with_row, change_end, devices_more, last_end, some_more}

-- a command that waits has no answer yet
abbrev pub IsFresh : Option Text → List (Text × AnswerValue) → Type 0
IsFresh None known = Unit {0}
IsFresh (Some command) known = named known command ≡ false

-- the last answer is apart from the others
abbrev pub IsApart : Option (Text × AnswerValue) → List (Text × AnswerValue) → Type 0
IsApart None known = Unit {0}
IsApart (Some program) known = named known program.0 ≡ false

-- a command that waits is followed by its answer
abbrev pub IsNext : Option Text → List Text → Type 0
IsNext None below = Unit {0}
IsNext (Some command) below = begins_answer below ≡ true

-- the lines above say what the reader holds
pub record Holds (above : List Row) (action : Text) (s : Sofar) : Type 0 where
  pub begun_are : is_empty above ≡ false
  pub acted : first (texts Action above) ≡ Some action
  pub devices_are : devices above ≡ s.closed ++ option_to_list s.last
  pub alone : s.last ≡ None → s.closed ≡ []
  pub constants_are : pairs Constant above ≡ s.constants
  pub answered : List Text
  pub asked_are : texts Command above ≡ answered ++ option_to_list s.asked
  pub as_many : length answered ≡ length (answers above)
  pub programs_are : zip answered (answers above) ≡ with_pending s.programs s.pending
  pub follows : follows_command above ≡ is_some s.asked
  pub fresh : IsFresh s.asked (with_pending s.programs s.pending)
  pub prints : follows_answer above ≡ is_some s.pending
  pub apart : IsApart s.pending s.programs

-- what the reader does with a line is what the definition says of it
abbrev pub Agrees : List Row → Text → List Text → Option BlockFaultKind → Result Sofar BlockFaultKind → Type 0
Agrees above action below fault (Err kind) = fault ≡ Some kind
Agrees above action below fault (Ok t) = (fault ≡ None) × Holds above action t × IsNext t.asked below

-- a line that says nothing of the event as a whole
pub record IsQuiet (row : Row) : Type 0 where
  pub no_action : is_kind Action row ≡ false
  pub no_constant : is_kind Constant row ≡ false
  pub no_command : is_kind Command row ≡ false
  pub no_answer : (given : List AnswerValue) → answers_after given row.0 row.1 ≡ given
  pub no_output : (is_kind Answer row || is_kind Output row) ≡ false

pub change_same : {X : Type 0} (f : X → X) → ((x : X) → f x ≡ x) → (xs : List X) → change_last f xs ≡ xs
change_same f same [] = refl
change_same f same (x ∷ []) = ap (λ y. y ∷ []) (same x)
change_same f same (x ∷ y ∷ ys) = ap (λ zs. x ∷ zs) (change_same f same (y ∷ ys))

pub as_many_on : {X Y : Type 0} (xs : List X) (ys : List Y) (x : X) (y : Y) → length xs ≡ length ys → length (xs ++ x ∷ []) ≡ length (ys ++ y ∷ [])
as_many_on xs ys x y h = length-append xs (x ∷ []) ∙ ap (λ n. n + 1) h ∙ sym (length-append ys (y ∷ []))

pub zip_on : {X Y : Type 0} (xs : List X) (ys : List Y) (x : X) (y : Y) → length xs ≡ length ys → zip (xs ++ x ∷ []) (ys ++ y ∷ []) ≡ zip xs ys ++ (x, y) ∷ []
zip_on [] [] x y h = refl
zip_on [] (b ∷ ys) x y h = absurd (omega (arith, h))
zip_on (a ∷ xs) [] x y h = absurd (omega (arith, h))
zip_on (a ∷ xs) (b ∷ ys) x y h = let same : length xs ≡ length ys = omega (arith, h) in ap (λ ps. (a, b) ∷ ps) (zip_on xs ys x y same)

pub change_long : {X : Type 0} (f : X → X) (xs : List X) → length (change_last f xs) ≡ length xs
change_long f [] = refl
change_long f (x ∷ []) = refl
change_long f (x ∷ y ∷ ys) = ap suc (change_long f (y ∷ ys))

-- the last of two lists at once, changed in the second
pub zip_change : {X Y : Type 0} (f : Y → Y) (xs : List X) (ys : List Y) → length xs ≡ length ys → zip xs (change_last f ys) ≡ change_last (λ p. (p.0, f p.1)) (zip xs ys)
zip_change f [] [] h = refl
zip_change f [] (y ∷ ys) h = absurd (omega (arith, h))
zip_change f (x ∷ xs) [] h = absurd (omega (arith, h))
zip_change f (x ∷ []) (y ∷ []) h = refl
zip_change f (x ∷ []) (y ∷ z ∷ ys) h = absurd (omega (arith, h))
zip_change f (x ∷ w ∷ xs) (y ∷ []) h = absurd (omega (arith, h))
zip_change f (x ∷ w ∷ xs) (y ∷ z ∷ ys) h = let same : length (w ∷ xs) ≡ length (z ∷ ys) = omega (arith, h) in ap (λ ps. (x, y) ∷ ps) (zip_change f (w ∷ xs) (z ∷ ys) same)

-- the commands that have answers are the names of the answers
pub named_zip : (xs : List Text) (ys : List AnswerValue) (name : Text) → length xs ≡ length ys → named (zip xs ys) name ≡ is_among xs name
named_zip [] [] name h = refl
named_zip [] (b ∷ ys) name h = absurd (omega (arith, h))
named_zip (a ∷ xs) [] name h = absurd (omega (arith, h))
named_zip (a ∷ xs) (b ∷ ys) name h = let same : length xs ≡ length ys = omega (arith, h) in ap (λ t. same_text name a || t) (named_zip xs ys name same)

module _ (above : List Row) (action : Text) (s : Sofar) (h : Holds above action s) where
  -- the parts that a row of another kind leaves
  pub acted_on : (row : Row) → is_kind Action row ≡ false → first (texts Action (above ++ row ∷ [])) ≡ Some action
  acted_on row e = ap first (texts_more above row Action ∙ ap (added (texts Action above)) (none_in Action row e)) ∙ h.acted

  pub constants_on : (row : Row) → is_kind Constant row ≡ false → pairs Constant (above ++ row ∷ []) ≡ s.constants
  constants_on row e = pairs_more above row Constant ∙ ap (λ o. added (pairs Constant above) (option_and_then pair_of o)) (none_in Constant row e) ∙ h.constants_are

  pub commands_on : (row : Row) → is_kind Command row ≡ false → texts Command (above ++ row ∷ []) ≡ h.answered ++ option_to_list s.asked
  commands_on row e = texts_more above row Command ∙ ap (added (texts Command above)) (none_in Command row e) ∙ h.asked_are

  pub answers_on : (row : Row) → ((given : List AnswerValue) → answers_after given row.0 row.1 ≡ given) → answers (above ++ row ∷ []) ≡ answers above
  answers_on row e = answers_more above row ∙ e (answers above)

  pub follows_on : (row : Row) → follows_command (above ++ row ∷ []) ≡ is_kind Command row
  unfolding follows_command
  follows_on row = ap is_command (last_end above row)

  pub prints_on : (row : Row) → follows_answer (above ++ row ∷ []) ≡ (is_kind Answer row || is_kind Output row)
  unfolding follows_answer
  prints_on row = ap is_of_answer (last_end above row)

  pub above_by : (o : Option DeviceValue) → (o ≡ None → s.closed ≡ []) → last (s.closed ++ option_to_list o) ≡ o
  above_by None alone = ap (λ ds. last (ds ++ [])) (alone refl)
  above_by (Some d) alone = last_end s.closed d

  -- the device above is the last of the reader's
  pub above_is : device_above above ≡ s.last
  unfolding device_above
  above_is = ap last h.devices_are ∙ above_by s.last h.alone

  -- a line about a device, or one that begins a device
  pub still : (row : Row) → IsQuiet row → s.asked ≡ None → (ds : List DeviceValue) (d : DeviceValue) → devices (above ++ row ∷ []) ≡ ds ++ d ∷ [] → Holds (above ++ row ∷ []) action (record (settled s) { closed = ds; last = Some d; asked = None })
  still row q idle ds d are = record {
    begun_are = some_more above row;
    acted = acted_on row q.no_action;
    devices_are = are;
    alone = λ e. cc;
    constants_are = constants_on row q.no_constant;
    answered = h.answered;
    asked_are = commands_on row q.no_command ∙ ap (λ o. h.answered ++ option_to_list o) idle;
    as_many = h.as_many ∙ sym (ap length (answers_on row q.no_answer));
    programs_are = ap (zip h.answered) (answers_on row q.no_answer) ∙ h.programs_are;
    follows = follows_on row ∙ q.no_command;
    fresh = tt;
    prints = prints_on row ∙ q.no_output;
    apart = tt;
  }

  -- a line that says nothing of a device
  pub devices_on : (row : Row) → is_kind Device row ≡ false → ((d : DeviceValue) → with_row d row ≡ d) → devices (above ++ row ∷ []) ≡ s.closed ++ option_to_list s.last
  devices_on row e same = devices_more above row e ∙ change_same (λ d. with_row d row) same (devices above) ∙ h.devices_are

  -- a constant
  pub constant_on : (rest : Text) (pair : NameAndValue) → pair_of rest ≡ Some pair → s.asked ≡ None → Holds (above ++ (Constant, rest) ∷ []) action (record (settled s) { constants = s.constants ++ pair ∷ []; asked = None })
  constant_on rest pair e idle = record {
    begun_are = some_more above (Constant, rest);
    acted = acted_on (Constant, rest) refl;
    devices_are = devices_on (Constant, rest) refl (λ d. refl);
    alone = h.alone;
    constants_are = pairs_more above (Constant, rest) Constant ∙ ap (added (pairs Constant above)) e ∙ ap (λ ps. ps ++ pair ∷ []) h.constants_are;
    answered = h.answered;
    asked_are = commands_on (Constant, rest) refl ∙ ap (λ o. h.answered ++ option_to_list o) idle;
    as_many = h.as_many ∙ sym (ap length (answers_on (Constant, rest) (λ given. refl)));
    programs_are = ap (zip h.answered) (answers_on (Constant, rest) (λ given. refl)) ∙ h.programs_are;
    follows = follows_on (Constant, rest);
    fresh = tt;
    prints = prints_on (Constant, rest);
    apart = tt;
  }

  -- a command
  pub command_on : (rest : Text) → named (settled s).programs rest ≡ false → s.asked ≡ None → Holds (above ++ (Command, rest) ∷ []) action (record (settled s) { asked = Some rest })
  command_on rest new idle = record {
    begun_are = some_more above (Command, rest);
    acted = acted_on (Command, rest) refl;
    devices_are = devices_on (Command, rest) refl (λ d. refl);
    alone = h.alone;
    constants_are = constants_on (Command, rest) refl;
    answered = h.answered;
    asked_are = texts_more above (Command, rest) Command ∙ ap (λ ts. ts ++ rest ∷ []) (h.asked_are ∙ ap (λ o. h.answered ++ option_to_list o) idle ∙ append-nil h.answered);
    as_many = h.as_many ∙ sym (ap length (answers_on (Command, rest) (λ given. refl)));
    programs_are = ap (zip h.answered) (answers_on (Command, rest) (λ given. refl)) ∙ h.programs_are;
    follows = follows_on (Command, rest);
    fresh = new;
    prints = prints_on (Command, rest);
    apart = tt;
  }

  -- the answer to the command that waits
  pub answer_on : (rest command : Text) (answer : AnswerValue) → answer_of rest ≡ Some answer → s.asked ≡ Some command → Holds (above ++ (Answer, rest) ∷ []) action (record (settled s) { pending = Some (command, answer); asked = None })
  answer_on rest command answer e waits =
      let more : answers (above ++ (Answer, rest) ∷ []) ≡ answers above ++ answer ∷ [] = answers_more above (Answer, rest) ∙ ap (λ o. answers above ++ option_to_list o) e in
      let new : named (settled s).programs command ≡ false = subst (λ (o : Option Text). IsFresh o (settled s).programs) waits h.fresh in
      record {
        begun_are = some_more above (Answer, rest);
        acted = acted_on (Answer, rest) refl;
        devices_are = devices_on (Answer, rest) refl (λ d. refl);
        alone = h.alone;
        constants_are = constants_on (Answer, rest) refl;
        answered = h.answered ++ command ∷ [];
        asked_are = commands_on (Answer, rest) refl ∙ ap (λ o. h.answered ++ option_to_list o) waits ∙ sym (append-nil (h.answered ++ command ∷ []));
        as_many = as_many_on h.answered (answers above) command answer h.as_many ∙ sym (ap length more);
        programs_are = ap (zip (h.answered ++ command ∷ [])) more ∙ zip_on h.answered (answers above) command answer h.as_many ∙ ap (λ ps. ps ++ (command, answer) ∷ []) h.programs_are ∙ sym (set_after (settled s).programs command answer new);
        follows = follows_on (Answer, rest);
        fresh = tt;
        prints = prints_on (Answer, rest);
        apart = new;
      }

  -- one more line of the answer that was the last
  pub output_on : (rest : Text) (p : Text × AnswerValue) → s.pending ≡ Some p → s.asked ≡ None → Holds (above ++ (Output, rest) ∷ []) action (record s { pending = Some (p.0, with_line rest p.1); asked = None })
  output_on rest p is idle =
      let more : answers (above ++ (Output, rest) ∷ []) ≡ change_last (with_line rest) (answers above) = answers_more above (Output, rest) in
      let new : named s.programs p.0 ≡ false = subst (λ (o : Option (Text × AnswerValue)). IsApart o s.programs) is h.apart in
      let were : zip h.answered (answers above) ≡ s.programs ++ p ∷ [] = h.programs_are ∙ ap (with_pending s.programs) is ∙ set_after s.programs p.0 p.1 new in
      record {
        begun_are = some_more above (Output, rest);
        acted = acted_on (Output, rest) refl;
        devices_are = devices_on (Output, rest) refl (λ d. refl);
        alone = h.alone;
        constants_are = constants_on (Output, rest) refl;
        answered = h.answered;
        asked_are = commands_on (Output, rest) refl ∙ ap (λ o. h.answered ++ option_to_list o) idle;
        as_many = h.as_many ∙ sym (ap length more ∙ change_long (with_line rest) (answers above));
        programs_are =
            ap (zip h.answered) more ∙ zip_change (with_line rest) h.answered (answers above) h.as_many
            ∙ ap (change_last (λ q. (q.0, with_line rest q.1))) were ∙ change_end (λ q. (q.0, with_line rest q.1)) s.programs p
            ∙ sym (set_after s.programs p.0 (with_line rest p.1) new);
        follows = follows_on (Output, rest);
        fresh = tt;
        prints = prints_on (Output, rest);
        apart = new;
      }
