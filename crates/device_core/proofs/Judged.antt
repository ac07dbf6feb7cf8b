-- The one-pass reader answers what the definition of a block says.
use Rattle.std.proofs.Common.{◌≡◌, ℕ, ◌+◌, Bool, true, false, ◌&&◌, List, [], ◌∷◌, ◌++◌, length, Option, Some, None, Result, Ok, Err, unwrap_or, nat_eq, refl, ap, sym, ◌∙◌, subst, if◌then◌else◌, arith}
use Rattle.std.proofs.lemmas.List.{append-nil, length-append}
use Rattle.std.proofs.lemmas.List.Sums.{fold-append}
use Rattle.std.specs.Option.{option_to_list}
use Rattle.std.specs.List.{zip}
use Rattle.text_bytes.specs.Texts.{first, is_empty}
use Rattle.text_bytes.specs.declared.profile.Profile.TheVariants.{Manual}
use Rattle.text_bytes.specs.Text.{Text}
use Rattle.device_core.specs.Lines.{Row, row_of, kind_of, begins_answer}
use Rattle.device_core.specs.Values.{DeviceValue}
use Rattle.device_core.specs.Blocks.{BehindValue, behind_after, behind_in, nothing_behind, texts, pairs, answers, programs, groups, devices, event}
use Rattle.device_core.specs.Faults.{follows_command, follows_answer, first_of, row_fault, has_nul, line_fault, fault_unless, unless_faulty, given_with, given_below, given_by}
use Rattle.device_core.specs.Steps.{if_ok, Sofar, settled, row_step, plain_row, known_row, line_step, then_row, first_step, action_in, action_by, nothing_read, then_steps, steps, finished_event, with_devices, then_finished, after_first, read_lines, with_behind}
use Rattle.device_core.specs.declared.lines.LineKind.{LineKind}
use Rattle.device_core.specs.declared.lines.LineKind.TheVariants.{Action, Device, Field, Constant, Command, Answer, Output}
use Rattle.device_core.specs.declared.faults.BlockFaultKind.{BlockFaultKind}
use Rattle.device_core.specs.declared.faults.BlockFaultKind.TheVariants.{NoAction, NoDevice, Twice, Path, Number, Pair, Nul, TooDeep}
use Rattle.device_core.proofs.Holding.{IsNext, Holds, Agrees}
use Rattle.device_core.proofs.RowsJudged.{NoneWaits, row_agrees}

-- ---- a line

none_waits : (kind : LineKind) → NoneWaits None kind
none_waits Action = refl
none_waits Device = refl
none_waits (Field field) = refl
none_waits Constant = refl
none_waits Command = refl
none_waits Answer = tt
none_waits Output = refl

both_true : (a b : Bool) → (a && b) ≡ true → (a ≡ true) × (b ≡ true)
both_true true b h = (refl, h)
both_true false b h = cc

same_number : (a b : ℕ) → nat_eq a b ≡ true → a ≡ b
same_number a b h = grind arith

answer_row_is : (a b c : ℕ) (rest : Text) → 82 ≡ a → 58 ≡ b → 32 ≡ c → row_of (a ∷ b ∷ c ∷ rest) ≡ Some (Answer, rest)
unfolding row_of kind_of
answer_row_is a b c rest d e f = sym (λ i. row_of (d i ∷ e i ∷ f i ∷ rest))

kind_in : Option Row → LineKind
kind_in None = Action
kind_in (Some row) = row.0

-- a line that begins as an answer does is one
is_answer : (line : Text) (below : List Text) (kind : LineKind) (rest : Text) → begins_answer (line ∷ below) ≡ true → row_of line ≡ Some (kind, rest) → kind ≡ Answer
unfolding begins_answer kind_in
is_answer [] below kind rest h e = cc
is_answer (a ∷ []) below kind rest h e =
    let p = both_true (nat_eq 82 a) false h in cc
is_answer (a ∷ b ∷ []) below kind rest h e =
    let p = both_true (nat_eq 82 a) (nat_eq 58 b && false) h in
    let q = both_true (nat_eq 58 b) false p.1 in cc
is_answer (a ∷ b ∷ c ∷ text) below kind rest h e =
    let p = both_true (nat_eq 82 a) (nat_eq 58 b && (nat_eq 32 c && true)) h in
    let q = both_true (nat_eq 58 b) (nat_eq 32 c && true) p.1 in
    let r = both_true (nat_eq 32 c) true q.1 in
    let is = answer_row_is a b c text (same_number 82 a p.0) (same_number 58 b q.0) (same_number 32 c r.0) in
    let same : Some (kind, rest) ≡ Some (Answer, text) = sym e ∙ is in ap kind_in same

waits_by : (asked : Option Text) (line : Text) (below : List Text) (kind : LineKind) (rest : Text) → IsNext asked (line ∷ below) → row_of line ≡ Some (kind, rest) → NoneWaits asked kind
waits_by None line below kind rest next e = none_waits kind
waits_by (Some command) line below kind rest next e = subst (λ (k : LineKind). NoneWaits (Some command) k) (sym (is_answer line below kind rest next e)) tt

-- what the reader does with a line is what the definition says of it, and so is what it knows of properties behind commands
abbrev LineAgrees : List Row → Text → List Text → Option BlockFaultKind → Result Sofar BlockFaultKind → Type 0
LineAgrees above action below fault (Err kind) = fault ≡ Some kind
LineAgrees above action below fault (Ok t) = (fault ≡ None) × Holds above action t × IsNext t.asked below × (t.behind ≡ behind_in above)

still_holds : (above : List Row) (action : Text) (t : Sofar) (b : BehindValue) → Holds above action t → Holds above action (record t { behind = b })
still_holds above action t b h = record {
  begun_are = h.begun_are;
  acted = h.acted;
  devices_are = h.devices_are;
  alone = h.alone;
  constants_are = h.constants_are;
  answered = h.answered;
  asked_are = h.asked_are;
  as_many = h.as_many;
  programs_are = h.programs_are;
  follows = h.follows;
  fresh = h.fresh;
  prints = h.prints;
  apart = h.apart;
}

line_with : (above : List Row) (action : Text) (below : List Text) (fault : Option BlockFaultKind) (b : BehindValue) → b ≡ behind_in above
    → (r : Result Sofar BlockFaultKind) → Agrees above action below fault r → LineAgrees above action below fault (if_ok (with_behind b) r)
line_with above action below fault b is (Err kind) agrees = agrees
line_with above action below fault b is (Ok t) agrees = (agrees.0, still_holds above action t b agrees.1, agrees.2, is)

behind_more : (above : List Row) (row : Row) → behind_in (above ++ row ∷ []) ≡ behind_after (behind_in above) row.0 row.1
unfolding behind_in
behind_more above row = fold-append (λ (b : BehindValue) (r : Row). behind_after b r.0 r.1) nothing_behind above (row ∷ [])

line_by : (above : List Row) (action : Text) (s : Sofar) (line : Text) (below : List Text) → Holds above action s → IsNext s.asked (line ∷ below) → s.behind ≡ behind_in above → (t : Bool) (o : Option Row) → row_of line ≡ o
    → LineAgrees (above ++ option_to_list o) action below (if t then Some Nul else fault_unless above o below) (then_row s (begins_answer below) (if t then Err Nul else known_row o))
line_by above action s line below h next b true o e = refl
line_by above action s line below h next b false None e = refl
line_by above action s line below h next b false (Some row) e =
    line_with (above ++ row ∷ []) action below (row_fault above row.0 row.1 below) (behind_after s.behind row.0 row.1) (ap (λ v. behind_after v row.0 row.1) b ∙ sym (behind_more above row))
    (row_step s row.0 row.1 (begins_answer below)) (row_agrees above action s row.0 row.1 below h (waits_by s.asked line below row.0 row.1 next e))

line_agrees : (above : List Row) (action : Text) (s : Sofar) (line : Text) (below : List Text) → Holds above action s → IsNext s.asked (line ∷ below) → s.behind ≡ behind_in above
    → LineAgrees (above ++ option_to_list (row_of line)) action below (line_fault above line below) (line_step s line (begins_answer below))
unfolding line_fault line_step plain_row
line_agrees above action s line below h next b = line_by above action s line below h next b (has_nul line) (row_of line) refl

-- a line without a fault is one of the rows above the next
counted_by : (above : List Row) (below : List Text) (t : Bool) (o : Option Row) → (if t then Some Nul else fault_unless above o below) ≡ None → length (above ++ option_to_list o) ≡ length above + 1
counted_by above below true o e = cc
counted_by above below false None e = cc
counted_by above below false (Some row) e = length-append above (row ∷ [])

pub counted : (above : List Row) (line : Text) (below : List Text) → line_fault above line below ≡ None → length (above ++ option_to_list (row_of line)) ≡ length above + 1
unfolding line_fault
counted above line below e = counted_by above below (has_nul line) (row_of line) e

-- ---- the end

module _ (above : List Row) (action : Text) (s : Sofar) (h : Holds above action s) (b : s.behind ≡ behind_in above) where
  event_is : s.asked ≡ None → (device : DeviceValue) (parents : List DeviceValue) → event above device parents ≡ record { action = action; device = device; parents = parents; programs = (settled s).programs; constants = s.constants; misplaced = s.behind.property; profile = Manual }
  unfolding event programs
  event_is idle device parents =
      let commands : texts Command above ≡ h.answered = h.asked_are ∙ ap (λ o. h.answered ++ option_to_list o) idle ∙ append-nil h.answered in
      λ i. record {
        action = ap (λ o. unwrap_or o []) h.acted i;
        device = device;
        parents = parents;
        programs = (ap (λ cs. zip cs (answers above)) commands ∙ h.programs_are) i;
        constants = h.constants_are i;
        misplaced = (sym b i).property;
        profile = Manual;
      }

  end_with : s.asked ≡ None → (ds : List DeviceValue) → with_devices action (settled s) (length above) ds ≡ given_with above ds
  end_with idle [] = refl
  end_with idle (device ∷ parents) = ap Ok (sym (event_is idle device parents))

  end_agrees : (n : ℕ) → n ≡ length above → s.asked ≡ None → with_devices action (settled s) n (s.closed ++ option_to_list s.last) ≡ given_below above []
  unfolding given_below
  end_agrees n e idle = ap (λ m. with_devices action (settled s) m (s.closed ++ option_to_list s.last)) e ∙ end_with idle (s.closed ++ option_to_list s.last) ∙ ap (given_with above) (sym h.devices_are)

idle_end : (asked : Option Text) → IsNext asked [] → asked ≡ None
unfolding begins_answer
idle_end None next = refl
idle_end (Some command) next = cc

step_on : (above more : List Row) (action : Text) (n : ℕ) (line : Text) (below : List Text) (fault : Option BlockFaultKind) → n ≡ length above
    → (fault ≡ None → length more ≡ length above + 1)
    → ((t : Sofar) → n + 1 ≡ length more → Holds more action t → IsNext t.asked below → t.behind ≡ behind_in more → then_finished action (steps t (n + 1) below) ≡ given_below more below)
    → (r : Result Sofar BlockFaultKind) → LineAgrees more action below fault r
    → then_finished action (then_steps (n + 1) (λ t. steps t (n + 1) below) r) ≡ unless_faulty (length above + 1) fault (given_below more below)
step_on above more action n line below fault e grown rest (Err kind) agrees = rw (agrees, e) refl
step_on above more action n line below fault e grown rest (Ok t) agrees =
    let count : n + 1 ≡ length more = ap (λ m. m + 1) e ∙ sym (grown agrees.0) in
    rest t count agrees.1 agrees.2 agrees.3 ∙ ap (λ f. unless_faulty (length above + 1) f (given_below more below)) (sym agrees.0)

lines_agree : (lines : List Text) (above : List Row) (action : Text) (s : Sofar) (n : ℕ) → n ≡ length above → Holds above action s → IsNext s.asked lines → s.behind ≡ behind_in above → then_finished action (steps s n lines) ≡ given_below above lines
unfolding steps given_below finished_event
lines_agree [] above action s n e h next b = end_agrees above action s h b n e (idle_end s.asked next)
lines_agree (line ∷ below) above action s n e h next b =
    step_on above (above ++ option_to_list (row_of line)) action n line below (line_fault above line below) e (counted above line below)
    (λ t m holds follows known. lines_agree below (above ++ option_to_list (row_of line)) action t (n + 1) m holds follows known)
    (line_step s line (begins_answer below)) (line_agrees above action s line below h next b)

-- ---- the first line

abbrev pub FirstAgrees : List Row → Option BlockFaultKind → Result Text BlockFaultKind → Type 0
FirstAgrees rows fault (Err kind) = fault ≡ Some kind
FirstAgrees rows fault (Ok action) = (fault ≡ None) × Holds rows action nothing_read × (length rows ≡ 1) × (nothing_behind ≡ behind_in rows)

first_holds : (rest : Text) → Holds ((Action, rest) ∷ []) rest nothing_read
unfolding texts pairs answers devices groups follows_command follows_answer
first_holds rest = record {
  begun_are = refl;
  acted = refl;
  devices_are = refl;
  alone = λ e. refl;
  constants_are = refl;
  answered = [];
  asked_are = refl;
  as_many = refl;
  programs_are = refl;
  follows = refl;
  fresh = tt;
  prints = refl;
  apart = tt;
}

first_action : (rest : Text) (empty : Bool) → FirstAgrees ((Action, rest) ∷ []) (first_of ((empty, NoAction) ∷ (false, NoDevice) ∷ (false, TooDeep) ∷ (false, Path) ∷ (false, Number) ∷ (empty, Pair) ∷ (false, Twice) ∷ [])) (if empty then Err NoAction else Ok rest)
unfolding behind_in
first_action rest true = refl
first_action rest false = (refl, first_holds rest, refl, refl)

first_row : (kind : LineKind) (rest : Text) (below : List Text) → FirstAgrees ((kind, rest) ∷ []) (row_fault [] kind rest below) (action_by kind rest)
unfolding row_fault texts follows_command follows_answer
first_row Action rest below = first_action rest (is_empty rest)
first_row Device rest below = refl
first_row (Field field) rest below = refl
first_row Constant rest below = refl
first_row Command rest below = refl
first_row Answer rest below = refl
first_row Output rest below = refl

first_by : (below : List Text) (t : Bool) (o : Option Row) → FirstAgrees (option_to_list o) (if t then Some Nul else fault_unless [] o below) (action_in (if t then Err Nul else known_row o))
first_by below true o = refl
first_by below false None = refl
first_by below false (Some row) = first_row row.0 row.1 below

first_agrees : (line : Text) (below : List Text) → FirstAgrees (option_to_list (row_of line)) (line_fault [] line below) (first_step line)
unfolding line_fault first_step plain_row
first_agrees line below = first_by below (has_nul line) (row_of line)

first_on : (lines : List Text) (rows : List Row) (fault : Option BlockFaultKind) (r : Result Text BlockFaultKind) → FirstAgrees rows fault r → after_first lines r ≡ unless_faulty 1 fault (given_below rows lines)
first_on lines rows fault (Err kind) agrees = rw agrees refl
first_on lines rows fault (Ok action) agrees = lines_agree lines rows action nothing_read 1 (sym agrees.2) agrees.1 tt agrees.3 ∙ ap (λ f. unless_faulty 1 f (given_below rows lines)) (sym agrees.0)

-- the reader gives what the lines give
pub read_is : (lines : List Text) → read_lines lines ≡ given_by lines
unfolding read_lines given_by given_below
read_is [] = refl
read_is (line ∷ lines) = first_on lines (option_to_list (row_of line)) (line_fault [] line lines) (first_step line) (first_agrees line lines)
