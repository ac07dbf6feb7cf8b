-- Which commands the blocks of events answer, and that a question which is filled in is an answer.
use Rattle.std.proofs.Common.{◌≡◌, ◌↔◌, ℕ, ◌+◌, ◌≤◌, ◌^◌, ◌&&◌, ◌||◌, ◌==◌, Bool, true, false, not, cond, List, [], ◌∷◌, ◌++◌, length, codes, Option, Some, None, is_some, nat_lt, option_map, unwrap_or, Result, Ok, Err, refl, ap, sym, ◌∙◌, arith, length-append}
use Rattle.std.specs.List.{filter_map, cons_option, list_all, onto_first, position_or_len, prefix_len, zip}
use Rattle.std.specs.Option.{option_and_then, option_to_list}
use Rattle.std.proofs.lemmas.Bool.Decides.{nat_tests}
use Rattle.std.proofs.lemmas.List.Folds.{list_all-append}
use Rattle.text_bytes.specs.Lines.{lines}
use Rattle.text_bytes.specs.Names.{colon, newline, nul, space}
use Rattle.text_bytes.specs.Numbers.{decimal_below}
use Rattle.text_bytes.specs.Texts.{is_empty, split_once}
use Rattle.text_bytes.specs.Text.{Text}
use Rattle.device_core.specs.Blocks.{answers, before_device, behind_in, device, devices, event, groups, is_kind, numbers, pairs, programs, text_in, texts}
use Rattle.device_core.specs.Faults.{block_gives, device_above, fault_unless, follows_command, given_below, given_by, given_with, has_nul, is_half, is_too_deep, is_wrong_number, is_wrong_path, lacks_action, lacks_device, line_fault, row_fault, unless_faulty}
use Rattle.device_core.specs.Lines.{Row, begins_answer, form, kind_of, row_from, row_of}
use Rattle.device_core.specs.Parts.{answer_of, is_device_path, number_below}
use Rattle.device_core.specs.RunBlocks.{is_too_long, line_of_excess}
use Rattle.device_core.specs.Values.{AnswerValue, DeviceValue, EventValue}
use Rattle.device_core.specs.declared.faults.BlockFault.{BlockFault}
use Rattle.device_core.specs.declared.faults.BlockFaultKind.{BlockFaultKind}
use Rattle.device_core.specs.declared.faults.BlockFaultKind.TheVariants.{NoAction, NoDevice, Nul, Number, Pair, Path, TooDeep, TooLong}
use Rattle.device_core.specs.declared.lines.DeviceField.TheVariants.{Subsystem, Driver, Node, Devnum, Attribute, Property, Stored, Tag, Link}
use Rattle.device_core.specs.declared.lines.LineKind.{LineKind}
use Rattle.device_core.specs.declared.lines.LineKind.TheVariants.{Action, Device, Field, Constant, Command, Answer, Output}
use Rattle.eval_laws.specs.Filled.{filled, filled_event}
use Rattle.eval_courses.specs.Questions.{can_be_asked, fits_in_line}

first_so : (a b : Bool) → (a && b) ≡ true → a ≡ true
first_so true b h = refl
first_so false b h = cc h

second_so : (a b : Bool) → (a && b) ≡ true → b ≡ true
second_so true b h = h
second_so false b h = cc h

reversed : (b : Bool) → not b ≡ true → b ≡ false
reversed true h = cc h
reversed false h = refl

-- ---- bytes of lines

abbrev no_newline : Text → Bool
no_newline line = list_all (λ b. not (b == newline)) line

abbrev no_nul : Text → Bool
no_nul line = list_all (λ b. not (b == nul)) line

-- fewer elements at the front of a list pass a test than it has, exactly if not all pass
prefix_is : (p : ℕ → Bool) (xs : List ℕ) → nat_lt (prefix_len p xs) (length xs) ≡ not (list_all p xs)
prefix_is p [] = refl
prefix_is p (x ∷ xs) = by (p x) (prefix_is p xs)
  where
    by : (b : Bool) → nat_lt (prefix_len p xs) (length xs) ≡ not (list_all p xs) → nat_lt (cond b (1 + prefix_len p xs) 0) (length (x ∷ xs)) ≡ not (b && list_all p xs)
    by true h = let same : nat_lt (1 + prefix_len p xs) (length (x ∷ xs)) ≡ nat_lt (prefix_len p xs) (length xs) = grind (arith, nat_tests) in same ∙ h
    by false h = grind (arith, nat_tests)

is_there : (b : Bool) (n : ℕ) → is_some (cond b (Some n) None) ≡ b
is_there true n = refl
is_there false n = refl

-- a line has a NUL exactly if not all bytes are others
has_nul_is : (line : Text) → has_nul line ≡ not (no_nul line)
unfolding has_nul
has_nul_is line = is_there _ (position_or_len (λ b. b == nul) line) ∙ prefix_is (λ b. not (b == nul)) line

fits_both : (line : Text) → list_all fits_in_line line ≡ (no_newline line && no_nul line)
fits_both [] = refl
fits_both (b ∷ line) = ap (λ a. fits_in_line b && a) (fits_both line) ∙ by (b == newline) (b == nul) (no_newline line) (no_nul line)
  where
    by : (n m p q : Bool) → (not (n || m) && (p && q)) ≡ ((not n && p) && (not m && q))
    by true m p q = refl
    by false true true q = refl
    by false true false q = refl
    by false false true q = refl
    by false false false q = refl

-- ---- lines of a text

onto_clean : (b : ℕ) (ls : List Text) → (b == newline) ≡ false → list_all no_newline ls ≡ true → list_all no_newline (onto_first b ls) ≡ true
onto_clean b [] e h = ap (λ t. (not t && true) && true) e
onto_clean b (line ∷ ls) e h = ap (λ t. (not t && no_newline line) && list_all no_newline ls) e ∙ h

lines_clean : (text : Text) → list_all no_newline (lines text) ≡ true
lines_clean [] = refl
lines_clean (b ∷ text) = by (b == newline) refl (lines_clean text)
  where
    by : (t : Bool) → (b == newline) ≡ t → list_all no_newline (lines text) ≡ true → list_all no_newline (cond t ([] ∷ lines text) (onto_first b (lines text))) ≡ true
    by true e h = h
    by false e h = onto_clean b (lines text) e h

-- ---- commands that rows give

abbrev fine_row : Row → Bool
fine_row row = not (is_kind Command row) || can_be_asked row.1

texts_fine : (rows : List Row) → list_all fine_row rows ≡ true → list_all can_be_asked (texts Command rows) ≡ true
unfolding texts
texts_fine [] h = refl
texts_fine (row ∷ rows) h = by (is_kind Command row) (first_so (fine_row row) _ h) (texts_fine rows (second_so (fine_row row) _ h))
  where
    by : (b : Bool) → (not b || can_be_asked row.1) ≡ true → list_all can_be_asked (filter_map (text_in Command) rows) ≡ true
        → list_all can_be_asked (cons_option (cond b (Some row.1) None) (filter_map (text_in Command) rows)) ≡ true
    by true k more = ap (λ a. a && list_all can_be_asked (filter_map (text_in Command) rows)) k ∙ more
    by false k more = more

zip_fine : (commands : List Text) (values : List AnswerValue) → list_all can_be_asked commands ≡ true → list_all (λ (p : Text × AnswerValue). can_be_asked p.0) (zip commands values) ≡ true
zip_fine [] values h = refl
zip_fine (command ∷ commands) [] h = refl
zip_fine (command ∷ commands) (value ∷ values) h =
    ap (λ a. a && list_all (λ (p : Text × AnswerValue). can_be_asked p.0) (zip commands values)) (first_so (can_be_asked command) _ h)
    ∙ zip_fine commands values (second_so (can_be_asked command) _ h)

abbrev all_fine : EventValue → Bool
all_fine e = list_all (λ (p : Text × AnswerValue). can_be_asked p.0) e.programs

event_fine : (rows : List Row) (first : DeviceValue) (others : List DeviceValue) → list_all fine_row rows ≡ true → all_fine (event rows first others) ≡ true
unfolding event programs
event_fine rows first others h = zip_fine (texts Command rows) (answers rows) (texts_fine rows h)

-- ---- a row of a line that is not faulty

passes : (b : Bool) (kind : BlockFaultKind) (more : Option BlockFaultKind) → cond b (Some kind) more ≡ None → (b ≡ false) × (more ≡ None)
passes true kind more h = absurd (cc)
passes false kind more h = (refl, h)

not_half : (above : List Row) (kind : LineKind) (rest : Text) (below : List Text) → row_fault above kind rest below ≡ None → is_half above kind rest below ≡ false
unfolding row_fault
not_half above kind rest below h =
    let one = passes (lacks_action above kind rest) NoAction _ h in
    let two = passes (lacks_device above kind) NoDevice _ one.1 in
    let three = passes (is_too_deep above kind) TooDeep _ two.1 in
    let four = passes (is_wrong_path above kind rest) Path _ three.1 in
    let five = passes (is_wrong_number above kind rest) Number _ four.1 in
    (passes (is_half above kind rest below) Pair _ five.1).0

neither_first : (a b : Bool) → (a || b) ≡ false → a ≡ false
neither_first false b h = refl
neither_first true b h = h

-- the rest of a line has bytes of the line
rest_in_place : (line : Text) (letter : ℕ) (rest : Text) → form line ≡ Some (letter, rest) → list_all fits_in_line line ≡ true → list_all fits_in_line rest ≡ true
rest_in_place [] letter rest e h = absurd (cc)
rest_in_place (a ∷ []) letter rest e h = absurd (cc)
rest_in_place (a ∷ b ∷ []) letter rest e h = absurd (cc)
rest_in_place (a ∷ b ∷ c ∷ more) letter rest e h = by (b == colon && c == space) e
  where
    held : list_all fits_in_line more ≡ true
    held = second_so (fits_in_line c) _ (second_so (fits_in_line b) _ (second_so (fits_in_line a) _ h))

    by : (t : Bool) → cond {A = Option (ℕ × Text)} t (Some (a, more)) None ≡ Some (letter, rest) → list_all fits_in_line rest ≡ true
    by true k = ap (λ (o : Option (ℕ × Text)). list_all fits_in_line (unwrap_or o (0, [])).1) (sym k) ∙ held
    by false k = absurd (cc)

of_form : (found : Option (ℕ × Text)) (row : Row) → option_and_then row_from found ≡ Some row → (letter : ℕ) × (found ≡ Some (letter, row.1))
of_form None row e = absurd (cc)
of_form (Some parts) row e = by (kind_of parts.0) e
  where
    by : (kind : Option LineKind) → option_map (λ k. (k, parts.1)) kind ≡ Some row → (letter : ℕ) × (Some parts ≡ Some (letter, row.1))
    by None k = absurd (cc)
    by (Some kind) k = (parts.0, ap (λ (o : Option Row). Some (parts.0, (unwrap_or o (Command, [])).1)) k)

kind_fine : (above : List Row) (kind : LineKind) (rest : Text) (below : List Text) → list_all fits_in_line rest ≡ true → is_half above kind rest below ≡ false → fine_row (kind, rest) ≡ true
kind_fine above Action rest below s h = refl
kind_fine above Device rest below s h = refl
kind_fine above (Field Subsystem) rest below s h = refl
kind_fine above (Field Driver) rest below s h = refl
kind_fine above (Field Node) rest below s h = refl
kind_fine above (Field Devnum) rest below s h = refl
kind_fine above (Field Attribute) rest below s h = refl
kind_fine above (Field Property) rest below s h = refl
kind_fine above (Field Stored) rest below s h = refl
kind_fine above (Field Tag) rest below s h = refl
kind_fine above (Field Link) rest below s h = refl
kind_fine above Constant rest below s h = refl
kind_fine above Command rest below s h = ap (λ b. not b && list_all fits_in_line rest) (neither_first (is_empty rest) _ h) ∙ s
kind_fine above Answer rest below s h = refl
kind_fine above Output rest below s h = refl

row_fine : (above : List Row) (line : Text) (row : Row) (below : List Text) → row_of line ≡ Some row → row_fault above row.0 row.1 below ≡ None → list_all fits_in_line line ≡ true → fine_row row ≡ true
unfolding row_of
row_fine above line row below e k is_present =
    let found = of_form (form line) row e in
    kind_fine above row.0 row.1 below (rest_in_place line found.0 row.1 found.1 is_present) (not_half above row.0 row.1 below k)

line_in_place : (line : Text) → no_newline line ≡ true → has_nul line ≡ false → list_all fits_in_line line ≡ true
line_in_place line clean free = fits_both line ∙ ap (λ a. a && no_nul line) clean ∙ by (no_nul line) (sym (has_nul_is line) ∙ free)
  where
    by : (b : Bool) → not b ≡ false → b ≡ true
    by true h = refl
    by false h = cc h

line_fine : (above : List Row) (line : Text) (below : List Text) → line_fault above line below ≡ None → no_newline line ≡ true → list_all fine_row (option_to_list (row_of line)) ≡ true
unfolding line_fault
line_fine above line below h clean =
    let free = passes (has_nul line) Nul (fault_unless above (row_of line) below) h in
    by (line_in_place line clean free.0) (row_of line) refl free.1
  where
    by : list_all fits_in_line line ≡ true → (o : Option Row) → row_of line ≡ o → fault_unless above o below ≡ None → list_all fine_row (option_to_list o) ≡ true
    by is_present None e k = refl
    by is_present (Some row) e k = ap (λ b. b && true) (row_fine above line row below e k is_present)

-- ---- what a block gives

abbrev event_of : Result EventValue BlockFault → EventValue
event_of (Ok e) = e
event_of (Err fault) = filled_event []

given_fine : (above : List Row) (ls : List Text) → list_all fine_row above ≡ true → list_all no_newline ls ≡ true → (e : EventValue) → given_below above ls ≡ Ok e → all_fine e ≡ true
unfolding given_below
given_fine above [] f c e h = by (devices above) h
  where
    by : (ds : List DeviceValue) → given_with above ds ≡ Ok e → all_fine e ≡ true
    by [] k = absurd (cc)
    by (d ∷ ds) k = ap (λ r. all_fine (event_of r)) (sym k) ∙ event_fine above d ds f
given_fine above (line ∷ ls) f c e h = by (line_fault above line ls) refl h (given_fine (above ++ option_to_list (row_of line)) ls)
  where
    all : List Row
    all = above ++ option_to_list (row_of line)

    by : (o : Option BlockFaultKind) → line_fault above line ls ≡ o → unless_faulty (length above + 1) o (given_below all ls) ≡ Ok e
        → (list_all fine_row all ≡ true → list_all no_newline ls ≡ true → (e : EventValue) → given_below all ls ≡ Ok e → all_fine e ≡ true) → all_fine e ≡ true
    by (Some kind) k g more = absurd (cc)
    by None k g more =
        more
        (list_all-append fine_row above (option_to_list (row_of line)) ∙ ap (λ b. b && list_all fine_row (option_to_list (row_of line))) f ∙ line_fine above line ls k (first_so (no_newline line) _ c))
        (second_so (no_newline line) _ c) e g

-- every command that a block answers can be asked
pub block_fine : (block : Text) (e : EventValue) → block_gives block ≡ Ok e → all_fine e ≡ true
unfolding block_gives given_by
block_fine block e h = by (is_too_long block) h
  where
    lined : (ls : List Text) → lines block ≡ ls → given_by ls ≡ Ok e → all_fine e ≡ true
    lined [] same k = absurd (cc)
    lined (line ∷ below) same k = given_fine [] (line ∷ below) refl (ap (list_all no_newline) (sym same) ∙ lines_clean block) e k

    by : (b : Bool) → cond b (Err (record { line = line_of_excess block; kind = TooLong })) (given_by (lines block)) ≡ Ok e → all_fine e ≡ true
    by true k = absurd (cc)
    by false k = lined (lines block) refl k

-- ---- a question that is filled in

clean_line : (command rest : Text) → no_newline command ≡ true → lines ((command ++ newline ∷ []) ++ rest) ≡ command ∷ lines rest
clean_line [] rest h = refl
clean_line (b ∷ command) rest h = by (b == newline) h (clean_line command rest)
  where
    by : (t : Bool) → (not t && no_newline command) ≡ true → (no_newline command ≡ true → lines ((command ++ newline ∷ []) ++ rest) ≡ command ∷ lines rest)
        → cond t ([] ∷ lines ((command ++ newline ∷ []) ++ rest)) (onto_first b (lines ((command ++ newline ∷ []) ++ rest))) ≡ (b ∷ command) ∷ lines rest
    by true k more = absurd (cc)
    by false k more = ap (onto_first b) (more k)

abbrev question : Text → Text
question command = codes "Q: " ++ command

-- the rows of the lines above the question, above its answer, and of all lines
abbrev two : List Row
two = (Action, codes "add") ∷ (Device, codes "/d") ∷ []

abbrev three : Text → List Row
three command = (Action, codes "add") ∷ (Device, codes "/d") ∷ (Command, command) ∷ []

abbrev four : Text → List Row
four command = (Action, codes "add") ∷ (Device, codes "/d") ∷ (Command, command) ∷ (Answer, codes "0") ∷ []

step : (rows : List Row) (line : Text) (row : Row) (ls : List Text) → line_fault rows line ls ≡ None → row_of line ≡ Some row → given_below rows (line ∷ ls) ≡ given_below (rows ++ row ∷ []) ls
unfolding given_below
step rows line row ls h e =
    ap (λ f. unless_faulty (length rows + 1) f (given_below (rows ++ option_to_list (row_of line)) ls)) h
    ∙ ap (λ o. given_below (rows ++ option_to_list o) ls) e

action_row : row_of (codes "C: add") ≡ Some (Action, codes "add")
unfolding row_of kind_of
action_row = refl

device_row : row_of (codes "P: /d") ≡ Some (Device, codes "/d")
unfolding row_of kind_of
device_row = refl

question_row : (command : Text) → row_of (question command) ≡ Some (Command, command)
unfolding row_of kind_of
question_row command = refl

answer_row : row_of (codes "R: 0") ≡ Some (Answer, codes "0")
unfolding row_of kind_of
answer_row = refl

action_free : (below : List Text) → line_fault [] (codes "C: add") below ≡ None
unfolding line_fault has_nul row_of kind_of row_fault texts
action_free below = refl

device_free : (below : List Text) → line_fault ((Action, codes "add") ∷ []) (codes "P: /d") below ≡ None
unfolding line_fault has_nul row_of kind_of row_fault device_above devices groups before_device is_device_path
device_free below = refl

row_free : (command : Text) → is_empty command ≡ false → row_fault two Command command (codes "R: 0" ∷ []) ≡ None
unfolding row_fault begins_answer texts
row_free [] h = absurd (cc)
row_free (b ∷ command) h = refl

question_free : (command : Text) → can_be_asked command ≡ true → line_fault two (question command) (codes "R: 0" ∷ []) ≡ None
unfolding line_fault
question_free command h =
    let no : no_nul command ≡ true = second_so (no_newline command) _ (sym (fits_both command) ∙ second_so (not (is_empty command)) _ h) in
    let free : has_nul (question command) ≡ false = has_nul_is (question command) ∙ ap not no in
    ap (λ b. cond b (Some Nul) (fault_unless two (row_of (question command)) (codes "R: 0" ∷ []))) free
    ∙ ap (λ o. fault_unless two o (codes "R: 0" ∷ [])) (question_row command)
    ∙ row_free command (reversed _ (first_so (not (is_empty command)) _ h))

answer_free : (command : Text) → line_fault (three command) (codes "R: 0") [] ≡ None
unfolding line_fault has_nul row_of kind_of row_fault follows_command answer_of number_below decimal_below split_once
answer_free command = refl

whole : (command : Text) → given_below (four command) [] ≡ Ok (filled_event command)
unfolding given_below devices groups before_device behind_in device event programs texts pairs numbers answers answer_of number_below decimal_below split_once
whole command = refl

given : (command : Text) → can_be_asked command ≡ true → given_by (codes "C: add" ∷ codes "P: /d" ∷ question command ∷ codes "R: 0" ∷ []) ≡ Ok (filled_event command)
unfolding given_by
given command h =
    step [] (codes "C: add") (Action, codes "add") (codes "P: /d" ∷ question command ∷ codes "R: 0" ∷ []) (action_free _) action_row
    ∙ step ((Action, codes "add") ∷ []) (codes "P: /d") (Device, codes "/d") (question command ∷ codes "R: 0" ∷ []) (device_free _) device_row
    ∙ step two (question command) (Command, command) (codes "R: 0" ∷ []) (question_free command h) (question_row command)
    ∙ step (three command) (codes "R: 0") (Answer, codes "0") [] (answer_free command) answer_row
    ∙ whole command

not_long : (command : Text) → length command ≤ 2 ^ 15 → is_too_long (filled command) ≡ false
not_long command h =
    let end : length ((command ++ newline ∷ []) ++ codes "R: 0\n") ≡ (length command + 1) + 5 =
    length-append (command ++ newline ∷ []) (codes "R: 0\n") ∙ ap (λ n. n + 5) (length-append command (newline ∷ [])) in
    let all : length (filled command) ≤ 65536 = omega (arith, end, h) in
    grind (arith, nat_tests, all)

lines_are : (command : Text) → no_newline command ≡ true → lines (filled command) ≡ codes "C: add" ∷ codes "P: /d" ∷ question command ∷ codes "R: 0" ∷ []
lines_are command h = ap (λ ls. codes "C: add" ∷ codes "P: /d" ∷ onto_first 81 (onto_first 58 (onto_first 32 ls))) (clean_line command (codes "R: 0\n") h)

filled_given : (command : Text) → length command ≤ 2 ^ 15 → can_be_asked command ≡ true → block_gives (filled command) ≡ Ok (filled_event command)
unfolding block_gives
filled_given command short h =
    let clean : no_newline command ≡ true = first_so (no_newline command) _ (sym (fits_both command) ∙ second_so (not (is_empty command)) _ h) in
    ap (λ b. cond b (Err (record { line = line_of_excess (filled command); kind = TooLong })) (given_by (lines (filled command)))) (not_long command short)
    ∙ ap given_by (lines_are command clean)
    ∙ given command h

-- a command can be asked exactly if the block that asks and answers it has that answer
pub asked_is_answered : (command : Text) → length command ≤ 2 ^ 15 → (can_be_asked command ≡ true) ↔ (block_gives (filled command) ≡ Ok (filled_event command))
asked_is_answered command short = (filled_given command short, λ h. first_so (can_be_asked command) true (block_fine (filled command) (filled_event command) h))
