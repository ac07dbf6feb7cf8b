-- What the rows of a block say is part of its lines.
use Rattle.std.proofs.Common.{◌≡◌, ℕ, ◌+◌, ◌≤◌, Bool, true, false, ◌&&◌, ◌||◌, ◌==◌, List, [], ◌∷◌, ◌++◌, length, take, drop, Option, Some, None, refl, if◌then◌else◌, option_map, arith}
use Rattle.std.proofs.lemmas.List.{length-append, length-take, length-drop}
use Rattle.std.proofs.lemmas.List.Sums.{sum_by-append, sum_by-cons}
use Rattle.std.proofs.lemmas.List.Quantifiers.{position-Some}
use Rattle.std.specs.Option.{option_and_then, option_to_list}
use Rattle.std.specs.List.{fold, sum_by, filter_map, cons_option, position}
use Rattle.text_bytes.specs.Names.{carriage_return, colon, space, equals}
use Rattle.text_bytes.specs.Texts.{first, split_once}
use Rattle.text_bytes.specs.Lines.{lines}
use Rattle.text_bytes.specs.Text.{Text}
use Rattle.text_tables.specs.Pairs.{Pair}
use Rattle.device_core.specs.Values.{NumberValue, AnswerValue, with_line}
use Rattle.device_core.specs.Lines.{Row}
use Rattle.device_core.specs.Parts.{with_name, pair_of, is_part, with_parts, number_of, number_below, answer_parts, with_status, answer_of}
use Rattle.device_core.specs.Blocks.{is_kind, text_in, texts, pairs, numbers, answers, answers_after, change_last, device}
use Rattle.eval_laws.specs.DeviceWeights.{text_weight, pair_weight}
use Rattle.eval_laws.specs.DeviceLaws.{has_device}
use Rattle.device_core.specs.declared.lines.DeviceField.TheVariants.{Subsystem, Driver, Node, Devnum, Attribute, Property, Stored, Tag, Link}
use Rattle.device_core.specs.declared.lines.LineKind.{LineKind}
use Rattle.device_core.specs.declared.lines.LineKind.TheVariants.{Action, Device, Field, Constant, Command, Answer, Output}

-- ---- the parts of a line

module _ {X : Type 0} (weight : X → ℕ) where
  abbrev pub option_weight : Option X → ℕ
  option_weight None = 0
  option_weight (Some x) = weight x

abbrev pub number_own : NumberValue → ℕ
number_own number = text_weight number.major + text_weight number.minor

abbrev pub answer_own : AnswerValue → ℕ
answer_own answer = text_weight answer.text

cut_at : (byte : ℕ) (text : Text) (o : Option ℕ) (p : Pair) → position (λ b. b == byte) text ≡ o → option_map (λ n. (take n text, drop (n + 1) text)) o ≡ Some p → length p.0 + length p.1 + 1 ≡ length text
cut_at byte text None p found e = cc
cut_at byte text (Some n) p found e =
    let here = (position-Some (λ b. b == byte) text n 0 found).0 in
    let beginning : length p.0 ≡ length (take n text) = cc in
    let back : length p.1 ≡ length (drop (n + 1) text) = cc in
    let a = length-take n text in
    let b = length-drop (n + 1) text in
    rw (beginning, back, a, b) (grind arith)

cut_long : (byte : ℕ) (text : Text) (p : Pair) → split_once byte text ≡ Some p → length p.0 + length p.1 + 1 ≡ length text
unfolding split_once
cut_long byte text p e = cut_at byte text (position (λ b. b == byte) text) p refl e

pair_by : (rest : Text) (o : Option Pair) → split_once equals rest ≡ o → option_weight pair_weight (option_and_then with_name o) ≤ length rest + 3
pair_by rest None e = omega arith
pair_by rest (Some ([], v)) e = omega arith
pair_by rest (Some (b ∷ n, v)) e = let long = cut_long equals rest (b ∷ n, v) e in omega (arith, long)

pair_light : (rest : Text) → option_weight pair_weight (pair_of rest) ≤ length rest + 3
unfolding pair_of
pair_light rest = pair_by rest (split_once equals rest) refl

number_both : (p : Pair) (m : ℕ) → length p.0 + length p.1 + 1 ≡ m → (t : Bool) → option_weight number_own (if t then Some (record { major = p.0; minor = p.1 }) else None) ≤ m + 3
number_both p m long true = omega (arith, long)
number_both p m long false = omega arith

number_by : (rest : Text) (o : Option Pair) → split_once colon rest ≡ o → option_weight number_own (option_and_then with_parts o) ≤ length rest + 3
number_by rest None e = omega arith
number_by rest (Some p) e = number_both p (length rest) (cut_long colon rest p e) (is_part p.0 && is_part p.1)

number_light : (rest : Text) → option_weight number_own (number_of rest) ≤ length rest + 3
unfolding number_of
number_light rest = number_by rest (split_once colon rest) refl

answer_with : (text : Text) (m : ℕ) → length text ≤ m → (o : Option ℕ) → option_weight answer_own (option_map (λ status. record { status = status; text = text }) o) ≤ m + 3
answer_with text m short None = omega arith
answer_with text m short (Some status) = omega (arith, short)

answer_by : (rest : Text) (o : Option Pair) → split_once space rest ≡ o → option_weight answer_own (with_status (answer_parts rest o)) ≤ length rest + 3
answer_by rest None e = answer_with [] (length rest) (omega arith) (number_below 3 256 rest)
answer_by rest (Some p) e = let long = cut_long space rest p e in answer_with p.1 (length rest) (omega (arith, long)) (number_below 3 256 p.0)

answer_light : (rest : Text) → option_weight answer_own (answer_of rest) ≤ length rest + 3
unfolding answer_of
answer_light rest = answer_by rest (split_once space rest) refl

-- ---- the weights of what rows say

module _ {X : Type 0} (weight : X → ℕ) where
  pub one_more : (o : Option X) (xs : List X) → sum_by weight (cons_option o xs) ≡ option_weight weight o + sum_by weight xs
  one_more None xs = omega arith
  one_more (Some x) xs = sum_by-cons weight x xs

  through : {Y : Type 0} (h : Y → Option X) (o : Option Y) (ys : List Y) → sum_by weight (filter_map h (cons_option o ys)) ≡ option_weight weight (option_and_then h o) + sum_by weight (filter_map h ys)
  through h None ys = omega arith
  through h (Some y) ys = one_more (h y) (filter_map h ys)

  -- the first weighs no more than all
  pub first_light : (xs : List X) → option_weight weight (first xs) ≤ sum_by weight xs
  first_light [] = omega arith
  first_light (x ∷ xs) = let all = sum_by-cons weight x xs in omega (arith, all)

abbrev pub texts_by : LineKind → List Row → ℕ
texts_by kind rows = sum_by text_weight (texts kind rows)

abbrev pub pairs_by : LineKind → List Row → ℕ
pairs_by kind rows = sum_by pair_weight (pairs kind rows)

module _ (row : Row) (rows : List Row) where
  texts_one : (kind : LineKind) → texts_by kind (row ∷ rows) ≡ option_weight text_weight (text_in kind row) + texts_by kind rows
  unfolding texts
  texts_one kind = one_more text_weight (text_in kind row) (filter_map (text_in kind) rows)

  pairs_one : (kind : LineKind) → pairs_by kind (row ∷ rows) ≡ option_weight pair_weight (option_and_then pair_of (text_in kind row)) + pairs_by kind rows
  unfolding pairs texts
  pairs_one kind = through pair_weight pair_of (text_in kind row) (filter_map (text_in kind) rows)

  numbers_one : sum_by number_own (numbers (row ∷ rows)) ≡ option_weight number_own (option_and_then number_of (text_in (Field Devnum) row)) + sum_by number_own (numbers rows)
  unfolding numbers texts
  numbers_one = through number_own number_of (text_in (Field Devnum) row) (filter_map (text_in (Field Devnum)) rows)

-- what a line adds to the answers
abbrev answer_added : LineKind → Text → ℕ
answer_added Answer rest = option_weight answer_own (answer_of rest)
answer_added Output rest = length rest + 1
answer_added _ rest = 0

longer : (rest : Text) (given : List AnswerValue) → sum_by answer_own (change_last (with_line rest) given) ≤ sum_by answer_own given + (length rest + 1)
longer rest [] = omega arith
longer rest (a ∷ []) =
    let x = sum_by-cons answer_own a [] in
    let y = sum_by-cons answer_own (with_line rest a) [] in
    let z = length-append a.text (carriage_return ∷ rest) in
    omega (arith, x, y, z)
longer rest (a ∷ b ∷ given) =
    let x = sum_by-cons answer_own a (b ∷ given) in
    let y = sum_by-cons answer_own a (change_last (with_line rest) (b ∷ given)) in
    let more = longer rest (b ∷ given) in
    omega (arith, x, y, more)

one_answer : (given : List AnswerValue) (o : Option AnswerValue) → sum_by answer_own (given ++ option_to_list o) ≤ sum_by answer_own given + option_weight answer_own o
one_answer given None = let x = sum_by-append answer_own given [] in omega (arith, x)
one_answer given (Some a) = let x = sum_by-append answer_own given (a ∷ []) in let y = sum_by-cons answer_own a [] in omega (arith, x, y)

answered_light : (kind : LineKind) (given : List AnswerValue) (rest : Text) → sum_by answer_own (answers_after given kind rest) ≤ sum_by answer_own given + answer_added kind rest
answered_light Action given rest = omega arith
answered_light Device given rest = omega arith
answered_light (Field field) given rest = omega arith
answered_light Constant given rest = omega arith
answered_light Command given rest = omega arith
answered_light Answer given rest = one_answer given (answer_of rest)
answered_light Output given rest = longer rest given

abbrev pub answer_by_row : Row → ℕ
answer_by_row row = answer_added row.0 row.1

fold_answers : (given : List AnswerValue) (rows : List Row) → sum_by answer_own (fold (λ g row. answers_after g row.0 row.1) given rows) ≤ sum_by answer_own given + sum_by answer_by_row rows
fold_answers given [] = omega arith
fold_answers given (row ∷ rows) =
    let here = answered_light row.0 given row.1 in
    let more = fold_answers (answers_after given row.0 row.1) rows in
    let x = sum_by-cons answer_by_row row rows in
    omega (arith, here, more, x)

-- the answers weigh no more than the lines add
pub answers_light : (rows : List Row) → sum_by answer_own (answers rows) ≤ sum_by answer_by_row rows
unfolding answers
answers_light rows =
    let all : sum_by answer_own (answers rows) ≤ 0 + sum_by answer_by_row rows = fold_answers [] rows in
    omega (arith, all)

-- what rows say of a device
unfoldable pub device_rows : List Row → ℕ
device_rows rows = texts_by Device rows + texts_by (Field Subsystem) rows + texts_by (Field Driver) rows + texts_by (Field Node) rows + sum_by number_own (numbers rows) + pairs_by (Field Attribute) rows + pairs_by (Field Property) rows + pairs_by (Field Stored) rows + texts_by (Field Tag) rows + texts_by (Field Link) rows

-- and what they say besides
unfoldable pub other_rows : List Row → ℕ
other_rows rows = texts_by Action rows + texts_by Command rows + sum_by answer_by_row rows + pairs_by Constant rows

unfoldable pub device_own : Row → ℕ
device_own row = option_weight text_weight (text_in Device row) + option_weight text_weight (text_in (Field Subsystem) row) + option_weight text_weight (text_in (Field Driver) row) + option_weight text_weight (text_in (Field Node) row) + option_weight number_own (option_and_then number_of (text_in (Field Devnum) row)) + option_weight pair_weight (option_and_then pair_of (text_in (Field Attribute) row)) + option_weight pair_weight (option_and_then pair_of (text_in (Field Property) row)) + option_weight pair_weight (option_and_then pair_of (text_in (Field Stored) row)) + option_weight text_weight (text_in (Field Tag) row) + option_weight text_weight (text_in (Field Link) row)

unfoldable pub other_own : Row → ℕ
other_own row = option_weight text_weight (text_in Action row) + option_weight text_weight (text_in Command row) + answer_by_row row + option_weight pair_weight (option_and_then pair_of (text_in Constant row))

pub device_rows_one : (row : Row) (rows : List Row) → device_rows (row ∷ rows) ≡ device_own row + device_rows rows
unfolding device_rows device_own
device_rows_one row rows =
    let a = texts_one row rows Device in
    let b = texts_one row rows (Field Subsystem) in
    let c = texts_one row rows (Field Driver) in
    let d = texts_one row rows (Field Node) in
    let e = numbers_one row rows in
    let f = pairs_one row rows (Field Attribute) in
    let g = pairs_one row rows (Field Property) in
    let s = pairs_one row rows (Field Stored) in
    let h = texts_one row rows (Field Tag) in
    let k = texts_one row rows (Field Link) in
    omega (arith, a, b, c, d, e, f, g, s, h, k)

other_rows_one : (row : Row) (rows : List Row) → other_rows (row ∷ rows) ≡ other_own row + other_rows rows
unfolding other_rows other_own
other_rows_one row rows =
    let a = texts_one row rows Action in
    let b = texts_one row rows Command in
    let c = sum_by-cons answer_by_row row rows in
    let d = pairs_one row rows Constant in
    omega (arith, a, b, c, d)

-- what a line has besides its rest
abbrev pub load : Row → ℕ
load row = length row.1 + 3

-- one row says no more than it has, and a `P:` two less
own_light : (row : Row) → device_own row + other_own row ≤ load row
unfolding device_own other_own
own_light (Action, rest) = omega arith
own_light (Device, rest) = omega arith
own_light (Field Subsystem, rest) = omega arith
own_light (Field Driver, rest) = omega arith
own_light (Field Node, rest) = omega arith
own_light (Field Devnum, rest) = let light = number_light rest in omega (arith, light)
own_light (Field Attribute, rest) = let light = pair_light rest in omega (arith, light)
own_light (Field Property, rest) = let light = pair_light rest in omega (arith, light)
own_light (Field Stored, rest) = let light = pair_light rest in omega (arith, light)
own_light (Field Tag, rest) = omega arith
own_light (Field Link, rest) = omega arith
own_light (Constant, rest) = let light = pair_light rest in omega (arith, light)
own_light (Command, rest) = omega arith
own_light (Answer, rest) = let light = answer_light rest in omega (arith, light)
own_light (Output, rest) = omega arith

path_light : (row : Row) → is_kind Device row ≡ true → device_own row + other_own row + 2 ≤ load row
unfolding device_own other_own
path_light (Action, rest) h = cc
path_light (Device, rest) h = omega arith
path_light (Field Subsystem, rest) h = cc
path_light (Field Driver, rest) h = cc
path_light (Field Node, rest) h = cc
path_light (Field Devnum, rest) h = cc
path_light (Field Attribute, rest) h = cc
path_light (Field Property, rest) h = cc
path_light (Field Stored, rest) h = cc
path_light (Field Tag, rest) h = cc
path_light (Field Link, rest) h = cc
path_light (Constant, rest) h = cc
path_light (Command, rest) h = cc
path_light (Answer, rest) h = cc
path_light (Output, rest) h = cc

rows_light : (rows : List Row) → device_rows rows + other_rows rows ≤ sum_by load rows
unfolding device_rows other_rows texts pairs numbers
rows_light [] = omega arith
rows_light (row ∷ rows) = step row rows (rows_light rows)
  where
    step : (row : Row) (rows : List Row) → device_rows rows + other_rows rows ≤ sum_by load rows → device_rows (row ∷ rows) + other_rows (row ∷ rows) ≤ sum_by load (row ∷ rows)
    step row rows more =
        let a = device_rows_one row rows in
        let b = other_rows_one row rows in
        let c = own_light row in
        let d = sum_by-cons load row rows in
        omega (arith, a, b, c, d, more)

pub slack : (rows : List Row) → has_device rows ≡ true → device_rows rows + other_rows rows + 2 ≤ sum_by load rows
slack [] h = cc
slack (row ∷ rows) h = by (is_kind Device row) refl h (slack rows)
  where
    by : (b : Bool) → is_kind Device row ≡ b → (b || has_device rows) ≡ true → (has_device rows ≡ true → device_rows rows + other_rows rows + 2 ≤ sum_by load rows) → device_rows (row ∷ rows) + other_rows (row ∷ rows) + 2 ≤ sum_by load (row ∷ rows)
    by true e h more =
        let a = device_rows_one row rows in
        let b = other_rows_one row rows in
        let c = path_light row e in
        let d = sum_by-cons load row rows in
        let all = rows_light rows in
        omega (arith, a, b, c, d, all)
    by false e h more =
        let a = device_rows_one row rows in
        let b = other_rows_one row rows in
        let c = own_light row in
        let d = sum_by-cons load row rows in
        let all = more h in
        omega (arith, a, b, c, d, all)
