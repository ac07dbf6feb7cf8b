-- The priorities that rules of files assign are numbers of 32 bits.
use Rattle.std.proofs.Common.{◌≡◌, ℕ, zero, suc, ◌+◌, ◌^◌, ◌≤◌, ◌&&◌, ◌==◌, ℤ, pos, negsuc, neg_ℤ, int_le, int_lt, ◌-◌, not, nat_lt, Bool, true, false, List, [], ◌∷◌, ◌++◌, length, map, filter, flat_map, zip, nat_eq, Option, Some, None, Result, Ok, Err, IfSome, if◌then◌else◌, unsigned_abs, arith, option_map, ◌<◌, codes, refl}
use Rattle.std.proofs.lemmas.Bool.{leb-true, ltb-true}
use Rattle.std.specs.Prelude.{⊤}
use Rattle.std.specs.Cmp.Lexicographic.{pointwise}
use Rattle.std.specs.List.{cons_option, filter_map, range_with_len}
use Rattle.std.specs.Option.{option_and_then, unwrap_or}
use Rattle.text_bytes.specs.Numbers.{decimal, decimal_below, is_decimal}
use Rattle.file_messages.specs.declared.message.MessageKind.TheVariants.{BadValue, LineTooLong}
use Rattle.text_bytes.specs.declared.source_file.SourceFile.{SourceFile}
use Rattle.text_bytes.specs.declared.profile.Profile.{Profile}
use Rattle.text_bytes.specs.declared.profile.Profile.TheVariants.{Manual, Udev}
use Rattle.file_messages.specs.declared.message.MessageKind.{MessageKind}
use Rattle.rule_tokens.specs.Grammar.{Item, Placed}
use Rattle.rule_core.specs.Lines.{NumberedLine, joined_lines}
use Rattle.rule_types.specs.Names.{key_of}
use Rattle.rule_types.specs.Operators.{read_as}
use Rattle.rule_types.specs.Roles.{role_of}
use Rattle.rule_types.specs.Topics.{topic_of}
use Rattle.rule_types.specs.declared.roles.Role.{Role}
use Rattle.rule_types.specs.declared.roles.Role.TheVariants as role
use Rattle.rule_types.specs.Jumps.{landings}
use Rattle.rule_types.specs.declared.jumps.Landing.{Landing}
use Rattle.rule_tokens.specs.Integers.{integer_of}
use Rattle.text_bytes.specs.Texts.{following}
use Rattle.rule_parts.specs.Options.{as_priority, beside, is_ignored, level_of, number_by, number_of, option_by, option_of, other_option, priority_of, udev_option, udev_other, words}
use Rattle.rule_parts.specs.Refusals.{refusal_by}
use Rattle.rule_parts.specs.Parts.{comparison, if_found, ignores_case, import_by, is_match, made, meaning_of, part_by, part_of, role_as, unless_refused, value_part}
use Rattle.rule_parts.specs.Values.{as_option, finding, read_name, read_option, read_template}
use Rattle.rule_parts.specs.declared.finding.Finding.{Finding}
use Rattle.rule_types.specs.declared.rule_option.RuleOption.{RuleOption}
use Rattle.rule_types.specs.declared.rule_option.RuleOption.TheVariants as option
use Rattle.rule_types.specs.declared.part.Assignment.{Assignment}
use Rattle.rule_types.specs.declared.part.Change.{Change}
use Rattle.rule_types.specs.declared.part.Change.TheVariants as change
use Rattle.rule_types.specs.declared.part.Part.{Part}
use Rattle.rule_types.specs.declared.part.Part.TheVariants as part
use Rattle.rule_core.specs.Effects.{lacks_effect, unknown_option}
use Rattle.rule_core.specs.Ends.{abandoned}
use Rattle.rule_core.specs.Drafts.{Draft, assignment_in, draft, draft_of, draft_with, idle_spot, items_as, most_bytes, part_of_item, parts_of, with_part, written_part}
use Rattle.rule_core.specs.Spots.{whole_spot}
use Rattle.rule_types.specs.Tokens.{WrittenPart, parts_in, tokens_in}
use Rattle.rule_types.specs.declared.spot.Spot.{Spot}
use Rattle.rule_core.specs.Turns.{assignment_turns, assignments_by_turn, of_turn, turn_of_assignment}
use Rattle.rule_types.specs.Rules.{Rule}
use Rattle.rule_core.specs.Rules.{Reading, file_rules, rules_unless, line_rules, names_of, reading_of, readings_of, set_of_as}

-- a number of 32 bits
abbrev pub IsSmall : ℤ → Type 0
IsSmall z = unsigned_abs z ≤ 2 ^ 31

abbrev OptionFits : RuleOption → Type 0
OptionFits (option.LinkPriority n) = IsSmall n
OptionFits _ = ⊤

-- a change that assigns no other priority
abbrev pub ChangeFits : Change → Type 0
ChangeFits (change.Option known) = OptionFits known
ChangeFits _ = ⊤

-- ---- lists

-- each of a list
abbrev pub Each : {X : Type 0} → (X → Type 0) → List X → Type 0
Each P [] = ⊤
Each P (x ∷ xs) = P x × Each P xs

module _ {X : Type 0} (P : X → Type 0) where
  each_append : (xs ys : List X) → Each P xs → Each P ys → Each P (xs ++ ys)
  each_append [] ys a b = b
  each_append (x ∷ xs) ys a b = (a.0, each_append xs ys a.1 b)

  each_flat_map : {Y : Type 0} (f : Y → List X) → ((y : Y) → Each P (f y)) → (ys : List Y) → Each P (flat_map f ys)
  each_flat_map f each [] = tt
  each_flat_map f each (y ∷ ys) = each_append (f y) (flat_map f ys) (each y) (each_flat_map f each ys)

  each_filter : (keep : X → Bool) (xs : List X) → Each P xs → Each P (filter keep xs)
  each_filter keep [] a = tt
  each_filter keep (x ∷ xs) a = by (keep x) (each_filter keep xs a.1)
    where
      by : (b : Bool) → Each P (filter keep xs) → Each P (if b then x ∷ filter keep xs else filter keep xs)
      by true more = (a.0, more)
      by false more = more

  each_some : (o : Option X) (xs : List X) → IfSome o P → Each P xs → Each P (cons_option o xs)
  each_some None xs a b = b
  each_some (Some x) xs a b = (a, b)

-- ---- an option

below_fits : (o : Option ℕ) → IfSome o (λ n. n < 2 ^ 31 + 1) → IfSome (option_map (λ size. neg_ℤ (pos size)) o) IsSmall
below_fits None h = tt
below_fits (Some zero) h = omega arith
below_fits (Some (suc n)) h = omega (arith, h)

from_fits : (o : Option ℕ) → IfSome o (λ n. n < 2 ^ 31) → IfSome (option_map pos o) IsSmall
from_fits None h = tt
from_fits (Some n) h = omega (arith, h)

decimal_fits : (bound : ℕ) (text : List ℕ) → IfSome (decimal_below bound text) (λ n. n < bound)
unfolding decimal_below
decimal_fits bound text = by (is_decimal text) (nat_lt (decimal text) bound) refl
  where
    by : (digits less : Bool) → nat_lt (decimal text) bound ≡ less → IfSome (if digits && less then Some (decimal text) else None) (λ n. n < bound)
    by true true e = ltb-true (decimal text) bound e
    by true false e = tt
    by false less e = tt

number_fits : (text : List ℕ) → IfSome (number_of text) IsSmall
unfolding number_of
number_fits text = by (following (codes "-") text)
  where
    by : (rest : Option (List ℕ)) → IfSome (number_by text rest) IsSmall
    by (Some digits) = below_fits (decimal_below (2 ^ 31 + 1) digits) (decimal_fits (2 ^ 31 + 1) digits)
    by None =
        let digits : List ℕ = unwrap_or (following (codes "+") text) text in
        from_fits (decimal_below (2 ^ 31) digits) (decimal_fits (2 ^ 31) digits)

priority_fits : (o : Option ℤ) → IfSome o IsSmall → IfSome (option_map option.LinkPriority o) OptionFits
priority_fits None h = tt
priority_fits (Some n) h = h

word_fits : (rows : List (List ℕ × RuleOption)) (text : List ℕ) → Each (λ row. OptionFits row.1) rows → IfSome (beside rows text) OptionFits
word_fits [] text h = tt
word_fits (row ∷ rows) text h = by (pointwise nat_eq row.0 text) (word_fits rows text h.1)
  where
    by : (same : Bool) → IfSome (beside rows text) OptionFits → IfSome (if same then Some row.1 else beside rows text) OptionFits
    by true more = h.0
    by false more = more

other_fits : (text : List ℕ) → IfSome (other_option text) OptionFits
other_fits text = by (is_ignored text)
  where
    by : (b : Bool) → IfSome (if b then Some option.Ignored else beside words text) OptionFits
    by true = tt
    by false = word_fits words text (tt, (tt, (tt, (tt, (tt, tt)))))

manual_fits : (text : List ℕ) (rest : Option (List ℕ)) → IfSome (option_by text rest) OptionFits
manual_fits text (Some number) = priority_fits (number_of number) (number_fits number)
manual_fits text None = other_fits text

-- ---- an option of udev's

as_fits : (n : ℤ) → IfSome (as_priority n) IsSmall
as_fits (pos m) = by (int_le (neg_ℤ (pos (2 ^ 31))) (pos m)) (int_lt (pos m) (pos (2 ^ 31))) refl
  where
    by : (b c : Bool) → int_lt (pos m) (pos (2 ^ 31)) ≡ c → IfSome (if b && c then Some (pos m) else None) IsSmall
    by true true e = let a = ltb-true m (2 ^ 31) e in omega (arith, a)
    by true false e = tt
    by false c e = tt
as_fits (negsuc m) = by (int_le (neg_ℤ (pos (2 ^ 31))) (negsuc m)) (int_lt (negsuc m) (pos (2 ^ 31))) refl
  where
    by : (b c : Bool) → int_le (neg_ℤ (pos (2 ^ 31))) (negsuc m) ≡ b → IfSome (if b && c then Some (negsuc m) else None) IsSmall
    by true true e = let a = leb-true m (2 ^ 31 - 1) e in omega (arith, a)
    by true false e = tt
    by false c e = tt

signed_fits : (o : Option ℤ) → IfSome (option_and_then as_priority o) IsSmall
signed_fits None = tt
signed_fits (Some n) = as_fits n

level_fits : (o : Option ℤ) → IfSome (option_map (λ n. option.LogLevel) o) OptionFits
level_fits None = tt
level_fits (Some n) = tt

known_else : (o : Option RuleOption) → IfSome o OptionFits → OptionFits (unwrap_or o option.Ignored)
known_else None h = tt
known_else (Some known) h = h

udev_other_fits : (text : List ℕ) (rest : Option (List ℕ)) → IfSome (udev_other text rest) OptionFits
udev_other_fits text (Some level) = level_fits (level_of level)
udev_other_fits text None = known_else (other_option text) (other_fits text)

udev_fits : (text : List ℕ) (rest : Option (List ℕ)) → IfSome (udev_option text rest) OptionFits
unfolding priority_of
udev_fits text (Some number) = priority_fits (priority_of number) (signed_fits (integer_of number))
udev_fits text None = udev_other_fits text (following (codes "log_level=") text)

option_fits : (profile : Profile) (text : List ℕ) → IfSome (option_of profile text) OptionFits
unfolding option_of
option_fits Manual text = manual_fits text (following (codes "link_priority=") text)
option_fits Udev text = udev_fits text (following (codes "link_priority=") text)

-- ---- a part

abbrev PartFits : Part → Type 0
PartFits (part.Set a) = ChangeFits a.change
PartFits _ = ⊤

abbrev ResultFits : Result Part Finding → Type 0
ResultFits (Ok p) = PartFits p
ResultFits (Err wrong) = ⊤

made_fits : {A : Type 0} (f : A → Part) → ((x : A) → PartFits (f x)) → (r : Result A Finding) → ResultFits (made f r)
made_fits f each (Ok x) = each x
made_fits f each (Err wrong) = tt

found_fits : {A : Type 0} (wrong : Finding) (next : A → Result Part Finding) → ((x : A) → ResultFits (next x)) → (o : Option A) → ResultFits (if_found o wrong next)
found_fits wrong next each None = tt
found_fits wrong next each (Some x) = each x

known_fits : (o : _) (text : List ℕ) (known : Option RuleOption) → IfSome known OptionFits → ResultFits (made (λ known. part.Set (record { operator = o; change = change.Option known })) (as_option text known))
known_fits o text (Some known) h = h
known_fits o text None h = tt

role_fits : (profile : Profile) (r : Role) (blind : Bool) (text : List ℕ) → ResultFits (part_by profile r blind text)
unfolding part_by read_option
role_fits profile (role.Plain key o) blind text = made_fits _ (λ x. tt) (comparison profile o blind text)
role_fits profile (role.Up key o) blind text = made_fits _ (λ x. tt) (comparison profile o blind text)
role_fits profile (role.Result o) blind text = made_fits _ (λ x. tt) (comparison profile o blind text)
role_fits profile (role.Test mask o) blind text = made_fits _ (λ x. tt) (read_template profile text)
role_fits profile (role.Program o) blind text = made_fits _ (λ x. tt) (read_template profile text)
role_fits profile (role.Import type o) blind text = made_fits _ (λ x. tt) (import_by profile type text)
role_fits profile (role.Set target o) blind text = made_fits _ (λ x. tt) (read_template profile text)
role_fits profile (role.Run type o) blind text = made_fits _ (λ x. tt) (read_template profile text)
role_fits profile (role.Option o) blind text = known_fits o text (option_of profile text) (option_fits profile text)
role_fits profile role.Label blind text = made_fits _ (λ x. tt) (read_name profile text)
role_fits profile role.Goto blind text = made_fits _ (λ x. tt) (read_name profile text)

unless_fits : (refusal : Option Finding) (read : Result Part Finding) → ResultFits read → ResultFits (unless_refused refusal read)
unless_fits None read h = h
unless_fits (Some found) read h = tt

value_fits : (profile : Profile) (r : Role) (blind : Bool) (text : List ℕ) → ResultFits (value_part profile r blind text)
unfolding value_part
value_fits profile r blind text = by (blind && not (is_match r))
  where
    by : (b : Bool) → ResultFits (if b then Err (finding BadValue text) else unless_refused (refusal_by profile r text) (part_by profile (role_as profile r text) blind text))
    by true = tt
    by false = unless_fits (refusal_by profile r text) (part_by profile (role_as profile r text) blind text) (role_fits profile (role_as profile r text) blind text)

part_fits : (profile : Profile) (t : Placed) → ResultFits (part_of profile t)
unfolding part_of
part_fits profile t =
    found_fits _ _ (λ key.
    found_fits _ _ (λ about.
    found_fits _ _ (λ r. value_fits profile r (ignores_case t.parts.quote) (meaning_of t))
    (role_of about (read_as key t.parts.head.operator)))
    (topic_of profile key t.parts.head.attribute))
    (key_of t.parts.head.key)

-- ---- a rule

abbrev WrittenFits : Result WrittenPart (Spot MessageKind) → Type 0
WrittenFits (Ok w) = PartFits w.part
WrittenFits (Err wrong) = ⊤

written_fits : (t : Placed) (p : Result Part Finding) → ResultFits p → WrittenFits (written_part t p)
written_fits t (Ok p) h = h
written_fits t (Err found) h = tt

item_fits : (profile : Profile) (line : List ℕ) (i : Item) → WrittenFits (part_of_item profile line i)
item_fits profile line (Ok t) = written_fits t (part_of profile t) (part_fits profile t)
item_fits profile line (Err fault) = tt

abbrev PartsFit : Result (List WrittenPart) (Spot MessageKind) → Type 0
PartsFit (Ok parts) = Each PartFits (parts_in parts)
PartsFit (Err wrong) = ⊤

with_fits : (p : Result WrittenPart (Spot MessageKind)) (rest : Result (List WrittenPart) (Spot MessageKind)) → WrittenFits p → PartsFit rest → PartsFit (with_part p rest)
with_fits (Ok p) (Ok parts) a b = (a, b)
with_fits (Ok p) (Err wrong) a b = tt
with_fits (Err wrong) rest a b = tt

parts_fit : (profile : Profile) (line : List ℕ) (items : List Item) → PartsFit (parts_of profile line items)
parts_fit profile line [] = tt
parts_fit profile line (i ∷ items) = with_fits (part_of_item profile line i) (parts_of profile line items) (item_fits profile line i) (parts_fit profile line items)

-- assignments that assign no other priority
abbrev pub SetsFit : List Assignment → Type 0
SetsFit sets = Each (λ (a : Assignment). ChangeFits a.change) sets

assignment_fits : (p : Part) → PartFits p → IfSome (assignment_in p) (λ a. ChangeFits a.change)
assignment_fits (part.Set a) h = h
assignment_fits (part.Plain m) h = tt
assignment_fits (part.Up m) h = tt
assignment_fits (part.Act a) h = tt
assignment_fits (part.Result c) h = tt
assignment_fits (part.Label name) h = tt
assignment_fits (part.Goto name) h = tt

assignments_fit : (parts : List Part) → Each PartFits parts → SetsFit (filter_map assignment_in parts)
assignments_fit [] h = tt
assignments_fit (p ∷ parts) h =
    each_some (λ (a : Assignment). ChangeFits a.change) (assignment_in p) (filter_map assignment_in parts) (assignment_fits p h.0) (assignments_fit parts h.1)

sorted_fit : (profile : Profile) (sets : List Assignment) → SetsFit sets → SetsFit (assignments_by_turn profile sets)
sorted_fit profile sets h =
    each_flat_map (λ (a : Assignment). ChangeFits a.change) (of_turn (turn_of_assignment profile) sets) (λ t. each_filter (λ (a : Assignment). ChangeFits a.change) (λ x. turn_of_assignment profile x == t) sets h) (range_with_len 0 (assignment_turns profile))

abbrev DraftFits : Result Draft (Spot MessageKind) → Type 0
DraftFits (Ok d) = Each PartFits (parts_in d.parts)
DraftFits (Err wrong) = ⊤

draft_with_fits : (profile : Profile) (line : List ℕ) (parts : Result (List WrittenPart) (Spot MessageKind)) → PartsFit parts → DraftFits (draft_with profile line parts)
draft_with_fits profile line (Ok parts) h = by (lacks_effect profile (tokens_in parts))
  where
    by : (b : Bool) → DraftFits (if b then Err (idle_spot line (unknown_option (tokens_in parts))) else Ok (draft profile line parts))
    by true = tt
    by false = h
draft_with_fits profile line (Err wrong) h = tt

draft_fits : (profile : Profile) (line : List ℕ) → DraftFits (draft_of profile line)
unfolding draft_of
draft_fits profile line = by (nat_lt (most_bytes profile) (length line))
  where
    by : (b : Bool) → DraftFits (if b then Err (whole_spot LineTooLong line) else draft_with profile line (parts_of profile line (items_as profile line)))
    by true = tt
    by false = draft_with_fits profile line (parts_of profile line (items_as profile line)) (parts_fit profile line (items_as profile line))

-- rules that assign no other priority
abbrev pub RulesFit : List Rule → Type 0
RulesFit rules = Each (λ (r : Rule). SetsFit r.sets) rules

line_fits : (profile : Profile) (name : List ℕ) (line : ℕ) (read : Result Draft (Spot MessageKind)) (l : Landing) → DraftFits read → RulesFit (line_rules profile name line read l)
line_fits profile name line (Ok d) l h = (sorted_fit profile (filter_map assignment_in (parts_in d.parts)) (assignments_fit (parts_in d.parts) h), tt)
line_fits profile name line (Err wrong) l h = tt

lines_fit : (profile : Profile) (name : List ℕ) (lines : List NumberedLine) (ls : List Landing) → RulesFit (flat_map (λ (x : Reading × Landing). line_rules profile name x.0.line x.0.read x.1) (zip (map (reading_of profile) lines) ls))
lines_fit profile name [] ls = tt
lines_fit profile name (l ∷ lines) [] = tt
lines_fit profile name (l ∷ lines) (landing ∷ ls) =
    each_append (λ (r : Rule). SetsFit r.sets) (line_rules profile name l.number (draft_of profile l.text) landing) _ (line_fits profile name l.number (draft_of profile l.text) landing (draft_fits profile l.text)) (lines_fit profile name lines ls)

file_fits : (profile : Profile) (f : SourceFile) → RulesFit (file_rules profile f)
file_fits profile f = by (abandoned profile f.bytes)
  where
    by : (line : Option ℕ) → RulesFit (rules_unless profile f line)
    by (Some line) = tt
    by None = lines_fit profile f.name (joined_lines profile f.bytes).lines (landings (map (λ r. names_of r.read) (readings_of profile f)))

-- the rules of files
pub set_fits : (profile : Profile) (files : List SourceFile) → RulesFit (set_of_as profile files).rules
unfolding set_of_as
set_fits profile files = each_flat_map (λ (r : Rule). SetsFit r.sets) (file_rules profile) (file_fits profile) files
