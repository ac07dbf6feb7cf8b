-- Where what is reported for a rule is in its line.
use Rattle.std.proofs.Common.{◌≡◌, ℕ, zero, suc, Bool, true, false, cond, nat_lt, ◌||◌, List, [], ◌∷◌, ◌++◌, flat_map, filter_map, slice_get, length, Option, Some, None, option_map, option_to_list, Result, Ok, Err, refl, subst}
use Rattle.std.specs.List.{AllByRecursion, cons_option, find}
use Rattle.text_bytes.specs.Texts.{is_empty}
use Rattle.file_messages.specs.declared.message.MessageKind.{MessageKind}
use Rattle.file_messages.specs.declared.message.MessageKind.TheVariants.{AttributeElsewhere, BadAttributeSubstitution, BadSubstitution, BadValue, EmptyValue, LineTooLong, OldSubsystemName, ResultBeforeProgram}
use Rattle.text_bytes.specs.declared.profile.Profile.TheVariants.{Udev}
use Rattle.rule_tokens.specs.TemplateReading.{is_faulty}
use Rattle.rule_tokens.specs.Grammar.{Item, Placed, compares}
use Rattle.rule_tokens.specs.Places.{IsSlice, LiesIn}
use Rattle.rule_tokens.specs.declared.kinds.Operator.{Operator}
use Rattle.rule_types.specs.Names.{key_of}
use Rattle.rule_types.specs.declared.keys.Key.{Key}
use Rattle.rule_types.specs.declared.keys.Key.TheVariants as key
use Rattle.rule_parts.specs.Options.{is_known_option}
use Rattle.rule_parts.specs.Parts.{meaning_of}
use Rattle.rule_types.specs.declared.part.Part.{Part}
use Rattle.rule_parts.specs.Parts.{part_of}
use Rattle.rule_parts.specs.declared.finding.Finding.{Finding}
use Rattle.rule_core.specs.Drafts.{draft, draft_of, draft_with, idle_spot, items_as, most_bytes, parts_of, with_part, written_part}
use Rattle.rule_core.specs.Effects.{lacks_effect, unknown_option}
use Rattle.rule_types.specs.Tokens.{WrittenPart, tokens_in}
use Rattle.rule_remarks.specs.Accounts.{Accounts, given_in}
use Rattle.rule_remarks.specs.Pairs.{message_of, pair_findings}
use Rattle.rule_remarks.specs.declared.accounts.AccountKind.TheVariants.{User, Group}
use Rattle.rule_remarks.specs.declared.accounts.Given.{Given}
use Rattle.rule_remarks.specs.declared.accounts.Given.TheVariants as given
use Rattle.rule_remarks.specs.declared.pair_finding.PairFinding.{PairFinding}
use Rattle.rule_remarks.specs.declared.pair_finding.PairKind.{PairKind}
use Rattle.rule_remarks.specs.declared.pair_finding.PairKind.TheVariants.{Same, Against}
use Rattle.rule_places.specs.Laws.{IsQuotedThere, IsTextThere, is_about_text, is_about_value}
use Rattle.rule_core.specs.Spots.{attribute_spot, key_spot, token_spot, whole_spot}
use Rattle.rule_types.specs.declared.spot.Spot.{Spot}
use Rattle.rule_places.proofs.PartPlacement.{AllPresent, attribute_in_place, both, key_in_place, one_or_none, value_in_place}
use Rattle.rule_places.proofs.Placement.{all_lie, weaker}
use Rattle.rule_remarks.specs.Attributes.{is_bad_name, is_elsewhere}
use Rattle.rule_remarks.specs.Remarks.{attribute_remarks, is_program, is_result, late_program, pair_remark, remarks_by, rule_remarks, token_remarks, value_remarks}
use Rattle.rule_remarks.specs.Rules.{line_remarks}
use Rattle.rule_remarks.specs.Values.{assigned_fault, compared_fault, filled_fault, given_fault, text_fault, value_fault}

-- whether what is wrong with a value is reported at the key: that it is empty
abbrev is_of_key : MessageKind → Bool
is_of_key EmptyValue = true
is_of_key _ = false

-- what is wrong with a value is reported for the value or of the key
abbrev IsOfValue : Option MessageKind → Type 0
IsOfValue None = Unit {0}
IsOfValue (Some kind) = (is_of_key kind || is_about_value kind) ≡ true

text_kind : (text : List ℕ) → IsOfValue (text_fault text)
text_kind text = by (is_faulty text)
  where
    by : (b : Bool) → IsOfValue (cond b (Some BadSubstitution) None)
    by true = refl
    by false = tt

filled_kind : (text : List ℕ) → IsOfValue (filled_fault text)
filled_kind text = by (is_empty text)
  where
    by : (b : Bool) → IsOfValue (cond b (Some EmptyValue) (text_fault text))
    by true = refl
    by false = text_kind text

one_kind : (b : Bool) (kind : MessageKind) → (is_of_key kind || is_about_value kind) ≡ true → IsOfValue (cond b (Some kind) None)
one_kind true kind e = e
one_kind false kind e = tt

other_kind : (b : Bool) (kind : MessageKind) → (is_of_key kind || is_about_value kind) ≡ true → IsOfValue (cond b None (Some kind))
other_kind true kind e = tt
other_kind false kind e = e

given_kind : (g : Given) (text : List ℕ) → IsOfValue (given_fault g text)
given_kind (given.Number n) text = tt
given_kind given.Unknown text = refl
given_kind given.Text text = filled_kind text

compared_kind : (k : Key) (text : List ℕ) → IsOfValue (compared_fault k text)
compared_kind key.Subsystem text = one_kind _ OldSubsystemName refl
compared_kind key.Test text = filled_kind text
compared_kind key.Program text = filled_kind text
compared_kind key.Import text = filled_kind text
compared_kind _ text = tt

assigned_kind : (accounts : Accounts) (k : Key) (text : List ℕ) → IsOfValue (assigned_fault accounts k text)
assigned_kind accounts key.Name text = text_kind text
assigned_kind accounts key.Symlink text = text_kind text
assigned_kind accounts key.Env text = text_kind text
assigned_kind accounts key.Attr text = text_kind text
assigned_kind accounts key.Sysctl text = text_kind text
assigned_kind accounts key.Tag text = filled_kind text
assigned_kind accounts key.Seclabel text = filled_kind text
assigned_kind accounts key.Mode text = filled_kind text
assigned_kind accounts key.Run text = filled_kind text
assigned_kind accounts key.Program text = filled_kind text
assigned_kind accounts key.Import text = filled_kind text
assigned_kind accounts key.Owner text = given_kind (given_in accounts User text) text
assigned_kind accounts key.Group text = given_kind (given_in accounts Group text) text
assigned_kind accounts key.Options text = other_kind (is_known_option text) BadValue refl
assigned_kind accounts _ text = tt

value_kind : (accounts : Accounts) (k : Key) (o : Operator) (text : List ℕ) → IsOfValue (value_fault accounts k o text)
unfolding value_fault
value_kind accounts k o text = by (compares o)
  where
    by : (b : Bool) → IsOfValue (cond b (compared_fault k text) (assigned_fault accounts k text))
    by true = compared_kind k text
    by false = assigned_kind accounts k text

value_reported : (line : List ℕ) (t : Placed) (fault : Option MessageKind) → IsSlice line t → IsOfValue fault → AllPresent line (value_remarks fault t)
value_reported line t None slice h = tt
value_reported line t (Some EmptyValue) slice h = (key_in_place line EmptyValue t slice refl, tt)
value_reported line t (Some kind) slice h = (value_in_place line kind (meaning_of t) t slice h, tt)

attribute_reported : (line : List ℕ) (k : Key) (t : Placed) (name : Option (List ℕ)) → IsSlice line t → AllPresent line (attribute_remarks k t name)
attribute_reported line k t None slice = tt
attribute_reported line k t (Some name) slice =
    both line (cond (is_bad_name k name) (attribute_spot BadAttributeSubstitution t ∷ []) []) (cond (is_elsewhere k name) (attribute_spot AttributeElsewhere t ∷ []) [])
    (one_or_none line (is_bad_name k name) (attribute_spot BadAttributeSubstitution t) (attribute_in_place line BadAttributeSubstitution t slice refl refl))
    (one_or_none line (is_elsewhere k name) (attribute_spot AttributeElsewhere t) (attribute_in_place line AttributeElsewhere t slice refl refl))

key_reported : (accounts : Accounts) (line : List ℕ) (t : Placed) (k : Option Key) → IsSlice line t → AllPresent line (remarks_by accounts t k)
key_reported accounts line t None slice = tt
key_reported accounts line t (Some k) slice =
    both line (attribute_remarks k t t.parts.head.attribute) (value_remarks (value_fault accounts k t.parts.head.operator (meaning_of t)) t)
    (attribute_reported line k t t.parts.head.attribute slice)
    (value_reported line t (value_fault accounts k t.parts.head.operator (meaning_of t)) slice (value_kind accounts k t.parts.head.operator (meaning_of t)))

token_reported : (accounts : Accounts) (line : List ℕ) (t : Placed) → IsSlice line t → AllPresent line (token_remarks accounts t)
unfolding token_remarks
token_reported accounts line t slice = key_reported accounts line t (key_of t.parts.head.key) slice

tokens_reported : (accounts : Accounts) (line : List ℕ) (tokens : List Placed) → AllByRecursion (IsSlice line) tokens → AllPresent line (flat_map (token_remarks accounts) tokens)
tokens_reported accounts line [] h = tt
tokens_reported accounts line (t ∷ tokens) h =
    both line (token_remarks accounts t) (flat_map (token_remarks accounts) tokens) (token_reported accounts line t h.0) (tokens_reported accounts line tokens h.1)

-- a token that there may be
abbrev MayBeSlice : List ℕ → Option Placed → Type 0
MayBeSlice line None = Unit {0}
MayBeSlice line (Some t) = IsSlice line t

first_slice : (line : List ℕ) (p : Placed → Bool) (tokens : List Placed) → AllByRecursion (IsSlice line) tokens → MayBeSlice line (find p tokens)
first_slice line p [] h = tt
first_slice line p (t ∷ tokens) h = by (p t) (first_slice line p tokens h.1)
  where
    by : (b : Bool) → MayBeSlice line (find p tokens) → MayBeSlice line (cond b (Some t) (find p tokens))
    by true more = h.0
    by false more = more

late_slice : (line : List ℕ) (tokens : List Placed) → AllByRecursion (IsSlice line) tokens → MayBeSlice line (late_program tokens)
late_slice line [] h = tt
late_slice line (t ∷ tokens) h = by (is_result t) (late_slice line tokens h.1)
  where
    by : (b : Bool) → MayBeSlice line (late_program tokens) → MayBeSlice line (cond b (find is_program tokens) (late_program tokens))
    by true more = first_slice line is_program tokens h.1
    by false more = more

order_reported : (line : List ℕ) (t : Option Placed) → MayBeSlice line t → AllPresent line (option_to_list (option_map (key_spot ResultBeforeProgram) t))
order_reported line None h = tt
order_reported line (Some t) h = (key_in_place line ResultBeforeProgram t h refl, tt)

nth_slice : (line : List ℕ) (tokens : List Placed) (n : ℕ) → AllByRecursion (IsSlice line) tokens → MayBeSlice line (slice_get tokens n)
nth_slice line [] n h = tt
nth_slice line (t ∷ tokens) zero h = h.0
nth_slice line (t ∷ tokens) (suc n) h = nth_slice line tokens n h.1

pairs_are_text : (kind : PairKind) → is_about_text (message_of kind) ≡ true
pairs_are_text Same = refl
pairs_are_text Against = refl

pair_reported : (line : List ℕ) (kind : PairKind) (t : Option Placed) (others : List (Spot MessageKind)) → MayBeSlice line t → AllPresent line others → AllPresent line (cons_option (option_map (key_spot (message_of kind)) t) others)
pair_reported line kind None others h more = more
pair_reported line kind (Some t) others h more = (key_in_place line (message_of kind) t h (pairs_are_text kind), more)

pairs_reported : (line : List ℕ) (tokens : List Placed) (pairs : List PairFinding) → AllByRecursion (IsSlice line) tokens → AllPresent line (filter_map (pair_remark tokens) pairs)
pairs_reported line tokens [] h = tt
pairs_reported line tokens (p ∷ pairs) h =
    pair_reported line p.kind (slice_get tokens p.token) (filter_map (pair_remark tokens) pairs) (nth_slice line tokens p.token h) (pairs_reported line tokens pairs h)

rule_reported : (accounts : Accounts) (line : List ℕ) (tokens : List Placed) → AllByRecursion (IsSlice line) tokens → AllPresent line (rule_remarks accounts tokens)
unfolding rule_remarks
rule_reported accounts line tokens h =
    both line (flat_map (token_remarks accounts) tokens) (late ++ filter_map (pair_remark tokens) (pair_findings accounts tokens)) (tokens_reported accounts line tokens h)
    (both line late (filter_map (pair_remark tokens) (pair_findings accounts tokens)) (order_reported line (late_program tokens) (late_slice line tokens h)) (pairs_reported line tokens (pair_findings accounts tokens) h))
  where
    late : List (Spot MessageKind)
    late = option_to_list (option_map (key_spot ResultBeforeProgram) (late_program tokens))

-- the tokens of a rule are slices of its line
slices : (line : List ℕ) (items : List Item) (parts : List WrittenPart) → parts_of Udev line items ≡ Ok parts → AllByRecursion (LiesIn line) items → AllByRecursion (IsSlice line) (tokens_in parts)
slices line [] parts e h =
    let none : [] ≡ parts = cc in
    subst (λ (ps : List WrittenPart). AllByRecursion (IsSlice line) (tokens_in ps)) none tt
slices line (Err fault ∷ items) parts e h = absurd (wrong_first (parts_of Udev line items) e)
  where
    wrong_first : (rest : Result (List WrittenPart) (Spot MessageKind)) → with_part (Err (token_spot fault.kind fault.at line)) rest ≡ Ok parts → ⊥
    wrong_first (Ok more) g = cc
    wrong_first (Err other) g = cc
slices line (Ok t ∷ items) parts e h = by (part_of Udev t) (parts_of Udev line items) refl e (λ more f. slices line items more f h.1)
  where
    by : (x : Result Part Finding) (rest : Result (List WrittenPart) (Spot MessageKind)) → parts_of Udev line items ≡ rest → with_part (written_part t x) rest ≡ Ok parts
        → ((more : List WrittenPart) → parts_of Udev line items ≡ Ok more → AllByRecursion (IsSlice line) (tokens_in more)) → AllByRecursion (IsSlice line) (tokens_in parts)
    by (Ok p) (Ok more) f g others =
        let all : record { token = t; part = p } ∷ more ≡ parts = cc in
        subst (λ (ps : List WrittenPart). AllByRecursion (IsSlice line) (tokens_in ps)) all (h.0, others more f)
    by (Ok p) (Err wrong) f g others = absurd (cc)
    by (Err found) (Ok more) f g others = absurd (cc)
    by (Err found) (Err wrong) f g others = absurd (cc)

line_reported : (accounts : Accounts) (line : List ℕ) → AllPresent line (line_remarks accounts (draft_of Udev line))
unfolding draft_of
line_reported accounts line = on (nat_lt (most_bytes Udev) (length line))
  where
    items : List Item
    items = items_as Udev line

    kept : (parts : List WrittenPart) (idle : Bool) → parts_of Udev line items ≡ Ok parts → AllPresent line (line_remarks accounts (cond idle (Err (idle_spot line (unknown_option (tokens_in parts)))) (Ok (draft Udev line parts))))
    kept parts true e = tt
    kept parts false e = rule_reported accounts line (tokens_in parts) (slices line items parts e (all_lie Udev line))

    read : (r : Result (List WrittenPart) (Spot MessageKind)) → parts_of Udev line items ≡ r → AllPresent line (line_remarks accounts (draft_with Udev line r))
    read (Ok parts) e = kept parts (lacks_effect Udev (tokens_in parts)) e
    read (Err wrong) e = tt

    on : (b : Bool) → AllPresent line (line_remarks accounts (cond b (Err (whole_spot LineTooLong line)) (draft_with Udev line (parts_of Udev line items))))
    on true = tt
    on false = read (parts_of Udev line items) refl

pub words_in_place : (accounts : Accounts) (line : List ℕ) → AllByRecursion (IsTextThere line) (line_remarks accounts (draft_of Udev line))
words_in_place accounts line = weaker line (IsTextThere line) (line_remarks accounts (draft_of Udev line)) (λ s h. h.0) (line_reported accounts line)

pub values_in_place : (accounts : Accounts) (line : List ℕ) → AllByRecursion (IsQuotedThere line) (line_remarks accounts (draft_of Udev line))
values_in_place accounts line = weaker line (IsQuotedThere line) (line_remarks accounts (draft_of Udev line)) (λ s h. h.1) (line_reported accounts line)
