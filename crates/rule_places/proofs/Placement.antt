-- Where what is said of a line is in it.
use Rattle.std.proofs.Common.{◌≡◌, ℕ, zero, suc, ◌+◌, ◌-◌, ◌<◌, ◌≤◌, ◌==◌, Bool, true, false, cond, true≢false, List, [], ◌∷◌, ◌++◌, map, take, drop, length, Option, Some, None, Result, Ok, Err, refl, ap, sym, ◌∙◌, subst, nat_lt, length-append, length-drop, length-take-le, arith}
use Rattle.std.specs.List.{AllByRecursion, prefix_len}
use Rattle.std.proofs.lemmas.List.Sums.{prefix_len-le-length}
use Rattle.std.proofs.lemmas.List.Elements.{recursion_from_All}
use Rattle.std.specs.List.{filter_map}
use Rattle.text_bytes.specs.Names.{comma, double_quote}
use Rattle.text_bytes.specs.Texts.{first, last}
use Rattle.file_messages.specs.declared.message.MessageKind.{MessageKind}
use Rattle.file_messages.specs.declared.message.MessageKind.TheVariants.{BadValue, LineTooLong, NoLaterLabel, RuleWithoutEffect, LabelUnused, CommaExpected, BlankExpected, LeadingComma, BlankBeforeComma}
use Rattle.text_bytes.specs.declared.profile.Profile.{Profile}
use Rattle.text_bytes.specs.declared.profile.Profile.TheVariants as profile
use Rattle.rule_types.specs.declared.jumps.Landing.{Landing}
use Rattle.rule_tokens.specs.Grammar.{AllAre, BeginsOther, Item, Placed, is_gap_byte}
use Rattle.rule_tokens.specs.Places.{IsSlice, LiesIn}
use Rattle.rule_tokens.specs.Values.{ends_in}
use Rattle.rule_tokens.proofs.PlaceLemmas.{from_lie}
use Rattle.rule_tokens.proofs.RunLemmas.{run_all, run_stops}
use Rattle.rule_parts.specs.Parts.{is_read_as_assign, part_of}
use Rattle.rule_parts.specs.declared.finding.Finding.{Finding}
use Rattle.rule_types.specs.declared.part.Part.{Part}
use Rattle.rule_types.specs.declared.part.Part.TheVariants as part
use Rattle.rule_core.specs.Drafts.{Draft, again_in, draft, draft_of, draft_with, first_place, given_again, given_again_after, given_twice, goto_at, idle_spot, items_as, label_again, label_among, label_at, lost_name, most_bytes, name_place, part_again, part_of_item, parts_of, with_part, written_part}
use Rattle.rule_core.specs.Effects.{is_unknown_option, lacks_effect, unknown_option}
use Rattle.rule_core.specs.Rules.{line_findings, name_spot}
use Rattle.rule_types.specs.Spots.{spot, value_start}
use Rattle.rule_core.specs.Spots.{key_spot, token_spot, whole_spot}
use Rattle.rule_core.specs.Style.{between, comma_findings, commas, gap_findings, has_blank_before_comma, leading_findings, operator_findings, read_as_assign_kind, style_after, style_findings, whole_gap}
use Rattle.rule_types.specs.Tokens.{WrittenPart, tokens_in}
use Rattle.rule_core.specs.declared.names.NamePlace.{NamePlace}
use Rattle.rule_types.specs.declared.spot.Spot.{Spot}
use Rattle.rule_places.specs.Laws.{FollowsTokens, IsAfterTokens, IsQuoted, IsQuotedThere, IsTextThere, IsWholeLine, PrecedesTokens, is_about_jump, is_about_text, is_about_value}
use Rattle.rule_places.proofs.Prefixes.{FaultIs, all_faults}
use Rattle.rule_places.proofs.Ending.{BeginsAt, EndsInGap, EndsLast, all_begin, all_end}
use Rattle.rule_places.proofs.Reporting.{IsOfToken, part_is_of_token}
use Rattle.rule_places.proofs.PartPlacement.{IsPresent, AllPresent, text_in_place, quoted_in_place, prefix_in_place, whole_in_place, both, one_or_none, none_or_one, key_in_place, value_quoted, part_in_place, token_in_place}

-- the tokens of a rule are in its line
abbrev AllSlices : List ℕ → List WrittenPart → Type 0
AllSlices line parts = AllByRecursion (λ w. IsSlice line w.token) parts

-- a name of a rule is between quotes
abbrev IsNameThere : List ℕ → NamePlace → Type 0
IsNameThere line n = IsQuoted line n.start n.size

abbrev AllNamesThere : List ℕ → List NamePlace → Type 0
AllNamesThere line names = AllByRecursion (IsNameThere line) names

abbrev NameIsPresent : List ℕ → Option NamePlace → Type 0
NameIsPresent line None = Unit {0}
NameIsPresent line (Some n) = IsNameThere line n

label_there : (line : List ℕ) (t : Placed) (p : Part) (parts : List WrittenPart) → IsSlice line t → AllNamesThere line (filter_map label_at parts) → AllNamesThere line (filter_map label_at (record { token = t; part = p } ∷ parts))
label_there line t (part.Plain m) parts slice h = h
label_there line t (part.Up m) parts slice h = h
label_there line t (part.Act a) parts slice h = h
label_there line t (part.Result c) parts slice h = h
label_there line t (part.Set a) parts slice h = h
label_there line t (part.Label name) parts slice h = (value_quoted line t slice, h)
label_there line t (part.Goto name) parts slice h = h

labels_there : (line : List ℕ) (parts : List WrittenPart) → AllSlices line parts → AllNamesThere line (filter_map label_at parts)
labels_there line [] all = tt
labels_there line (w ∷ parts) all = label_there line w.token w.part parts all.0 (labels_there line parts all.1)

goto_there : (line : List ℕ) (t : Placed) (p : Part) (parts : List WrittenPart) → IsSlice line t → AllNamesThere line (filter_map goto_at parts) → AllNamesThere line (filter_map goto_at (record { token = t; part = p } ∷ parts))
goto_there line t (part.Plain m) parts slice h = h
goto_there line t (part.Up m) parts slice h = h
goto_there line t (part.Act a) parts slice h = h
goto_there line t (part.Result c) parts slice h = h
goto_there line t (part.Set a) parts slice h = h
goto_there line t (part.Label name) parts slice h = h
goto_there line t (part.Goto name) parts slice h = (value_quoted line t slice, h)

gotos_there : (line : List ℕ) (parts : List WrittenPart) → AllSlices line parts → AllNamesThere line (filter_map goto_at parts)
gotos_there line [] all = tt
gotos_there line (w ∷ parts) all = goto_there line w.token w.part parts all.0 (gotos_there line parts all.1)

first_there : (line : List ℕ) (names : List NamePlace) → AllNamesThere line names → NameIsPresent line (first names)
first_there line [] h = tt
first_there line (n ∷ names) h = h.0

last_there : (line : List ℕ) (names : List NamePlace) → AllNamesThere line names → NameIsPresent line (last names)
last_there line [] h = tt
last_there line (n ∷ []) h = h.0
last_there line (n ∷ m ∷ names) h = last_there line (m ∷ names) h.1

among_there : (by : Profile) (line : List ℕ) (names : List NamePlace) → AllNamesThere line names → NameIsPresent line (label_among by names)
among_there profile.Manual line names h = first_there line names h
among_there profile.Udev line names h = last_there line names h

-- names that are given again
twice_there : (line : List ℕ) (n : NamePlace) → IsNameThere line n → IsPresent line (given_twice n)
twice_there line n h = quoted_in_place line (given_twice n) refl (λ e g. h)

again_there : (line : List ℕ) (names : List NamePlace) (n : NamePlace) → IsNameThere line n → AllPresent line (given_again names n)
again_there line [] n h = tt
again_there line (m ∷ names) n h = (twice_there line n h, tt)

lost_there : (line : List ℕ) (o : Option NamePlace) → NameIsPresent line o → AllPresent line (lost_name o)
lost_there line None h = tt
lost_there line (Some n) h = (twice_there line n h, tt)

label_again_there : (by : Profile) (line : List ℕ) (names : List NamePlace) (n : NamePlace) → AllNamesThere line names → IsNameThere line n → AllPresent line (label_again by names n)
label_again_there profile.Manual line names n all h = again_there line names n h
label_again_there profile.Udev line names n all h = lost_there line (last names) (last_there line names all)

part_again_there : (by : Profile) (line : List ℕ) (before : List WrittenPart) (t : Placed) (p : Part) → AllSlices line before → IsSlice line t → AllPresent line (part_again by before t p)
part_again_there by line before t (part.Plain m) all slice = tt
part_again_there by line before t (part.Up m) all slice = tt
part_again_there by line before t (part.Act a) all slice = tt
part_again_there by line before t (part.Result c) all slice = tt
part_again_there by line before t (part.Set a) all slice = tt
part_again_there by line before t (part.Label name) all slice = label_again_there by line (filter_map label_at before) (name_place t name) (labels_there line before all) (value_quoted line t slice)
part_again_there by line before t (part.Goto name) all slice = again_there line (filter_map goto_at before) (name_place t name) (value_quoted line t slice)

one_slice_more : (line : List ℕ) (before : List WrittenPart) (w : WrittenPart) → AllSlices line before → IsSlice line w.token → AllSlices line (before ++ w ∷ [])
one_slice_more line [] w all slice = (slice, tt)
one_slice_more line (v ∷ before) w all slice = (all.0, one_slice_more line before w all.1 slice)

given_again_there : (by : Profile) (line : List ℕ) (before parts : List WrittenPart) → AllSlices line before → AllSlices line parts → AllPresent line (given_again_after by before parts)
given_again_there by line before [] b all = tt
given_again_there by line before (w ∷ parts) b all =
    both line (again_in by before w) (given_again_after by (before ++ w ∷ []) parts) (part_again_there by line before w.token w.part b all.0)
    (given_again_there by line (before ++ w ∷ []) parts (one_slice_more line before w b all.0) all.1)

-- the tokens of a line, or what is wrong with one
abbrev PartsArePresent : List ℕ → Result (List WrittenPart) (Spot MessageKind) → Type 0
PartsArePresent line (Ok parts) = AllSlices line parts
PartsArePresent line (Err wrong) = IsPresent line wrong

abbrev PartIsPresent : List ℕ → Result WrittenPart (Spot MessageKind) → Type 0
PartIsPresent line (Ok w) = IsSlice line w.token
PartIsPresent line (Err wrong) = IsPresent line wrong

with_present : (line : List ℕ) (w : Result WrittenPart (Spot MessageKind)) (parts : Result (List WrittenPart) (Spot MessageKind)) → PartIsPresent line w → PartsArePresent line parts → PartsArePresent line (with_part w parts)
with_present line (Ok w) (Ok parts) h g = (h, g)
with_present line (Ok w) (Err wrong) h g = g
with_present line (Err wrong) parts h g = h

token_present : (line : List ℕ) (t : Placed) (x : Result Part Finding) → IsSlice line t → IsOfToken x → PartIsPresent line (written_part t x)
unfolding IsOfToken
token_present line t (Ok p) slice h = slice
token_present line t (Err found) slice h = part_in_place line found.kind t slice h

items_in_place : (by : Profile) (line : List ℕ) (items : List Item) → AllByRecursion (LiesIn line) items → AllByRecursion (FaultIs line) items → PartsArePresent line (parts_of by line items)
items_in_place by line [] all fault = tt
items_in_place by line (Ok t ∷ items) all fault =
    with_present line (written_part t (part_of by t)) (parts_of by line items) (token_present line t (part_of by t) all.0 (part_is_of_token by t)) (items_in_place by line items all.1 fault.1)
items_in_place by line (Err found ∷ items) all fault = with_present line (Err (token_spot found.kind found.at line)) (parts_of by line items) (token_in_place found.kind found.at line all.0 fault.0) (items_in_place by line items all.1 fault.1)

-- tokens as the items of a line
abbrev as_item : Placed → Item
as_item t = Ok t

abbrev as_items : List Placed → List Item
as_items tokens = map as_item tokens

token_kept : (t : Placed) (x : Result Part Finding) (w : WrittenPart) → written_part t x ≡ Ok w → w.token ≡ t
token_kept t (Ok p) w e =
    let written : WrittenPart = record { token = t; part = p } in
    let same : w ≡ written = cc in
    ap (λ (v : WrittenPart). v.token) same
token_kept t (Err found) w e = cc

item_kept : (by : Profile) (line : List ℕ) (i : Item) (w : WrittenPart) → part_of_item by line i ≡ Ok w → as_item w.token ≡ i
item_kept by line (Ok t) w e = ap as_item (token_kept t (part_of by t) w e)
item_kept by line (Err fault) w e = cc

-- the tokens that were read are all items of their line
all_tokens : (by : Profile) (line : List ℕ) (items : List Item) (parts : List WrittenPart) → parts_of by line items ≡ Ok parts → as_items (tokens_in parts) ≡ items
all_tokens by line [] [] e = refl
all_tokens by line [] (w ∷ parts) e = cc
all_tokens by line (i ∷ items) parts e = on (part_of_item by line i) (parts_of by line items) refl refl e (λ more g. all_tokens by line items more g)
  where
    on : (x : Result WrittenPart (Spot MessageKind)) (rest : Result (List WrittenPart) (Spot MessageKind)) → part_of_item by line i ≡ x → parts_of by line items ≡ rest → with_part x rest ≡ Ok parts
        → ((more : List WrittenPart) → parts_of by line items ≡ Ok more → as_items (tokens_in more) ≡ items) → as_items (tokens_in parts) ≡ i ∷ items
    on (Ok w) (Ok more) f g h others =
        let same : parts ≡ w ∷ more = cc in
        ap (λ (ws : List WrittenPart). as_items (tokens_in ws)) same
        ∙ ap (λ (is : List Item). as_item w.token ∷ is) (others more g)
        ∙ ap (λ (j : Item). j ∷ items) (item_kept by line i w f)
    on (Ok w) (Err wrong) f g h others = cc
    on (Err wrong) rest f g h others = cc

-- how a line is written
commas_in_place : (line gap : List ℕ) (t : Placed) → IsSlice line t → AllPresent line (comma_findings gap t)
commas_in_place line gap t slice =
    both line (cond (commas gap == 1) [] (key_spot CommaExpected t ∷ [])) (cond (ends_in comma gap) (key_spot BlankExpected t ∷ []) [])
    (none_or_one line (commas gap == 1) (key_spot CommaExpected t) (key_in_place line CommaExpected t slice refl))
    (one_or_none line (ends_in comma gap) (key_spot BlankExpected t) (key_in_place line BlankExpected t slice refl))

gap_in_place : (by : Profile) (line gap : List ℕ) (t : Placed) → IsSlice line t → AllPresent line (gap_findings by gap t)
gap_in_place profile.Manual line gap t slice = commas_in_place line gap t slice
gap_in_place profile.Udev line gap t slice =
    both line (comma_findings gap t) (cond (has_blank_before_comma gap) (key_spot BlankBeforeComma t ∷ []) [])
    (commas_in_place line gap t slice) (one_or_none line (has_blank_before_comma gap) (key_spot BlankBeforeComma t) (key_in_place line BlankBeforeComma t slice refl))

assign_is_text : (by : Profile) → is_about_text (read_as_assign_kind by) ≡ true
assign_is_text profile.Manual = refl
assign_is_text profile.Udev = refl

operator_in_place : (by : Profile) (line : List ℕ) (t : Placed) → IsSlice line t → AllPresent line (operator_findings by t)
operator_in_place by line t slice = one_or_none line (is_read_as_assign t) (key_spot (read_as_assign_kind by) t) (key_in_place line (read_as_assign_kind by) t slice (assign_is_text by))

-- the gap before the first token
some_commas : (gap : List ℕ) → (commas gap == 0) ≡ false → 0 < commas gap
some_commas gap e = by (commas gap) e
  where
    by : (n : ℕ) → (n == 0) ≡ false → 0 < n
    by zero e = absurd (true≢false e)
    by (suc n) e = omega arith

leading_gap_in_place : (line : List ℕ) (size : ℕ) → size ≤ length line → AllAre is_gap_byte (take size line) → BeginsOther is_gap_byte (drop size line) → AllPresent line (whole_gap LeadingComma 0 (take size line))
leading_gap_in_place line size within gap longest = by (commas (take size line) == 0) refl
  where
    long : length (take size line) ≡ size
    long = length-take-le size line within

    by : (b : Bool) → (commas (take size line) == 0) ≡ b → AllPresent line (cond b [] (spot LeadingComma [] 0 (length (take size line)) ∷ []))
    by true e = tt
    by false e = (
      prefix_in_place line (length (take size line))
          (record {
            starts = refl;
            gap = subst (λ (n : ℕ). AllAre is_gap_byte (take n line)) (sym long) gap;
            longest = subst (λ (n : ℕ). BeginsOther is_gap_byte (drop n line)) (sym long) longest;
            comma = subst (λ (n : ℕ). 0 < commas (take n line)) (sym long) (some_commas (take size line) e);
          }),
      tt,
    )

leading_gap : (by : Profile) (line : List ℕ) (t : Placed) → t.span.start ≡ first_place by line → AllPresent line (leading_findings by (between 0 t.span.start line))
leading_gap profile.Manual line t e = tt
leading_gap profile.Udev line t e =
    let whole : t.span.start - 0 ≡ prefix_len is_gap_byte line = omega (arith, e) in
    subst (λ (n : ℕ). AllPresent line (whole_gap LeadingComma 0 (take n line))) (sym whole)
    (leading_gap_in_place line (prefix_len is_gap_byte line) (prefix_len-le-length is_gap_byte line) (run_all is_gap_byte line) (run_stops is_gap_byte line))

-- a place at which a token ends
abbrev IsEnd : List ℕ → ℕ → Type 0
IsEnd line place = (take 1 (drop (place - 1) line) ≡ double_quote ∷ []) × (place ≤ length line)

token_end : (line : List ℕ) (t : Placed) → IsSlice line t → IsEnd line t.span.end
token_end line t slice =
    let more : length (t.parts.value ++ double_quote ∷ []) ≡ length t.parts.value + length (double_quote ∷ []) = length-append t.parts.value (double_quote ∷ []) in
    let closes : value_start t + length t.parts.value ≡ t.span.end - 1 = omega (arith, more, slice.closes) in
    (ap (λ (n : ℕ). take 1 (drop n line)) (sym closes) ∙ (value_quoted line t slice).closes, slice.within)

end_in_place : (line : List ℕ) (place : ℕ) → IsEnd line place → AllAre is_gap_byte (drop place line) → AllPresent line (whole_gap CommaExpected place (drop place line))
end_in_place line place end gap =
    let left = length-drop place line in
    let within = end.1 in
    let following : IsAfterTokens line place (length (drop place line)) = record { following = end.0; ends = omega (arith, left, within); gap = gap } in
    none_or_one line (commas (drop place line) == 0) (spot CommaExpected [] place (length (drop place line))) (text_in_place line (spot CommaExpected [] place (length (drop place line))) refl (λ e h. absurd (omega (arith, h))) (λ e h. following))

following_in_place : (by : Profile) (line : List ℕ) (place : ℕ) (tokens : List Placed) → AllByRecursion (LiesIn line) (as_items tokens) → IsEnd line place → EndsInGap line place (as_items tokens) → AllPresent line (style_after by line place tokens)
following_in_place by line place [] all end gap = end_in_place line place end gap
following_in_place by line place (t ∷ tokens) all end gap =
    both line (gap_findings by (between place t.span.start line) t) (operator_findings by t ++ style_after by line t.span.end tokens) (gap_in_place by line (between place t.span.start line) t all.0)
    (both line (operator_findings by t) (style_after by line t.span.end tokens) (operator_in_place by line t all.0) (following_in_place by line t.span.end tokens all.1 (token_end line t all.0) gap))

style_in_place : (by : Profile) (line : List ℕ) (tokens : List Placed) → AllByRecursion (LiesIn line) (as_items tokens) → BeginsAt (first_place by line) (as_items tokens) → EndsLast line (as_items tokens) → AllPresent line (style_findings by line tokens)
style_in_place by line [] all first gap = tt
style_in_place by line (t ∷ tokens) all first gap =
    both line (leading_findings by (between 0 t.span.start line)) (operator_findings by t ++ style_after by line t.span.end tokens) (leading_gap by line t first)
    (both line (operator_findings by t) (style_after by line t.span.end tokens) (operator_in_place by line t all.0) (following_in_place by line t.span.end tokens all.1 (token_end line t all.0) gap))

-- where the items of a line begin
first_within : (by : Profile) (line : List ℕ) → first_place by line ≤ length line
first_within profile.Manual line = omega arith
first_within profile.Udev line = prefix_len-le-length is_gap_byte line

-- the items of a line, one after another
pub all_lie : (by : Profile) (line : List ℕ) → AllByRecursion (LiesIn line) (items_as by line)
all_lie by line = recursion_from_All (LiesIn line) (items_as by line) (from_lie (first_place by line) line (first_within by line))

-- a line's reading
pub record DraftIsPresent (line : List ℕ) (d : Draft) : Type 0 where
  pub label : NameIsPresent line d.label
  pub goto : NameIsPresent line d.goto
  pub findings : AllPresent line d.findings

abbrev ReadingIsPresent : List ℕ → Result Draft (Spot MessageKind) → Type 0
ReadingIsPresent line (Ok d) = DraftIsPresent line d
ReadingIsPresent line (Err wrong) = IsPresent line wrong

draft_in_place : (by : Profile) (line : List ℕ) (parts : List WrittenPart) → parts_of by line (items_as by line) ≡ Ok parts → AllSlices line parts → DraftIsPresent line (draft by line parts)
draft_in_place by line parts e slices =
    let items : as_items (tokens_in parts) ≡ items_as by line = all_tokens by line (items_as by line) parts e in
    record {
      label = among_there by line (filter_map label_at parts) (labels_there line parts slices);
      goto = first_there line (filter_map goto_at parts) (gotos_there line parts slices);
      findings = both line (given_again_after by [] parts) (style_findings by line (tokens_in parts)) (given_again_there by line [] parts tt slices)
          (style_in_place by line (tokens_in parts) (subst (AllByRecursion (LiesIn line)) (sym items) (all_lie by line))
          (subst (BeginsAt (first_place by line)) (sym items) (all_begin (first_place by line) line)) (subst (EndsLast line) (sym items) (all_end (first_place by line) line (first_within by line))));
    }

-- why a rule has no effect: the option is one of its tokens
idle_in_place : (line : List ℕ) (parts : List WrittenPart) → AllSlices line parts → IsPresent line (idle_spot line (unknown_option (tokens_in parts)))
idle_in_place line [] h = whole_in_place line RuleWithoutEffect refl refl
idle_in_place line (w ∷ parts) h = by (is_unknown_option w.token) (idle_in_place line parts h.1)
  where
    by : (b : Bool) → IsPresent line (idle_spot line (unknown_option (tokens_in parts))) → IsPresent line (idle_spot line (cond b (Some w.token) (unknown_option (tokens_in parts))))
    by true more = part_in_place line BadValue w.token h.0 refl
    by false more = more

-- a rule that has an effect, or that has none
ended : (by : Profile) (line : List ℕ) (parts : List WrittenPart) (idle : Bool) → AllSlices line parts → DraftIsPresent line (draft by line parts)
    → ReadingIsPresent line (cond idle (Err (idle_spot line (unknown_option (tokens_in parts)))) (Ok (draft by line parts)))
ended by line parts true a h = idle_in_place line parts a
ended by line parts false a h = h

read_in_place : (by : Profile) (line : List ℕ) (read : Result (List WrittenPart) (Spot MessageKind)) → parts_of by line (items_as by line) ≡ read → PartsArePresent line read → ReadingIsPresent line (draft_with by line read)
read_in_place by line (Ok parts) e h = ended by line parts (lacks_effect by (tokens_in parts)) h (draft_in_place by line parts e h)
read_in_place by line (Err wrong) e h = h

reading_in_place : (by : Profile) (line : List ℕ) → ReadingIsPresent line (draft_of by line)
unfolding draft_of
reading_in_place by line = on (nat_lt (most_bytes by) (length line))
  where
    items : List Item
    items = items_as by line

    on : (b : Bool) → ReadingIsPresent line (cond b (Err (whole_spot LineTooLong line)) (draft_with by line (parts_of by line items)))
    on true = whole_in_place line LineTooLong refl refl
    on false = read_in_place by line (parts_of by line items) refl (items_in_place by line items (all_lie by line) (all_faults (first_place by line) line (first_within by line)))

-- the names that are reported
name_in_place : (line : List ℕ) (kind : MessageKind) (o : Option NamePlace) → NameIsPresent line o → is_about_value kind ≡ true → is_about_jump kind ≡ true → IsPresent line (name_spot kind o)
name_in_place line kind None h e j = quoted_in_place line (name_spot kind None) e (λ t g. let some = g j in absurd (omega (arith, some)))
name_in_place line kind (Some n) h e j = quoted_in_place line (name_spot kind (Some n)) e (λ t g. h)

spots_in_place : (line : List ℕ) (read : Result Draft (Spot MessageKind)) (l : Landing) → ReadingIsPresent line read → AllPresent line (line_findings read l)
spots_in_place line (Ok d) l k =
    both line (cond l.lost (name_spot NoLaterLabel d.goto ∷ []) []) (d.findings ++ cond l.unused (name_spot LabelUnused d.label ∷ []) []) (one_or_none line l.lost (name_spot NoLaterLabel d.goto) (name_in_place line NoLaterLabel d.goto k.goto refl refl))
    (both line d.findings (cond l.unused (name_spot LabelUnused d.label ∷ []) []) k.findings (one_or_none line l.unused (name_spot LabelUnused d.label) (name_in_place line LabelUnused d.label k.label refl refl)))
spots_in_place line (Err wrong) l k = (k, tt)

pub weaker : (line : List ℕ) (P : Spot MessageKind → Type 0) (spots : List (Spot MessageKind)) → ((s : Spot MessageKind) → IsPresent line s → P s) → AllPresent line spots → AllByRecursion P spots
weaker line P [] f h = tt
weaker line P (s ∷ spots) f h = (f s h.0, weaker line P spots f h.1)

all_spots_in_place : (by : Profile) (line : List ℕ) (landing : Landing) → AllPresent line (line_findings (draft_of by line) landing)
all_spots_in_place by line landing = spots_in_place line (draft_of by line) landing (reading_in_place by line)

pub all_in_place : (by : Profile) (line : List ℕ) (landing : Landing) → AllByRecursion (IsTextThere line) (line_findings (draft_of by line) landing)
all_in_place by line landing = weaker line (IsTextThere line) (line_findings (draft_of by line) landing) (λ s h. h.0) (all_spots_in_place by line landing)

pub all_quoted : (by : Profile) (line : List ℕ) (landing : Landing) → AllByRecursion (IsQuotedThere line) (line_findings (draft_of by line) landing)
all_quoted by line landing = weaker line (IsQuotedThere line) (line_findings (draft_of by line) landing) (λ s h. h.1) (all_spots_in_place by line landing)

pub all_after : (by : Profile) (line : List ℕ) (landing : Landing) → AllByRecursion (FollowsTokens line) (line_findings (draft_of by line) landing)
all_after by line landing = weaker line (FollowsTokens line) (line_findings (draft_of by line) landing) (λ s h. h.2) (all_spots_in_place by line landing)

pub all_precede_tokens : (by : Profile) (line : List ℕ) (landing : Landing) → AllByRecursion (PrecedesTokens line) (line_findings (draft_of by line) landing)
all_precede_tokens by line landing = weaker line (PrecedesTokens line) (line_findings (draft_of by line) landing) (λ s h. h.3) (all_spots_in_place by line landing)

pub all_whole : (by : Profile) (line : List ℕ) (landing : Landing) → AllByRecursion (IsWholeLine line) (line_findings (draft_of by line) landing)
all_whole by line landing = weaker line (IsWholeLine line) (line_findings (draft_of by line) landing) (λ s h. h.4) (all_spots_in_place by line landing)
