-- Where what is said of a part of a line is in it.
use Rattle.std.proofs.Common.{◌≡◌, ℕ, suc, ◌+◌, ◌-◌, ◌<◌, ◌≤◌, Bool, true, false, cond, true≢false, ◌||◌, List, [], ◌∷◌, ◌++◌, take, drop, length, Option, Some, None, refl, ap, sym, ◌∙◌, subst, take_all, take_at, take-take, drop-drop, length-append, le_refl, arith}
use Rattle.std.specs.List.{AllByRecursion}
use Rattle.text_bytes.specs.Names.{close_brace, double_quote, open_brace}
use Rattle.file_messages.specs.declared.message.MessageKind.{MessageKind}
use Rattle.file_messages.specs.declared.message.MessageKind.TheVariants.{UnknownKey, OperatorNotAllowed, WrongAttribute, BadValue, BadSubstitution, LineTooLong, GivenTwice, NoLaterLabel, SetNotSupported, ReservedProperty, NameWithoutEffect, UnknownBuiltin, RuleWithoutEffect, OldSubsystemName, UnknownAccount, LabelUnused, CommaExpected, LeadingComma}
use Rattle.rule_tokens.specs.Grammar.{IsFault, Placed, attribute_bytes, attribute_text}
use Rattle.rule_tokens.specs.Places.{IsSlice, IsSliceAt}
use Rattle.rule_tokens.specs.Values.{has_escapes}
use Rattle.rule_tokens.specs.declared.kinds.TokenFaultKind.{TokenFaultKind}
use Rattle.rule_tokens.specs.declared.kinds.TokenFaultKind.TheVariants.{Syntax, Prefix}
use Rattle.rule_parts.specs.Parts.{meaning_of}
use Rattle.rule_places.specs.Laws.{FollowsTokens, IsBeforeTokens, IsQuoted, IsQuotedThere, IsTextThere, IsWholeLine, PrecedesTokens, escapes_quotes, is_about_commas, is_about_leading_commas, is_about_rule, is_about_text, is_about_value}
use Rattle.rule_types.specs.Spots.{spot, value_spot, value_start}
use Rattle.rule_core.specs.Spots.{attribute_spot, is_of_attribute, is_of_key, key_spot, part_spot, token_spot}
use Rattle.rule_types.specs.declared.spot.Spot.{Spot}
use Rattle.rule_places.proofs.Prefixes.{letters_in_place}
use Rattle.rule_places.proofs.Quotes.{value_escaped}
use Rattle.rule_places.proofs.Reporting.{is_of_token}

-- what is said is at its place
abbrev pub IsPresent : List ℕ → Spot MessageKind → Type 0
IsPresent line s = IsTextThere line s × IsQuotedThere line s × FollowsTokens line s × PrecedesTokens line s × IsWholeLine line s

abbrev pub AllPresent : List ℕ → List (Spot MessageKind) → Type 0
AllPresent line spots = AllByRecursion (IsPresent line) spots

-- what is about commas is reported with a text
pub commas_are_text : (kind : MessageKind) → is_about_commas kind ≡ true → is_about_text kind ≡ true
commas_are_text CommaExpected e = refl
commas_are_text _ e = absurd (true≢false (sym e))

-- what is about the gap before the first token, or about a whole rule, is reported with no text of the line and about no value
pub prefixes_are_none : (kind : MessageKind) → is_about_leading_commas kind ≡ true → (is_about_text kind ≡ false) × (is_about_value kind ≡ false)
prefixes_are_none LeadingComma e = (refl, refl)
prefixes_are_none _ e = absurd (true≢false (sym e))

pub wholes_are_none : (kind : MessageKind) → is_about_rule kind ≡ true → (is_about_text kind ≡ false) × (is_about_value kind ≡ false)
wholes_are_none LineTooLong e = (refl, refl)
wholes_are_none RuleWithoutEffect e = (refl, refl)
wholes_are_none _ e = absurd (true≢false (sym e))

pub values_are_no_text : (kind : MessageKind) → is_about_value kind ≡ true → is_about_text kind ≡ false
values_are_no_text BadValue e = refl
values_are_no_text BadSubstitution e = refl
values_are_no_text SetNotSupported e = refl
values_are_no_text GivenTwice e = refl
values_are_no_text NoLaterLabel e = refl
values_are_no_text LabelUnused e = refl
values_are_no_text NameWithoutEffect e = refl
values_are_no_text UnknownBuiltin e = refl
values_are_no_text OldSubsystemName e = refl
values_are_no_text UnknownAccount e = refl
values_are_no_text _ e = absurd (true≢false (sym e))

-- what is reported with a text of the line
pub text_in_place : (line : List ℕ) (s : Spot MessageKind) → is_about_text s.kind ≡ true → IsTextThere line s → FollowsTokens line s → IsPresent line s
text_in_place line s e there following = (
  there,
  λ t h. absurd (true≢false (sym e ∙ values_are_no_text s.kind t)),
  following,
  λ t. absurd (true≢false (sym e ∙ (prefixes_are_none s.kind t).0)),
  λ t. absurd (true≢false (sym e ∙ (wholes_are_none s.kind t).0)),
)

-- what is about a value
pub quoted_in_place : (line : List ℕ) (s : Spot MessageKind) → is_about_value s.kind ≡ true → IsQuotedThere line s → IsPresent line s
quoted_in_place line s e quoted = (
  λ t h. absurd (true≢false (sym t ∙ values_are_no_text s.kind e)),
  quoted,
  λ t h. absurd (true≢false (sym (commas_are_text s.kind t) ∙ values_are_no_text s.kind e)),
  λ t. absurd (true≢false (sym e ∙ (prefixes_are_none s.kind t).1)),
  λ t. absurd (true≢false (sym e ∙ (wholes_are_none s.kind t).1)),
)

-- what is about the gap before the first token
pub prefix_in_place : (line : List ℕ) (size : ℕ) → IsBeforeTokens line 0 size → IsPresent line (spot LeadingComma [] 0 size)
prefix_in_place line size h = (λ t g. absurd (true≢false (sym t)), λ t g. absurd (true≢false (sym t)), λ t g. absurd (true≢false (sym t)), λ t. h, λ t. absurd (true≢false (sym t)))

-- what is about a whole rule
pub whole_in_place : (line : List ℕ) (kind : MessageKind) → is_about_rule kind ≡ true → is_about_leading_commas kind ≡ false → IsPresent line (spot kind [] 0 (length line))
whole_in_place line kind e f = (
  λ t h. absurd (true≢false (sym t ∙ (wholes_are_none kind e).0)),
  λ t h. absurd (true≢false (sym t ∙ (wholes_are_none kind e).1)),
  λ t h. absurd (true≢false (sym (commas_are_text kind t) ∙ (wholes_are_none kind e).0)),
  λ t. absurd (true≢false (sym t ∙ f)),
  λ t. (refl, refl),
)

pub both : (line : List ℕ) (xs ys : List (Spot MessageKind)) → AllPresent line xs → AllPresent line ys → AllPresent line (xs ++ ys)
both line [] ys h g = g
both line (x ∷ xs) ys h g = (h.0, both line xs ys h.1 g)

pub one_or_none : (line : List ℕ) (b : Bool) (s : Spot MessageKind) → IsPresent line s → AllPresent line (cond b (s ∷ []) [])
one_or_none line true s h = (h, tt)
one_or_none line false s h = tt

pub none_or_one : (line : List ℕ) (b : Bool) (s : Spot MessageKind) → IsPresent line s → AllPresent line (cond b [] (s ∷ []))
none_or_one line true s h = tt
none_or_one line false s h = (h, tt)

-- a key
pub key_in_place : (line : List ℕ) (kind : MessageKind) (t : Placed) → IsSlice line t → is_about_text kind ≡ true → IsPresent line (key_spot kind t)
key_in_place line kind t slice e =
    let some = slice.whole.head.some_key in
    text_in_place line (key_spot kind t) e (λ t h. (refl, slice.key)) (λ t h. let none = ap (λ (x : List ℕ). length x) h in absurd (omega (arith, some, none)))

-- the byte that a text begins with, and the one after its front
pub first_byte : (b : ℕ) (rest text : List ℕ) (m : ℕ) → take (suc m) text ≡ b ∷ rest → take 1 text ≡ b ∷ []
first_byte b rest [] m e = cc
first_byte b rest (x ∷ text) m e = cc

pub last_byte : (b : ℕ) (prefix text : List ℕ) → take (length (prefix ++ b ∷ [])) text ≡ prefix ++ b ∷ [] → take 1 (drop (length prefix) text) ≡ b ∷ []
last_byte b [] text h = first_byte b [] text 0 h
last_byte b (f ∷ prefix) [] h = cc
last_byte b (f ∷ prefix) (x ∷ text) h = last_byte b prefix text (ap (drop 1) h)

pub after_first : (b n : ℕ) (rest text : List ℕ) → take (suc n) text ≡ b ∷ rest → take n (drop 1 text) ≡ rest
after_first b n rest [] e = cc
after_first b n rest (x ∷ text) e = ap (drop 1) e

-- a text between two bytes that enclose it
pub enclosed : (line text : List ℕ) (opening closing at : ℕ) → take (length (opening ∷ text ++ closing ∷ [])) (drop at line) ≡ opening ∷ text ++ closing ∷ [] → take (length text) (drop (at + 1) line) ≡ text
enclosed line text opening closing at h =
    let all = text ++ closing ∷ [] in
    let more : length text ≤ length all = let long = length-append text (closing ∷ []) in omega (arith, long) in
    ap (take (length text)) (sym (drop-drop 1 at line))
    ∙ sym (take-take (length text) (length all) (drop 1 (drop at line)) more)
    ∙ ap (take (length text)) (after_first opening (length all) all (drop at line) h)
    ∙ take_at text (closing ∷ []) (length text) refl

-- an attribute
pub attribute_shown : (line : List ℕ) (at : ℕ) (a : Option (List ℕ)) → IsSliceAt line at (attribute_text a) → 0 < length (attribute_bytes a) → take (length (attribute_bytes a)) (drop (at + 1) line) ≡ attribute_bytes a
attribute_shown line at None h some = absurd (omega (arith, some))
attribute_shown line at (Some name) h some = enclosed line name open_brace close_brace at h

pub attribute_in_place : (line : List ℕ) (kind : MessageKind) (t : Placed) → IsSlice line t → is_about_text kind ≡ true → is_about_commas kind ≡ false → IsPresent line (attribute_spot kind t)
attribute_in_place line kind t slice e f =
    text_in_place line (attribute_spot kind t) e (λ reported some. (refl, attribute_shown line (t.span.start + length t.parts.head.key) t.parts.head.attribute slice.attribute some)) (λ reported none. absurd (true≢false (sym reported ∙ f)))

-- a text between quotes
pub quotes : (line value : List ℕ) (opens : ℕ) → escapes_quotes double_quote value ≡ true → take (length (double_quote ∷ value ++ double_quote ∷ [])) (drop opens line) ≡ double_quote ∷ value ++ double_quote ∷ [] → IsQuoted line (opens + 1) (length value)
quotes line value opens g h =
    let prefix = double_quote ∷ value in
    let first : opens + 1 - 1 ≡ opens = omega arith in
    let last : opens + length prefix ≡ opens + 1 + length value = omega arith in
    record {
      opens = ap (λ (n : ℕ). take 1 (drop n line)) first ∙ first_byte double_quote (value ++ double_quote ∷ []) (drop opens line) (length (value ++ double_quote ∷ [])) h;
      closes = ap (λ (n : ℕ). take 1 (drop n line)) (sym last) ∙ ap (take 1) (sym (drop-drop (length prefix) opens line)) ∙ last_byte double_quote prefix (drop opens line) h;
      within = ap (escapes_quotes double_quote) (enclosed line value double_quote double_quote opens h) ∙ g;
    }

-- a value
pub value_quoted : (line : List ℕ) (t : Placed) → IsSlice line t → IsQuoted line (value_start t) (length t.parts.value)
value_quoted line t slice =
    let more : length (t.parts.value ++ double_quote ∷ []) ≡ length t.parts.value + length (double_quote ∷ []) = length-append t.parts.value (double_quote ∷ []) in
    let at : value_start t ≡ slice.opens + 1 = omega (arith, more, slice.closes) in
    subst (λ (n : ℕ). IsQuoted line n (length t.parts.value)) (sym at) (quotes line t.parts.value slice.opens (value_escaped (has_escapes t.parts.quote) slice.whole.pieces t.parts.value double_quote slice.whole.value) slice.value)

pub value_in_place : (line : List ℕ) (kind : MessageKind) (word : List ℕ) (t : Placed) → IsSlice line t → is_about_value kind ≡ true → IsPresent line (value_spot kind word t)
value_in_place line kind word t slice e = quoted_in_place line (value_spot kind word t) e (λ reported name. value_quoted line t slice)

-- what is wrong with a key or with an attribute is reported with it
pub keys_are_text : (kind : MessageKind) → is_of_key kind ≡ true → is_about_text kind ≡ true
keys_are_text UnknownKey e = refl
keys_are_text WrongAttribute e = refl
keys_are_text OperatorNotAllowed e = refl
keys_are_text _ e = absurd (true≢false (sym e))

pub attributes_are_text : (kind : MessageKind) → is_of_attribute kind ≡ true → (is_about_text kind ≡ true) × (is_about_commas kind ≡ false)
attributes_are_text ReservedProperty e = (refl, refl)
attributes_are_text _ e = absurd (true≢false (sym e))

pub part_in_place : (line : List ℕ) (kind : MessageKind) (t : Placed) → IsSlice line t → is_of_token kind ≡ true → IsPresent line (part_spot kind t)
part_in_place line kind t slice e = by (is_of_key kind) (is_of_attribute kind) refl refl e
  where
    by : (k a : Bool) → is_of_key kind ≡ k → is_of_attribute kind ≡ a → (k || (a || is_about_value kind)) ≡ true → IsPresent line (cond k (key_spot kind t) (cond a (attribute_spot kind t) (value_spot kind (meaning_of t) t)))
    by true a f g h = key_in_place line kind t slice (keys_are_text kind f)
    by false true f g h = let text = attributes_are_text kind g in attribute_in_place line kind t slice text.0 text.1
    by false false f g h = value_in_place line kind (meaning_of t) t slice h

pub token_in_place : (kind : TokenFaultKind) (at : ℕ) (line : List ℕ) → at ≤ length line → IsFault (drop at line) kind → IsPresent line (token_spot kind at line)
token_in_place Syntax at line within fault =
    text_in_place line (token_spot Syntax at line) refl (λ e h. (refl, take_all (length (drop at line)) (drop at line) (le_refl (length (drop at line))))) (λ e h. absurd (true≢false (sym e)))
token_in_place Prefix at line within fault = text_in_place line (token_spot Prefix at line) refl (λ e h. (refl, letters_in_place line at within fault)) (λ e h. absurd (true≢false (sym e)))
