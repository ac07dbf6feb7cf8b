-- Which matches and keys come before a line.
use Rattle.std.proofs.Common.{◌≡◌, Bool, true, false, cond, not, ◌&&◌, ◌||◌, List, [], ◌∷◌, ◌++◌, Option, Some, None, fold, refl, ap, sym, ◌∙◌, append_assoc, true≢false}
use Rattle.std.specs.List.{list_any}
use Rattle.text_bytes.specs.Lines.{NumberedLine, numbered_lines}
use Rattle.text_bytes.specs.Names.{space}
use Rattle.text_bytes.specs.Texts.{begins_with, is_empty, unindented}
use Rattle.text_bytes.specs.Text.{Text}
use Rattle.text_tables.specs.Texts.{is_among, same_text, with_text}
use Rattle.text_tables.proofs.Found.{among_added}
use Rattle.hwdb_core.specs.Earlier.{clean, ends_record, has_key, is_comment, is_match, is_property, nothing}
use Rattle.hwdb_core.specs.Lints.{Before, after_line, after_pair, database_lints, line_lints, lints_from, pair_in}

or_false : (a : Bool) → a ≡ (a || false)
or_false true = refl
or_false false = refl

or_more : (a b c : Bool) → ((a || b) || c) ≡ (a || (b || c))
or_more true b c = refl
or_more false b c = refl

neither : (a b : Bool) → (a || b) ≡ false → (a ≡ false) × (b ≡ false)
neither true b h = absurd (true≢false h)
neither false b h = (refl, h)

-- ---- matches

pair_keeps : (before : Before) (pair : Option (Text × Text)) → (after_pair before pair).matches ≡ before.matches
pair_keeps before None = refl
pair_keeps before (Some pair) = refl

match_more : (before : Before) (l : NumberedLine) (text : Text) → is_among (after_line before l).matches text ≡ (is_among before.matches text || is_match text l)
match_more before l text = by (is_comment l) (is_empty (clean l)) (begins_with space (clean l))
  where
    by : (comment empty indented : Bool)
        → is_among (cond comment before (cond empty (record { matches = before.matches; keys = [] }) (cond indented (after_pair before (pair_in (unindented (clean l)))) (record { matches = with_text before.matches (clean l); keys = [] })))).matches text
        ≡ (is_among before.matches text || (not comment && (not empty && (not indented && same_text text (clean l)))))
    by true empty indented = or_false (is_among before.matches text)
    by false true indented = or_false (is_among before.matches text)
    by false false true = ap (λ (matches : List Text). is_among matches text) (pair_keeps before (pair_in (unindented (clean l)))) ∙ or_false (is_among before.matches text)
    by false false false = among_added before.matches (clean l) text

matches_more : (before : Before) (earlier : List NumberedLine) (text : Text) → is_among (fold after_line before earlier).matches text ≡ (is_among before.matches text || list_any (is_match text) earlier)
matches_more before [] text = or_false (is_among before.matches text)
matches_more before (l ∷ earlier) text =
    matches_more (after_line before l) earlier text
    ∙ ap (λ (b : Bool). b || list_any (is_match text) earlier) (match_more before l text)
    ∙ or_more (is_among before.matches text) (is_match text l) (list_any (is_match text) earlier)

pub all_matches : (earlier : List NumberedLine) (text : Text) → is_among (fold after_line nothing earlier).matches text ≡ list_any (is_match text) earlier
all_matches earlier text = matches_more nothing earlier text

-- ---- keys

pair_adds : (before : Before) (pair : Option (Text × Text)) (key : Text) → is_among (after_pair before pair).keys key ≡ (is_among before.keys key || has_key key pair)
pair_adds before None key = or_false (is_among before.keys key)
pair_adds before (Some pair) key = among_added before.keys pair.0 key

key_more : (before : Before) (l : NumberedLine) (key : Text) → ends_record l ≡ false → is_among (after_line before l).keys key ≡ (is_among before.keys key || is_property key l)
key_more before l key h = by (is_comment l) (is_empty (clean l)) (begins_with space (clean l)) h
  where
    by : (comment empty indented : Bool) → (not comment && (empty || not indented)) ≡ false
        → is_among (cond comment before (cond empty (record { matches = before.matches; keys = [] }) (cond indented (after_pair before (pair_in (unindented (clean l)))) (record { matches = with_text before.matches (clean l); keys = [] })))).keys key
        ≡ (is_among before.keys key || (not comment && has_key key (pair_in (unindented (clean l)))))
    by true empty indented e = or_false (is_among before.keys key)
    by false true indented e = absurd (true≢false e)
    by false false false e = absurd (true≢false e)
    by false false true e = pair_adds before (pair_in (unindented (clean l))) key

keys_more : (before : Before) (properties : List NumberedLine) (key : Text) → list_any ends_record properties ≡ false
    → is_among (fold after_line before properties).keys key ≡ (is_among before.keys key || list_any (is_property key) properties)
keys_more before [] key h = or_false (is_among before.keys key)
keys_more before (l ∷ properties) key h =
    let none = neither (ends_record l) (list_any ends_record properties) h in
    keys_more (after_line before l) properties key none.1
    ∙ ap (λ (b : Bool). b || list_any (is_property key) properties) (key_more before l key none.0)
    ∙ or_more (is_among before.keys key) (is_property key l) (list_any (is_property key) properties)

-- a line that ends a record leaves no key
no_keys : (before : Before) (l : NumberedLine) → ends_record l ≡ true → (after_line before l).keys ≡ []
no_keys before l h = by (is_comment l) (is_empty (clean l)) (begins_with space (clean l)) h
  where
    by : (comment empty indented : Bool) → (not comment && (empty || not indented)) ≡ true
        → (cond comment before (cond empty (record { matches = before.matches; keys = [] }) (cond indented (after_pair before (pair_in (unindented (clean l)))) (record { matches = with_text before.matches (clean l); keys = [] })))).keys ≡ []
    by true empty indented e = absurd (true≢false (sym e))
    by false true indented e = refl
    by false false true e = absurd (true≢false (sym e))
    by false false false e = refl

fold_after : (before : Before) (earlier later : List NumberedLine) → fold after_line before (earlier ++ later) ≡ fold after_line (fold after_line before earlier) later
fold_after before [] later = refl
fold_after before (l ∷ earlier) later = fold_after (after_line before l) earlier later

pub record_keys : (earlier properties : List NumberedLine) (l : NumberedLine) (key : Text) → ends_record l ≡ true → list_any ends_record properties ≡ false
    → is_among (fold after_line nothing (earlier ++ l ∷ properties)).keys key ≡ list_any (is_property key) properties
record_keys earlier properties l key ends none =
    let before : Before = fold after_line nothing earlier in
    ap (λ (b : Before). is_among b.keys key) (fold_after nothing earlier (l ∷ properties))
    ∙ keys_more (after_line before l) properties key none
    ∙ ap (λ (keys : List Text). is_among keys key || list_any (is_property key) properties) (no_keys before l ends)

-- ---- lines

lints_after : (before : Before) (earlier later : List NumberedLine) (l : NumberedLine)
    → lints_from before (earlier ++ l ∷ later) ≡ lints_from before earlier ++ (line_lints (fold after_line before earlier) l ++ lints_from (after_line (fold after_line before earlier) l) later)
lints_after before [] later l = refl
lints_after before (k ∷ earlier) later l =
    ap (λ more. line_lints before k ++ more) (lints_after (after_line before k) earlier later l)
    ∙ sym (append_assoc (line_lints before k) (lints_from (after_line before k) earlier)
    (line_lints (fold after_line (after_line before k) earlier) l ++ lints_from (after_line (fold after_line (after_line before k) earlier) l) later))

pub file_lints : (bytes : Text) (earlier later : List NumberedLine) (l : NumberedLine) → numbered_lines bytes ≡ earlier ++ l ∷ later
    → database_lints bytes ≡ lints_from nothing earlier ++ (line_lints (fold after_line nothing earlier) l ++ lints_from (after_line (fold after_line nothing earlier) l) later)
unfolding database_lints
file_lints bytes earlier later l e = ap (lints_from nothing) e ∙ lints_after nothing earlier later l
