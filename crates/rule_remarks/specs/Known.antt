-- Serves inner proofs only: what is known of the tokens after one, by which most of them need not be compared with it.
use Rattle.std.specs.Prelude.{◌≡◌, ℕ, Bool, true, false, not, ◌&&◌, ◌||◌, if◌then◌else◌, List, [], ◌∷◌, ◌++◌, Option, Some, None, filter, fold, map, unwrap_or, pos, slice_get}
use Rattle.std.specs.Int.{cast_unsigned, to_be_bytes, w64}
use Rattle.std.specs.List.{list_all, list_any}
use Rattle.text_bytes.specs.Text.{Text}
use Rattle.text_tables.specs.Texts.{is_among, with_text, with_texts}
use Rattle.text_tables.specs.Pairs.{value_of, with_value}
use Rattle.rule_tokens.specs.Grammar.{compares}
use Rattle.rule_tokens.specs.declared.kinds.Operator.{Operator}
use Rattle.rule_tokens.specs.declared.kinds.Operator.TheVariants as op
use Rattle.rule_remarks.specs.Relations.{beginning, is_strict, lacks_words}
use Rattle.rule_remarks.specs.Said.{Said, opposite}
use Rattle.rule_remarks.specs.Pairs.{is_reported}
use Rattle.rule_remarks.specs.declared.form.Form.{Form}
use Rattle.rule_remarks.specs.declared.form.Form.TheVariants as form
use Rattle.rule_remarks.specs.declared.pair_finding.PairFinding.{PairFinding}
use Rattle.rule_remarks.specs.declared.pair_finding.PairKind.TheVariants.{Same, Against}

-- what is known of tokens: for each of them its key, and its key before each of its words; and for each key the texts that
-- all tokens reach that have it
pub record Known : Type 0 where
  pub texts : List Text
  pub shared : List (Text × List Text)

-- nothing is known
abbrev pub nothing_known : Known
nothing_known = record { texts = []; shared = [] }

-- a number for each operator
abbrev pub operator_code : Operator → ℕ
operator_code op.Equal = 0
operator_code op.NotEqual = 1
operator_code op.Add = 2
operator_code op.Remove = 3
operator_code op.AssignFinal = 4
operator_code op.Assign = 5

-- a number for each form
abbrev pub form_code : Form → ℕ
form_code form.AnySubsystem = 0
form_code form.Empty = 1
form_code form.Plain = 2
form_code form.Pattern = 3
form_code form.PlainOrEmpty = 4
form_code form.PatternOrEmpty = 5
form_code form.Whole = 6

-- a number for each answer
abbrev pub bool_code : Bool → ℕ
bool_code b = if b then 1 else 0

-- the text under which tokens are found that are of one matter, compare in one way and have an operator
unfoldable pub key_of : Said → Operator → Text
key_of s o =
    (((s.key ++ s.kind) ++ s.name) ++ to_be_bytes w64 (cast_unsigned w64 (unwrap_or s.number (pos 0))))
    ++ form_code s.form ∷ bool_code s.blind ∷ bool_code s.trims ∷ operator_code o ∷ []

-- texts, and a key before each of these words
abbrev pub with_words : Text → List Text → List Text → List Text
with_words key texts words = fold (λ texts word. with_text texts (key ++ word)) texts words

-- what a word reaches: of a pattern only what is before its first `*`, `?` or `[` counts
abbrev pub reached : Form → Text → Text
reached form.Pattern word = beginning word
reached _ word = word

-- what the words of a token reach
abbrev pub reach_of : Said → List Text
reach_of s = with_texts [] (map (reached s.form) s.words)

-- what tokens share, if there are any, that one more reaches, too
abbrev pub shared_with : Option (List Text) → List Text → List Text
shared_with None reach = reach
shared_with (Some shared) reach = with_texts [] (filter (is_among reach) shared)

-- what is known with one more token
abbrev pub with_token : Known → Said → Known
with_token known s = record {
  texts = with_words (key_of s s.operator) (with_text known.texts (key_of s s.operator)) s.words;
  shared = with_value known.shared (key_of s s.operator) (shared_with (value_of known.shared (key_of s s.operator)) (reach_of s));
}

-- the same for a token that may not be compared with others
abbrev pub with_option : Known → Option Said → Known
with_option known None = known
with_option known (Some s) = with_token known s

-- what is known of tokens
abbrev pub known_of : List (Option Said) → Known
known_of [] = nothing_known
known_of (t ∷ tokens) = with_option (known_of tokens) t

-- whether there may be a token that is like this one and has an operator
abbrev pub may_be_like : Known → Said → Operator → Bool
may_be_like known s o = is_among known.texts (key_of s o) && (lacks_words s || list_all (λ word. is_among known.texts (key_of s o ++ word)) s.words)

-- whether there are tokens that share something, and nothing of that is reached
abbrev pub lets_out : Option (List Text) → List Text → Bool
lets_out None reach = false
lets_out (Some shared) reach = not (list_any (is_among shared) reach)

-- whether tokens of a form exclude each other by their words
abbrev pub is_by_words : Form → Bool
is_by_words form.Plain = true
is_by_words form.Pattern = true
is_by_words _ = false

-- whether there may be a token whose words exclude those of this one
abbrev pub may_be_apart : Known → Said → Bool
may_be_apart known s = (is_strict s && is_by_words s.form) && lets_out (value_of known.shared (key_of s s.operator)) (reach_of s)

-- whether there may be a token that excludes this one
abbrev pub may_exclude : Known → Said → Bool
may_exclude known s = (compares s.operator && may_be_like known s (opposite s.operator)) || may_be_apart known s

-- whether there may be a token that says the same as this one, and one that excludes it
abbrev pub chance_of : Known → Option Said → Bool × Bool
chance_of known None = (false, false)
chance_of known (Some s) = (may_be_like known s s.operator, may_exclude known s)

-- for each token, the last one first, whether there may be such tokens after it
abbrev pub chances_of : List (Option Said) → List (Bool × Bool)
chances_of [] = []
chances_of (t ∷ tokens) = chances_of tokens ++ chance_of (known_of tokens) t ∷ []

-- what may be there after tokens is known of none of them, or of some
pub record AreChances (chances : List (Bool × Bool)) (tokens : List (Option Said)) : Type 0 where
  pub known : (i : ℕ) (chance : Bool × Bool) → slice_get chances i ≡ Some chance → slice_get (chances_of tokens) i ≡ Some chance

-- whether a token may add to what is reported
abbrev pub may_add : Option (Bool × Bool) → List PairFinding → Bool
may_add None reported = true
may_add (Some chance) reported = (chance.0 && not (is_reported Same reported)) || (chance.1 && not (is_reported Against reported))
