-- How versions follow one another, as `systemd-analyze compare-versions` tells it, and what KernelVersion asks of one.
use Rattle.std.specs.Prelude.{ℕ, zero, suc, ◌+◌, ◌==◌, Bool, true, false, not, ◌&&◌, ◌||◌, if◌then◌else◌, List, [], ◌∷◌, ◌++◌, Option, Some, None, codes, drop, length, take}
use Rattle.std.specs.Prelude.{option_and_then}
use Rattle.std.specs.Bool.{beq}
use Rattle.std.specs.Char.{is_ascii_alphabetic}
use Rattle.std.specs.Int.{to_be_bytes, w64}
use Rattle.std.specs.Cmp.Lexicographic.{slice_cmp}
use Rattle.std.specs.List.{list_any, prefix_len}
use Rattle.std.specs.Option.{option_map_or}
use Rattle.std.specs.Ordering.{is_eq, is_gt, is_lt, nat_cmp}
use Rattle.std.specs.declared.cmp.Ordering.{Ordering}
use Rattle.text_bytes.specs.Names.{caret, digit_zero, dot, minus}
use Rattle.text_bytes.specs.Numbers.{is_digit}
use Rattle.text_bytes.specs.Text.{Text}
use Rattle.text_bytes.specs.Texts.{begins_with, following, is_empty}
use Rattle.text_tables.specs.Texts.{same_text}
use Rattle.link_files.specs.Lines.{from_start, stripped}
use Rattle.link_files.specs.Words.{is_whole, words_of}
use Rattle.link_files.specs.declared.words.WordKind.TheVariants.{Property}
use Rattle.builtin_link.specs.Globs.{fits_glob}
use Rattle.builtin_link.specs.declared.versions.ByteKind.{ByteKind}
use Rattle.builtin_link.specs.declared.versions.ByteKind.TheVariants.{Digit, Letter, Separator, Zero}
use Rattle.builtin_link.specs.declared.versions.Relation.{Relation}
use Rattle.builtin_link.specs.declared.versions.Relation.TheVariants.{After, Before, Fits, Is, Same}

-- the sign of what comes before a version
abbrev pub tilde : ℕ
tilde = 126

-- whether a byte of a version is of a kind; all that is none of the others separates
abbrev pub is_of : ByteKind → ℕ → Bool
is_of Digit b = is_digit b
is_of Zero b = b == digit_zero
is_of Letter b = is_ascii_alphabetic b
is_of Separator b = not (is_digit b || (is_ascii_alphabetic b || list_any (λ sign. b == sign) (codes "~-^.")))

-- the bytes of a kind at the front of a text, and what follows them
abbrev pub front_of : ByteKind → Text → Text
front_of kind text = take (prefix_len (is_of kind) text) text

abbrev pub after_front : ByteKind → Text → Text
after_front kind text = drop (prefix_len (is_of kind) text) text

-- the rank that a sign gives: what begins with it comes before what does not
abbrev pub rank : ℕ → Text → ℕ
rank sign text = if begins_with sign text then 0 else 1

-- a text without a sign in front
abbrev pub without : ℕ → Text → Text
without sign text = if begins_with sign text then drop 1 text else text

-- the ranks of the number or the letters at the front of a text: letters come before numbers, and before more letters; a number with
-- more digits, without zeros in front, comes later
abbrev pub word_ranks : Text → List ℕ
word_ranks text =
    if is_empty (front_of Digit text) then (0 ∷ front_of Letter text) ++ 0 ∷ []
    else (1 ∷ to_be_bytes w64 (length (after_front Zero (front_of Digit text)))) ++ after_front Zero (front_of Digit text)

-- what follows them
abbrev pub after_word : Text → Text
after_word text = if is_empty (front_of Digit text) then after_front Letter text else after_front Digit text

-- the ranks of a part: its signs in turn, and then a number or letters
abbrev pub part_ranks : Text → List ℕ
part_ranks text =
    rank minus text ∷ rank caret (without minus text) ∷ rank dot (without caret (without minus text))
    ∷ word_ranks (without dot (without caret (without minus text)))

-- the parts after it
abbrev pub later_parts : Text → Text
later_parts text = after_front Separator (after_word (without dot (without caret (without minus text))))

-- the ranks of so many parts: what begins with `~` comes before the end, and all else after it
abbrev pub ranks_of : ℕ → Text → List ℕ
ranks_of zero text = []
ranks_of (suc n) text =
    rank tilde text ∷ (if is_empty (without tilde text) then 0 ∷ [] else 1 ∷ part_ranks (without tilde text) ++ ranks_of n (later_parts (without tilde text)))

-- the ranks of a version
unfoldable pub version_ranks : Text → List ℕ
version_ranks version = ranks_of (length version + 1) (after_front Separator version)

-- how a version stands to another: by the first rank that differs
abbrev pub version_order : (version other : Text) → Ordering
version_order version other = slice_cmp nat_cmp (version_ranks version) (version_ranks other)

-- whether a version stands in a relation to a text
abbrev pub stands : Relation → (version text : Text) → Bool
stands Fits version text = fits_glob text version
stands Is version text = same_text version text
stands Before version text = is_lt (version_order version text)
stands Same version text = is_eq (version_order version text)
stands After version text = is_gt (version_order version text)

-- what a word asks: whether the version stands in a relation to a text, or does not
pub record Demand : Type 0 where
  pub relation : Relation
  pub wanted : Bool
  pub text : Text

-- the operators, of which the first counts that a word begins with
abbrev pub operators : List (Text × (Relation × Bool))
operators =
    (codes "$=", (Fits, true)) ∷ (codes "!$=", (Fits, false)) ∷ (codes "<>", (Same, false)) ∷ (codes "<=", (After, false)) ∷ (codes "<", (Before, true))
    ∷ (codes ">=", (Before, false)) ∷ (codes ">", (After, true)) ∷ (codes "==", (Same, true)) ∷ (codes "=", (Is, true)) ∷ (codes "!=", (Is, false)) ∷ []

-- what a word asks by these operators; without one, that the version fits it
abbrev pub asked_by : List (Text × (Relation × Bool)) → Text → Demand
asked_by [] word = record { relation = Fits; wanted = true; text = word }
asked_by (o ∷ more) word =
    option_map_or (λ rest. record { relation = o.1.0; wanted = o.1.1; text = from_start rest }) (following o.0 word) (asked_by more word)

abbrev pub asked : Text → Demand
asked word = asked_by operators (stripped word)

-- whether a version is as a word asks
abbrev pub is_as_asked : (version : Text) → Demand → Bool
is_as_asked version a = beq (stands a.relation version a.text) a.wanted

-- whether a version is as each word asks, up to one that it is not; none if an operator before that has no text
abbrev pub is_as_all_ask : (version : Text) → List Text → Option Bool
is_as_all_ask version [] = Some true
is_as_all_ask version (word ∷ words) =
    if is_empty (asked word).text then None else if is_as_asked version (asked word) then is_as_all_ask version words else Some false

-- the same if the next word is the text of an operator
abbrev pub is_as_asked_apart : (version : Text) → Demand → List Text → Option Bool
is_as_asked_apart version a [] = None
is_as_asked_apart version a (word ∷ words) =
    if is_as_asked version (record a { text = word }) then is_as_all_ask version words else Some false

-- the same of words of which the first may be an operator alone
abbrev pub is_as_words_ask : (version : Text) → List Text → Option Bool
is_as_words_ask version [] = Some true
is_as_words_ask version (word ∷ words) =
    if is_empty (asked word).text then is_as_asked_apart version (asked word) words else is_as_all_ask version (word ∷ words)

-- the same of a value; none, too, if it leaves a quote open after all words
abbrev pub is_as_value_asks : (version value : Text) → Option Bool
is_as_value_asks version value =
    option_and_then (λ holds. if holds && not (is_whole Property value) then None else Some holds) (is_as_words_ask version (words_of Property value))
