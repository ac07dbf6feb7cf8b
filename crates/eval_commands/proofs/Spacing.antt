-- A command without quotes: reading it byte by byte gives the words between its spaces.
use Rattle.std.proofs.Common.{◌≡◌, ℕ, suc, ◌+◌, ◌==◌, false, true, List, [], ◌∷◌, ◌++◌, take, drop, fold, refl, ap, sym, ◌∙◌, append_assoc, append-nil, add-one, arith}
use Rattle.std.proofs.lemmas.Bool.{ne_eqb}
use Rattle.std.specs.Prelude.{Bool, ◌||◌, Option, Some, None}
use Rattle.std.specs.List.{list_any, prefix_len}
use Rattle.text_bytes.specs.Names.{space}
use Rattle.text_bytes.specs.declared.profile.Profile.TheVariants.{Manual}
use Rattle.text_bytes.specs.Text.{Text}
use Rattle.eval_commands.specs.Unquoted.{first_and_others, is_inside, spaced_words, words_from}
use Rattle.eval_commands.specs.Words.{Cut, command_words, finished_words, is_quote, took}
use Rattle.eval_commands.specs.declared.words.Place.TheVariants.{Between, InWord}

one_plus : (n : ℕ) → 1 + n ≡ suc n
one_plus n = omega arith

-- a space before the first word
skipped : (b : ℕ) (text : Text) → (b == space) ≡ true → words_from None (b ∷ text) ≡ words_from None text
skipped b text e = rw e refl

-- a word goes on to the first space
go_on : (test : Bool) (b : ℕ) (word text : Text) → (b == space) ≡ test
    → words_from (Some (word ++ b ∷ [])) text ≡ ((word ++ b ∷ []) ++ take (prefix_len is_inside text) text) ∷ words_from None (drop (prefix_len is_inside text) text)
    → words_from (Some word) (b ∷ text) ≡ (word ++ take (prefix_len is_inside (b ∷ text)) (b ∷ text)) ∷ words_from None (drop (prefix_len is_inside (b ∷ text)) (b ∷ text))
go_on true b word text e more = rw (e, append-nil) (ap (λ words. word ∷ words) (sym (skipped b text e)))
go_on false b word text e more = rw (e, one_plus (prefix_len is_inside text)) (more ∙ ap (λ t. t ∷ words_from None (drop (prefix_len is_inside text) text)) (append_assoc word (b ∷ []) (take (prefix_len is_inside text) text)))

pub word_ends : (word text : Text) → words_from (Some word) text ≡ (word ++ take (prefix_len is_inside text) text) ∷ words_from None (drop (prefix_len is_inside text) text)
word_ends word [] = rw append-nil refl
word_ends word (b ∷ text) = go_on (b == space) b word text refl (word_ends (word ++ b ∷ []) text)

-- a text that begins with a byte of a word
begins_as : (b : ℕ) (text : Text) → (b == space) ≡ false → spaced_words (b ∷ text) ≡ words_from (Some (b ∷ [])) text
begins_as b text e = rw e refl

-- the first word of such a text, and the others
pub word_first : (b : ℕ) (text : Text) → (b == space) ≡ false
    → first_and_others (spaced_words (b ∷ text)) ≡ Some (b ∷ take (prefix_len is_inside text) text, spaced_words (drop (prefix_len is_inside text) text))
word_first b text e = ap first_and_others (begins_as b text e ∙ word_ends (b ∷ []) text)

-- the same of a text whose first byte is known
pub cut_is : (whole rest after : Text) (b n : ℕ) (word left : Text) → spaced_words rest ≡ spaced_words whole → rest ≡ b ∷ after → (b ≡ 32 → ⊥) → n ≡ prefix_len is_inside after
    → word ≡ take (n + 1) rest → left ≡ drop (n + 1) rest → Some (word, spaced_words left) ≡ first_and_others (spaced_words whole)
cut_is whole rest after b n word left same first apart count front back =
    rw (front, back, ← same, first, add-one, count) (sym (word_first b after (ne_eqb b 32 apart)))

-- a command that was read up to a place between words, or in a word
abbrev between : (word : Text) → (words : List Text) → Cut
between word words = record { place = Between; word = word; words = words }

abbrev inside : (word : Text) → (words : List Text) → Cut
inside word words = record { place = InWord; word = word; words = words }

-- what one byte does that is not a quote
stays : (b : ℕ) (word : Text) (words : List Text) → (b == space) ≡ true → took Manual (between word words) b ≡ between word words
stays b word words e = rw e refl

begins : (b : ℕ) (word : Text) (words : List Text) → (b == space) ≡ false → is_quote b ≡ false → took Manual (between word words) b ≡ inside (b ∷ []) words
begins b word words e q = rw (e, q) refl

ends : (b : ℕ) (word : Text) (words : List Text) → (b == space) ≡ true → took Manual (inside word words) b ≡ between word (words ++ word ∷ [])
ends b word words e = rw e refl

goes : (b : ℕ) (word : Text) (words : List Text) → (b == space) ≡ false → is_quote b ≡ false → took Manual (inside word words) b ≡ inside (word ++ b ∷ []) words
goes b word words e q = rw (e, q) refl

-- the same of the words between spaces
ends_as : (b : ℕ) (word text : Text) → (b == space) ≡ true → words_from (Some word) (b ∷ text) ≡ word ∷ words_from None text
ends_as b word text e = rw e refl

goes_as : (b : ℕ) (word text : Text) → (b == space) ≡ false → words_from (Some word) (b ∷ text) ≡ words_from (Some (word ++ b ∷ [])) text
goes_as b word text e = rw e refl

-- reading a text to its end gives the words before it and its own
record Reads (text : Text) : Type 0 where
  out : (word : Text) (words : List Text) → finished_words (fold (took Manual) (between word words) text) ≡ Some (words ++ words_from None text)
  within : (word : Text) (words : List Text) → finished_words (fold (took Manual) (inside word words) text) ≡ Some (words ++ words_from (Some word) text)

abbrev rest_of : Text → Cut → Option (List Text)
rest_of text cut = finished_words (fold (took Manual) cut text)

out_more : (test : Bool) (b : ℕ) (text : Text) → (b == space) ≡ test → is_quote b ≡ false → Reads text → (word : Text) (words : List Text)
    → finished_words (fold (took Manual) (between word words) (b ∷ text)) ≡ Some (words ++ words_from None (b ∷ text))
out_more true b text e q r word words =
    ap (rest_of text) (stays b word words e) ∙ r.out word words ∙ ap (λ ws. Some (words ++ ws)) (sym (skipped b text e))
out_more false b text e q r word words =
    ap (rest_of text) (begins b word words e q) ∙ r.within (b ∷ []) words ∙ ap (λ ws. Some (words ++ ws)) (sym (begins_as b text e))

within_more : (test : Bool) (b : ℕ) (text : Text) → (b == space) ≡ test → is_quote b ≡ false → Reads text → (word : Text) (words : List Text)
    → finished_words (fold (took Manual) (inside word words) (b ∷ text)) ≡ Some (words ++ words_from (Some word) (b ∷ text))
within_more true b text e q r word words =
    ap (rest_of text) (ends b word words e) ∙ r.out word (words ++ word ∷ []) ∙ ap Some (append_assoc words (word ∷ []) (words_from None text))
    ∙ ap (λ ws. Some (words ++ ws)) (sym (ends_as b word text e))
within_more false b text e q r word words =
    ap (rest_of text) (goes b word words e q) ∙ r.within (word ++ b ∷ []) words ∙ ap (λ ws. Some (words ++ ws)) (sym (goes_as b word text e))

none_first : (a b : Bool) → (a || b) ≡ false → a ≡ false
none_first false b e = refl
none_first true b e = cc

none_later : (a b : Bool) → (a || b) ≡ false → b ≡ false
none_later false b e = e
none_later true b e = cc

reads_more : (b : ℕ) (text : Text) → is_quote b ≡ false → Reads text → Reads (b ∷ text)
reads_more b text q r = record { out = out_more (b == space) b text refl q r; within = within_more (b == space) b text refl q r }

reads : (text : Text) → list_any is_quote text ≡ false → Reads text
reads [] e = record { out = λ word words. ap Some (sym (append-nil words)); within = λ word words. refl }
reads (b ∷ text) e = reads_more b text (none_first (is_quote b) (list_any is_quote text) e) (reads text (none_later (is_quote b) (list_any is_quote text) e))

-- the words of a command without quotes
pub without_quotes : (text : Text) → list_any is_quote text ≡ false → command_words text ≡ Some (spaced_words text)
unfolding command_words
without_quotes text e = (reads text e).out [] []
