-- The words of a text are the texts between its bars, and two lists of the same words are one set.
use Rattle.std.proofs.Common.{◌≡◌, Bool, true, false, cond, not, ◌&&◌, ◌||◌, List, [], ◌∷◌, fold, refl, ap, sym, ◌∙◌, true≢false}
use Rattle.std.specs.Cmp.Lexicographic.{bytes_decides}
use Rattle.std.specs.List.{list_all, slice_split}
use Rattle.std.specs.Prelude.{◌↔◌}
use Rattle.text_core.specs.Choices.{is_bar}
use Rattle.text_bytes.specs.Text.{Text}
use Rattle.text_tables.specs.Texts.{is_among, same_text, with_text}
use Rattle.text_tables.proofs.Found.{among_added}
use Rattle.text_bytes.specs.Texts.{is_empty}
use Rattle.rule_remarks.specs.Relations.{same_words}
use Rattle.rule_remarks.specs.Words.{parts_of, with_word}
use Rattle.rule_remarks.proofs.Beginnings.{first_holds, second_holds}
use Rattle.rule_remarks.proofs.Likeness.{both_or_none}

pub text_is : (a b : Text) → same_text a b ≡ true → a ≡ b
text_is a b h = (bytes_decides a b).0 h

pub text_itself : (a : Text) → same_text a a ≡ true
text_itself a = (bytes_decides a a).1 refl

-- a word that was added is there unless it is empty
word_added : (words : List Text) (part word : Text) → is_among (with_word words part) word ≡ (is_among words word || (not (is_empty word) && same_text word part))
word_added words part word = by (is_empty part) refl
  where
    or_false : (a : Bool) → a ≡ (a || false)
    or_false true = refl
    or_false false = refl

    and_false : (a : Bool) → (a && false) ≡ false
    and_false true = refl
    and_false false = refl

    distinguished : (b : Bool) → same_text word part ≡ b → is_empty part ≡ true → (not (is_empty word) && b) ≡ false
    distinguished true q e = ap (λ (x : Bool). not x && true) (ap is_empty (text_is word part q) ∙ e)
    distinguished false q e = and_false (not (is_empty word))

    reported_there : (b : Bool) → same_text word part ≡ b → is_empty part ≡ false → (not (is_empty word) && b) ≡ b
    reported_there true q e = ap (λ (x : Bool). not x && true) (ap is_empty (text_is word part q) ∙ e)
    reported_there false q e = and_false (not (is_empty word))

    by : (b : Bool) → is_empty part ≡ b → is_among (cond b words (with_text words part)) word ≡ (is_among words word || (not (is_empty word) && same_text word part))
    by true e = or_false (is_among words word) ∙ ap (λ (x : Bool). is_among words word || x) (sym (distinguished (same_text word part) refl e))
    by false e = among_added words part word ∙ ap (λ (x : Bool). is_among words word || x) (sym (reported_there (same_text word part) refl e))

words_after : (words parts : List Text) (word : Text) → is_among (fold with_word words parts) word ≡ (is_among words word || (not (is_empty word) && is_among parts word))
words_after words [] word = none (is_among words word) (not (is_empty word))
  where
    none : (a b : Bool) → a ≡ (a || (b && false))
    none true b = refl
    none false true = refl
    none false false = refl
words_after words (part ∷ parts) word =
    words_after (with_word words part) parts word
    ∙ ap (λ (x : Bool). x || (not (is_empty word) && is_among parts word)) (word_added words part word)
    ∙ joined (is_among words word) (not (is_empty word)) (same_text word part) (is_among parts word)
  where
    joined : (a b c d : Bool) → ((a || (b && c)) || (b && d)) ≡ (a || (b && (c || d)))
    joined true b c d = refl
    joined false false c d = refl
    joined false true c d = refl

-- a word is just a text between bars that is not empty
pub words_between : (text word : Text) → is_among (parts_of text) word ≡ (not (is_empty word) && is_among (slice_split is_bar text) word)
words_between text word = words_after [] (slice_split is_bar text) word

all_there : (ws vs : List Text) → list_all (is_among vs) ws ≡ true → (word : Text) → is_among ws word ≡ true → is_among vs word ≡ true
all_there [] vs h word e = absurd (true≢false (sym e))
all_there (w ∷ ws) vs h word e = by (same_text word w) refl (all_there ws vs (second_holds (is_among vs w) (list_all (is_among vs) ws) h) word) e
  where
    by : (b : Bool) → same_text word w ≡ b → (is_among ws word ≡ true → is_among vs word ≡ true) → (b || is_among ws word) ≡ true → is_among vs word ≡ true
    by true q rest f = ap (is_among vs) (text_is word w q) ∙ first_holds (is_among vs w) (list_all (is_among vs) ws) h
    by false q rest f = rest f

there_all : (ws vs : List Text) → ((word : Text) → is_among ws word ≡ true → is_among vs word ≡ true) → list_all (is_among vs) ws ≡ true
there_all [] vs f = refl
there_all (w ∷ ws) vs f =
    ap (λ (b : Bool). b && list_all (is_among vs) ws) (f w (ap (λ (b : Bool). b || is_among ws w) (text_itself w)))
    ∙ there_all ws vs (λ word e. f word (following (same_text word w) (is_among ws word) e))
  where
    following : (a b : Bool) → b ≡ true → (a || b) ≡ true
    following true b e = refl
    following false b e = e

-- two lists have the same words exactly if the same words are among them
pub one_set : (ws vs : List Text) → (same_words ws vs ≡ true) ↔ ((word : Text) → is_among ws word ≡ is_among vs word)
one_set ws vs = (
  λ h word. both_or_none (is_among ws word) (is_among vs word)
      (all_there ws vs (first_holds (list_all (is_among vs) ws) (list_all (is_among ws) vs) h) word)
      (all_there vs ws (second_holds (list_all (is_among vs) ws) (list_all (is_among ws) vs) h) word),
  λ f. ap (λ (b : Bool). b && list_all (is_among ws) vs) (there_all ws vs (λ word e. sym (f word) ∙ e))
      ∙ there_all vs ws (λ word e. f word ∙ e),
)
