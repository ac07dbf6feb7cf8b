-- A text is cut into its words at whitespace.
use Rattle.std.proofs.Common.{◌≡◌, ℕ, zero, suc, ◌+◌, ◌||◌, ◌&&◌, Bool, true, false, not, cond, List, [], ◌∷◌, ◌++◌, drop, take, refl, sym, ap, subst, ◌∙◌, append_assoc, true≢false, arith}
use Rattle.std.proofs.lemmas.List.{append-nil, drop-drop, take-append-drop}
use Rattle.std.proofs.lemmas.List.Folds.{list_any-append}
use Rattle.std.specs.List.{join_with_byte, list_all, list_any, onto_first, prefix_len, slice_get, slice_split}
use Rattle.text_bytes.specs.Names.{underscore, is_whitespace}
use Rattle.text_bytes.specs.Texts.{is_empty, skip_while}
use Rattle.text_bytes.specs.Text.{Text}
use Rattle.eval_state.specs.Texts.{or_empty}
use Rattle.text_bytes.specs.Underscores.{underscored, words}
use Rattle.eval_rendering.specs.Words.{from_word, word_at, word_len}
use Rattle.text_bytes.proofs.JoinedWords.{beginning, kept, others, words_begin}
use Rattle.eval_laws.specs.TextWords.{BeginsWithGap, BeginsWithWord, HasNoWhitespace, HasWords, IsEndFromWord, IsGap}

-- ---- a byte more

both : (a b : Bool) → a ≡ true → b ≡ true → (a && b) ≡ true
both true b e f = f
both false b e f = e

neither : (a b : Bool) → a ≡ false → b ≡ false → (a || b) ≡ false
neither false b e f = f
neither true b e f = e

first_of : (a b : Bool) → (a || b) ≡ false → a ≡ false
first_of false b e = refl
first_of true b e = e

rest_of : (a b : Bool) → (a || b) ≡ false → b ≡ false
rest_of false b e = e
rest_of true b e = absurd (true≢false e)

all_first : (a b : Bool) → (a && b) ≡ true → a ≡ true
all_first true b e = refl
all_first false b e = e

all_rest : (a b : Bool) → (a && b) ≡ true → b ≡ true
all_rest true b e = e
all_rest false b e = absurd (true≢false (sym e))

-- what is cut after a byte that is whitespace, and after one that is not
split_at_gap : (b : ℕ) (t : Text) → is_whitespace b ≡ true → slice_split is_whitespace (b ∷ t) ≡ [] ∷ slice_split is_whitespace t
split_at_gap b t e = ap (λ w. cond w ([] ∷ slice_split is_whitespace t) (onto_first b (slice_split is_whitespace t))) e

split_at_word : (b : ℕ) (t : Text) → is_whitespace b ≡ false → slice_split is_whitespace (b ∷ t) ≡ onto_first b (slice_split is_whitespace t)
split_at_word b t e = ap (λ w. cond w ([] ∷ slice_split is_whitespace t) (onto_first b (slice_split is_whitespace t))) e

prefix_onto : (b : ℕ) (parts : List Text) → beginning (onto_first b parts) ≡ b ∷ beginning parts
prefix_onto b [] = refl
prefix_onto b (part ∷ parts) = refl

others_onto : (b : ℕ) (parts : List Text) → others (onto_first b parts) ≡ others parts
others_onto b [] = refl
others_onto b (part ∷ parts) = refl

words_at_gap : (b : ℕ) (t : Text) → is_whitespace b ≡ true → words (b ∷ t) ≡ words t
words_at_gap b t e = ap kept (split_at_gap b t e)

words_at_word : (b : ℕ) (t : Text) → is_whitespace b ≡ false → words (b ∷ t) ≡ (b ∷ beginning (slice_split is_whitespace t)) ∷ kept (others (slice_split is_whitespace t))
words_at_word b t e = ap kept (split_at_word b t e) ∙ words_begin b t

-- ---- words are found

-- whitespace more before the first word
gap_more : (b : ℕ) (t : Text) (found : List Text) → is_whitespace b ≡ true → HasWords t found → HasWords (b ∷ t) found
gap_more b t [] e h = both (is_whitespace b) (list_all is_whitespace t) e h
gap_more b t (word ∷ more) e (following, h, rest) = (
  following,
  record {
    gap = b ∷ h.gap;
    whole = ap (λ u. b ∷ u) h.whole;
    before = both (is_whitespace b) (list_all is_whitespace h.gap) e h.before;
    some = h.some;
    unbroken = h.unbroken;
    ends = h.ends;
  },
  rest,
)

-- What goes on at the start of a text: a part without whitespace, perhaps none, and after it the further words.
record Proceeds (t : Text) : Type 0 where
  following : Text
  whole : t ≡ beginning (slice_split is_whitespace t) ++ following
  unbroken : HasNoWhitespace (beginning (slice_split is_whitespace t))
  ends : BeginsWithGap following
  rest : HasWords following (kept (others (slice_split is_whitespace t)))

cut_found : (t : Text) → HasWords t (words t) × Proceeds t
cut_found [] = (refl, record { following = []; whole = refl; unbroken = refl; ends = tt; rest = refl })
cut_found (b ∷ t) = by (is_whitespace b) refl (cut_found t)
  where
    by : (w : Bool) → is_whitespace b ≡ w → HasWords t (words t) × Proceeds t → HasWords (b ∷ t) (words (b ∷ t)) × Proceeds (b ∷ t)
    by true e (h, on) =
        let more : HasWords (b ∷ t) (words t) = gap_more b t (words t) e h in
        let cut = split_at_gap b t e in (
          subst (HasWords (b ∷ t)) (sym (words_at_gap b t e)) more,
          record {
            following = b ∷ t;
            whole = ap (λ parts. beginning parts ++ (b ∷ t)) (sym cut);
            unbroken = ap (λ parts. list_any is_whitespace (beginning parts)) cut;
            ends = e;
            rest = subst (λ parts. HasWords (b ∷ t) (kept (others parts))) (sym cut) more;
          },
        )
    by false e (h, on) =
        let parts = slice_split is_whitespace t in
        let cut = split_at_word b t e in
        let first : beginning (slice_split is_whitespace (b ∷ t)) ≡ b ∷ beginning parts = ap beginning cut ∙ prefix_onto b parts in
        let further : others (slice_split is_whitespace (b ∷ t)) ≡ others parts = ap others cut ∙ others_onto b parts in
        let whole : b ∷ t ≡ (b ∷ beginning parts) ++ on.following = ap (λ u. b ∷ u) on.whole in
        let unbroken : HasNoWhitespace (b ∷ beginning parts) = neither (is_whitespace b) (list_any is_whitespace (beginning parts)) e on.unbroken in (
          subst (HasWords (b ∷ t)) (sym (words_at_word b t e)) (on.following, record { gap = []; whole = whole; before = refl; some = refl; unbroken = unbroken; ends = on.ends }, on.rest),
          record {
            following = on.following;
            whole = whole ∙ ap (λ part. part ++ on.following) (sym first);
            unbroken = ap (list_any is_whitespace) first ∙ unbroken;
            ends = on.ends;
            rest = subst (λ ps. HasWords on.following (kept ps)) (sym further) on.rest;
          },
        )

-- ---- and no others

-- whitespace before a text adds no word
words_after_gap : (gap t : Text) → IsGap gap → words (gap ++ t) ≡ words t
words_after_gap [] t e = refl
words_after_gap (b ∷ gap) t e =
    words_at_gap b (gap ++ t) (all_first (is_whitespace b) (list_all is_whitespace gap) e)
    ∙ words_after_gap gap t (all_rest (is_whitespace b) (list_all is_whitespace gap) e)

words_of_gap : (gap : Text) → IsGap gap → words gap ≡ []
words_of_gap gap e = ap words (sym (append-nil gap)) ∙ words_after_gap gap [] e

-- a part without whitespace, before what begins with whitespace, is the first part
record IsCut (word following : Text) : Type 0 where
  first : beginning (slice_split is_whitespace (word ++ following)) ≡ word
  further : kept (others (slice_split is_whitespace (word ++ following))) ≡ words following

cut_after : (word following : Text) → HasNoWhitespace word → BeginsWithGap following → IsCut word following
cut_after [] [] e ends = record { first = refl; further = refl }
cut_after [] (b ∷ t) e ends = record {
  first = ap beginning (split_at_gap b t ends);
  further = ap (λ parts. kept (others parts)) (split_at_gap b t ends) ∙ sym (words_at_gap b t ends);
}
cut_after (b ∷ word) following e ends =
    let own = first_of (is_whitespace b) (list_any is_whitespace word) e in
    let on = cut_after word following (rest_of (is_whitespace b) (list_any is_whitespace word) e) ends in
    let parts = slice_split is_whitespace (word ++ following) in
    let cut = split_at_word b (word ++ following) own in
    record {
      first = ap beginning cut ∙ prefix_onto b parts ∙ ap (λ u. b ∷ u) on.first;
      further = ap (λ ps. kept (others ps)) cut ∙ ap kept (others_onto b parts) ∙ on.further;
    }

-- a word is the first, and the words after it follow
words_with_first : (word following : Text) → is_empty word ≡ false → HasNoWhitespace word → BeginsWithGap following → words (word ++ following) ≡ word ∷ words following
words_with_first [] following some e ends = absurd (true≢false some)
words_with_first (b ∷ word) following some e ends =
    let own = first_of (is_whitespace b) (list_any is_whitespace word) e in
    let on = cut_after word following (rest_of (is_whitespace b) (list_any is_whitespace word) e) ends in
    words_at_word b (word ++ following) own ∙ ap (λ u. (b ∷ u) ∷ kept (others (slice_split is_whitespace (word ++ following)))) on.first ∙ ap (λ ws. (b ∷ word) ∷ ws) on.further

pub words_are : (text : Text) (found : List Text) → HasWords text found → words text ≡ found
words_are text [] h = words_of_gap text h
words_are text (word ∷ more) (following, h, rest) =
    ap words h.whole ∙ words_after_gap h.gap (word ++ following) h.before
    ∙ words_with_first word following h.some h.unbroken h.ends
    ∙ ap (λ ws. word ∷ ws) (words_are following more rest)

pub words_found : (text : Text) (found : List Text) → words text ≡ found → HasWords text found
words_found text found e = subst (HasWords text) e (cut_found text).0

-- ---- words joined

pub joined_by_underscores : (text : Text) (found : List Text) → HasWords text found → underscored text ≡ join_with_byte underscore found
unfolding underscored
joined_by_underscores text found h = ap (join_with_byte underscore) (words_are text found h)

join_whole : (text : Text) (found : List Text) → HasWords text found → HasNoWhitespace (join_with_byte underscore found)
join_whole text [] h = refl
join_whole text (word ∷ []) (following, h, rest) = h.unbroken
join_whole text (word ∷ next ∷ more) (following, h, rest) =
    list_any-append is_whitespace word (underscore ∷ join_with_byte underscore (next ∷ more))
    ∙ neither (list_any is_whitespace word) (list_any is_whitespace (underscore ∷ join_with_byte underscore (next ∷ more))) h.unbroken (join_whole following (next ∷ more) rest)

pub underscored_whole : (text : Text) → HasNoWhitespace (underscored text)
unfolding underscored
underscored_whole text = join_whole text (words text) (cut_found text).0

-- ---- words by their numbers

-- a text is empty or begins with a byte that fails
abbrev Stops : (ℕ → Bool) → Text → Type 0
Stops test [] = Unit {0}
Stops test (b ∷ t) = test b ≡ false

-- what passes at the start of a text, and what follows it
record IsPassed (test : ℕ → Bool) (t : Text) : Type 0 where
  passes : list_all test (take (prefix_len test t) t) ≡ true
  stops : Stops test (drop (prefix_len test t) t)

passed : (test : ℕ → Bool) (t : Text) → IsPassed test t
passed test [] = record { passes = refl; stops = tt }
passed test (b ∷ t) = by (test b) refl (passed test t)
  where
    by : (w : Bool) → test b ≡ w → IsPassed test t → IsPassed test (b ∷ t)
    by true e h =
        let len : prefix_len test (b ∷ t) ≡ suc (prefix_len test t) = ap (λ w. cond w (1 + prefix_len test t) 0) e ∙ omega arith in
        record {
          passes = subst (λ n. list_all test (take n (b ∷ t)) ≡ true) (sym len) (both (test b) (list_all test (take (prefix_len test t) t)) e h.passes);
          stops = subst (λ n. Stops test (drop n (b ∷ t))) (sym len) h.stops;
        }
    by false e h =
        let len : prefix_len test (b ∷ t) ≡ 0 = ap (λ w. cond w (1 + prefix_len test t) 0) e in
        record {
          passes = subst (λ n. list_all test (take n (b ∷ t)) ≡ true) (sym len) refl;
          stops = subst (λ n. Stops test (drop n (b ∷ t))) (sym len) e;
        }

begins_with_word : (t : Text) → Stops is_whitespace t → BeginsWithWord t
begins_with_word [] h = tt
begins_with_word (b ∷ t) h = h

not_false : (w : Bool) → not w ≡ false → w ≡ true
not_false true e = refl
not_false false e = absurd (true≢false e)

not_true : (w : Bool) → not w ≡ true → w ≡ false
not_true false e = refl
not_true true e = absurd (true≢false (sym e))

begins_with_gap : (t : Text) → Stops (λ b. not (is_whitespace b)) t → BeginsWithGap t
begins_with_gap [] h = tt
begins_with_gap (b ∷ t) h = not_false (is_whitespace b) h

all_other : (t : Text) → list_all (λ b. not (is_whitespace b)) t ≡ true → HasNoWhitespace t
all_other [] h = refl
all_other (b ∷ t) h =
    neither (is_whitespace b) (list_any is_whitespace t) (not_true (is_whitespace b) (all_first (not (is_whitespace b)) (list_all (λ b. not (is_whitespace b)) t) h))
    (all_other t (all_rest (not (is_whitespace b)) (list_all (λ b. not (is_whitespace b)) t) h))

words_after_start : (t : Text) → words (skip_while is_whitespace t) ≡ words t
words_after_start t =
    sym (words_after_gap (take (prefix_len is_whitespace t) t) (skip_while is_whitespace t) (passed is_whitespace t).passes)
    ∙ ap words (take-append-drop (prefix_len is_whitespace t) t)

-- The first word of a text that begins with one, and the words after it.
record IsFirstWord (t : Text) : Type 0 where
  word : take (word_len t) t ≡ or_empty (slice_get (words t) 0)
  following : words (drop (word_len t) t) ≡ drop 1 (words t)

first_word : (t : Text) → BeginsWithWord t → IsFirstWord t
first_word [] h = record { word = refl; following = refl }
first_word (b ∷ t) h =
    let n : ℕ = word_len (b ∷ t) in
    let cut = passed (λ x. not (is_whitespace x)) (b ∷ t) in
    let len : word_len (b ∷ t) ≡ suc (word_len t) = ap (λ w. cond (not w) (1 + word_len t) 0) h ∙ omega arith in
    let some : is_empty (take (word_len (b ∷ t)) (b ∷ t)) ≡ false = subst (λ k. is_empty (take k (b ∷ t)) ≡ false) (sym len) refl in
    let are : words (b ∷ t) ≡ take (word_len (b ∷ t)) (b ∷ t) ∷ words (drop (word_len (b ∷ t)) (b ∷ t)) =
    ap words (sym (take-append-drop (word_len (b ∷ t)) (b ∷ t)))
    ∙ words_with_first (take (word_len (b ∷ t)) (b ∷ t)) (drop (word_len (b ∷ t)) (b ∷ t)) some
    (all_other (take (word_len (b ∷ t)) (b ∷ t)) cut.passes) (begins_with_gap (drop (word_len (b ∷ t)) (b ∷ t)) cut.stops) in
    record { word = ap (λ ws. or_empty (slice_get ws 0)) (sym are); following = ap (drop 1) (sym are) }

pub end_from_word : (number : ℕ) (text : Text) → IsEndFromWord number text (from_word number text)
end_from_word zero text = record {
  beginning = take (prefix_len is_whitespace text) text;
  whole = sym (take-append-drop (prefix_len is_whitespace text) text);
  begins = begins_with_word (skip_while is_whitespace text) (passed is_whitespace text).stops;
  words_are = words_after_start text;
}
end_from_word (suc number) text =
    let last = end_from_word number text in
    let start : Text = from_word number text in
    let word : Text = take (word_len start) start in
    let following : Text = drop (word_len start) start in
    let gap : Text = take (prefix_len is_whitespace following) following in
    let end : Text = skip_while is_whitespace following in
    let cut : start ≡ word ++ (gap ++ end) = sym (take-append-drop (word_len start) start) ∙ ap (λ u. word ++ u) (sym (take-append-drop (prefix_len is_whitespace following) following)) in
    let joined : (last.beginning ++ (word ++ gap)) ++ end ≡ last.beginning ++ (word ++ (gap ++ end)) = append_assoc last.beginning (word ++ gap) end ∙ ap (λ u. last.beginning ++ u) (append_assoc word gap end) in
    let next : number + 1 ≡ suc number = omega arith in
    record {
      beginning = last.beginning ++ (word ++ gap);
      whole = last.whole ∙ ap (λ u. last.beginning ++ u) cut ∙ sym joined;
      begins = begins_with_word end (passed is_whitespace following).stops;
      words_are = words_after_start following ∙ (first_word start last.begins).following ∙ ap (drop 1) last.words_are ∙ drop-drop 1 number (words text) ∙ ap (λ n. drop n (words text)) next;
    }

first_of_dropped : (n : ℕ) (ws : List Text) → slice_get (drop n ws) 0 ≡ slice_get ws n
first_of_dropped zero ws = refl
first_of_dropped (suc n) [] = refl
first_of_dropped (suc n) (w ∷ ws) = first_of_dropped n ws

pub word_is : (number : ℕ) (text : Text) → word_at number text ≡ or_empty (slice_get (words text) number)
word_is number text =
    (first_word (from_word number text) (end_from_word number text).begins).word
    ∙ ap (λ ws. or_empty (slice_get ws 0)) (end_from_word number text).words_are
    ∙ ap or_empty (first_of_dropped number (words text))
