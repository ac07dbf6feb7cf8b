-- What is read of a command is just what it is.
use Rattle.std.proofs.Common.{◌≡◌, ◌⊎◌, inl, inr, ℕ, suc, Bool, true, false, not, cond, ◌==◌, List, [], ◌∷◌, ◌++◌, map, filter, flat_map, fold, All, Option, Some, None, refl, ap, sym, ◌∙◌, arith, append_assoc}
use Rattle.std.specs.List.{list_any, onto_first, slice_split}
use Rattle.std.proofs.lemmas.Bool.{eqb-true, eq-eqb, or_cases, or_from, or_parts}
use Rattle.std.proofs.lemmas.List.{append-nil}
use Rattle.std.proofs.lemmas.List.Elements.{All-nil, All-cons}
use Rattle.text_bytes.specs.Names.{single_quote, double_quote}
use Rattle.text_bytes.specs.Texts.{is_empty}
use Rattle.text_bytes.specs.declared.profile.Profile.{Profile}
use Rattle.text_bytes.specs.declared.profile.Profile.TheVariants.{Manual, Udev}
use Rattle.text_bytes.specs.Text.{Text}
use Rattle.eval_commands.specs.declared.words.Place.{Place}
use Rattle.eval_commands.specs.declared.words.Place.TheVariants.{Between, InWord, Quoted}
use Rattle.eval_commands.specs.Words.{Cut, begun, closed, command_words, finished_words, is_quote, separates, unread_command, took, udev_words}
use Rattle.eval_laws.specs.Grammar.{Piece, gap, byte, group, written, meant, HasNo, IsPiece, is_gap, words_of, HasWords, HasOpenQuote, HasWordsToEnd, IsRead, IsReadToEnd}

-- a command of which a part was read
abbrev at : Place → Text → List Text → Cut
at place word words = record { place = place; word = word; words = words }

-- ---- bytes

-- a quote does not separate words
not_gap : (profile : Profile) (b : ℕ) → is_quote b ≡ true → separates profile b ≡ false
not_gap profile b e = by profile (or_cases (b == single_quote) (b == double_quote) e)
  where
    by : (p : Profile) → ((b == single_quote) ≡ true) ⊎ ((b == double_quote) ≡ true) → separates p b ≡ false
    by Manual (inl one) = ap (separates Manual) (eqb-true b single_quote one)
    by Manual (inr two) = ap (separates Manual) (eqb-true b double_quote two)
    by Udev (inl one) = ap (separates Udev) (eqb-true b single_quote one)
    by Udev (inr two) = ap (separates Udev) (eqb-true b double_quote two)

opened : (b : ℕ) (word : Text) (words : List Text) → is_quote b ≡ true → begun b (at InWord word words) ≡ at (Quoted b) word words
opened b word words e = ap (λ t. cond t (at (Quoted b) word words) (at InWord (word ++ b ∷ []) words)) e

itself : (b : ℕ) (word : Text) (words : List Text) → is_quote b ≡ false → begun b (at InWord word words) ≡ at InWord (word ++ b ∷ []) words
itself b word words e = ap (λ t. cond t (at (Quoted b) word words) (at InWord (word ++ b ∷ []) words)) e

module _ (profile : Profile) where
  -- after a quote the bytes are taken as they are, up to that quote
  quoted_run : (quote : ℕ) (inside word : Text) (words : List Text) (rest : Text) → HasNo quote inside
      → fold (took profile) (at (Quoted quote) word words) (inside ++ quote ∷ rest) ≡ fold (took profile) (at InWord (word ++ inside) words) rest
  quoted_run quote [] word words rest none =
      ap (λ t. fold (took profile) (cond t (at InWord word words) (at (Quoted quote) (word ++ quote ∷ []) words)) rest) (eq-eqb quote quote refl)
      ∙ ap (λ w. fold (took profile) (at InWord w words) rest) (sym (append-nil word))
  quoted_run quote (b ∷ inside) word words rest none =
      let parts = or_parts (b == quote) (list_any (λ c. c == quote) inside) none in
      ap (λ t. fold (took profile) (cond t (at InWord word words) (at (Quoted quote) (word ++ b ∷ []) words)) (inside ++ quote ∷ rest)) parts.0
      ∙ quoted_run quote inside (word ++ b ∷ []) words rest parts.1
      ∙ ap (λ w. fold (took profile) (at InWord w words) rest) (append_assoc word (b ∷ []) inside)

  -- and to the end, if there is no such quote
  quoted_open : (quote : ℕ) (inside word : Text) (words : List Text) → HasNo quote inside
      → fold (took profile) (at (Quoted quote) word words) inside ≡ at (Quoted quote) (word ++ inside) words
  quoted_open quote [] word words none = ap (λ w. at (Quoted quote) w words) (sym (append-nil word))
  quoted_open quote (b ∷ inside) word words none =
      let parts = or_parts (b == quote) (list_any (λ c. c == quote) inside) none in
      ap (λ t. fold (took profile) (cond t (at InWord word words) (at (Quoted quote) (word ++ b ∷ []) words)) inside) parts.0
      ∙ quoted_open quote inside (word ++ b ∷ []) words parts.1
      ∙ ap (λ w. at (Quoted quote) w words) (append_assoc word (b ∷ []) inside)

  -- a byte that does not separate words begins a word, or goes on with one
  word_begins : (b : ℕ) (word : Text) (words : List Text) → separates profile b ≡ false → took profile (at Between word words) b ≡ begun b (at InWord [] words)
  word_begins b word words e = ap (λ t. cond t (at Between word words) (begun b (at InWord [] words))) e

  word_proceeds : (b : ℕ) (word : Text) (words : List Text) → separates profile b ≡ false → took profile (at InWord word words) b ≡ begun b (at InWord word words)
  word_proceeds b word words e = ap (λ t. cond t (at Between word (words ++ word ∷ [])) (begun b (at InWord word words))) e

  -- a byte that does ends a word, or comes before the next one
  word_ends : (b : ℕ) (word : Text) (words : List Text) → separates profile b ≡ true → took profile (at InWord word words) b ≡ at Between word (words ++ word ∷ [])
  word_ends b word words e = ap (λ t. cond t (at Between word (words ++ word ∷ [])) (begun b (at InWord word words))) e

  none_begins : (b : ℕ) (word : Text) (words : List Text) → separates profile b ≡ true → took profile (at Between word words) b ≡ at Between word words
  none_begins b word words e = ap (λ t. cond t (at Between word words) (begun b (at InWord [] words))) e

  -- ---- pieces

  -- the rest of a group, whose quote was read
  group_read : (quote : ℕ) (inside word : Text) (words : List Text) (rest : Text) → is_quote quote ≡ true → HasNo quote inside
      → fold (took profile) (begun quote (at InWord word words)) ((inside ++ quote ∷ []) ++ rest) ≡ fold (took profile) (at InWord (word ++ inside) words) rest
  group_read quote inside word words rest is none =
      ap (λ c. fold (took profile) c ((inside ++ quote ∷ []) ++ rest)) (opened quote word words is)
      ∙ ap (fold (took profile) (at (Quoted quote) word words)) (append_assoc inside (quote ∷ []) rest)
      ∙ quoted_run quote inside word words rest none

  in_word : (p : Piece) (word : Text) (words : List Text) (rest : Text) → IsPiece profile p → is_gap p ≡ false
      → fold (took profile) (at InWord word words) (written p ++ rest) ≡ fold (took profile) (at InWord (word ++ meant p) words) rest
  in_word (gap b) word words rest is apart = cc
  in_word (byte b) word words rest is apart =
      ap (λ c. fold (took profile) c rest) (word_proceeds b word words is.0 ∙ itself b word words is.1)
  in_word (group quote inside) word words rest is apart =
      ap (λ c. fold (took profile) c ((inside ++ quote ∷ []) ++ rest)) (word_proceeds quote word words (not_gap profile quote is.0))
      ∙ group_read quote inside word words rest is.0 is.1

  between : (p : Piece) (word : Text) (words : List Text) (rest : Text) → IsPiece profile p → is_gap p ≡ false
      → fold (took profile) (at Between word words) (written p ++ rest) ≡ fold (took profile) (at InWord (meant p) words) rest
  between (gap b) word words rest is apart = cc
  between (byte b) word words rest is apart =
      ap (λ c. fold (took profile) c rest) (word_begins b word words is.0 ∙ itself b [] words is.1)
  between (group quote inside) word words rest is apart =
      ap (λ c. fold (took profile) c ((inside ++ quote ∷ []) ++ rest)) (word_begins quote word words (not_gap profile quote is.0))
      ∙ group_read quote inside [] words rest is.0 is.1

  -- a quote that stays open goes on with a word, or begins one
  open_in_word : (quote : ℕ) (inside word : Text) (words : List Text) → is_quote quote ≡ true → HasNo quote inside
      → fold (took profile) (at InWord word words) (quote ∷ inside) ≡ at (Quoted quote) (word ++ inside) words
  open_in_word quote inside word words is none =
      ap (λ c. fold (took profile) c inside) (word_proceeds quote word words (not_gap profile quote is) ∙ opened quote word words is)
      ∙ quoted_open quote inside word words none

  open_between : (quote : ℕ) (inside word : Text) (words : List Text) → is_quote quote ≡ true → HasNo quote inside
      → fold (took profile) (at Between word words) (quote ∷ inside) ≡ at (Quoted quote) inside words
  open_between quote inside word words is none =
      ap (λ c. fold (took profile) c inside) (word_begins quote word words (not_gap profile quote is) ∙ opened quote [] words is)
      ∙ quoted_open quote inside [] words none

-- ---- the words

-- the words of runs
abbrev run_words : List (List Piece) → List Text
run_words runs = map (flat_map meant) (filter (λ run. not (is_empty run)) runs)

-- the words of runs, of which the first goes on with a word
abbrev words_after : Text → List (List Piece) → List Text
words_after word [] = word ∷ []
words_after word (run ∷ runs) = (word ++ flat_map meant run) ∷ run_words runs

proceeds : (p : Piece) (word : Text) (runs : List (List Piece)) → words_after word (onto_first p runs) ≡ words_after (word ++ meant p) runs
proceeds p word [] = ap (λ w. (word ++ w) ∷ []) (append-nil (meant p))
proceeds p word (run ∷ runs) = ap (λ w. w ∷ run_words runs) (sym (append_assoc word (meant p) (flat_map meant run)))

begins : (p : Piece) (runs : List (List Piece)) → run_words (onto_first p runs) ≡ words_after (meant p) runs
begins p [] = ap (λ w. w ∷ []) (append-nil (meant p))
begins p (run ∷ runs) = refl

split_on : (p : Piece) (pieces : List Piece) → is_gap p ≡ false → slice_split is_gap (p ∷ pieces) ≡ onto_first p (slice_split is_gap pieces)
split_on p pieces apart = ap (λ t. cond t ([] ∷ slice_split is_gap pieces) (onto_first p (slice_split is_gap pieces))) apart

-- a place outside of quotes: within a word, or between words
abbrev outside : Bool → Place
outside true = InWord
outside false = Between

-- the words that pieces give
abbrev given : Bool → Text → List (List Piece) → List Text
given true word runs = words_after word runs
given false word runs = run_words runs

module _ (profile : Profile) where
  first_is : (p : Piece) (pieces : List Piece) → All (IsPiece profile) (p ∷ pieces) → IsPiece profile p
  first_is p pieces h = h 0 p (omega arith)

  others_are : (p : Piece) (pieces : List Piece) → All (IsPiece profile) (p ∷ pieces) → All (IsPiece profile) pieces
  others_are p pieces h = λ k d l. h (suc k) d (omega arith)

-- Pieces before a rest are read, if the rest is: what the end reports is reported about the words of all.
module _ (profile : Profile) (R : Type 0) (finish : Cut → R) (report : List Text → R) (rest : Text) (last : List Piece)
    (inner : (word : Text) (words : List Text) → finish (fold (took profile) (at InWord word words) rest) ≡ report (words ++ words_after word (slice_split is_gap last)))
    (outer : (word : Text) (words : List Text) → finish (fold (took profile) (at Between word words) rest) ≡ report (words ++ run_words (slice_split is_gap last))) where
  piece_then : (p : Piece) (pieces : List Piece) (in_one : Bool) (word : Text) (words : List Text) → IsPiece profile p → is_gap p ≡ false
      → ((w : Text) → finish (fold (took profile) (at InWord w words) (flat_map written pieces ++ rest)) ≡ report (words ++ words_after w (slice_split is_gap (pieces ++ last))))
      → finish (fold (took profile) (at (outside in_one) word words) (flat_map written (p ∷ pieces) ++ rest)) ≡ report (words ++ given in_one word (slice_split is_gap (p ∷ pieces ++ last)))
  piece_then p pieces true word words is apart others =
      ap (λ t. finish (fold (took profile) (at InWord word words) t)) (append_assoc (written p) (flat_map written pieces) rest)
      ∙ ap finish (in_word profile p word words (flat_map written pieces ++ rest) is apart)
      ∙ others (word ++ meant p)
      ∙ ap (λ ws. report (words ++ ws)) (sym (proceeds p word (slice_split is_gap (pieces ++ last))))
      ∙ ap (λ runs. report (words ++ words_after word runs)) (sym (split_on p (pieces ++ last) apart))
  piece_then p pieces false word words is apart others =
      ap (λ t. finish (fold (took profile) (at Between word words) t)) (append_assoc (written p) (flat_map written pieces) rest)
      ∙ ap finish (between profile p word words (flat_map written pieces ++ rest) is apart)
      ∙ others (meant p)
      ∙ ap (λ ws. report (words ++ ws)) (sym (begins p (slice_split is_gap (pieces ++ last))))
      ∙ ap (λ runs. report (words ++ run_words runs)) (sym (split_on p (pieces ++ last) apart))

  pieces_read : (pieces : List Piece) (in_one : Bool) (word : Text) (words : List Text) → All (IsPiece profile) pieces
      → finish (fold (took profile) (at (outside in_one) word words) (flat_map written pieces ++ rest)) ≡ report (words ++ given in_one word (slice_split is_gap (pieces ++ last)))
  pieces_read [] true word words each = inner word words
  pieces_read [] false word words each = outer word words
  pieces_read (gap b ∷ pieces) true word words each =
      ap (λ c. finish (fold (took profile) c (flat_map written pieces ++ rest))) (word_ends profile b word words (first_is profile (gap b) pieces each))
      ∙ pieces_read pieces false word (words ++ word ∷ []) (others_are profile (gap b) pieces each)
      ∙ ap report (append_assoc words (word ∷ []) (run_words (slice_split is_gap (pieces ++ last))))
      ∙ ap (λ w. report (words ++ w ∷ run_words (slice_split is_gap (pieces ++ last)))) (sym (append-nil word))
  pieces_read (gap b ∷ pieces) false word words each =
      ap (λ c. finish (fold (took profile) c (flat_map written pieces ++ rest))) (none_begins profile b word words (first_is profile (gap b) pieces each))
      ∙ pieces_read pieces false word words (others_are profile (gap b) pieces each)
  pieces_read (byte b ∷ pieces) in_one word words each =
      piece_then (byte b) pieces in_one word words (first_is profile (byte b) pieces each) refl (λ w. pieces_read pieces true w words (others_are profile (byte b) pieces each))
  pieces_read (group quote inside ∷ pieces) in_one word words each =
      piece_then (group quote inside) pieces in_one word words (first_is profile (group quote inside) pieces each) refl
      (λ w. pieces_read pieces true w words (others_are profile (group quote inside) pieces each))

-- ---- each command is one of the two

module _ (profile : Profile) where
  -- a command is written in pieces
  abbrev Whole : Text → Type 0
  Whole text = (pieces : List Piece) × (text ≡ flat_map written pieces) × All (IsPiece profile) pieces

  -- a text has such a quote, and what follows it is one of the two
  abbrev Closes : ℕ → Text → Type 0
  Closes quote text = (inside : Text) × (rest : Text) × (text ≡ inside ++ quote ∷ rest) × HasNo quote inside × (Whole rest ⊎ HasOpenQuote profile rest)

  abbrev Scanned : Option ℕ → Text → Type 0
  Scanned None text = Whole text ⊎ HasOpenQuote profile text
  Scanned (Some quote) text = Closes quote text ⊎ HasNo quote text

  with_piece : (p : Piece) (text rest : Text) → IsPiece profile p → text ≡ written p ++ rest → Whole rest ⊎ HasOpenQuote profile rest → Whole text ⊎ HasOpenQuote profile text
  with_piece p text rest is e (inl whole) = inl (p ∷ whole.0, e ∙ ap (λ t. written p ++ t) whole.1, All-cons (IsPiece profile) p whole.0 is whole.2)
  with_piece p text rest is e (inr o) = inr (record {
    pieces = p ∷ o.pieces;
    quote = o.quote;
    inside = o.inside;
    whole = e ∙ ap (λ t. written p ++ t) o.whole ∙ sym (append_assoc (written p) (flat_map written o.pieces) (o.quote ∷ o.inside));
    each = All-cons (IsPiece profile) p o.pieces is o.each;
    is_one = o.is_one;
    unclosed = o.unclosed;
  })

  by_byte : (b : ℕ) (text : Text) (is_between : Bool) → separates profile b ≡ is_between → (is_one : Bool) → is_quote b ≡ is_one
      → Scanned None text → Scanned (Some b) text → Scanned None (b ∷ text)
  by_byte b text true e is_one f rest following = with_piece (gap b) (b ∷ text) text e refl rest
  by_byte b text false e false f rest following = with_piece (byte b) (b ∷ text) text (e, f) refl rest
  by_byte b text false e true f rest (inl c) =
      with_piece (group b c.0) (b ∷ text) c.1 (f, c.3)
      (ap (λ t. b ∷ t) (c.2 ∙ sym (append_assoc c.0 (b ∷ []) c.1))) c.4
  by_byte b text false e true f rest (inr none) = inr (record {
    pieces = [];
    quote = b;
    inside = text;
    whole = refl;
    each = All-nil (IsPiece profile);
    is_one = f;
    unclosed = none;
  })

  by_quote : (quote b : ℕ) (text : Text) (is_it : Bool) → (b == quote) ≡ is_it → Scanned None text → Scanned (Some quote) text → Scanned (Some quote) (b ∷ text)
  by_quote quote b text true e rest more = inl ([], text, ap (λ n. n ∷ text) (eqb-true b quote e), refl, rest)
  by_quote quote b text false e rest (inl c) =
      inl (b ∷ c.0, c.1, ap (λ t. b ∷ t) c.2, or_from (b == quote) (list_any (λ n. n == quote) c.0) e c.3, c.4)
  by_quote quote b text false e rest (inr none) = inr (or_from (b == quote) (list_any (λ n. n == quote) text) e none)

  scan : (quote : Option ℕ) (text : Text) → Scanned quote text
  scan None [] = inl ([], refl, All-nil (IsPiece profile))
  scan None (b ∷ text) = by_byte b text (separates profile b) refl (is_quote b) refl (scan None text) (scan (Some b) text)
  scan (Some quote) [] = inr refl
  scan (Some quote) (b ∷ text) = by_quote quote b text (b == quote) refl (scan None text) (scan (Some quote) text)

-- ---- what is read by the manual

has_words : (command : Text) (words : List Text) → HasWords Manual command words → command_words command ≡ Some words
unfolding command_words
has_words command words h =
    ap (λ t. finished_words (fold (took Manual) unread_command t)) (h.whole ∙ sym (append-nil (flat_map written h.pieces)))
    ∙ pieces_read Manual (Option (List Text)) finished_words Some [] [] (λ w ws. ap (λ v. Some (ws ++ v ∷ [])) (sym (append-nil w))) (λ w ws. ap Some (sym (append-nil ws))) h.pieces false [] [] h.each
    ∙ ap (λ ps. Some (words_of ps)) (append-nil h.pieces)
    ∙ ap Some (sym h.cut)

has_open_quote : (command : Text) → HasOpenQuote Manual command → command_words command ≡ None
unfolding command_words
has_open_quote command h =
    ap (λ t. finished_words (fold (took Manual) unread_command t)) h.whole
    ∙ pieces_read Manual (Option (List Text)) finished_words (λ ws. None) (h.quote ∷ h.inside) []
    (λ w ws. ap finished_words (open_in_word Manual h.quote h.inside w ws h.is_one h.unclosed)) (λ w ws. ap finished_words (open_between Manual h.quote h.inside w ws h.is_one h.unclosed))
    h.pieces false [] [] h.each

words_had : (command : Text) (words : List Text) → Whole Manual command ⊎ HasOpenQuote Manual command → command_words command ≡ Some words → HasWords Manual command words
words_had command words (inl whole) e =
    let same : Some words ≡ Some (words_of whole.0) =
    sym e ∙ has_words command (words_of whole.0) (record { pieces = whole.0; whole = whole.1; each = whole.2; cut = refl }) in
    record { pieces = whole.0; whole = whole.1; each = whole.2; cut = cc }
words_had command words (inr o) e = let both : Some words ≡ None = sym e ∙ has_open_quote command o in absurd cc

quote_left_open : (command : Text) → Whole Manual command ⊎ HasOpenQuote Manual command → command_words command ≡ None → HasOpenQuote Manual command
quote_left_open command (inl whole) e =
    let both : None ≡ Some (words_of whole.0) =
    sym e ∙ has_words command (words_of whole.0) (record { pieces = whole.0; whole = whole.1; each = whole.2; cut = refl }) in
    absurd cc
quote_left_open command (inr o) e = o

pub is_read : (command : Text) → IsRead command
is_read command = record {
  words = λ words. (words_had command words (scan Manual None command), has_words command words);
  unclosed = (quote_left_open command (scan Manual None command), has_open_quote command);
}

-- ---- what is read for udev

whole_to_end : (command : Text) (words : List Text) → HasWords Udev command words → udev_words command ≡ words
unfolding udev_words
whole_to_end command words h =
    ap (λ t. closed (fold (took Udev) unread_command t)) (h.whole ∙ sym (append-nil (flat_map written h.pieces)))
    ∙ pieces_read Udev (List Text) closed (λ ws. ws) [] [] (λ w ws. ap (λ v. ws ++ v ∷ []) (sym (append-nil w))) (λ w ws. sym (append-nil ws)) h.pieces false [] [] h.each
    ∙ ap words_of (append-nil h.pieces)
    ∙ sym h.cut

open_to_end : (command : Text) (words : List Text) → HasWordsToEnd Udev command words → udev_words command ≡ words
unfolding udev_words
open_to_end command words h =
    let o = h.left_open in
    ap (λ t. closed (fold (took Udev) unread_command t)) o.whole
    ∙ pieces_read Udev (List Text) closed (λ ws. ws) (o.quote ∷ o.inside) (group o.quote o.inside ∷ [])
    (λ w ws. ap closed (open_in_word Udev o.quote o.inside w ws o.is_one o.unclosed) ∙ ap (λ v. ws ++ (w ++ v) ∷ []) (sym (append-nil o.inside)))
    (λ w ws. ap closed (open_between Udev o.quote o.inside w ws o.is_one o.unclosed) ∙ ap (λ v. ws ++ v ∷ []) (sym (append-nil o.inside)))
    o.pieces false [] [] o.each
    ∙ sym h.cut

has_to_end : (command : Text) (words : List Text) → Whole Udev command ⊎ HasOpenQuote Udev command → udev_words command ≡ words → HasWords Udev command words ⊎ HasWordsToEnd Udev command words
has_to_end command words (inl whole) e = inl (record {
  pieces = whole.0;
  whole = whole.1;
  each = whole.2;
  cut = sym e ∙ whole_to_end command (words_of whole.0) (record { pieces = whole.0; whole = whole.1; each = whole.2; cut = refl });
})
has_to_end command words (inr o) e = inr (record {
  left_open = o;
  cut = sym e ∙ open_to_end command (words_of (o.pieces ++ group o.quote o.inside ∷ [])) (record { left_open = o; cut = refl });
})

given_to_end : (command : Text) (words : List Text) → HasWords Udev command words ⊎ HasWordsToEnd Udev command words → udev_words command ≡ words
given_to_end command words (inl h) = whole_to_end command words h
given_to_end command words (inr h) = open_to_end command words h

pub is_read_to_end : (command : Text) → IsReadToEnd command
is_read_to_end command = λ words. (has_to_end command words (scan Udev None command), given_to_end command words)
