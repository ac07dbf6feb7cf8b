-- What a kernel's command line gives a name weighs no more than the line, and the line no more than its event.
use Rattle.std.proofs.Common.{◌≡◌, ℕ, ◌+◌, ◌≤◌, Bool, true, false, ◌||◌, ◌==◌, List, [], ◌∷◌, ◌++◌, length, Option, Some, None, if◌then◌else◌, refl, ap, arith}
use Rattle.std.specs.Prelude.{codes}
use Rattle.std.specs.List.{fold, list_any, sum_by}
use Rattle.std.specs.Option.{option_or}
use Rattle.std.proofs.lemmas.List.{length-append}
use Rattle.std.proofs.lemmas.List.Sums.{sum_by-append, sum_by-cons}
use Rattle.text_bytes.specs.Names.{equals}
use Rattle.text_bytes.specs.Texts.{is_empty}
use Rattle.text_bytes.specs.declared.profile.Profile.TheVariants.{Udev}
use Rattle.text_bytes.specs.Text.{Text}
use Rattle.text_tables.specs.Texts.{same_text}
use Rattle.text_tables.specs.Pairs.{Pair, value_of}
use Rattle.device_core.specs.Values.{EventValue}
use Rattle.eval_commands.specs.Cmdline.{after_name, cmdline_value, folded, is_alone, last_value, one_if_alone, value_after}
use Rattle.eval_commands.specs.Words.{Cut, added, begun, closed, closed_at, emptied, ended, is_quote, quoted, separates, took, took_at, udev_words, unread_command}
use Rattle.eval_commands.specs.declared.words.Place.{Place}
use Rattle.eval_commands.specs.declared.words.Place.TheVariants.{Between, InWord, Quoted}
use Rattle.eval_acts.specs.Imports.{words_for}
use Rattle.eval_laws.specs.DeviceWeights.{event_weight, pair_weight, pairs_weight}

-- ---- words have no more bytes than their text

abbrev total : List Text → ℕ
total words = sum_by length words

-- the bytes of a word that has begun
abbrev begun_length : Place → Text → ℕ
begun_length Between word = 0
begun_length InWord word = length word
begun_length (Quoted quote) word = length word

-- the bytes of what was read
abbrev held : Cut → ℕ
held cut = total cut.words + begun_length cut.place cut.word

total_more : (words : List Text) (word : Text) → total (words ++ word ∷ []) ≡ total words + length word
total_more words word =
    let a = sum_by-append length words (word ∷ []) in
    let b = sum_by-cons length word [] in
    omega (arith, a, b)

word_more : (word : Text) (b : ℕ) → length (word ++ b ∷ []) ≡ length word + 1
word_more word b = length-append word (b ∷ [])

-- a byte of a word outside of quotes
begun_light : (b : ℕ) (cut : Cut) → held (begun b cut) ≤ total cut.words + length cut.word + 1
begun_light b cut = by (is_quote b)
  where
    by : (q : Bool) → held (if q then record { place = Quoted b; word = cut.word; words = cut.words } else added b cut) ≤ total cut.words + length cut.word + 1
    by true = omega arith
    by false = let a = word_more cut.word b in omega (arith, a)

took_light : (place : Place) (cut : Cut) (b : ℕ) → cut.place ≡ place → held (took_at Udev place cut b) ≤ total cut.words + begun_length place cut.word + 1
took_light Between cut b e = by (separates Udev b)
  where
    by : (s : Bool) → held (if s then cut else begun b (emptied cut)) ≤ total cut.words + 0 + 1
    by true = let a = ap (λ p. begun_length p cut.word) e in omega (arith, a)
    by false = let a = begun_light b (emptied cut) in omega (arith, a)
took_light InWord cut b e = by (separates Udev b)
  where
    by : (s : Bool) → held (if s then ended cut else begun b cut) ≤ total cut.words + length cut.word + 1
    by true = let a = total_more cut.words cut.word in omega (arith, a)
    by false = begun_light b cut
took_light (Quoted quote) cut b e = by (b == quote)
  where
    by : (q : Bool) → held (if q then record { place = InWord; word = cut.word; words = cut.words } else record { place = cut.place; word = cut.word ++ b ∷ []; words = cut.words }) ≤ total cut.words + length cut.word + 1
    by true = omega arith
    by false = let a = ap (λ p. begun_length p (cut.word ++ b ∷ [])) e in let c = word_more cut.word b in omega (arith, a, c)

fold_light : (text : Text) (cut : Cut) → held (fold (took Udev) cut text) ≤ held cut + length text
fold_light [] cut = omega arith
fold_light (b ∷ text) cut =
    let a = fold_light text (took Udev cut b) in
    let c = took_light cut.place cut b refl in
    omega (arith, a, c)

closed_light : (place : Place) (cut : Cut) → total (closed_at place cut) ≤ total cut.words + begun_length place cut.word
closed_light Between cut = omega arith
closed_light InWord cut = let a = total_more cut.words cut.word in omega (arith, a)
closed_light (Quoted quote) cut = let a = total_more cut.words cut.word in omega (arith, a)

words_light : (text : Text) → total (udev_words text) ≤ length text
unfolding udev_words
words_light text =
    let cut = fold (took Udev) unread_command text in
    let a = fold_light text unread_command in
    let b = closed_light cut.place cut in
    omega (arith, a, b)

-- ---- what they give a name

module _ (name : Text) where
  -- a name, `=` and a value, if there is one
  abbrev room : Option Text → ℕ
  room None = 0
  room (Some value) = length name + length value + 1

  -- what follows a name that a word begins with
  abbrev after_size : (name : Text) → Option Text → ℕ
  after_size begin None = 0
  after_size begin (Some rest) = length begin + length rest

  after_light : (begin word : Text) → after_size begin (after_name begin word) ≤ length word
  after_light [] word = omega arith
  after_light (b ∷ begin) [] = omega arith
  after_light (b ∷ begin) (c ∷ word) = by (after_light begin word) (folded b == folded c)
    where
      more : (rest : Option Text) → after_size begin rest ≤ length word → after_size (b ∷ begin) rest ≤ length (c ∷ word)
      more None light = omega arith
      more (Some rest) light = omega (arith, light)

      by : after_size begin (after_name begin word) ≤ length word → (same : Bool) → after_size (b ∷ begin) (if same then after_name begin word else None) ≤ length (c ∷ word)
      by light true = more (after_name begin word) light
      by light false = omega arith

  value_light : (word : Text) (rest : Option Text) → after_size name rest ≤ length word → room (value_after rest) ≤ length word
  value_light word None light = omega arith
  value_light word (Some []) light = omega arith
  value_light word (Some (b ∷ value)) light = by (b == equals)
    where
      by : (is : Bool) → room (if is then Some value else None) ≤ length word
      by true = omega (arith, light)
      by false = omega arith

  last_light : (words : List Text) → room (last_value name words) ≤ total words
  last_light [] = omega arith
  last_light (word ∷ words) = by (last_value name words) (last_light words)
    where
      by : (last : Option Text) → room last ≤ total words → room (option_or last (value_after (after_name name word))) ≤ total (word ∷ words)
      by (Some value) light = let a = sum_by-cons length word words in omega (arith, a, light)
      by None light =
          let a = sum_by-cons length word words in
          let b = value_light word (after_name name word) (after_light name word) in
          omega (arith, a, b)

  alone_light : (words : List Text) → list_any (λ word. is_alone (after_name name word)) words ≡ true → length name ≤ total words
  alone_light [] is = cc
  alone_light (word ∷ words) is = by (λ more. alone_light words more) (after_name name word) (after_light name word) is
    where
      by : (list_any (λ other. is_alone (after_name name other)) words ≡ true → length name ≤ total words)
          → (rest : Option Text) → after_size name rest ≤ length word → (is_alone rest || list_any (λ other. is_alone (after_name name other)) words) ≡ true → length name ≤ total (word ∷ words)
      by later None light more = let a = sum_by-cons length word words in let b = later more in omega (arith, a, b)
      by later (Some []) light more = let a = sum_by-cons length word words in omega (arith, a, light)
      by later (Some (b ∷ rest)) light more = let a = sum_by-cons length word words in omega (arith, a, light)

  one_light : (words : List Text) → room (one_if_alone name words) ≤ total words + 2
  one_light words = by (list_any (λ word. is_alone (after_name name word)) words) refl
    where
      by : (any : Bool) → list_any (λ word. is_alone (after_name name word)) words ≡ any → room (if any then Some (codes "1") else None) ≤ total words + 2
      by true is = let a = alone_light words is in omega (arith, a)
      by false is = omega arith

  given_light : (words : List Text) → room (option_or (last_value name words) (one_if_alone name words)) ≤ total words + 2
  given_light words = by (last_value name words) (last_light words)
    where
      by : (last : Option Text) → room last ≤ total words → room (option_or last (one_if_alone name words)) ≤ total words + 2
      by (Some value) light = omega (arith, light)
      by None light = one_light words

-- what is set of a name, if anything is
abbrev pub set_weight : (name : Text) → Option Text → ℕ
set_weight name None = 0
set_weight name (Some value) = pair_weight (name, value)

pub cmdline_light : (name line : Text) → set_weight name (cmdline_value name line) ≤ length line + 3
unfolding cmdline_value
cmdline_light name line = by (option_or (last_value name (udev_words line)) (one_if_alone name (udev_words line))) (given_light name (udev_words line))
  where
    by : (value : Option Text) → room name value ≤ total (udev_words line) + 2 → set_weight name value ≤ length line + 3
    by None light = omega arith
    by (Some value) light = let a = words_light line in omega (arith, a, light)

-- ---- the line

-- the line, if there is one, with some bytes more
abbrev pub line_weight : Option Text → ℕ
line_weight None = 0
line_weight (Some line) = length line + 3

constant_light : (constants : List Pair) (name : Text) → line_weight (value_of constants name) ≤ pairs_weight constants + 1
constant_light [] name = omega arith
constant_light (constant ∷ constants) name = by (same_text name constant.0) (constant_light constants name)
  where
    by : (b : Bool) → line_weight (value_of constants name) ≤ pairs_weight constants + 1
        → line_weight (if b then Some constant.1 else value_of constants name) ≤ pairs_weight (constant ∷ constants) + 1
    by true rest = let a = sum_by-cons pair_weight constant constants in omega (arith, a)
    by false rest = let a = sum_by-cons pair_weight constant constants in omega (arith, a, rest)

pub line_light : (event : EventValue) (constant name : Text) → line_weight (words_for constant name event) ≤ event_weight event
unfolding event_weight
line_light event constant name = by (is_empty name)
  where
    by : (b : Bool) → line_weight (if b then None else value_of event.constants constant) ≤ event_weight event
    by true = omega arith
    by false = let a = constant_light event.constants constant in omega (arith, a)
