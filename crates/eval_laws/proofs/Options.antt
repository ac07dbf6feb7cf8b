-- The last value that words give an option.
use Rattle.std.proofs.Common.{◌≡◌, ◌↔◌, ℕ, suc, ◌+◌, ◌<◌, ◌==◌, Bool, true, false, not, ◌||◌, cond, List, [], ◌∷◌, ◌++◌, drop, take, get_or, length, nat_lt, position, option_map, Option, Some, None, Ok, Err, Result, is_some, unwrap_or, if◌then◌else◌, refl, sym, ap, ◌∙◌, true≢false, arith, length-append}
use Rattle.std.specs.List.{list_any, position_or_len, prefix_len}
use Rattle.std.specs.Option.{option_and_then, option_or}
use Rattle.std.specs.Result.{result_ok}
use Rattle.std.specs.Cmp.Lexicographic.{bytes_decides}
use Rattle.std.proofs.lemmas.Bool.{eqb-true, lt-ltb}
use Rattle.std.proofs.lemmas.List.{drop_more, drop_at, take_at, take-append-drop, append_assoc}
use Rattle.std.proofs.lemmas.List.Quantifiers.{position-Some}
use Rattle.text_bytes.specs.Names.{equals}
use Rattle.text_bytes.specs.Texts.{first, split_once}
use Rattle.text_bytes.specs.Text.{Text}
use Rattle.text_tables.specs.Texts.{same_text}
use Rattle.text_core.specs.Spell.{spell}
use Rattle.text_core.specs.declared.glob_fault.GlobFault.{GlobFault}
use Rattle.text_core.specs.declared.item.Item.{Item}
use Rattle.eval_state.specs.Texts.{or_empty}
use Rattle.eval_commands.specs.Hwdb.{filter_option, hwdb_of, is_bad, last_value, operands, pattern_of, prefix_option, subsystem_option, value_beside, value_in}
use Rattle.eval_commands.specs.declared.hwdb.Hwdb.{Hwdb}
use Rattle.eval_laws.specs.LookUps.{HasNoValue, IsLastValue, option_word}

-- ---- one word

some_same : {A : Type 0} (a b : A) → Some a ≡ Some b → a ≡ b
some_same a b e = ap (λ o. unwrap_or o a) e

none_some : {A : Type 0} (a : A) → None ≡ Some a → ⊥
none_some a e = true≢false (sym (ap is_some e))

module _ (name : Text) (plain : list_any (λ b. b == equals) name ≡ false) where
  -- what gives the option a value is written so
  gives_word : (word value : Text) → value_in name word ≡ Some value → word ≡ option_word name value
  unfolding split_once
  gives_word word value e = by (position (λ b. b == equals) word) refl e
    where
      cut : (n : ℕ) → position (λ b. b == equals) word ≡ Some n → word ≡ take n word ++ equals ∷ drop (n + 1) word
      cut n at =
          let h = position-Some (λ b. b == equals) word n 0 at in
          let here : get_or word n 0 ≡ equals = eqb-true (get_or word n 0) equals h.1 in
          sym (take-append-drop n word) ∙ ap (λ t. take n word ++ t) (drop_more word n 0 h.0 ∙ ap (λ b. b ∷ drop (n + 1) word) here)

      named : (n : ℕ) → position (λ b. b == equals) word ≡ Some n → (b : Bool) → same_text (take n word) name ≡ b
          → (if b then Some (drop (n + 1) word) else None) ≡ Some value → word ≡ option_word name value
      named n at true is e =
          cut n at ∙ ap (λ beginning. beginning ++ equals ∷ drop (n + 1) word) ((bytes_decides (take n word) name).0 is)
          ∙ ap (λ rest. name ++ equals ∷ rest) (some_same (drop (n + 1) word) value e)
      named n at false is e = absurd (none_some value e)

      by : (o : Option ℕ) → position (λ b. b == equals) word ≡ o → option_and_then (value_beside name) (option_map {U = Text × Text} (λ n. (take n word, drop (n + 1) word)) o) ≡ Some value → word ≡ option_word name value
      by None at e = absurd (none_some value e)
      by (Some n) at e = named n at (same_text (take n word) name) refl e

  -- and what is written so gives it the value
  name_len : (name : Text) (value : Text) → list_any (λ b. b == equals) name ≡ false → prefix_len (λ b. not (b == equals)) (option_word name value) ≡ length name
  name_len [] value e = refl
  name_len (b ∷ name) value e = by (b == equals) e (name_len name value)
    where
      by : (w : Bool) → (w || list_any (λ b. b == equals) name) ≡ false → (list_any (λ b. b == equals) name ≡ false → prefix_len (λ b. not (b == equals)) (option_word name value) ≡ length name)
          → cond (not w) (1 + prefix_len (λ b. not (b == equals)) (option_word name value)) 0 ≡ suc (length name)
      by true e more = absurd (true≢false e)
      by false e more = let same : prefix_len (λ b. not (b == equals)) (option_word name value) ≡ length name = more e in omega (arith, same)

  pub word_cut : (value : Text) → split_once equals (option_word name value) ≡ Some (name, value)
  unfolding split_once
  word_cut value =
      let word : Text = option_word name value in
      let at : position_or_len (λ b. b == equals) word ≡ length name = name_len name value plain in
      let long : length word ≡ length name + suc (length value) = length-append name (equals ∷ value) in
      let within : length name < length word = omega (arith, long) in
      let place : position (λ b. b == equals) word ≡ Some (length name) =
      ap (λ (k : ℕ). cond (nat_lt k (length word)) (Some k) None) at ∙ ap (λ (b : Bool). cond b (Some (length name)) None) (lt-ltb (length name) (length word) within) in
      let beginning : take (length name) word ≡ name = take_at name (equals ∷ value) (length name) refl in
      let following : drop (length name + 1) word ≡ value =
      ap (drop (length name + 1)) (sym (append_assoc name (equals ∷ []) value)) ∙ drop_at (name ++ equals ∷ []) value (length name + 1) (length-append name (equals ∷ [])) in
      ap (option_map (λ (n : ℕ). (take n word, drop (n + 1) word))) place
      ∙ ap (λ (l : Text). Some (l, drop (length name + 1) word)) beginning
      ∙ ap (λ (l : Text). Some (name, l)) following

  word_gives : (value : Text) → value_in name (option_word name value) ≡ Some value
  word_gives value =
      ap (option_and_then (value_beside name)) (word_cut value)
      ∙ ap (λ (b : Bool). if b then Some value else None) ((bytes_decides name name).1 refl)

  -- ---- several words

  or_some : (a b : Option Text) → is_some b ≡ true → is_some (option_or a b) ≡ true
  or_some None b e = e
  or_some (Some v) b e = refl

  left_some : (a b : Option Text) → is_some a ≡ true → is_some (option_or a b) ≡ true
  left_some None b e = absurd (true≢false (sym e))
  left_some (Some v) b e = refl

  has_value : (before : List Text) (value : Text) (following : List Text) → is_some (last_value name (before ++ option_word name value ∷ following)) ≡ true
  has_value [] value following = or_some (last_value name following) (value_in name (option_word name value)) (ap is_some (word_gives value))
  has_value (word ∷ before) value following = left_some (last_value name (before ++ option_word name value ∷ following)) (value_in name word) (has_value before value following)

  none_has_no_value : (words : List Text) → last_value name words ≡ None → HasNoValue name words
  none_has_no_value words e before value following whole =
      true≢false (sym (has_value before value following) ∙ ap (λ ws. is_some (last_value name ws)) (sym whole) ∙ ap is_some e)

  found_last : (words : List Text) (value : Text) → last_value name words ≡ Some value → IsLastValue name words value
  found_last [] value e = absurd (none_some value e)
  found_last (word ∷ words) value e = by (last_value name words) refl e (found_last words)
    where
      by : (o : Option Text) → last_value name words ≡ o → option_or o (value_in name word) ≡ Some value → ((v : Text) → last_value name words ≡ Some v → IsLastValue name words v) → IsLastValue name (word ∷ words) value
      by (Some v) is e more =
          let h = more value (is ∙ e) in
          record { before = word ∷ h.before; following = h.following; whole = ap (λ ws. word ∷ ws) h.whole; last = h.last }
      by None is e more = record { before = []; following = words; whole = ap (λ w. w ∷ words) (gives_word word value e); last = none_has_no_value words is }

  no_value_is_none : (words : List Text) → HasNoValue name words → last_value name words ≡ None
  no_value_is_none words none = by (last_value name words) refl
    where
      by : (o : Option Text) → last_value name words ≡ o → last_value name words ≡ None
      by None e = e
      by (Some value) e = let h = found_last words value e in absurd (none h.before value h.following h.whole)

  last_after : (before : List Text) (value : Text) (following : List Text) → last_value name following ≡ None → last_value name (before ++ option_word name value ∷ following) ≡ Some value
  last_after [] value following none = ap (λ o. option_or o (value_in name (option_word name value))) none ∙ word_gives value
  last_after (word ∷ before) value following none = ap (λ o. option_or o (value_in name word)) (last_after before value following none)

  last_found : (words : List Text) (value : Text) → IsLastValue name words value → last_value name words ≡ Some value
  last_found words value h = ap (last_value name) h.whole ∙ last_after h.before value h.following (no_value_is_none h.following h.last)

-- ---- the options

-- the options that words give
abbrev given : List Text → Hwdb
given words = record {
  subsystem = last_value subsystem_option words;
  prefix = or_empty (last_value prefix_option words);
  filter = option_and_then pattern_of (last_value filter_option words);
  modalias = first (operands words);
}

-- What good words give.
record AreOptions (words : List Text) (hwdb : Hwdb) : Type 0 where
  subsystem : hwdb.subsystem ≡ last_value subsystem_option words
  prefix : hwdb.prefix ≡ or_empty (last_value prefix_option words)
  filter : hwdb.filter ≡ option_and_then pattern_of (last_value filter_option words)

options : (words : List Text) (hwdb : Hwdb) → hwdb_of words ≡ Some hwdb → AreOptions words hwdb
unfolding hwdb_of
options words hwdb e = by (is_bad words) e
  where
    by : (b : Bool) → (if b then None else Some (given words)) ≡ Some hwdb → AreOptions words hwdb
    by true e = absurd (none_some hwdb e)
    by false e =
        let same : given words ≡ hwdb = some_same (given words) hwdb e in
        record { subsystem = sym (ap (λ h. h.subsystem) same); prefix = sym (ap (λ h. h.prefix) same); filter = sym (ap (λ h. h.filter) same) }

pub subsystem_is_last : (words : List Text) (hwdb : Hwdb) (value : Text) → hwdb_of words ≡ Some hwdb → (hwdb.subsystem ≡ Some value) ↔ IsLastValue subsystem_option words value
subsystem_is_last words hwdb value e =
    let are = options words hwdb e in
    (λ is. found_last subsystem_option refl words value (sym are.subsystem ∙ is), λ h. are.subsystem ∙ last_found subsystem_option refl words value h)

pub prefix_is_last : (words : List Text) (hwdb : Hwdb) (value : Text) → hwdb_of words ≡ Some hwdb → IsLastValue prefix_option words value → hwdb.prefix ≡ value
prefix_is_last words hwdb value e h = (options words hwdb e).prefix ∙ ap or_empty (last_found prefix_option refl words value h)

pub no_prefix_is_empty : (words : List Text) (hwdb : Hwdb) → hwdb_of words ≡ Some hwdb → HasNoValue prefix_option words → hwdb.prefix ≡ []
no_prefix_is_empty words hwdb e none = (options words hwdb e).prefix ∙ ap or_empty (no_value_is_none prefix_option refl words none)

pub filter_is_last : (words : List Text) (hwdb : Hwdb) (pattern : List Item) → hwdb_of words ≡ Some hwdb
    → (hwdb.filter ≡ Some pattern) ↔ ((value : Text) × IsLastValue filter_option words value × (spell value ≡ Ok pattern))
filter_is_last words hwdb pattern e = (λ is. forth (last_value filter_option words) refl (sym (options words hwdb e).filter ∙ is), back)
  where
    spelled : (value : Text) (read : Result (List Item) GlobFault) → spell value ≡ read → result_ok read ≡ Some pattern → spell value ≡ Ok pattern
    spelled value (Ok items) is e = is ∙ ap Ok (some_same items pattern e)
    spelled value (Err fault) is e = absurd (none_some pattern e)

    forth : (o : Option Text) → last_value filter_option words ≡ o → option_and_then pattern_of (last_value filter_option words) ≡ Some pattern
        → (value : Text) × IsLastValue filter_option words value × (spell value ≡ Ok pattern)
    forth None at are = absurd (none_some pattern (ap (option_and_then pattern_of) (sym at) ∙ are))
    forth (Some value) at are = (value, found_last filter_option refl words value at, spelled value (spell value) refl (ap (option_and_then pattern_of) (sym at) ∙ are))

    back : ((value : Text) × IsLastValue filter_option words value × (spell value ≡ Ok pattern)) → hwdb.filter ≡ Some pattern
    back h = (options words hwdb e).filter ∙ ap (option_and_then pattern_of) (last_found filter_option refl words h.0 h.1) ∙ ap result_ok h.2
