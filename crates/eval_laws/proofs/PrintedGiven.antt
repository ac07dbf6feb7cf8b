-- What is read of a line that a program printed is written there.
use Rattle.std.proofs.Common.{◌≡◌, inl, inr, ℕ, zero, suc, ◌+◌, ◌-◌, ◌<◌, ◌≤◌, Bool, true, false, ◌==◌, ◌||◌, [], ◌∷◌, ◌++◌, length, get_or, take, drop, reverse, Option, Some, None, option_map, position, unwrap_or, if◌then◌else◌, refl, sym, ap, ◌∙◌, subst, length-drop, length-take, take-append-drop, arith}
use Rattle.std.specs.List.{prefix_len, suffix_len}
use Rattle.std.specs.Option.{option_and_then}
use Rattle.std.proofs.lemmas.Bool.{eqb-true}
use Rattle.std.proofs.lemmas.List.{append_assoc, drop_more, get_or-drop, get_or_default, get_or-reverse, get_or-take, take_all, take_more, length-reverse}
use Rattle.std.proofs.lemmas.List.Folds.{list_any_none}
use Rattle.std.proofs.lemmas.List.Quantifiers.{position-Some}
use Rattle.std.proofs.lemmas.List.Sums.{prefix_len-le-length, prefix_len_passes, prefix_len_stops, suffix_len-le-length}
use Rattle.text_bytes.specs.Names.{equals, hash, is_blank}
use Rattle.text_bytes.specs.Texts.{begins_with, is_empty, split_once, unindented}
use Rattle.text_bytes.specs.Text.{Text}
use Rattle.text_tables.specs.Pairs.{Pair}
use Rattle.eval_acts.specs.Printed.{bare, before_end, line_property, property_cut, property_of, unquoted}
use Rattle.eval_commands.specs.Words.{is_quote}
use Rattle.eval_laws.specs.PrintedLines.{IsGiven, IsPadded, IsWritten}
use Rattle.eval_laws.proofs.PrintedReading.{begins_so}

-- ---- a text between blanks

bare_padded : (t : Text) → is_empty (bare t) ≡ false → IsPadded t (bare t)
bare_padded t some =
    let n : ℕ = prefix_len is_blank t in
    let u : Text = drop n t in
    let s : ℕ = suffix_len is_blank u in
    let m : ℕ = length u - s in
    let short : n ≤ length t = prefix_len-le-length is_blank t in
    let size : length u ≡ length t - n = length-drop n t in
    let within : s ≤ length u = suffix_len-le-length is_blank u in
    let reversed : length (reverse u) ≡ length u = length-reverse u in
    let there : 0 < m = not_empty m u some in
    let step : m ≡ suc (m - 1) = omega (arith, there) in
    let next : m ≡ m - 1 + 1 = omega (arith, there) in
    let prefix_size : length (take n t) ≡ n = omega (arith, length-take n t, short) in
    let end_size : length (drop m u) ≡ s = omega (arith, length-drop m u, within) in
    record {
      before = take n t;
      following = drop m u;
      cut = sym (take-append-drop n t) ∙ ap (λ v. take n t ++ v) (sym (take-append-drop m u));
      blank_before = λ k d l. ap is_blank (get_or-take n t k d (omega (arith, l, prefix_size))) ∙ prefix_len_passes is_blank t k d (omega (arith, l, prefix_size));
      blank_after = λ k d l.
          let place : length u - 1 - (length u - 1 - (m + k)) ≡ m + k = omega (arith, l, end_size, within, there) in
          ap is_blank (get_or-drop m u k d ∙ ap (λ j. get_or u j d) (sym place) ∙ sym (get_or-reverse u (length u - 1 - (m + k)) d (omega (arith, l, end_size, within, there))))
          ∙ prefix_len_passes is_blank (reverse u) (length u - 1 - (m + k)) d (omega (arith, l, end_size, within, there));
      first = get_or t n 0;
      rest = take (m - 1) (drop (n + 1) t);
      starts = ap (take m) (drop_more t n 0 (omega (arith, size, there, within))) ∙ ap (λ k. take k (get_or t n 0 ∷ drop (n + 1) t)) step;
      dark_first = prefix_len_stops is_blank t 0 (omega (arith, size, there, within));
      beginning = take (m - 1) u;
      last = get_or u (m - 1) 0;
      ends = ap (λ k. take k u) next ∙ take_more u (m - 1) 0 (omega (arith, there, within));
      dark_last =
          let place : length u - 1 - s ≡ m - 1 = omega (arith, there, within) in
          ap is_blank (ap (λ j. get_or u j 0) (sym place) ∙ sym (get_or-reverse u s 0 (omega (arith, there, within))))
          ∙ prefix_len_stops is_blank (reverse u) 0 (omega (arith, there, within, reversed));
    }
  where
    not_empty : (m : ℕ) (u : Text) → is_empty (take m u) ≡ false → 0 < m
    not_empty zero u e = cc
    not_empty (suc m) u e = omega arith

-- ---- values

some_same : {A : Type 0} (a b : A) → Some a ≡ Some b → a ≡ b
some_same a b e = ap (λ o. unwrap_or o a) e

before_end_is : (byte : ℕ) (t value : Text) → before_end byte t ≡ Some value → t ≡ value ++ byte ∷ []
before_end_is byte [] value e = cc
before_end_is byte (b ∷ t) value e = by (get_or (b ∷ t) (length t) 0 == byte) refl e
  where
    by : (v : Bool) → (get_or (b ∷ t) (length t) 0 == byte) ≡ v → (if v then Some (take (length (b ∷ t) - 1) (b ∷ t)) else None) ≡ Some value → b ∷ t ≡ value ++ byte ∷ []
    by true is e =
        let last : get_or (b ∷ t) (length t) 0 ≡ byte = eqb-true (get_or (b ∷ t) (length t) 0) byte is in
        let size : length t ≡ length (b ∷ t) - 1 = omega arith in
        let whole : take (length t + 1) (b ∷ t) ≡ b ∷ t = take_all (length t + 1) (b ∷ t) (omega arith) in
        sym whole ∙ take_more (b ∷ t) (length t) 0 (omega arith)
        ∙ ap (λ x. take (length t) (b ∷ t) ++ x ∷ []) last
        ∙ ap (λ k. take k (b ∷ t) ++ byte ∷ []) size
        ∙ ap (λ x. x ++ byte ∷ []) (some_same (take (length (b ∷ t) - 1) (b ∷ t)) value e)
    by false is e = cc

written_is : (written value : Text) → unquoted written ≡ Some value → IsWritten written value
written_is [] value e = inl (some_same [] value e, refl)
written_is (b ∷ t) value e = by (is_quote b) refl e
  where
    by : (q : Bool) → is_quote b ≡ q → (if q then before_end b t else Some (b ∷ t)) ≡ Some value → IsWritten (b ∷ t) value
    by true is e = inr (b, is, ap (λ x. b ∷ x) (before_end_is b t value e))
    by false is e = inl (some_same (b ∷ t) value e, ap (λ q. q || false) is)

-- ---- lines

-- Both parts of a property are there.
record IsMade (name written : Text) (property : Pair) : Type 0 where
  some_name : is_empty name ≡ false
  some_written : is_empty written ≡ false
  is_name : name ≡ property.0
  meant : IsWritten written property.1

made_from : (name written : Text) (property : Pair) → property_of name written ≡ Some property → IsMade name written property
made_from [] written property e = cc
made_from (b ∷ name) [] property e = cc
made_from (b ∷ name) (c ∷ written) property e = by (unquoted (c ∷ written)) refl e
  where
    by : (o : Option Text) → unquoted (c ∷ written) ≡ o → option_map {U = Pair} (λ v. (b ∷ name, v)) o ≡ Some property → IsMade (b ∷ name) (c ∷ written) property
    by None is e = cc
    by (Some v) is e =
        let same : (b ∷ name, v) ≡ property = some_same {A = Pair} (b ∷ name, v) property e in
        record { some_name = refl; some_written = refl; is_name = ap (λ p. p.0) same; meant = written_is (c ∷ written) property.1 (is ∙ ap (λ p. Some p.1) same) }

pub line_gives : (line : Text) (property : Pair) → line_property line ≡ Some property → IsGiven line property
unfolding line_property split_once
line_gives line property e = by_comment (begins_with hash (unindented line)) refl e
  where
    by_place : begins_with hash (unindented line) ≡ false → (place : Option ℕ) → position (λ b. b == equals) line ≡ place
        → option_and_then property_cut (option_map {U = Text × Text} (λ n. (take n line, drop (n + 1) line)) place) ≡ Some property → IsGiven line property
    by_place plain None at e = cc
    by_place plain (Some n) at e =
        let beginning : Text = take n line in
        let following : Text = drop (n + 1) line in
        let h = position-Some (λ b. b == equals) line n 0 at in
        let here : get_or line n 0 ≡ equals = eqb-true (get_or line n 0) equals h.1 in
        let cut : line ≡ beginning ++ equals ∷ following = sym (take-append-drop n line) ∙ ap (λ t. beginning ++ t) (drop_more line n 0 h.0 ∙ ap (λ b. b ∷ following) here) in
        let size : length beginning ≡ n = omega (arith, length-take n line, h.0) in
        let made : IsMade (bare beginning) (bare following) property = made_from (bare beginning) (bare following) property e in
        let name : IsPadded beginning (bare beginning) = bare_padded beginning made.some_name in
        let rest : Text = name.rest ++ (name.following ++ equals ∷ following) in
        let whole : line ≡ name.before ++ name.first ∷ rest =
        cut ∙ ap (λ f. f ++ equals ∷ following) (name.cut ∙ ap (λ t. name.before ++ (t ++ name.following)) name.starts)
        ∙ append_assoc name.before (name.first ∷ (name.rest ++ name.following)) (equals ∷ following)
        ∙ ap (λ t. name.before ++ name.first ∷ t) (append_assoc name.rest name.following (equals ∷ following)) in
        let dark : (name.first == hash) ≡ false = sym (begins_so name.before name.first rest line whole name.blank_before name.dark_first) ∙ plain in
        record {
          beginning = beginning;
          following = following;
          cut = cut;
          first = list_any_none (λ b. b == equals) beginning (λ k d l. ap (λ b. b == equals) (get_or-take n line k d (omega (arith, l, size)) ∙ get_or_default line k d 0 (omega (arith, l, size, h.0))) ∙ h.2 k (omega (arith, l, size)));
          name = subst (IsPadded beginning) made.is_name name;
          no_comment = ap (begins_with hash) (sym made.is_name ∙ name.starts) ∙ dark;
          written = bare following;
          value = bare_padded following made.some_written;
          meant = made.meant;
        }

    by_comment : (b : Bool) → begins_with hash (unindented line) ≡ b → (if b then None else option_and_then property_cut (split_once equals line)) ≡ Some property → IsGiven line property
    by_comment true is e = cc
    by_comment false is e = by_place is (position (λ b. b == equals) line) refl e
