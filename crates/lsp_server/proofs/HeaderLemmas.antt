-- The length that a header part of ours gives.
use Rattle.std.proofs.Common.{rules, suc, ◌≡◌, ◌≢◌, ℕ, ◌+◌, ◌-◌, ◌^◌, ◌<◌, ◌≤◌, ◌==◌, ◌&&◌, Bool, true, false, cond, not, nat_lt, List, [], ◌∷◌, ◌++◌, Some, None, length, drop, get_or, codes, decimal, refl, sym, ◌∙◌, ap, append_assoc, length-append, arith, ne_eqb}
use Rattle.std.specs.List.{after_last, before_last, list_all, onto_first, prefix_len, suffix_len}
use Rattle.std.specs.Str.{bytes_eq, str_to_ascii_lowercase}
use Rattle.std.proofs.Math.Seq.{get_or-append_seam}
use Rattle.std.proofs.lemmas.Bool.{and_parts}
use Rattle.std.proofs.lemmas.Bool.Decides.{nat_tests}
use Rattle.std.proofs.lemmas.Fmt.{decimal_nonempty, digits_decimal, digits_value-decimal}
use Rattle.std.proofs.lemmas.List.{drop_at, take_at, get_or_append_left, get_or-append_right}
use Rattle.std.proofs.lemmas.List.Sums.{AllPass-from_list_all, suffix_len_is}
use Rattle.std.proofs.lemmas.Str.Parse.{IsNumeralModel, numerals_by_fold}
use Rattle.text_bytes.specs.Lines.{lines}
use Rattle.text_bytes.specs.Names.{carriage_return, colon, newline, space, is_blank, is_whitespace}
use Rattle.text_bytes.specs.Numbers.{decimal as number_of, decimal_after, decimal_below, is_digit}
use Rattle.text_bytes.specs.Texts.{trimmed, unindented}
use Rattle.lsp_server.specs.Framed.{header_end, header_of}
use Rattle.lsp_server.specs.Headers.{content_length, is_length_line, is_length_name, length_after, length_of}
use Rattle.lsp_server.specs.FrameLaws.{HasNoNewline}

own : IsNumeralModel (λ ds. list_all is_digit ds ≡ true) (decimal_after 0)
own = numerals_by_fold _ (search rules) decimal_after (search rules)

-- ---- digits

digit_bounds : (byte : ℕ) → is_digit byte ≡ true → (48 ≤ byte) × (byte ≤ 57)
digit_bounds byte h = grind (arith, nat_tests)

no_newline : (byte : ℕ) → is_digit byte ≡ true → byte ≢ newline
no_newline byte h e = let b = digit_bounds byte h in omega (arith, b.0, e)

not_equal : (a b : ℕ) → a ≢ b → (a == b) ≡ false
not_equal a b h = ne_eqb a b h

no_whitespace : (byte : ℕ) → is_digit byte ≡ true → is_whitespace byte ≡ false
no_whitespace byte h = let b = digit_bounds byte h in grind (arith, nat_tests)

no_blank : (byte : ℕ) → is_digit byte ≡ true → is_blank byte ≡ false
no_blank byte h = let b = digit_bounds byte h in grind (arith, nat_tests)

no_colon : (byte : ℕ) → is_digit byte ≡ true → not (byte == colon) ≡ true
no_colon byte h = let b = digit_bounds byte h in grind (arith, nat_tests)

none-append : (a b : List ℕ) → HasNoNewline a → HasNoNewline b → HasNoNewline (a ++ b)
none-append [] b h k = k
none-append (byte ∷ a) b h k = (h.0, none-append a b h.1 k)

digits_none : (ds : List ℕ) → list_all is_digit ds ≡ true → HasNoNewline ds
digits_none [] h = tt
digits_none (byte ∷ ds) h = let p = and_parts (is_digit byte) (list_all is_digit ds) h in (no_newline byte p.0, digits_none ds p.1)

digits_colon : (ds rest : List ℕ) → list_all is_digit ds ≡ true → list_all (λ b. not (b == colon)) rest ≡ true → list_all (λ b. not (b == colon)) (ds ++ rest) ≡ true
digits_colon [] rest h k = k
digits_colon (byte ∷ ds) rest h k =
    let p = and_parts (is_digit byte) (list_all is_digit ds) h in
    ap (λ b. b && list_all (λ b. not (b == colon)) (ds ++ rest)) (no_colon byte p.0) ∙ digits_colon ds rest p.1 k

-- ---- lines

first_line_is : (a b : List ℕ) → HasNoNewline a → lines (a ++ newline ∷ b) ≡ a ∷ lines b
first_line_is [] b h = refl
first_line_is (byte ∷ a) b h =
    ap (λ v. cond v ([] ∷ lines (a ++ newline ∷ b)) (onto_first byte (lines (a ++ newline ∷ b)))) (not_equal byte newline h.0)
    ∙ ap (onto_first byte) (first_line_is a b h.1)

-- ---- what follows the last of a kind

suffix_after : (p : ℕ → Bool) (before : List ℕ) (x : ℕ) (after : List ℕ) → p x ≡ false → list_all p after ≡ true → suffix_len p (before ++ x ∷ after) ≡ length after
suffix_after p before x after h all =
    suffix_len_is p (before ++ x ∷ after) (length before + 1) 0 (omega (arith, long)) passes (λ l. stops) ∙ omega (arith, long)
  where
    long : length (before ++ x ∷ after) ≡ length before + (1 + length after)
    long = length-append before (x ∷ after) ∙ omega arith

    stops : p (get_or (before ++ x ∷ after) (length before + 1 - 1) 0) ≡ false
    stops =
        let at : length before + 1 - 1 ≡ length before = omega arith in
        ap (λ k. p (get_or (before ++ x ∷ after) k 0)) at ∙ ap p (get_or-append_seam before x after 0) ∙ h

    passes : (k : ℕ) → length before + 1 ≤ k → k < length (before ++ x ∷ after) → p (get_or (before ++ x ∷ after) k 0) ≡ true
    passes k low high =
        let at : k - length before ≡ suc (k - length before - 1) = omega (arith, low) in
        ap p (get_or-append_right before (x ∷ after) (length before) k 0 refl (omega (arith, low))) ∙ ap (λ j. p (get_or (x ∷ after) j 0)) at
        ∙ AllPass-from_list_all p after all (k - length before - 1) 0 (omega (arith, low, high, long))

abbrev not_colon : ℕ → Bool
not_colon b = not (b == colon)

before_is : (before after : List ℕ) → list_all not_colon after ≡ true → before_last (λ b. b == colon) (before ++ colon ∷ after) ≡ before
before_is before after all =
    let long : length (before ++ colon ∷ after) ≡ length before + (1 + length after) = length-append before (colon ∷ after) ∙ omega arith in
    let at : length (before ++ colon ∷ after) - suffix_len not_colon (before ++ colon ∷ after) - 1 ≡ length before = omega (arith, long, suffix_after not_colon before colon after refl all) in
    take_at before (colon ∷ after) (length (before ++ colon ∷ after) - suffix_len not_colon (before ++ colon ∷ after) - 1) (sym at)

after_is : (before after : List ℕ) → list_all not_colon after ≡ true → after_last (λ b. b == colon) (before ++ colon ∷ after) ≡ after
after_is before after all =
    let long : length (before ++ colon ∷ after) ≡ length before + (1 + length after) = length-append before (colon ∷ after) ∙ omega arith in
    let at : length (before ++ colon ∷ after) - suffix_len not_colon (before ++ colon ∷ after) ≡ length before + 1 = omega (arith, long, suffix_after not_colon before colon after refl all) in
    let seam : before ++ colon ∷ after ≡ (before ++ colon ∷ []) ++ after = sym (append_assoc before (colon ∷ []) after) in
    let one : length before + 1 ≡ length (before ++ colon ∷ []) = sym (length-append before (colon ∷ [])) in
    ap (λ n. drop n (before ++ colon ∷ after)) at ∙ ap (drop (length before + 1)) seam ∙ drop_at (before ++ colon ∷ []) after (length before + 1) (sym one)

-- ---- the line of ours

name_is : (before : List ℕ) → is_length_name (before ++ codes "Content-Length") ≡ true
name_is before =
    let long : length (before ++ codes "Content-Length") ≡ length before + 14 = length-append before (codes "Content-Length") in
    let at : length before ≡ length (before ++ codes "Content-Length") - 14 = omega (arith, long) in
    ap (λ end. bytes_eq (str_to_ascii_lowercase end) (str_to_ascii_lowercase (codes "Content-Length"))) (drop_at before (codes "Content-Length") (length (before ++ codes "Content-Length") - 14) at)

-- what follows the colon, and how a text of digits is read of it
abbrev said : List ℕ → List ℕ
said digits = space ∷ (digits ++ carriage_return ∷ [])

unindented_is : (digits : List ℕ) → list_all is_digit digits ≡ true → 0 < length digits → unindented (said digits) ≡ digits ++ carriage_return ∷ []
unindented_is [] h l = absurd (omega (arith, l))
unindented_is (byte ∷ digits) h l =
    let p = and_parts (is_digit byte) (list_all is_digit digits) h in
    ap (λ v. drop (1 + cond v (1 + prefix_len is_blank (digits ++ carriage_return ∷ [])) 0) (said (byte ∷ digits))) (no_blank byte p.0)

trimmed_is : (digits : List ℕ) → list_all is_digit digits ≡ true → trimmed (digits ++ carriage_return ∷ []) ≡ digits
trimmed_is digits h =
    let long : length (digits ++ carriage_return ∷ []) ≡ length digits + 1 = length-append digits (carriage_return ∷ []) in
    let end : suffix_len is_whitespace (digits ++ carriage_return ∷ []) ≡ length (digits ++ carriage_return ∷ []) - length digits =
    suffix_len_is is_whitespace (digits ++ carriage_return ∷ []) (length digits) 0 (omega (arith, long)) passes stops in
    let at : length digits ≡ length (digits ++ carriage_return ∷ []) - suffix_len is_whitespace (digits ++ carriage_return ∷ []) = omega (arith, long, end) in
    take_at digits (carriage_return ∷ []) (length (digits ++ carriage_return ∷ []) - suffix_len is_whitespace (digits ++ carriage_return ∷ [])) at
  where
    passes : (k : ℕ) → length digits ≤ k → k < length (digits ++ carriage_return ∷ []) → is_whitespace (get_or (digits ++ carriage_return ∷ []) k 0) ≡ true
    passes k low high =
        let at : k ≡ length digits = omega (arith, low, high, length-append digits (carriage_return ∷ [])) in
        ap (λ n. is_whitespace (get_or (digits ++ carriage_return ∷ []) n 0)) at ∙ ap is_whitespace (get_or-append_seam digits carriage_return [] 0)

    stops : 0 < length digits → is_whitespace (get_or (digits ++ carriage_return ∷ []) (length digits - 1) 0) ≡ false
    stops some =
        let within : length digits - 1 < length digits = omega (arith, some) in
        ap is_whitespace (get_or_append_left digits (carriage_return ∷ []) 0 (length digits - 1) within)
        ∙ no_whitespace (get_or digits (length digits - 1) 0) (AllPass-from_list_all is_digit digits h (length digits - 1) 0 within)

below_true : (a b : ℕ) → a < b → nat_lt a b ≡ true
below_true a b h = grind (arith, nat_tests)

read_again : (size : ℕ) (digits : List ℕ) → list_all is_digit digits ≡ true → 0 < length digits → number_of digits ≡ size → size < 2 ^ 32 → decimal_below (2 ^ 32) digits ≡ Some size
unfolding decimal_below
read_again size [] h l e below = absurd (omega (arith, l))
read_again size (byte ∷ digits) h l e below =
    ap (λ v. cond (v && nat_lt (number_of (byte ∷ digits)) (2 ^ 32)) (Some (number_of (byte ∷ digits))) None) h
    ∙ ap (λ n. cond (nat_lt n (2 ^ 32)) (Some n) None) e ∙ ap (λ v. cond v (Some size) None) (below_true size (2 ^ 32) below)

-- our line
abbrev line_of : List ℕ → List ℕ → List ℕ
line_of before digits = (before ++ codes "Content-Length") ++ colon ∷ said digits

colon_free : (digits : List ℕ) → list_all is_digit digits ≡ true → list_all not_colon (said digits) ≡ true
colon_free digits h = digits_colon digits (carriage_return ∷ []) h refl

line_gives : (before digits : List ℕ) → list_all is_digit digits ≡ true → is_length_line (line_of before digits) ≡ true
line_gives before digits h = ap is_length_name (before_is (before ++ codes "Content-Length") (said digits) (colon_free digits h)) ∙ name_is before

length_is : (before : List ℕ) (size : ℕ) (digits : List ℕ) → list_all is_digit digits ≡ true → 0 < length digits → number_of digits ≡ size → size < 2 ^ 32 → length_of (line_of before digits) ≡ Some size
length_is before size digits h l e below =
    ap (λ text. decimal_below (2 ^ 32) (trimmed (unindented text))) (after_is (before ++ codes "Content-Length") (said digits) (colon_free digits h))
    ∙ ap (λ text. decimal_below (2 ^ 32) (trimmed text)) (unindented_is digits h l) ∙ ap (decimal_below (2 ^ 32)) (trimmed_is digits h) ∙ read_again size digits h l e below

none_tested : (text : List ℕ) → list_all (λ b. not (b == newline)) text ≡ true → HasNoNewline text
none_tested [] h = tt
none_tested (byte ∷ text) h =
    let p = and_parts (not (byte == newline)) (list_all (λ b. not (b == newline)) text) h in
    let other : byte ≢ newline = grind (arith, nat_tests) in
    (other, none_tested text p.1)

line_none : (before digits : List ℕ) → HasNoNewline before → list_all is_digit digits ≡ true → HasNoNewline (line_of before digits)
line_none before digits n h =
    none-append (before ++ codes "Content-Length") (colon ∷ said digits) (none-append before (codes "Content-Length") n (none_tested (codes "Content-Length") refl))
    (none-append (colon ∷ space ∷ digits) (carriage_return ∷ []) (none-append (colon ∷ space ∷ []) digits (none_tested (colon ∷ space ∷ []) refl) (digits_none digits h)) (none_tested (carriage_return ∷ []) refl))

-- our header part, after what stands before it in its line
header_is : (before digits : List ℕ) → before ++ ((codes "Content-Length: " ++ digits) ++ header_end) ≡ line_of before digits ++ newline ∷ (carriage_return ∷ newline ∷ [])
header_is before digits = simp append_assoc

pub header_none : (before : List ℕ) (size : ℕ) → HasNoNewline before → size < 2 ^ 64 → HasNoNewline (before ++ (codes "Content-Length: " ++ decimal size))
header_none before size n small =
    none-append before (codes "Content-Length: " ++ decimal size) n
    (none-append (codes "Content-Length: ") (decimal size) (none_tested (codes "Content-Length: ") refl) (digits_none (decimal size) (digits_decimal own size small)))

lines_are : (before digits : List ℕ) → HasNoNewline before → list_all is_digit digits ≡ true → lines (before ++ ((codes "Content-Length: " ++ digits) ++ header_end)) ≡ line_of before digits ∷ (carriage_return ∷ []) ∷ []
lines_are before digits n h = ap lines (header_is before digits) ∙ first_line_is (line_of before digits) (carriage_return ∷ newline ∷ []) (line_none before digits n h)

-- a header part of ours gives its length
pub gives : (before : List ℕ) (size : ℕ) → HasNoNewline before → size < 2 ^ 32 → content_length (before ++ header_of size) ≡ Some size
unfolding content_length
gives before size n below =
    let small : size < 2 ^ 64 = omega (arith, below) in
    let digits = digits_decimal own size small in
    ap (length_after None) (lines_are before (decimal size) n digits)
    ∙ ap (λ v. length_after (cond v (length_of (line_of before (decimal size))) None) ((carriage_return ∷ []) ∷ [])) (line_gives before (decimal size) digits)
    ∙ ap (λ found. length_after found ((carriage_return ∷ []) ∷ [])) (length_is before size (decimal size) digits (decimal_nonempty size small) (digits_value-decimal own size small) below)
