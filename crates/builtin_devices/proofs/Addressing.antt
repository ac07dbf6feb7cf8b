-- An address that is read number by number is that of its parts between colons.
use Rattle.std.proofs.Common.{◌≡◌, ℕ, ◌+◌, ◌^◌, ◌==◌, nat_lt, suc, Bool, true, false, cond, not, ◌&&◌, List, [], ◌∷◌, length, take, drop, map, Option, Some, None, option_map, unwrap_or, ltb, refl, sym, ap, ◌∙◌, arith}
use Rattle.std.specs.List.{list_all, position, position_or_len, slice_split}
use Rattle.std.specs.Option.{option_and_then}
use Rattle.std.proofs.lemmas.Bool.{le-ltb}
use Rattle.std.proofs.lemmas.Bool.Decides.{nat_tests}
use Rattle.text_bytes.specs.Names.{colon}
use Rattle.text_bytes.specs.Numbers.{decimal, decimal_below, is_digit}
use Rattle.text_bytes.specs.Texts.{is_empty, split_once}
use Rattle.text_core.proofs.Cutting.{split_none, split_some}
use Rattle.text_bytes.specs.Text.{Text}
use Rattle.builtin_devices.specs.Addresses.{address_of, of_numbers}
use Rattle.builtin_devices.specs.AddressSteps.{before_colon, stepped, with_number, with_unit}
use Rattle.builtin_devices.specs.declared.addresses.Address.{Address}

abbrev is_colon : ℕ → Bool
is_colon b = b == colon

-- the number that a text is
abbrev number : Text → Option ℕ
number text = decimal_below (2 ^ 32) text

-- the numbers between the colons of a text
abbrev numbers : Text → List (Option ℕ)
numbers text = map number (slice_split is_colon text)

-- what a text is cut into at a colon
abbrev cut_at : Text → Option ℕ → Option (Text × Text)
cut_at text place = option_map {U = Text × Text} (λ n. (take n text, drop (n + 1) text)) place

-- a text without a colon is one number
one : (text : Text) → split_once colon text ≡ None → numbers text ≡ number text ∷ []
unfolding split_once
one text h = by (position is_colon text) refl h
  where
    by : (p : Option ℕ) → position is_colon text ≡ p → cut_at text p ≡ None → numbers text ≡ number text ∷ []
    by None e q = ap (map number) (split_none is_colon text e)
    by (Some n) e q = cc

-- a text with a colon is the number before it and those after it
more : (text prefix rest : Text) → split_once colon text ≡ Some (prefix, rest) → numbers text ≡ number prefix ∷ numbers rest
unfolding split_once
more text prefix rest h = by (position is_colon text) refl h
  where
    by : (p : Option ℕ) → position is_colon text ≡ p → cut_at text p ≡ Some (prefix, rest) → numbers text ≡ number prefix ∷ numbers rest
    by None e q = cc
    by (Some n) e q =
        ap (map number) (split_some is_colon text n e)
        ∙ ap (λ (t : Text). number t ∷ numbers (drop (n + 1) text)) (ap (λ (o : Option (Text × Text)). (unwrap_or o ([], [])).0) q)
        ∙ ap (λ (t : Text). number prefix ∷ numbers t) (ap (λ (o : Option (Text × Text)). (unwrap_or o ([], [])).1) q)

digit_no_colon : (b : ℕ) → is_digit b ≡ true → (b == colon) ≡ false
digit_no_colon b h = grind (arith, nat_tests)

one_more : (n : ℕ) → 1 + n ≡ suc n
one_more n = omega arith

-- digits alone have no colon
no_colon : (text : Text) → list_all is_digit text ≡ true → position_or_len is_colon text ≡ length text
no_colon [] h = refl
no_colon (b ∷ text) h = by (is_digit b) refl h (no_colon text)
  where
    by : (v : Bool) → is_digit b ≡ v → (v && list_all is_digit text) ≡ true → (list_all is_digit text ≡ true → position_or_len is_colon text ≡ length text)
        → cond (not (b == colon)) (1 + position_or_len is_colon text) 0 ≡ suc (length text)
    by false e q following = cc
    by true e q following = ap (λ (v : Bool). cond (not v) (1 + position_or_len is_colon text) 0) (digit_no_colon b e) ∙ ap (λ (n : ℕ). 1 + n) (following q) ∙ one_more (length text)

second_false : (a b : Bool) (n : ℕ) → cond ((a && false) && b) (Some n) None ≡ None
second_false true b n = refl
second_false false b n = refl

-- a text with a colon is not a number
no_number : (text prefix rest : Text) → split_once colon text ≡ Some (prefix, rest) → number text ≡ None
unfolding split_once decimal_below
no_number text prefix rest h = by (list_all is_digit text) refl
  where
    by : (v : Bool) → list_all is_digit text ≡ v → number text ≡ None
    by true e = at (position is_colon text) refl h
      where
        none : position is_colon text ≡ None
        none = ap (λ (n : ℕ). cond (ltb n (length text)) (Some n) None) (no_colon text e) ∙ ap (λ (b : Bool). cond b (Some (length text)) None) (le-ltb (length text) (length text) (omega arith))

        at : (p : Option ℕ) → position is_colon text ≡ p → cut_at text p ≡ Some (prefix, rest) → number text ≡ None
        at None f q = cc
        at (Some n) f q = let both : Some n ≡ None = sym f ∙ none in cc
    by false e =
        ap (λ (v : Bool). cond ((not (is_empty text) && v) && nat_lt (decimal text) (2 ^ 32)) (Some (decimal text)) None) e
        ∙ second_false (not (is_empty text)) (nat_lt (decimal text) (2 ^ 32)) (decimal text)

-- one number of an address, by what follows of it
level : (F : List (Option ℕ) → Option Address) (G : ℕ × Text → Option Address) → ((x : Option ℕ) → F (x ∷ []) ≡ None) → ((rest : Text) → F (None ∷ numbers rest) ≡ None)
    → ((n : ℕ) (rest : Text) → F (Some n ∷ numbers rest) ≡ G (n, rest)) → (text : Text) → F (numbers text) ≡ option_and_then G (before_colon text)
level F G alone none some text = by (split_once colon text) refl
  where
    here : (rest : Text) (x : Option ℕ) → F (x ∷ numbers rest) ≡ option_and_then G (option_map (λ n. (n, rest)) x)
    here rest None = none rest
    here rest (Some n) = some n rest

    by : (o : Option (Text × Text)) → split_once colon text ≡ o → F (numbers text) ≡ option_and_then G (before_colon text)
    by None e = ap F (one text e) ∙ alone (number text) ∙ sym (ap (λ (o : Option (Text × Text)). option_and_then G (option_and_then with_number o)) e)
    by (Some (prefix, rest)) e =
        ap F (more text prefix rest e)
        ∙ here rest (number prefix)
        ∙ sym (ap (λ (o : Option (Text × Text)). option_and_then G (option_and_then with_number o)) e)

five : (host bus target : ℕ) (x y : Option ℕ) (ys : List (Option ℕ)) → of_numbers (Some host ∷ Some bus ∷ Some target ∷ x ∷ y ∷ ys) ≡ None
five host bus target None y ys = refl
five host bus target (Some n) y ys = refl

-- the last number has no colon after it
last : (host bus target : ℕ) (text : Text) → of_numbers (Some host ∷ Some bus ∷ Some target ∷ numbers text) ≡ with_unit host bus target text
last host bus target text = by (split_once colon text) refl
  where
    alone : (x : Option ℕ) → of_numbers (Some host ∷ Some bus ∷ Some target ∷ x ∷ []) ≡ option_map {U = Address} (λ (unit : ℕ). record { host = host; bus = bus; target = target; unit = unit }) x
    alone None = refl
    alone (Some n) = refl

    crowded : (x : Option ℕ) (rest : Text) (o : Option (Text × Text)) → split_once colon rest ≡ o → of_numbers (Some host ∷ Some bus ∷ Some target ∷ x ∷ numbers rest) ≡ None
    crowded x rest None e = ap (λ (ns : List (Option ℕ)). of_numbers (Some host ∷ Some bus ∷ Some target ∷ x ∷ ns)) (one rest e) ∙ five host bus target x (number rest) []
    crowded x rest (Some (prefix, following)) e =
        ap (λ (ns : List (Option ℕ)). of_numbers (Some host ∷ Some bus ∷ Some target ∷ x ∷ ns)) (more rest prefix following e) ∙ five host bus target x (number prefix) (numbers following)

    by : (o : Option (Text × Text)) → split_once colon text ≡ o → of_numbers (Some host ∷ Some bus ∷ Some target ∷ numbers text) ≡ with_unit host bus target text
    by None e = ap (λ (ns : List (Option ℕ)). of_numbers (Some host ∷ Some bus ∷ Some target ∷ ns)) (one text e) ∙ alone (number text)
    by (Some (prefix, rest)) e =
        ap (λ (ns : List (Option ℕ)). of_numbers (Some host ∷ Some bus ∷ Some target ∷ ns)) (more text prefix rest e)
        ∙ crowded (number prefix) rest (split_once colon rest) refl
        ∙ sym (ap (option_map {U = Address} (λ (unit : ℕ). record { host = host; bus = bus; target = target; unit = unit })) (no_number text prefix rest e))

none_1 : (x : Option ℕ) → of_numbers (x ∷ []) ≡ None
none_1 None = refl
none_1 (Some n) = refl

none_2 : (host : ℕ) (x : Option ℕ) → of_numbers (Some host ∷ x ∷ []) ≡ None
none_2 host None = refl
none_2 host (Some n) = refl

none_3 : (host bus : ℕ) (x : Option ℕ) → of_numbers (Some host ∷ Some bus ∷ x ∷ []) ≡ None
none_3 host bus None = refl
none_3 host bus (Some n) = refl

-- from the target on
third : (host bus : ℕ) (text : Text) → of_numbers (Some host ∷ Some bus ∷ numbers text) ≡ option_and_then (λ target. with_unit host bus target.0 target.1) (before_colon text)
third host bus text =
    level (λ ns. of_numbers (Some host ∷ Some bus ∷ ns)) (λ target. with_unit host bus target.0 target.1) (none_3 host bus) (λ rest. refl) (λ n rest. last host bus n rest) text

-- from the bus on
second : (host : ℕ) (text : Text)
    → of_numbers (Some host ∷ numbers text) ≡ option_and_then (λ bus. option_and_then (λ target. with_unit host bus.0 target.0 target.1) (before_colon bus.1)) (before_colon text)
second host text =
    level (λ ns. of_numbers (Some host ∷ ns)) (λ bus. option_and_then (λ target. with_unit host bus.0 target.0 target.1) (before_colon bus.1)) (none_2 host) (λ rest. refl)
    (λ n rest. third host n rest) text

pub read_in_steps : (name : Text) → stepped name ≡ address_of name
unfolding stepped address_of
read_in_steps name =
    sym (level of_numbers (λ host. option_and_then (λ bus. option_and_then (λ target. with_unit host.0 bus.0 target.0 target.1) (before_colon bus.1)) (before_colon host.1)) none_1 (λ rest. refl)
    (λ n rest. second n rest) name)
