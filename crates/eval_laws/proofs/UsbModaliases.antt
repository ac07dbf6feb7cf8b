-- The modalias that is made up for a USB device, and its digits.
use Rattle.std.proofs.Common.{◌≡◌, ℕ, ◌+◌, ◌*◌, ◌<◌, ◌≤◌, ◌/◌, ◌%◌, Bool, true, false, not, ◌==◌, ◌&&◌, ◌||◌, cond, eqb, nat_le, List, [], ◌∷◌, drop, length, Option, Some, None, option_and_then, codes, if◌then◌else◌, refl, ap, ◌∙◌, arith, true≢false}
use Rattle.std.specs.List.{list_all, prefix_len}
use Rattle.std.specs.Option.{option_or}
use Rattle.std.proofs.lemmas.Bool.{agree_below_at, eqb-true, le-leb}
use Rattle.text_bytes.specs.Escapes.{hex_digit}
use Rattle.text_bytes.specs.Names.{digit_zero, is_whitespace, minus, plus}
use Rattle.text_bytes.specs.Texts.{begins_with, is_empty, skip_while}
use Rattle.text_bytes.specs.declared.profile.Profile.{Profile}
use Rattle.text_bytes.specs.declared.profile.Profile.TheVariants.{Manual, Udev}
use Rattle.text_bytes.specs.Text.{Text}
use Rattle.text_tables.specs.Pairs.{Pair, value_of}
use Rattle.device_core.specs.Values.{DeviceValue}
use Rattle.builtin_devices.specs.Devices.{is_of}
use Rattle.builtin_devices.specs.Numbers.{Written, digit_value, digits_in, is_digit_in, natural, number_after, number_in, size_in, unsigned, written}
use Rattle.builtin_devices.specs.declared.numbers.Base.TheVariants.{Hexadecimal}
use Rattle.eval_state.specs.Texts.{filled, or_empty}
use Rattle.eval_commands.specs.LookUps.{candidate}
use Rattle.eval_commands.specs.UsbModalias.{four_digits, made_up, number_of, text_by, usb_modalias, usb_text}

-- ---- digits

-- A byte is a digit of base sixteen, with this value, and nothing else that counts at the start of a number.
record IsDigit (b value : ℕ) : Type 0 where
  dark : is_whitespace b ≡ false
  no_minus : (b == minus) ≡ false
  no_plus : (b == plus) ≡ false
  no_small : (b == 120) ≡ false
  no_large : (b == 88) ≡ false
  digit : is_digit_in 16 b ≡ true
  is_value : digit_value b ≡ value

digit_is : (n : ℕ) → n < 16 → IsDigit (hex_digit n) n
digit_is n h = record {
  dark = agree_below_at (λ n. is_whitespace (hex_digit n)) (λ _. false) 16 n refl h;
  no_minus = agree_below_at (λ n. hex_digit n == minus) (λ _. false) 16 n refl h;
  no_plus = agree_below_at (λ n. hex_digit n == plus) (λ _. false) 16 n refl h;
  no_small = agree_below_at (λ n. hex_digit n == 120) (λ _. false) 16 n refl h;
  no_large = agree_below_at (λ n. hex_digit n == 88) (λ _. false) 16 n refl h;
  digit = agree_below_at (λ n. is_digit_in 16 (hex_digit n)) (λ _. true) 16 n refl h;
  is_value = eqb-true (digit_value (hex_digit n)) n (agree_below_at (λ n. eqb (digit_value (hex_digit n)) n) (λ _. true) 16 n refl h);
}

module _ (a b c d k l m n : ℕ) (first : IsDigit a k) (second : IsDigit b l) (third : IsDigit c m) (fourth : IsDigit d n) where
  abbrev text : Text
  text = a ∷ b ∷ c ∷ d ∷ []

  abbrev plain : Written
  plain = record { base = 16; digits = text }

  abbrev marked : Written
  marked = record { base = 16; digits = drop 2 text }

  bare : skip_while is_whitespace text ≡ text
  bare = ap (λ v. drop (cond v (1 + prefix_len is_whitespace (b ∷ c ∷ d ∷ [])) 0) text) first.dark

  no_sign : unsigned text ≡ text
  no_sign = ap (λ v. if v || a == plus then drop 1 text else text) first.no_minus ∙ ap (λ v. if v then drop 1 text else text) first.no_plus

  no_mark : written Hexadecimal text ≡ plain
  unfolding written
  no_mark =
      ap (λ v. if a == digit_zero && (v || b == 88) then marked else plain) second.no_small
      ∙ ap (λ v. if a == digit_zero && v then marked else plain) second.no_large
      ∙ by (a == digit_zero)
    where
      by : (z : Bool) → (if z && false then marked else plain) ≡ plain
      by true = refl
      by false = refl

  size_is : size_in Hexadecimal 65535 text ≡ digits_in 16 65535 text
  size_is =
      ap (λ u. digits_in (written Hexadecimal u).base 65535 (written Hexadecimal u).digits) no_sign
      ∙ ap (λ (w : Written). digits_in w.base 65535 w.digits) no_mark

  all_digits : list_all (is_digit_in 16) text ≡ true
  all_digits =
      ap (λ v. v && (is_digit_in 16 b && (is_digit_in 16 c && (is_digit_in 16 d && true)))) first.digit
      ∙ ap (λ v. v && (is_digit_in 16 c && (is_digit_in 16 d && true))) second.digit
      ∙ ap (λ v. v && (is_digit_in 16 d && true)) third.digit
      ∙ ap (λ v. v && true) fourth.digit

  number_is : number_after 16 0 text ≡ 16 * (16 * (16 * k + l) + m) + n
  number_is =
      ap (λ (x : ℕ). number_after 16 (16 * 0 + x) (b ∷ c ∷ d ∷ [])) first.is_value
      ∙ ap (λ (x : ℕ). number_after 16 (16 * (16 * 0 + k) + x) (c ∷ d ∷ [])) second.is_value
      ∙ ap (λ (x : ℕ). number_after 16 (16 * (16 * (16 * 0 + k) + l) + x) (d ∷ [])) third.is_value
      ∙ ap (λ (x : ℕ). 16 * (16 * (16 * (16 * 0 + k) + l) + m) + x) fourth.is_value
      ∙ omega arith

  reads_as : (whole : ℕ) → 16 * (16 * (16 * k + l) + m) + n ≡ whole → whole ≤ 65535 → number_in Hexadecimal 65535 text ≡ Some whole
  unfolding number_in digits_in
  reads_as whole e most =
      let is : number_after 16 0 text ≡ whole = number_is ∙ e in
      let digits : digits_in 16 65535 text ≡ Some whole =
      ap (λ v. if v && nat_le (number_after 16 0 text) 65535 then Some (number_after 16 0 text) else None) all_digits
      ∙ ap (λ (x : ℕ). if nat_le x 65535 then Some x else None) is
      ∙ ap (λ v. if v then Some whole else None) (le-leb whole 65535 most) in
      ap (λ t. option_and_then (natural (begins_with minus t)) (size_in Hexadecimal 65535 t)) bare
      ∙ ap (option_and_then (natural (a == minus))) (size_is ∙ digits)
      ∙ ap (λ v. if v && not (whole == 0) then None else Some whole) first.no_minus

parts : (n : ℕ) → n ≤ 65535 → 16 * (16 * (16 * (n / 4096 % 16) + (n / 256 % 16)) + (n / 16 % 16)) + (n % 16) ≡ n
parts n most = omega arith

pub digits_read : (n : ℕ) → n ≤ 65535 → (length (four_digits n) ≡ 4) × (number_in Hexadecimal 65535 (four_digits n) ≡ Some n)
digits_read n most =
    let k : ℕ = n / 4096 % 16 in
    let l : ℕ = n / 256 % 16 in
    let m : ℕ = n / 16 % 16 in
    let o : ℕ = n % 16 in
    let read : number_in Hexadecimal 65535 (four_digits n) ≡ Some n =
    reads_as (hex_digit k) (hex_digit l) (hex_digit m) (hex_digit o) k l m o (digit_is k (omega arith)) (digit_is l (omega arith)) (digit_is m (omega arith)) (digit_is o (omega arith)) n (parts n most) most in
    (refl, read)

-- ---- devices

pub own_stays : (profile : Profile) (device : DeviceValue) (env : List Pair) (modalias : Text) → value_of env (codes "MODALIAS") ≡ Some modalias → is_empty modalias ≡ false → (candidate profile device env).modalias ≡ Some modalias
own_stays Manual device env modalias e some = e
own_stays Udev device env [] e some = absurd (true≢false some)
own_stays Udev device env (b ∷ modalias) e some = ap (λ (m : Option Text). option_or (filled m) (made_up device)) e

pub empty_is_none : (device : DeviceValue) (env : List Pair) → value_of env (codes "MODALIAS") ≡ Some [] → (candidate Udev device env).modalias ≡ made_up device
empty_is_none device env e = ap (λ (m : Option Text). option_or (filled m) (made_up device)) e

pub made_is : (device : DeviceValue) (env : List Pair) (vendor product : ℕ) → value_of env (codes "MODALIAS") ≡ None → is_of (codes "usb") (Some (codes "usb_device")) device ≡ true
    → number_of device (codes "idVendor") ≡ Some vendor → number_of device (codes "idProduct") ≡ Some product
    → (candidate Udev device env).modalias ≡ Some (usb_text vendor product (or_empty (value_of device.attrs (codes "product"))))
unfolding usb_modalias
made_is device env vendor product none is first second =
    ap (λ (m : Option Text). option_or (filled m) (made_up device)) none
    ∙ ap (λ b. if b then usb_modalias device else None) is
    ∙ ap (λ v. text_by device v (number_of device (codes "idProduct"))) first
    ∙ ap (text_by device (Some vendor)) second

pub none_is_made : (device : DeviceValue) (env : List Pair) → value_of env (codes "MODALIAS") ≡ None → is_of (codes "usb") (Some (codes "usb_device")) device ≡ false → (candidate Udev device env).modalias ≡ None
none_is_made device env none other = ap (λ (m : Option Text). option_or (filled m) (made_up device)) none ∙ ap (λ b. if b then usb_modalias device else None) other
