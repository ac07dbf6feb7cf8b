-- The characters that fit into so many units.
use Rattle.std.proofs.Common.{◌≡◌, ℕ, zero, suc, ◌+◌, ◌-◌, ◌*◌, ◌<◌, ◌≤◌, Bool, true, false, cond, [], ◌∷◌, length, take, get_or, nat_le, refl, ap, ◌∙◌, arith}
use Rattle.std.proofs.lemmas.List.Sums.{sum_by-cons}
use Rattle.text_bytes.specs.Text.{Text}
use Rattle.lsp_messages.specs.Units.{fitting, is_within, units, width}
use Rattle.lsp_messages.specs.declared.counting.Encoding.{Encoding}
use Rattle.lsp_messages.specs.declared.counting.Encoding.TheVariants.{Utf8, Utf16}

some_of_four : (u v w : Bool) → 0 < cond u 1 (cond v 2 (cond w 3 4))
some_of_four true v w = omega arith
some_of_four false true w = omega arith
some_of_four false false true = omega arith
some_of_four false false false = omega arith

four : (u v w : Bool) → cond u 1 (cond v 2 (cond w 3 4)) ≤ 4
four true v w = omega arith
four false true w = omega arith
four false false true = omega arith
four false false false = omega arith

-- a byte that begins a character has units
pub width_some : (e : Encoding) (b : ℕ) → is_within b ≡ false → 0 < width e b
width_some Utf8 b h = rw h (some_of_four _ _ _)
width_some Utf16 b h = rw h (grind arith)

-- and one that goes on with a character has none
pub width_none : (e : Encoding) (b : ℕ) → is_within b ≡ true → width e b ≡ 0
width_none Utf8 b h = rw h refl
width_none Utf16 b h = rw h refl

few : (w : Bool) (n : ℕ) → n ≤ 4 → cond w 0 n ≤ 4
few true n h = omega arith
few false n h = h

two : (v : Bool) → cond v 1 2 ≤ 4
two true = omega arith
two false = omega arith

width_few : (e : Encoding) (b : ℕ) → width e b ≤ 4
width_few Utf8 b = few (is_within b) _ (four _ _ _)
width_few Utf16 b = few (is_within b) _ (two _)

-- a byte has four units at most
pub units_few : (e : Encoding) (text : Text) → units e text ≤ 4 * length text
units_few e [] = omega arith
units_few e (b ∷ text) =
    let whole = sum_by-cons (width e) b text in
    let more = units_few e text in
    let here = width_few e b in
    omega (arith, whole, more, here)

-- what fits is a front of the text
pub fits_within : (e : Encoding) (n : ℕ) (text : Text) → fitting e n text ≤ length text
fits_within e n [] = omega arith
fits_within e n (b ∷ text) = by (nat_le (width e b) n) (fits_within e (n - width e b) text)
  where
    by : (v : Bool) → fitting e (n - width e b) text ≤ length text → cond v (suc (fitting e (n - width e b) text)) 0 ≤ length (b ∷ text)
    by true more = omega arith
    by false more = omega arith

none_fits : (e : Encoding) (n b : ℕ) → nat_le (width e b) n ≡ false → (w : Bool) → is_within b ≡ w → w ≡ false
none_fits e n b over true is = let none = width_none e b is in absurd (grind (arith, none))
none_fits e n b over false is = refl

-- what does not fit begins a character
pub fits_whole : (e : Encoding) (n : ℕ) (text : Text) → fitting e n text < length text → is_within (get_or text (fitting e n text) 0) ≡ false
fits_whole e n [] h = absurd (omega arith)
fits_whole e n (b ∷ text) h = by (nat_le (width e b) n) refl (fits_whole e (n - width e b) text) h
  where
    by : (v : Bool) → nat_le (width e b) n ≡ v → (fitting e (n - width e b) text < length text → is_within (get_or text (fitting e (n - width e b) text) 0) ≡ false)
        → cond v (suc (fitting e (n - width e b) text)) 0 < length (b ∷ text) → is_within (get_or (b ∷ text) (cond v (suc (fitting e (n - width e b) text)) 0) 0) ≡ false
    by true is more h = more (omega arith)
    by false is more h = none_fits e n b is (is_within b) refl

-- the units of a front of a text that ends where a character begins are those of this front
pub fits_back : (e : Encoding) (text : Text) (n : ℕ) → n ≤ length text → (n < length text → is_within (get_or text n 0) ≡ false) → fitting e (units e (take n text)) text ≡ n
fits_back e [] n within whole = omega arith
fits_back e (b ∷ text) zero within whole =
    let some = width_some e b (whole (omega arith)) in
    let over : nat_le (width e b) 0 ≡ false = grind (arith, some) in
    rw over refl
fits_back e (b ∷ text) (suc n) within whole =
    let sum : units e (take (suc n) (b ∷ text)) ≡ width e b + units e (take n text) = sum_by-cons (width e) b (take n text) in
    let fit : nat_le (width e b) (width e b + units e (take n text)) ≡ true = grind arith in
    let left : (width e b + units e (take n text)) - width e b ≡ units e (take n text) = omega arith in
    let more = fits_back e text n (omega arith) (λ l. whole (omega arith)) in
    ap (λ u. fitting e u (b ∷ text)) sum
    ∙ ap (λ v. cond v (suc (fitting e ((width e b + units e (take n text)) - width e b) text)) 0) fit
    ∙ ap (λ u. suc (fitting e u text)) left
    ∙ ap suc more

-- what fits has no more units than it may
pub fits_few : (e : Encoding) (n : ℕ) (text : Text) → units e (take (fitting e n text) text) ≤ n
fits_few e n [] = omega arith
fits_few e n (b ∷ text) = by (nat_le (width e b) n) refl (fits_few e (n - width e b) text)
  where
    by : (v : Bool) → nat_le (width e b) n ≡ v → units e (take (fitting e (n - width e b) text) text) ≤ n - width e b
        → units e (take (cond v (suc (fitting e (n - width e b) text)) 0) (b ∷ text)) ≤ n
    by true is more =
        let whole = sum_by-cons (width e) b (take (fitting e (n - width e b) text) text) in
        let fit : width e b ≤ n = grind arith in
        omega (arith, whole, more, fit)
    by false is more = omega arith

-- and nothing longer fits
pub fits_most : (e : Encoding) (n : ℕ) (text : Text) (len : ℕ) → len ≤ length text → units e (take len text) ≤ n → len ≤ fitting e n text
fits_most e n [] len within few = omega arith
fits_most e n (b ∷ text) zero within few = omega arith
fits_most e n (b ∷ text) (suc len) within few = by (nat_le (width e b) n) refl (fits_most e (n - width e b) text len (omega arith))
  where
    whole : units e (take (suc len) (b ∷ text)) ≡ width e b + units e (take len text)
    whole = sum_by-cons (width e) b (take len text)

    by : (v : Bool) → nat_le (width e b) n ≡ v → (units e (take len text) ≤ n - width e b → len ≤ fitting e (n - width e b) text)
        → suc len ≤ cond v (suc (fitting e (n - width e b) text)) 0
    by true is more = let rest = more (omega (arith, whole, few)) in omega (arith, rest)
    by false is more = let over : n < width e b = grind arith in absurd (omega (arith, whole, few, over))
