-- What the texts that fit a pattern of an alias have at the places of its items.
use Rattle.std.proofs.Common.{◌≡◌, ℕ, ◌+◌, ◌≤◌, ◌==◌, suc, zero, cond, Bool, true, false, not, ◌&&◌, ◌||◌, nat_eq, nat_le, List, [], ◌∷◌, length, take, codes, refl, ap, sym, ◌∙◌, subst, inl, inr, ◌⊎◌, arith}
use Rattle.std.proofs.lemmas.Bool.{and_parts, and_from, or_cases, or_left, or_right, eqb-true, eq-eqb, leb-true, false≢true}
use Rattle.std.specs.List.{list_all, list_any, prefix_len, starts_with, zip}
use Rattle.text_core.specs.Fits.{fits}
use Rattle.text_core.specs.Items.{takes}
use Rattle.text_core.specs.declared.item.Item.{Item}
use Rattle.text_core.specs.declared.item.Item.TheVariants.{Byte, One, Many, Among}
use Rattle.rule_lints.specs.Laws.{has_small, is_small_text}
use Rattle.rule_lints.specs.LetterCase.{begin_with, has_small_digit, is_byte_in, is_many, is_small_alias, is_small_digit, items_in_place}

-- each item takes the byte of its place, and the text has such a byte
abbrev InPlace : List Item → List ℕ → Type 0
InPlace [] text = Unit {0}
InPlace (item ∷ items) [] = ⊥
InPlace (item ∷ items) (b ∷ text) = (takes item b ≡ true) × InPlace items text

-- an item that takes one byte comes before those after it
place_kept : (item : Item) (items : List Item) → is_many item ≡ false → items_in_place (item ∷ items) ≡ item ∷ items_in_place items
place_kept item items h =
    let size = prefix_len (λ x. not (is_many x)) items in
    let e : 1 + size ≡ suc size = omega arith in
    ap (λ (c : Bool). take (cond (not c) (1 + size) 0) (item ∷ items)) h ∙ ap (λ (k : ℕ). take k (item ∷ items)) e

-- an item that takes a byte, before items that are in place
with_item : (item : Item) (items : List Item) (b : ℕ) (text : List ℕ) → is_many item ≡ false → takes item b ≡ true → InPlace (items_in_place items) text → InPlace (items_in_place (item ∷ items)) (b ∷ text)
with_item item items b text m t s = subst (λ (xs : List Item). InPlace xs (b ∷ text)) (sym (place_kept item items m)) (t, s)

in_place : (items : List Item) (text : List ℕ) → fits items text ≡ true → InPlace (items_in_place items) text
in_place [] text h = tt
in_place (Many ∷ items) text h = tt
in_place (Byte c ∷ items) [] h = absurd (false≢true h)
in_place (One ∷ items) [] h = absurd (false≢true h)
in_place (Among set ∷ items) [] h = absurd (false≢true h)
in_place (Byte c ∷ items) (b ∷ text) h = let both = and_parts (takes (Byte c) b) (fits items text) h in with_item (Byte c) items b text refl both.0 (in_place items text both.1)
in_place (One ∷ items) (b ∷ text) h = with_item One items b text refl refl (in_place items text h)
in_place (Among set ∷ items) (b ∷ text) h = let both = and_parts (takes (Among set) b) (fits items text) h in with_item (Among set) items b text refl both.0 (in_place items text both.1)

-- a byte of a range is one of the text's
byte_taken : (first last b : ℕ) (item : Item) → is_byte_in first last item ≡ true → takes item b ≡ true → (nat_le first b && nat_le b last) ≡ true
byte_taken first last b (Byte c) h t = subst (λ (x : ℕ). (nat_le first x && nat_le x last) ≡ true) (eqb-true c b t) h
byte_taken first last b One h t = absurd (false≢true h)
byte_taken first last b Many h t = absurd (false≢true h)
byte_taken first last b (Among set) h t = absurd (false≢true h)

small_first : (size : ℕ) (items : List Item) (text : List ℕ) → InPlace items text → list_any is_small_digit (take size items) ≡ true → has_small 0 size text ≡ true
small_first zero items text s h = absurd (false≢true h)
small_first (suc size) [] text s h = absurd (false≢true h)
small_first (suc size) (item ∷ items) [] s h = absurd s
small_first (suc size) (item ∷ items) (b ∷ text) s h = by (or_cases (is_small_digit item) (list_any is_small_digit (take size items)) h) (λ g. small_first size items text s.1 g)
  where
    by : (is_small_digit item ≡ true) ⊎ (list_any is_small_digit (take size items) ≡ true) → (list_any is_small_digit (take size items) ≡ true → has_small 0 size text ≡ true) → has_small 0 (suc size) (b ∷ text) ≡ true
    by (inl e) more = or_left (nat_le 97 b && nat_le b 102) (has_small 0 size text) (byte_taken 97 102 b item e s.0)
    by (inr e) more = or_right (nat_le 97 b && nat_le b 102) (has_small 0 size text) (more e)

small_after : (start size : ℕ) (items : List Item) (text : List ℕ) → InPlace items text → has_small_digit start size items ≡ true → has_small start size text ≡ true
small_after zero size items text s h = small_first size items text s h
small_after (suc start) zero items text s h = absurd (false≢true h)
small_after (suc start) (suc size) [] text s h = absurd (false≢true h)
small_after (suc start) (suc size) (item ∷ items) [] s h = absurd s
small_after (suc start) (suc size) (item ∷ items) (b ∷ text) s h = small_after start (suc size) items text s.1 h

same_byte : (c b : ℕ) → (nat_le c b && nat_le b c) ≡ true → (c == b) ≡ true
same_byte c b h = let both = and_parts (nat_le c b) (nat_le b c) h in eq-eqb c b (omega (arith, leb-true c b both.0, leb-true b c both.1))

begins : (prefix : List ℕ) (items : List Item) (text : List ℕ) → InPlace items text → length prefix ≤ length items → list_all (λ pair. is_byte_in pair.0 pair.0 pair.1) (zip prefix items) ≡ true → starts_with nat_eq text prefix ≡ true
begins [] items text s l h = refl
begins (c ∷ prefix) [] text s l h =
    let none : ⊥ = omega (arith, l) in
    absurd none
begins (c ∷ prefix) (item ∷ items) [] s l h = absurd s
begins (c ∷ prefix) (item ∷ items) (b ∷ text) s l h =
    let both = and_parts (is_byte_in c c item) (list_all (λ pair. is_byte_in pair.0 pair.0 pair.1) (zip prefix items)) h in
    and_from (c == b) (starts_with nat_eq text prefix) (same_byte c b (byte_taken c c b item both.0 s.0)) (begins prefix items text s.1 (omega (arith, l)) both.1)

begins_so : (prefix : List ℕ) (items : List Item) (text : List ℕ) → InPlace items text → begin_with prefix items ≡ true → starts_with nat_eq text prefix ≡ true
begins_so prefix items text s h =
    let both = and_parts (nat_le (length prefix) (length items)) (list_all (λ pair. is_byte_in pair.0 pair.0 pair.1) (zip prefix items)) h in
    begins prefix items text s (leb-true (length prefix) (length items) both.0) both.1

-- a device's numbers, after what comes before them
numbers : (prefix : List ℕ) (size second : ℕ) (items : List Item) (text : List ℕ) → InPlace items text
    → (begin_with prefix items && (has_small_digit 5 size items || has_small_digit second size items)) ≡ true
    → (starts_with nat_eq text prefix && (has_small 5 size text || has_small second size text)) ≡ true
numbers prefix size second items text s h =
    let both = and_parts (begin_with prefix items) (has_small_digit 5 size items || has_small_digit second size items) h in
    and_from (starts_with nat_eq text prefix) _ (begins_so prefix items text s both.0) (by (or_cases (has_small_digit 5 size items) (has_small_digit second size items) both.1))
  where
    by : (has_small_digit 5 size items ≡ true) ⊎ (has_small_digit second size items ≡ true) → (has_small 5 size text || has_small second size text) ≡ true
    by (inl e) = or_left (has_small 5 size text) (has_small second size text) (small_after 5 size items text s e)
    by (inr e) = or_right (has_small 5 size text) (has_small second size text) (small_after second size items text s e)

alias_reported : (items : List Item) (text : List ℕ) → InPlace items text → is_small_alias items ≡ true → is_small_text text ≡ true
alias_reported items text s h =
    by (or_cases
    (begin_with (codes "usb:v") items && (has_small_digit 5 4 items || has_small_digit 10 4 items))
    (begin_with (codes "pci:v") items && (has_small_digit 5 8 items || has_small_digit 14 8 items)) h)
  where
    usb : Bool
    usb = starts_with nat_eq text (codes "usb:v") && (has_small 5 4 text || has_small 10 4 text)

    pci : Bool
    pci = starts_with nat_eq text (codes "pci:v") && (has_small 5 8 text || has_small 14 8 text)

    by : ((begin_with (codes "usb:v") items && (has_small_digit 5 4 items || has_small_digit 10 4 items)) ≡ true) ⊎ ((begin_with (codes "pci:v") items && (has_small_digit 5 8 items || has_small_digit 14 8 items)) ≡ true) → is_small_text text ≡ true
    by (inl e) = or_left usb pci (numbers (codes "usb:v") 4 10 items text s e)
    by (inr e) = or_right usb pci (numbers (codes "pci:v") 8 14 items text s e)

pub aliases_kept : (items : List Item) (text : List ℕ) → is_small_alias (items_in_place items) ≡ true → fits items text ≡ true → is_small_text text ≡ true
aliases_kept items text h e = alias_reported (items_in_place items) text (in_place items text e) h
