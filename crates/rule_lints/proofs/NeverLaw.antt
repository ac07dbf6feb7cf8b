-- What is reported fits nothing that the kernel writes.
use Rattle.std.proofs.Common.{◌≡◌, ℕ, ◌+◌, ◌<◌, ◌≤◌, ◌==◌, Bool, true, false, cond, not, ◌&&◌, ◌||◌, nat_eq, nat_le, nat_lt, List, [], ◌∷◌, length, codes, refl, ap, sym, ◌∙◌, subst, inl, inr, ◌⊎◌, arith}
use Rattle.std.proofs.lemmas.Bool.{and_from, and_left, and_parts, and_right, eq-eqb, eqb-true, false_from_ne_true, false≢true, leb-true, lt-ltb, ltb-true, not_from_true, or_cases, or_left, or_parts, or_right}
use Rattle.std.specs.Char.{eq_ignore_ascii_case, is_ascii_hexdigit}
use Rattle.std.specs.List.{list_all, list_any, starts_with, zip}
use Rattle.text_core.specs.Fits.{fits, some_suffix}
use Rattle.text_core.specs.Items.{takes}
use Rattle.text_core.specs.declared.item.Item.{Item}
use Rattle.text_core.specs.declared.item.Item.TheVariants.{Byte, One, Many, Among}
use Rattle.text_bytes.specs.Text.{Text}
use Rattle.text_tables.specs.Texts.{is_among, same_text}
use Rattle.rule_lints.specs.LetterCase.{begin_with, is_byte_in, is_many}
use Rattle.rule_lints.specs.Tables.{actions, architectures, removable_values, subsystems}
use Rattle.rule_lints.specs.Kernel.{are_digits, is_other_case, writes}
use Rattle.rule_lints.specs.Never.{are_no_digits, are_other_case, fits_none, is_letter_of, is_no_digit, never_fits}
use Rattle.rule_lints.specs.declared.subjects.Subject.{Subject}
use Rattle.rule_lints.specs.declared.subjects.Subject.TheVariants.{Action, Kernel, Devpath, Subsystem, FourDigits, TwoDigits, Removable, Architecture}

-- texts with the same bytes are one
same_is : (a b : Text) → same_text a b ≡ true → a ≡ b
same_is [] [] h = refl
same_is [] (c ∷ b) h = absurd (false≢true h)
same_is (c ∷ a) [] h = absurd (false≢true h)
same_is (c ∷ a) (d ∷ b) h =
    let both = and_parts (nat_eq c d) (same_text a b) h in
    ap (λ (x : ℕ). x ∷ a) (eqb-true c d both.0) ∙ ap (λ (t : Text). d ∷ t) (same_is a b both.1)

not_so : (b : Bool) → not b ≡ true → b ≡ false
not_so false h = refl
not_so true h = absurd (false≢true h)

-- a text that fits is none of those that do not
none_among : (texts : List Text) (items : List Item) (text : Text) → list_any (fits items) texts ≡ false → fits items text ≡ true → is_among texts text ≡ false
none_among [] items text h e = refl
none_among (t ∷ texts) items text h e =
    let both = or_parts (fits items t) (list_any (fits items) texts) h in
    let other : same_text text t ≡ false = false_from_ne_true (same_text text t) (λ g. false≢true (sym both.0 ∙ ap (fits items) (sym (same_is text t g)) ∙ e)) in
    ap (λ (b : Bool). b || is_among texts text) other ∙ none_among texts items text both.1 e

none_written : (texts : List Text) (items : List Item) (text : Text) → fits_none texts items ≡ true → fits items text ≡ true → is_among texts text ≡ false
none_written texts items text h e = none_among texts items text (not_so (list_any (fits items) texts) h) e

same_byte : (c b : ℕ) → (nat_le c b && nat_le b c) ≡ true → c ≡ b
same_byte c b h = let both = and_parts (nat_le c b) (nat_le b c) h in omega (arith, leb-true c b both.0, leb-true b c both.1)

-- a text that fits begins with the bytes that the items begin with
starts : (prefix : Text) (items : List Item) (text : Text) → length prefix ≤ length items → list_all (λ pair. is_byte_in pair.0 pair.0 pair.1) (zip prefix items) ≡ true
    → fits items text ≡ true → starts_with nat_eq text prefix ≡ true
starts [] items text l h e = refl
starts (c ∷ prefix) [] text l h e =
    let none : ⊥ = omega (arith, l) in
    absurd none
starts (c ∷ prefix) (One ∷ items) text l h e = absurd (false≢true h)
starts (c ∷ prefix) (Many ∷ items) text l h e = absurd (false≢true h)
starts (c ∷ prefix) (Among set ∷ items) text l h e = absurd (false≢true h)
starts (c ∷ prefix) (Byte b ∷ items) [] l h e = absurd (false≢true e)
starts (c ∷ prefix) (Byte b ∷ items) (d ∷ text) l h e =
    let both = and_parts (is_byte_in c c (Byte b)) (list_all (λ pair. is_byte_in pair.0 pair.0 pair.1) (zip prefix items)) h in
    let kept = and_parts (b == d) (fits items text) e in
    and_from (c == d) (starts_with nat_eq text prefix) (eq-eqb c d (same_byte c b both.0 ∙ eqb-true b d kept.0)) (starts prefix items text (omega (arith, l)) both.1 kept.1)

starts_so : (prefix : Text) (items : List Item) (text : Text) → begin_with prefix items ≡ true → fits items text ≡ true → starts_with nat_eq text prefix ≡ true
starts_so prefix items text h e =
    let both = and_parts (nat_le (length prefix) (length items)) (list_all (λ pair. is_byte_in pair.0 pair.0 pair.1) (zip prefix items)) h in
    starts prefix items text (leb-true (length prefix) (length items) both.0) both.1 e

-- the two folders
abbrev in_folder : Text → Bool
in_folder text = starts_with nat_eq text (codes "/sys/") || starts_with nat_eq text (codes "/dev/")

no_path : (items : List Item) (text : Text) → (begin_with (codes "/sys/") items || begin_with (codes "/dev/") items) ≡ true → fits items text ≡ true → in_folder text ≡ true
no_path items text h e = folder (or_cases (begin_with (codes "/sys/") items) (begin_with (codes "/dev/") items) h)
  where
    folder : (begin_with (codes "/sys/") items ≡ true) ⊎ (begin_with (codes "/dev/") items ≡ true) → in_folder text ≡ true
    folder (inl g) = or_left (starts_with nat_eq text (codes "/sys/")) (starts_with nat_eq text (codes "/dev/")) (starts_so (codes "/sys/") items text g e)
    folder (inr g) = or_right (starts_with nat_eq text (codes "/sys/")) (starts_with nat_eq text (codes "/dev/")) (starts_so (codes "/dev/") items text g e)

-- items that are the letters of a name fit only texts of such letters
record Letters (name : Text) (text : Text) : Type 0 where
  size : length name ≡ length text
  all : list_all (λ pair. eq_ignore_ascii_case pair.0 pair.1) (zip name text) ≡ true

letters : (name : Text) (items : List Item) (text : Text) → length name ≡ length items → list_all (λ pair. is_letter_of pair.0 pair.1) (zip name items) ≡ true → fits items text ≡ true → Letters name text
letters [] [] [] l h e = record { size = refl; all = refl }
letters [] [] (b ∷ text) l h e = absurd (false≢true e)
letters [] (x ∷ items) text l h e =
    let none : ⊥ = omega (arith, l) in
    absurd none
letters (a ∷ name) [] text l h e =
    let none : ⊥ = omega (arith, l) in
    absurd none
letters (a ∷ name) (One ∷ items) text l h e = absurd (false≢true h)
letters (a ∷ name) (Many ∷ items) text l h e = absurd (false≢true h)
letters (a ∷ name) (Among set ∷ items) text l h e = absurd (false≢true h)
letters (a ∷ name) (Byte b ∷ items) [] l h e = absurd (false≢true e)
letters (a ∷ name) (Byte b ∷ items) (c ∷ text) l h e =
    let both = and_parts (eq_ignore_ascii_case a b) (list_all (λ pair. is_letter_of pair.0 pair.1) (zip name items)) h in
    let kept = and_parts (b == c) (fits items text) e in
    let rest = letters name items text (omega (arith, l)) both.1 kept.1 in
    record {
      size = omega (arith, rest.size);
      all = and_from (eq_ignore_ascii_case a c) (list_all (λ pair. eq_ignore_ascii_case pair.0 pair.1) (zip name text)) (subst (λ (x : ℕ). eq_ignore_ascii_case a x ≡ true) (eqb-true b c kept.0) both.0) rest.all;
    }

other_case : (name : Text) (items : List Item) (text : Text) → are_other_case name items ≡ true → fits items text ≡ true → is_other_case name text ≡ true
other_case name items text h e =
    let outer = and_parts (nat_eq (length name) (length items)) (list_all (λ pair. is_letter_of pair.0 pair.1) (zip name items) && not (fits items name)) h in
    let inner = and_parts (list_all (λ pair. is_letter_of pair.0 pair.1) (zip name items)) (not (fits items name)) outer.1 in
    let found = letters name items text (eqb-true (length name) (length items) outer.0) inner.0 e in
    let apart : same_text name text ≡ false = false_from_ne_true (same_text name text) (λ g. false≢true (sym (not_so (fits items name) inner.1) ∙ ap (fits items) (same_is name text g) ∙ e)) in
    and_from (nat_eq (length name) (length text)) (list_all (λ pair. eq_ignore_ascii_case pair.0 pair.1) (zip name text) && not (same_text name text))
    (eq-eqb (length name) (length text) found.size)
    (and_from (list_all (λ pair. eq_ignore_ascii_case pair.0 pair.1) (zip name text)) (not (same_text name text)) found.all (ap not apart))

some_other_case : (names : List Text) (items : List Item) (text : Text) → list_any (λ name. are_other_case name items) names ≡ true → fits items text ≡ true → list_any (λ name. is_other_case name text) names ≡ true
some_other_case [] items text h e = absurd (false≢true h)
some_other_case (name ∷ names) items text h e = by (or_cases (are_other_case name items) (list_any (λ n. are_other_case n items) names) h) (λ g. some_other_case names items text g e)
  where
    by : (are_other_case name items ≡ true) ⊎ (list_any (λ n. are_other_case n items) names ≡ true) → (list_any (λ n. are_other_case n items) names ≡ true → list_any (λ n. is_other_case n text) names ≡ true)
        → (is_other_case name text || list_any (λ n. is_other_case n text) names) ≡ true
    by (inl g) more = or_left (is_other_case name text) (list_any (λ n. is_other_case n text) names) (other_case name items text g e)
    by (inr g) more = or_right (is_other_case name text) (list_any (λ n. is_other_case n text) names) (more g)

-- a byte that is no digit is one of the text's
bad_in_suffix : (p : Text → Bool) → ((t : Text) → p t ≡ true → list_all is_ascii_hexdigit t ≡ false) → (t : Text) → some_suffix p t ≡ true → list_all is_ascii_hexdigit t ≡ false
bad_in_suffix p f [] e = f [] e
bad_in_suffix p f (b ∷ t) e = by (or_cases (p (b ∷ t)) (some_suffix p t) e) (λ g. bad_in_suffix p f t g)
  where
    by : (p (b ∷ t) ≡ true) ⊎ (some_suffix p t ≡ true) → (some_suffix p t ≡ true → list_all is_ascii_hexdigit t ≡ false) → list_all is_ascii_hexdigit (b ∷ t) ≡ false
    by (inl g) more = f (b ∷ t) g
    by (inr g) more = and_right (is_ascii_hexdigit b) (list_all is_ascii_hexdigit t) (more g)

bad_kept : (items : List Item) (text : Text) → list_any is_no_digit items ≡ true → fits items text ≡ true → list_all is_ascii_hexdigit text ≡ false
bad_kept [] text h e = absurd (false≢true h)
bad_kept (Many ∷ items) text h e = bad_in_suffix (fits items) (λ t g. bad_kept items t h g) text e
bad_kept (One ∷ items) [] h e = absurd (false≢true e)
bad_kept (Among set ∷ items) [] h e = absurd (false≢true e)
bad_kept (Byte c ∷ items) [] h e = absurd (false≢true e)
bad_kept (One ∷ items) (b ∷ text) h e = and_right (is_ascii_hexdigit b) (list_all is_ascii_hexdigit text) (bad_kept items text h e)
bad_kept (Among set ∷ items) (b ∷ text) h e =
    let kept = and_parts (takes (Among set) b) (fits items text) e in
    and_right (is_ascii_hexdigit b) (list_all is_ascii_hexdigit text) (bad_kept items text h kept.1)
bad_kept (Byte c ∷ items) (b ∷ text) h e =
    let kept = and_parts (c == b) (fits items text) e in
    by kept.0 (or_cases (not (is_ascii_hexdigit c)) (list_any is_no_digit items) h) (λ g. bad_kept items text g kept.1)
  where
    by : (c == b) ≡ true → (not (is_ascii_hexdigit c) ≡ true) ⊎ (list_any is_no_digit items ≡ true) → (list_any is_no_digit items ≡ true → list_all is_ascii_hexdigit text ≡ false)
        → list_all is_ascii_hexdigit (b ∷ text) ≡ false
    by same (inl g) more = and_left (is_ascii_hexdigit b) (list_all is_ascii_hexdigit text) (subst (λ (x : ℕ). is_ascii_hexdigit x ≡ false) (eqb-true c b same) (not_so (is_ascii_hexdigit c) g))
    by same (inr g) more = and_right (is_ascii_hexdigit b) (list_all is_ascii_hexdigit text) (more g)

-- a text that fits has a byte for each item if none of them takes any bytes
short : (items : List Item) (text : Text) → list_any is_many items ≡ false → fits items text ≡ true → length items ≡ length text
short [] [] h e = refl
short [] (b ∷ text) h e = absurd (false≢true e)
short (Many ∷ items) text h e = absurd (false≢true (sym h))
short (One ∷ items) [] h e = absurd (false≢true e)
short (Among set ∷ items) [] h e = absurd (false≢true e)
short (Byte c ∷ items) [] h e = absurd (false≢true e)
short (One ∷ items) (b ∷ text) h e = let same = short items text h e in omega (arith, same)
short (Among set ∷ items) (b ∷ text) h e =
    let kept = and_parts (takes (Among set) b) (fits items text) e in
    let same = short items text h kept.1 in
    omega (arith, same)
short (Byte c ∷ items) (b ∷ text) h e =
    let kept = and_parts (c == b) (fits items text) e in
    let same = short items text h kept.1 in
    omega (arith, same)

no_digits : (size : ℕ) (items : List Item) (text : Text) → are_no_digits size items ≡ true → fits items text ≡ true → are_digits size text ≡ false
no_digits size items text h e = by (or_cases (list_any is_no_digit items) (not (list_any is_many items) && not (nat_eq (length items) size)) h)
  where
    by : (list_any is_no_digit items ≡ true) ⊎ ((not (list_any is_many items) && not (nat_eq (length items) size)) ≡ true) → are_digits size text ≡ false
    by (inl g) = and_right (nat_eq (length text) size) (list_all is_ascii_hexdigit text) (bad_kept items text g e)
    by (inr g) =
        let both = and_parts (not (list_any is_many items)) (not (nat_eq (length items) size)) g in
        let exact = short items text (not_so (list_any is_many items) both.0) e in
        and_left (nat_eq (length text) size) (list_all is_ascii_hexdigit text) (subst (λ (n : ℕ). nat_eq n size ≡ false) exact (not_so (nat_eq (length items) size) both.1))

pub never_written : (subject : Subject) (items : List Item) (text : Text) → never_fits subject items ≡ true → fits items text ≡ true → writes subject text ≡ false
never_written Action items text h e = none_written actions items text h e
never_written Kernel items text h e = ap not (starts_so (codes "/") items text h e)
never_written Devpath items text h e = ap not (no_path items text h e)
never_written Subsystem items text h e = ap not (some_other_case subsystems items text h e)
never_written FourDigits items text h e = no_digits 4 items text h e
never_written TwoDigits items text h e = no_digits 2 items text h e
never_written Removable items text h e = none_written removable_values items text h e
never_written Architecture items text h e = none_written architectures items text h e
