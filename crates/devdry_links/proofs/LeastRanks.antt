-- The rank of each name is the least of those of its files.
use Rattle.std.proofs.Common.{◌≡◌, ◌<◌, ℕ, Bool, true, false, true≢false, cond, ◌||◌, ◌&&◌, List, Option, Some, None, nat_lt, arith, refl, ap, sym, ◌∙◌}
use Rattle.std.specs.Cmp.Lexicographic.{bytes_decides}
use Rattle.std.specs.Option.{option_map_or}
use Rattle.std.proofs.lemmas.Bool.{lt-ltb, ltb-true}
use Rattle.text_bytes.specs.declared.source_file.SourceFile.{SourceFile}
use Rattle.text_bytes.specs.Text.{Text}
use Rattle.text_tables.specs.Texts.{same_text}
use Rattle.text_tables.specs.Pairs.{value_of, with_value}
use Rattle.text_tables.proofs.Found.{value_set}
use Rattle.devdry_links.specs.Notes.{hides}
use Rattle.devdry_links.specs.Ranks.{is_outranked}

same_tests : (p q : Bool) → (p ≡ true → q ≡ true) → (q ≡ true → p ≡ true) → p ≡ q
same_tests true q f g = sym (f refl)
same_tests false true f g = g refl
same_tests false false f g = refl

same_both : (a b : Text) → same_text a b ≡ same_text b a
same_both a b = same_tests (same_text a b) (same_text b a) (λ e. (bytes_decides b a).1 (sym ((bytes_decides a b).0 e))) (λ e. (bytes_decides a b).1 (sym ((bytes_decides b a).0 e)))

or_false : (a : Bool) → a ≡ (a || false)
or_false true = refl
or_false false = refl

or_less : (a b : Bool) → (b ≡ true → a ≡ true) → a ≡ (a || b)
or_less true b h = refl
or_less false true h = h refl
or_less false false h = refl

or_more : (a b : Bool) → (a ≡ true → b ≡ true) → b ≡ (a || b)
or_more true b h = h refl
or_more false b h = refl

below : (a b c : ℕ) → nat_lt a b ≡ true → nat_lt b c ≡ true → nat_lt a c ≡ true
below a b c h k =
    let first : a < b = ltb-true a b h in
    let second : b < c = ltb-true b c k in
    lt-ltb a c (omega (arith, first, second))

not_above : (a b c : ℕ) → nat_lt a b ≡ false → nat_lt a c ≡ true → nat_lt b c ≡ true
not_above a b c h k = by (nat_lt b c) refl
  where
    by : (t : Bool) → nat_lt b c ≡ t → t ≡ true
    by true e = refl
    by false e = absurd (true≢false (grind (arith, h, k, e)))

-- whether a rank is greater than that of a name, if the name has one
abbrev is_greater : Option ℕ → ℕ → Bool
is_greater least rank = option_map_or (λ l. nat_lt l rank) least false

left_same : (least : Option ℕ) (rank other : ℕ) → is_greater least rank ≡ true → is_greater least other ≡ (is_greater least other || nat_lt rank other)
left_same None rank other h = absurd (true≢false (sym h))
left_same (Some l) rank other h = or_less (nat_lt l other) (nat_lt rank other) (λ e. below l rank other h e)

put_same : (least : Option ℕ) (rank other : ℕ) → is_greater least rank ≡ false → nat_lt rank other ≡ (is_greater least other || nat_lt rank other)
put_same None rank other h = refl
put_same (Some l) rank other h = or_more (nat_lt l other) (nat_lt rank other) (λ e. not_above l rank other h e)

-- a name that has a lesser rank keeps it
pub rank_left : (ranks : List (Text × ℕ)) (file other : SourceFile) → is_outranked ranks file ≡ true → is_outranked ranks other ≡ (is_outranked ranks other || hides other file)
rank_left ranks file other h = by (same_text file.name other.name) refl
  where
    by : (b : Bool) → same_text file.name other.name ≡ b → is_outranked ranks other ≡ (is_outranked ranks other || (b && nat_lt file.rank other.rank))
    by true e =
        let least : value_of ranks file.name ≡ value_of ranks other.name = ap (value_of ranks) ((bytes_decides file.name other.name).0 e) in
        left_same (value_of ranks other.name) file.rank other.rank (ap (λ l. is_greater l file.rank) (sym least) ∙ h)
    by false e = or_false (is_outranked ranks other)

-- a name that has none takes that of a file
pub rank_put : (ranks : List (Text × ℕ)) (file other : SourceFile) → is_outranked ranks file ≡ false
    → is_outranked (with_value ranks file.name file.rank) other ≡ (is_outranked ranks other || hides other file)
rank_put ranks file other h =
    ap (λ l. is_greater l other.rank) (value_set ranks file.name file.rank other.name)
    ∙ ap (λ b. is_greater (cond b (Some file.rank) (value_of ranks other.name)) other.rank) (same_both other.name file.name)
    ∙ by (same_text file.name other.name) refl
  where
    by : (b : Bool) → same_text file.name other.name ≡ b
        → is_greater (cond b (Some file.rank) (value_of ranks other.name)) other.rank ≡ (is_outranked ranks other || (b && nat_lt file.rank other.rank))
    by true e =
        let least : value_of ranks file.name ≡ value_of ranks other.name = ap (value_of ranks) ((bytes_decides file.name other.name).0 e) in
        put_same (value_of ranks other.name) file.rank other.rank (ap (λ l. is_greater l file.rank) (sym least) ∙ h)
    by false e = or_false (is_outranked ranks other)
