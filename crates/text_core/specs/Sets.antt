-- The set that the members between brackets give.
use Rattle.std.specs.Prelude.{◌≡◌, ℕ, zero, suc, ◌+◌, ◌*◌, Bool, false, not, ◌==◌, ◌||◌, ◌&&◌, nat_le}
use Rattle.std.specs.Prelude.{if◌then◌else◌, List, ◌∷◌, [], map, Option, Some, None, IsTrue}
use Rattle.std.specs.Char.{eq_ignore_ascii_case, to_ascii_lowercase, to_ascii_uppercase}
use Rattle.std.specs.List.{range_with_len}
use Rattle.text_bytes.specs.Text.{Text}
use Rattle.text_bytes.specs.Names.{minus}
use Rattle.text_core.specs.declared.byte_set.ByteSet.{ByteSet}
use Rattle.text_core.specs.declared.reading.Reading.{Reading}
use Rattle.text_core.specs.declared.reading.Reading.TheVariants.{Exact, Blind}

-- The last byte of a range, if a minus and that byte come next.
abbrev pub range_end : Text → Option ℕ
range_end [] = None
range_end (d ∷ []) = None
range_end (d ∷ last ∷ members) = if d == minus then Some last else None

-- Whether the members have a byte. From the left, `x-y` has the bytes from x to y, and any other byte is itself.
abbrev pub members_have : Text → ℕ → Bool
members_have [] b = false
members_have (x ∷ []) b = x == b
members_have (x ∷ y ∷ []) b = x == b || y == b
members_have (x ∷ d ∷ y ∷ members) b =
    if d == minus then (nat_le x b && nat_le b y) || members_have members b
    else x == b || members_have (d ∷ y ∷ members) b

-- The same for a reading: a blind one asks for the byte in either case.
abbrev pub members_have_by : Reading → Text → ℕ → Bool
members_have_by Exact members b = members_have members b
members_have_by Blind members b =
    members_have members (to_ascii_lowercase b) || members_have members (to_ascii_uppercase b)

-- A set takes what its members have, and a negated one takes the others.
abbrev pub set_takes : Reading → Bool → Text → ℕ → Bool
set_takes reading negated members b =
    if negated then not (members_have_by reading members b) else members_have_by reading members b

-- The number whose k lowest bits are the answers of a test at n, n + 1, ..
unfoldable pub bits_of : (ℕ → Bool) → ℕ → ℕ → ℕ
bits_of p n zero = 0
bits_of p n (suc k) = (if p n then 1 else 0) + 2 * bits_of p (n + 1) k

-- The set of the bytes that pass a test.
unfoldable pub set_of : (ℕ → Bool) → ByteSet
set_of p = record { bits = map (λ i. bits_of p (8 * i) 8) (range_with_len 0 32) }

-- Some byte that is equal except for its case is among the members.
pub record HasInSomeCase (members : Text) (b : ℕ) : Type 0 where
  pub member : ℕ
  pub among : IsTrue (members_have members member)
  pub equal : IsTrue (eq_ignore_ascii_case member b)

-- A member between brackets.
pub data Member : Type 0 where
  alone : ℕ → Member
  range : ℕ → ℕ → Member

-- Members are written one after another: a range as its first byte, a minus and its last, and a byte alone if it is
-- not followed by a minus and a further byte.
abbrev pub AreMembers : List Member → Text → Type 0
AreMembers [] m = m ≡ []
AreMembers (alone x ∷ members) m = (rest : Text) × (m ≡ x ∷ rest) × (range_end rest ≡ None) × AreMembers members rest
AreMembers (range first last ∷ members) m = (rest : Text) × (m ≡ first ∷ minus ∷ last ∷ rest) × AreMembers members rest

-- A member has itself, or the bytes from the first to the last of its range.
abbrev pub member_has : Member → ℕ → Bool
member_has (alone x) b = x == b
member_has (range first last) b = nat_le first b && nat_le b last
