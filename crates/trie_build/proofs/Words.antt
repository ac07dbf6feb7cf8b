-- Bytes that are compared as the numbers that they spell.
use Rattle.std.proofs.Common.{◌≡◌, ℕ, zero, suc, ◌+◌, ◌*◌, ◌<◌, ◌≤◌, true, false, not, ◌==◌, List, [], ◌∷◌, ◌++◌, length, take, drop, get_or, refl, sym, ◌∙◌, ap, arith, drop-cons, drop-drop, length-drop, length-take-le, get_or-take, get_or-drop, take-append-drop, drop_of_length-le}
use Rattle.std.proofs.Math.Logic.{⊎_elim}
use Rattle.std.proofs.lemmas.Bool.{cases_order}
use Rattle.std.specs.Cmp.Lexicographic.{slice_cmp}
use Rattle.std.specs.Ordering.{nat_cmp, ordering_index, ordering_then}
use Rattle.std.specs.Slice.Scan.{big_endian}
use Rattle.std.specs.declared.cmp.Ordering.{Ordering}
use Rattle.std.specs.declared.cmp.Ordering.TheVariants.{Less, Equal, Greater}
use Rattle.trie_build.proofs.Prefixing.{less, more, tied}

-- each is a byte
abbrev AreBytes : List ℕ → Type 0
AreBytes xs = (k : ℕ) → k < length xs → get_or xs k 0 < 256

-- so many bytes from a place on, one by one
abbrev bytes_at : List ℕ → ℕ → ℕ → ℕ → List ℕ
bytes_at xs i k zero = []
bytes_at xs i k (suc n) = get_or xs (i + k) 0 ∷ bytes_at xs i (suc k) n

are_at : (n : ℕ) (xs : List ℕ) (i k : ℕ) → i + k + n ≤ length xs → take n (drop (i + k) xs) ≡ bytes_at xs i k n
are_at zero xs i k h = refl
are_at (suc n) xs i k h =
    let next : suc (i + k) ≡ i + suc k = omega arith in
    ap (take (suc n)) (drop-cons xs (i + k) 0 (omega arith))
    ∙ ap (λ l. get_or xs (i + k) 0 ∷ l) (ap (λ m. take n (drop m xs)) next ∙ are_at n xs i (suc k) (omega arith))

-- the number that eight bytes spell, as a sum
pub word_is : (xs : List ℕ) (i : ℕ) → i + 8 ≤ length xs
    → get_or xs i 0 * 72057594037927936 + get_or xs (i + 1) 0 * 281474976710656 + get_or xs (i + 2) 0 * 1099511627776 + get_or xs (i + 3) 0 * 4294967296
    + get_or xs (i + 4) 0 * 16777216 + get_or xs (i + 5) 0 * 65536 + get_or xs (i + 6) 0 * 256 + get_or xs (i + 7) 0 ≡ big_endian 0 (take 8 (drop i xs))
word_is xs i h =
    let same : i ≡ i + 0 = omega arith in
    let first : get_or xs (i + 0) 0 ≡ get_or xs i 0 = ap (λ k. get_or xs k 0) (sym same) in
    omega (arith, first) ∙ sym (ap (λ m. big_endian 0 (take 8 (drop m xs))) same ∙ ap (big_endian 0) (are_at 8 xs i 0 (omega arith)))

-- what begins lower is lower
lower : (xs ys : List ℕ) (m n : ℕ) → length xs ≡ length ys → AreBytes xs → m < n → big_endian m xs < big_endian n ys
lower [] [] m n len bytes h = h
lower [] (y ∷ ys) m n len bytes h = absurd (omega arith)
lower (x ∷ xs) [] m n len bytes h = absurd (omega arith)
lower (x ∷ xs) (y ∷ ys) m n len bytes h =
    let byte : x < 256 = bytes 0 (omega arith) in
    lower xs ys (m * 256 + x) (n * 256 + y) (omega arith) (λ k l. bytes (suc k) (omega arith)) (omega arith)

-- of as many bytes the numbers decide, and what follows the bytes only if these are the same
by_number : (xs ys us vs : List ℕ) (m : ℕ) → length xs ≡ length ys → AreBytes xs → AreBytes ys
    → slice_cmp nat_cmp (xs ++ us) (ys ++ vs) ≡ ordering_then (nat_cmp (big_endian m xs) (big_endian m ys)) (slice_cmp nat_cmp us vs)
by_number [] [] us vs m len p q = sym (ap (λ o. ordering_then o (slice_cmp nat_cmp us vs)) (tied m m refl))
by_number [] (y ∷ ys) us vs m len p q = absurd (omega arith)
by_number (x ∷ xs) [] us vs m len p q = absurd (omega arith)
by_number (x ∷ xs) (y ∷ ys) us vs m len p q = ⊎_elim (same (by_number xs ys us vs (m * 256 + x) (omega arith) (λ k l. p (suc k) (omega arith)) (λ k l. q (suc k) (omega arith)))) (λ rest. ⊎_elim below above rest) (cases_order x y) where
  following : Ordering
  following = slice_cmp nat_cmp us vs

  both : Ordering
  both = slice_cmp nat_cmp (xs ++ us) (ys ++ vs)

  own : ℕ
  own = big_endian (m * 256 + x) xs

  other : ℕ
  other = big_endian (m * 256 + y) ys

  below : x < y → ordering_then (nat_cmp x y) both ≡ ordering_then (nat_cmp own other) following
  below h = ap (λ o. ordering_then o both) (less x y h) ∙ sym (ap (λ o. ordering_then o following) (less own other (lower xs ys (m * 256 + x) (m * 256 + y) (omega arith) (λ k l. p (suc k) (omega arith)) (omega arith))))

  above : y < x → ordering_then (nat_cmp x y) both ≡ ordering_then (nat_cmp own other) following
  above h = ap (λ o. ordering_then o both) (more x y h) ∙ sym (ap (λ o. ordering_then o following) (more own other (lower ys xs (m * 256 + y) (m * 256 + x) (omega arith) (λ k l. q (suc k) (omega arith)) (omega arith))))

  same : both ≡ ordering_then (nat_cmp own (big_endian (m * 256 + x) ys)) following → x ≡ y → ordering_then (nat_cmp x y) both ≡ ordering_then (nat_cmp own other) following
  same rest e = ap (λ o. ordering_then o both) (tied x y e) ∙ rest ∙ ap (λ z. ordering_then (nat_cmp own (big_endian (m * 256 + z) ys)) following) e

-- eight bytes from a place on, and what follows them
pub words_compare : (xs ys : List ℕ) (i : ℕ) → i + 8 ≤ length xs → i + 8 ≤ length ys → AreBytes xs → AreBytes ys
    → slice_cmp nat_cmp (drop i xs) (drop i ys) ≡ ordering_then (nat_cmp (big_endian 0 (take 8 (drop i xs))) (big_endian 0 (take 8 (drop i ys)))) (slice_cmp nat_cmp (drop (i + 8) xs) (drop (i + 8) ys))
words_compare xs ys i h k p q =
    let prefix : List ℕ = take 8 (drop i xs) in
    let back : List ℕ = take 8 (drop i ys) in
    let len : length prefix ≡ length back = omega (arith, length-take-le 8 (drop i xs) (omega (arith, length-drop i xs)), length-take-le 8 (drop i ys) (omega (arith, length-drop i ys))) in
    ap (λ l. slice_cmp nat_cmp l (drop i ys)) (sym (take-append-drop 8 (drop i xs)))
    ∙ ap (slice_cmp nat_cmp (prefix ++ drop 8 (drop i xs))) (sym (take-append-drop 8 (drop i ys)))
    ∙ by_number prefix back (drop 8 (drop i xs)) (drop 8 (drop i ys)) 0 len (within xs h p) (within ys k q)
    ∙ ap (λ l. ordering_then (nat_cmp (big_endian 0 prefix) (big_endian 0 back)) (slice_cmp nat_cmp l (drop 8 (drop i ys)))) (drop-drop 8 i xs)
    ∙ ap (λ l. ordering_then (nat_cmp (big_endian 0 prefix) (big_endian 0 back)) (slice_cmp nat_cmp (drop (i + 8) xs) l)) (drop-drop 8 i ys)
  where
    within : (zs : List ℕ) → i + 8 ≤ length zs → AreBytes zs → AreBytes (take 8 (drop i zs))
    within zs le bytes n l =
        let len : length (take 8 (drop i zs)) ≡ 8 = length-take-le 8 (drop i zs) (omega (arith, length-drop i zs)) in
        let at : get_or (take 8 (drop i zs)) n 0 ≡ get_or zs (i + n) 0 = get_or-take 8 (drop i zs) n 0 (omega (arith, len)) ∙ get_or-drop i zs n 0 in
        omega (arith, at, bytes (i + n) (omega (arith, len)))

-- what is not a tie decides
pub decides : (o next : Ordering) → not (ordering_index o == 1) ≡ true → ordering_then o next ≡ o
decides Less next h = refl
decides Equal next h = cc
decides Greater next h = refl

-- a tie leaves it to what follows
pub leaves : (o next : Ordering) → not (ordering_index o == 1) ≡ false → ordering_then o next ≡ next
leaves Less next h = cc
leaves Equal next h = refl
leaves Greater next h = cc

-- if nothing follows, everything is decided
pub ends : (o : Ordering) (xs ys : List ℕ) → length xs ≡ 24 → length ys ≡ 24 → ordering_then o (slice_cmp nat_cmp (drop 24 xs) (drop 24 ys)) ≡ o
ends o xs ys len other =
    let none : drop 24 xs ≡ [] = drop_of_length-le xs (let long : length xs ≤ 24 = omega (arith, len) in long) in
    let other_none : drop 24 ys ≡ [] = drop_of_length-le ys (let long : length ys ≤ 24 = omega (arith, other) in long) in
    ap (λ l. ordering_then o (slice_cmp nat_cmp l (drop 24 ys))) none
    ∙ ap (λ l. ordering_then o (slice_cmp nat_cmp [] l)) other_none
    ∙ last o
  where
    last : (r : Ordering) → ordering_then r Equal ≡ r
    last Less = refl
    last Equal = refl
    last Greater = refl
