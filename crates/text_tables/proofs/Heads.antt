-- Names whose heads differ are in the order of their heads.
use Rattle.std.proofs.Common.{◌≡◌, ℕ, zero, suc, ◌+◌, ◌-◌, ◌*◌, ◌%◌, ◌^◌, ◌<◌, ◌≤◌, true, false, ◌==◌, nat_lt, cond, [], ◌∷◌, length, get_or, refl, ap, sym, subst, ◌∙◌, arith}
use Rattle.std.proofs.Math.Logic.{⊎_elim}
use Rattle.std.proofs.Math.Nat.{mul-le-mul_left, pow-suc}
use Rattle.std.proofs.lemmas.Bool.{cases_order}
use Rattle.std.proofs.lemmas.Cmp.{nat_list_cmp_total}
use Rattle.std.specs.Ordering.{nat_cmp, ordering_reverse, ordering_then}
use Rattle.std.specs.declared.cmp.Ordering.TheVariants.{Less, Equal, Greater}
use Rattle.text_bytes.specs.Insertion.{text_order}
use Rattle.text_tables.specs.Heads.{IsHead, four_at, head_of}
use Rattle.text_bytes.specs.Text.{Text}

abbrev AreBytes : Text → Type 0
AreBytes text = (k : ℕ) → get_or text k 0 < 256

less : (a b : ℕ) → a < b → nat_cmp a b ≡ Less
less a b h = let test : nat_lt a b ≡ true = grind arith in ap (λ t. cond t Less (cond (a == b) Equal Greater)) test

more : (a b : ℕ) → b < a → nat_cmp a b ≡ Greater
more a b h =
    let test : nat_lt a b ≡ false = grind arith in
    let same : (a == b) ≡ false = grind arith in
    ap (λ t. cond t Less (cond (a == b) Equal Greater)) test ∙ ap (λ t. cond t Equal Greater) same

tied : (a b : ℕ) → a ≡ b → nat_cmp a b ≡ Equal
tied a b h =
    let test : nat_lt a b ≡ false = grind arith in
    let same : (a == b) ≡ true = grind arith in
    ap (λ t. cond t Less (cond (a == b) Equal Greater)) test ∙ ap (λ t. cond t Equal Greater) same

-- bytes after a byte are bytes
following : (b : ℕ) (text : Text) → AreBytes (b ∷ text) → AreBytes text
following b text h k = h (suc k)

-- a head of a name of eight bytes or more is read as two numbers of four bytes
pub head_of_long : (text : Text) → 8 ≤ length text → four_at text 0 * 4294967296 + four_at text 4 ≡ head_of 8 text
unfolding four_at
head_of_long [] long = absurd (omega arith)
head_of_long (a ∷ []) long = absurd (omega arith)
head_of_long (a ∷ b ∷ []) long = absurd (omega arith)
head_of_long (a ∷ b ∷ c ∷ []) long = absurd (omega arith)
head_of_long (a ∷ b ∷ c ∷ d ∷ []) long = absurd (omega arith)
head_of_long (a ∷ b ∷ c ∷ d ∷ e ∷ []) long = absurd (omega arith)
head_of_long (a ∷ b ∷ c ∷ d ∷ e ∷ f ∷ []) long = absurd (omega arith)
head_of_long (a ∷ b ∷ c ∷ d ∷ e ∷ f ∷ g ∷ []) long = absurd (omega arith)
head_of_long (a ∷ b ∷ c ∷ d ∷ e ∷ f ∷ g ∷ h ∷ text) long = omega arith

-- of a shorter name the last four bytes are moved to their place, and those that are among the first four fall off
pub head_of_short : (text : Text) → AreBytes text → 4 ≤ length text → length text < 8
    → four_at text 0 * 4294967296 + four_at text (length text - 4) * 2 ^ (8 * (8 - length text)) % 18446744073709551616 % 4294967296 ≡ head_of 8 text
unfolding four_at
head_of_short [] bytes some short = absurd (omega arith)
head_of_short (a ∷ []) bytes some short = absurd (omega arith)
head_of_short (a ∷ b ∷ []) bytes some short = absurd (omega arith)
head_of_short (a ∷ b ∷ c ∷ []) bytes some short = absurd (omega arith)
head_of_short (a ∷ b ∷ c ∷ d ∷ []) bytes some short = omega arith
head_of_short (a ∷ b ∷ c ∷ d ∷ e ∷ []) bytes some short =
    let fifth : e < 256 = bytes 4 in
    omega arith
head_of_short (a ∷ b ∷ c ∷ d ∷ e ∷ f ∷ []) bytes some short =
    let fifth : e < 256 = bytes 4 in
    let sixth : f < 256 = bytes 5 in
    omega arith
head_of_short (a ∷ b ∷ c ∷ d ∷ e ∷ f ∷ g ∷ []) bytes some short =
    let fifth : e < 256 = bytes 4 in
    let sixth : f < 256 = bytes 5 in
    let seventh : g < 256 = bytes 6 in
    omega arith
head_of_short (a ∷ b ∷ c ∷ d ∷ e ∷ f ∷ g ∷ h ∷ text) bytes some short = absurd (omega arith)

-- a head of so many bytes is below that power
below : (n : ℕ) (text : Text) → AreBytes text → head_of n text < 256 ^ n
below zero text h = omega arith
below (suc n) [] h = positive (suc n)
  where
    positive : (m : ℕ) → 0 < 256 ^ m
    positive zero = omega arith
    positive (suc m) = let up : 256 ^ suc m ≡ 256 ^ m * 256 = pow-suc 256 m in omega (arith, up, positive m)
below (suc n) (b ∷ text) h =
    let rest : head_of n text < 256 ^ n = below n text (following b text h) in
    let byte : b < 256 = h 0 in
    let up : 256 ^ suc n ≡ 256 ^ n * 256 = pow-suc 256 n in
    let most : 256 ^ n * (b + 1) ≤ 256 ^ n * 256 = mul-le-mul_left (256 ^ n) (omega (arith, byte)) in
    omega (arith, rest, up, most)

-- of two names the one with the lower head comes first
first : (n : ℕ) (a b : Text) → AreBytes a → AreBytes b → head_of n a < head_of n b → text_order a b ≡ Less
first zero a b p q h = absurd (omega (arith, h))
first (suc n) [] [] p q h = absurd (omega (arith, h))
first (suc n) [] (y ∷ b) p q h = refl
first (suc n) (x ∷ a) [] p q h = absurd (omega (arith, h))
first (suc n) (x ∷ a) (y ∷ b) p q h = ⊎_elim (same (first n a b (following x a p) (following y b q))) (λ rest. ⊎_elim lower higher rest) (cases_order x y)
  where
    lower : x < y → ordering_then (nat_cmp x y) (text_order a b) ≡ Less
    lower l = ap (λ o. ordering_then o (text_order a b)) (less x y l)

    same : (head_of n a < head_of n b → text_order a b ≡ Less) → x ≡ y → ordering_then (nat_cmp x y) (text_order a b) ≡ Less
    same after e =
        let left : y * 256 ^ n + head_of n a < y * 256 ^ n + head_of n b = subst (λ (z : ℕ). z * 256 ^ n + head_of n a < y * 256 ^ n + head_of n b) e h in
        let rest : head_of n a < head_of n b = omega (arith, left) in
        ap (λ o. ordering_then o (text_order a b)) (tied x y e) ∙ after rest

    higher : y < x → ordering_then (nat_cmp x y) (text_order a b) ≡ Less
    higher l =
        let most : 256 ^ n * (y + 1) ≤ 256 ^ n * x = mul-le-mul_left (256 ^ n) (omega (arith, l)) in
        let rest : head_of n b < 256 ^ n = below n b (following y b q) in
        absurd (omega (arith, most, rest, h))

-- heads that differ decide
pub heads_decide : (head other_head : ℕ) (name other : Text) → IsHead head name → IsHead other_head other → (head ≡ other_head → ⊥) → nat_cmp head other_head ≡ text_order name other
heads_decide head other_head name other is is' differ = ⊎_elim same (λ rest. ⊎_elim lower higher rest) (cases_order head other_head)
  where
    same : head ≡ other_head → nat_cmp head other_head ≡ text_order name other
    same e = absurd (differ e)

    lower : head < other_head → nat_cmp head other_head ≡ text_order name other
    lower l =
        let heads : head_of 8 name < head_of 8 other = omega (arith, l, is.is, is'.is) in
        less head other_head l ∙ sym (first 8 name other is.bytes is'.bytes heads)

    higher : other_head < head → nat_cmp head other_head ≡ text_order name other
    higher l =
        let heads : head_of 8 other < head_of 8 name = omega (arith, l, is.is, is'.is) in
        let turned : text_order other name ≡ Less = first 8 other name is'.bytes is.bytes heads in
        more head other_head l ∙ sym (nat_list_cmp_total.antisymm name other ∙ ap ordering_reverse turned)
