-- A UTF-8 sequence is reported by its own bytes.
use Rattle.std.proofs.Common.{◌≡◌, ℕ, ◌<◌, ◌≤◌, ◌==◌, ◌&&◌, Bool, true, false, cond, nat_lt, is_some, if◌then◌else◌, List, [], ◌∷◌, length, slice_index, refl, sym, subst, ap, ◌∙◌, arith}
use Rattle.bstr.specs.Utf8.{Decoded, bad, good, decoded, decoded_by, second, continues, code_of_2, code_of_3, code_of_4}
use Rattle.bstr.proofs.lemmas.PieceLemmas.{piece-bounds, size-within}
use Rattle.std.proofs.lemmas.Bool.{ltb-true}
use Rattle.text_bytes.specs.Safe.{sequence_len}

-- how many bytes a sequence of several bytes has, by what was decoded
abbrev pub several : Decoded → ℕ
several d = if is_some d.char && nat_lt 1 d.size then d.size else 0

-- what is decoded, by the answers to the questions about the bytes
abbrev pub by_answers : (none ascii low high two paired three third four fourth : Bool) (one code2 code3 code4 : ℕ) → (below_e0 below_f0 : Bool) → Decoded
by_answers none ascii low high two paired three third four fourth one code2 code3 code4 below_e0 below_f0 =
    cond none (bad 0)
    (cond ascii (good one 1)
    (cond low (bad 1)
    (cond high (bad 1)
    (cond two (bad 1)
    (cond paired
    (cond below_e0 (good code2 2)
    (cond three (bad 2)
    (cond third
    (cond below_f0 (good code3 3)
    (cond four (bad 3)
    (cond fourth (good code4 4) (bad 3))))
    (bad 2))))
    (bad 1))))))

-- the third and the fourth answer count only if so many bytes are decoded
pub several_same : (none ascii low high two paired three third four fourth : Bool) (one c2 c3 c4 : ℕ) (below_e0 below_f0 : Bool) (third' fourth' : Bool) (d2 d3 d4 : ℕ)
    → 0 < several (by_answers none ascii low high two paired three third four fourth one c2 c3 c4 below_e0 below_f0)
    → (2 < several (by_answers none ascii low high two paired three third four fourth one c2 c3 c4 below_e0 below_f0) → third' ≡ third)
    → (3 < several (by_answers none ascii low high two paired three third four fourth one c2 c3 c4 below_e0 below_f0) → fourth' ≡ fourth)
    → several (by_answers none ascii low high two paired three third' four fourth' one d2 d3 d4 below_e0 below_f0)
    ≡ several (by_answers none ascii low high two paired three third four fourth one c2 c3 c4 below_e0 below_f0)
several_same true ascii low high two paired three third four fourth one c2 c3 c4 e0 f0 third' fourth' d2 d3 d4 some h3 h4 = refl
several_same false true low high two paired three third four fourth one c2 c3 c4 e0 f0 third' fourth' d2 d3 d4 some h3 h4 = refl
several_same false false true high two paired three third four fourth one c2 c3 c4 e0 f0 third' fourth' d2 d3 d4 some h3 h4 = refl
several_same false false false true two paired three third four fourth one c2 c3 c4 e0 f0 third' fourth' d2 d3 d4 some h3 h4 = refl
several_same false false false false true second three third four fourth one c2 c3 c4 e0 f0 third' fourth' d2 d3 d4 some h3 h4 = refl
several_same false false false false false false three third four fourth one c2 c3 c4 e0 f0 third' fourth' d2 d3 d4 some h3 h4 = refl
several_same false false false false false true three third four fourth one c2 c3 c4 true f0 third' fourth' d2 d3 d4 some h3 h4 = refl
several_same false false false false false true true third four fourth one c2 c3 c4 false f0 third' fourth' d2 d3 d4 some h3 h4 = refl
several_same false false false false false true false false four fourth one c2 c3 c4 false f0 third' fourth' d2 d3 d4 some h3 h4 = absurd (omega (arith, some))
several_same false false false false false true false true four fourth one c2 c3 c4 false true third' fourth' d2 d3 d4 some h3 h4 =
    subst (λ t. several (by_answers false false false false false true false t four fourth' one d2 d3 d4 false true) ≡ 3) (sym (h3 (omega arith))) refl
several_same false false false false false true false true true fourth one c2 c3 c4 false false third' fourth' d2 d3 d4 some h3 h4 = absurd (omega (arith, some))
several_same false false false false false true false true false false one c2 c3 c4 false false third' fourth' d2 d3 d4 some h3 h4 = absurd (omega (arith, some))
several_same false false false false false true false true false true one c2 c3 c4 false false third' fourth' d2 d3 d4 some h3 h4 =
    subst (λ t. several (by_answers false false false false false true false t false fourth' one d2 d3 d4 false false) ≡ 4) (sym (h3 (omega arith)))
    (subst (λ f. several (by_answers false false false false false true false true false f one d2 d3 d4 false false) ≡ 4) (sym (h4 (omega arith))) refl)

-- a sequence has two bytes at least, and what is decoded has as many
several-two : (d : Decoded) → 0 < several d → 1 < several d
several-two d some = go (is_some d.char) (nat_lt 1 d.size) refl some
  where
    go : (c s : Bool) → nat_lt 1 d.size ≡ s → 0 < (if c && s then d.size else 0) → 1 < (if c && s then d.size else 0)
    go true true e h = ltb-true 1 d.size e
    go true false e h = absurd (omega (arith, h))
    go false s e h = absurd (omega (arith, h))

several-size : (d : Decoded) → several d ≤ d.size
several-size d = go (is_some d.char && nat_lt 1 d.size)
  where
    go : (s : Bool) → (if s then d.size else 0) ≤ d.size
    go true = omega arith
    go false = omega arith

size-four : (bs : List ℕ) → (decoded bs).size ≤ 4
size-four [] = omega arith
size-four (b ∷ bs) = (piece-bounds (b ∷ bs) (omega arith)).1

pub sequence_len-four : (bs : List ℕ) → sequence_len bs ≤ 4
unfolding sequence_len
sequence_len-four bs = let small = several-size (decoded bs) in let most = size-four bs in omega (arith, small, most)

pub sequence_len-within : (bs : List ℕ) → sequence_len bs ≤ length bs
unfolding sequence_len
sequence_len-within bs = let small = several-size (decoded bs) in let most = size-within bs in omega (arith, small, most)

decoded-same : (n b c d e d' e' : ℕ) → 0 < several (decoded_by n b c d e)
    → (2 < several (decoded_by n b c d e) → d' ≡ d) → (3 < several (decoded_by n b c d e) → e' ≡ e)
    → several (decoded_by n b c d' e') ≡ several (decoded_by n b c d e)
decoded-same n b c d e d' e' some third fourth =
    several_same (n == 0) (nat_lt b 0x80) (nat_lt b 0xC2) (nat_lt 0xF4 b) (nat_lt n 2) (second b c) (nat_lt n 3) (continues d) (nat_lt n 4) (continues e)
    b (code_of_2 b c) (code_of_3 b c d) (code_of_4 b c d e) (nat_lt b 0xE0) (nat_lt b 0xF0)
    (continues d') (continues e') (code_of_2 b c) (code_of_3 b c d') (code_of_4 b c d' e')
    some (λ l. ap continues (third l)) (λ l. ap continues (fourth l))

-- two texts of one length that have the bytes of a sequence in common begin with the same one
pub sequence_len-same : (a b : List ℕ) → length b ≡ length a → ((j : ℕ) → j < sequence_len a → slice_index b j ≡ slice_index a j)
    → 0 < sequence_len a → sequence_len b ≡ sequence_len a
unfolding sequence_len
sequence_len-same a b long same some =
    ap (λ n. several (decoded_by n (slice_index b 0) (slice_index b 1) (slice_index b 2) (slice_index b 3))) long
    ∙ ap (λ x. several (decoded_by (length a) x (slice_index b 1) (slice_index b 2) (slice_index b 3))) (same 0 some)
    ∙ ap (λ x. several (decoded_by (length a) (slice_index a 0) x (slice_index b 2) (slice_index b 3))) (same 1 (several-two (decoded a) some))
    ∙ decoded-same (length a) (slice_index a 0) (slice_index a 1) (slice_index a 2) (slice_index a 3) (slice_index b 2) (slice_index b 3) some (same 2) (same 3)
