-- What follows the first such byte of a text, by the cut there.
use Rattle.std.proofs.Common.{◌≡◌, ℕ, ◌+◌, ◌≤◌, ◌==◌, Bool, true, false, cond, nat_lt, List, [], length, take, drop, Option, Some, None, option_map, refl, sym, arith}
use Rattle.std.proofs.lemmas.Bool.{ltb-false}
use Rattle.std.proofs.lemmas.List.{drop_all}
use Rattle.std.specs.List.{after_first, position_or_len}
use Rattle.text_bytes.specs.Texts.{split_once}

one_more : (m n : ℕ) → m ≤ n → m ≤ n + 1
one_more m n h = omega (arith, h)

-- the cut at a place, if it is within the text
abbrev cut_at : List ℕ → ℕ → Bool → Option (List ℕ × List ℕ)
cut_at text n within = option_map (λ n. (take n text, drop (n + 1) text)) (cond within (Some n) None)

pub rest_of_cut : (byte : ℕ) (text : List ℕ) (x : List ℕ × List ℕ) → split_once byte text ≡ Some x → x.1 ≡ after_first (λ b. b == byte) text
unfolding split_once
rest_of_cut byte text x e = by (nat_lt (position_or_len (λ b. b == byte) text) (length text)) e
  where
    by : (within : Bool) → cut_at text (position_or_len (λ b. b == byte) text) within ≡ Some x → x.1 ≡ after_first (λ b. b == byte) text
    by true h = cc
    by false h = cc

pub rest_without_cut : (byte : ℕ) (text : List ℕ) → split_once byte text ≡ None → [] ≡ after_first (λ b. b == byte) text
unfolding split_once
rest_without_cut byte text e = by (nat_lt (position_or_len (λ b. b == byte) text) (length text)) refl e
  where
    by : (within : Bool) → nat_lt (position_or_len (λ b. b == byte) text) (length text) ≡ within → cut_at text (position_or_len (λ b. b == byte) text) within ≡ None → [] ≡ after_first (λ b. b == byte) text
    by true w h = cc
    by false w h = sym (drop_all (position_or_len (λ b. b == byte) text + 1) text (one_more (length text) (position_or_len (λ b. b == byte) text) (ltb-false (position_or_len (λ b. b == byte) text) (length text) w)))
