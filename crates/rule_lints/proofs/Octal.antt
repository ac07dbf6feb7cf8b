-- A text with no blank before it is a mode exactly if udev reads it as one.
use Rattle.std.proofs.Common.{◌≡◌, ℕ, ◌+◌, Bool, true, false, cond, ◌&&◌, ◌||◌, List, [], ◌∷◌, drop, Some, None, is_some, nat_lt, refl, ap, ◌∙◌, arith}
use Rattle.std.specs.List.{list_all, prefix_len}
use Rattle.std.proofs.lemmas.Bool.Decides.{nat_tests}
use Rattle.text_bytes.specs.Names.{is_blank, space, tab}
use Rattle.text_bytes.specs.Texts.{begins_with, unindented}
use Rattle.rule_types.specs.Topics.{is_mode, is_octal, mode_of, octal}

-- what udev reads is a mode
read_mode : (text : List ℕ) → is_some (mode_of text) ≡ is_mode (unindented text)
unfolding mode_of
read_mode text = by (is_mode (unindented text))
  where
    by : (b : Bool) → is_some (cond b (Some (octal (unindented text))) None) ≡ b
    by true = refl
    by false = refl

pub bare_mode : (text : List ℕ) → (begins_with space text || begins_with tab text) ≡ false → is_some (mode_of text) ≡ is_mode text
bare_mode [] e = read_mode []
bare_mode (b ∷ text) e = read_mode (b ∷ text) ∙ ap (λ (v : Bool). is_mode (drop (cond v (1 + prefix_len is_blank text) 0) (b ∷ text))) e

blank_no_digit : (b : ℕ) → is_blank b ≡ true → is_octal b ≡ false
blank_no_digit b h = grind (arith, nat_tests)

-- a text with a blank before it is not a mode
pub no_mode_after_blanks : (text : List ℕ) → (begins_with space text || begins_with tab text) ≡ true → is_mode text ≡ false
no_mode_after_blanks [] e = cc
no_mode_after_blanks (b ∷ text) e = ap (λ (v : Bool). (true && (v && list_all is_octal text)) && nat_lt (octal (b ∷ text)) 4096) (blank_no_digit b e)
