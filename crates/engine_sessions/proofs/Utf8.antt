-- A text that can't be read.
use Rattle.std.proofs.Common.{◌≡◌, ◌∙◌, ◌&&◌, ℕ, Bool, true, false, List, ap, not, refl}
use Rattle.std.specs.List.{list_any}
use Rattle.std.specs.Str.{IsUtf8}
use Rattle.text_bytes.specs.Escapes.{is_control}
use Rattle.text_bytes.proofs.Utf8.{not_utf8}
use Rattle.engine_sessions.specs.Words.{is_option, is_word}

and_false : (b : Bool) → (b && false) ≡ false
and_false true = refl
and_false false = refl

-- a text that can't be read is no word
pub no_word : (text : List ℕ) → ¬ (IsUtf8 text) → is_word text ≡ false
unfolding is_word
no_word text h = ap (λ b. is_option text && (b && not (list_any is_control text))) (not_utf8 text h) ∙ and_false (is_option text)
