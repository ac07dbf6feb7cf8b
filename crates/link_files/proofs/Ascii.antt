-- Texts of ASCII.
use Rattle.std.proofs.Common.{◌≡◌, ℕ, zero, suc, Bool, true, false, ◌&&◌, nat_le, IsAscii, List, [], ◌∷◌, refl, sym, true≢false, arith}
use Rattle.std.specs.List.{list_all}
use Rattle.std.specs.Str.{is_utf8}
use Rattle.std.proofs.lemmas.Bool.{leb-true}
use Rattle.std.proofs.lemmas.Str.{IsUtf8-from_ascii, is_utf8-from_IsUtf8}

-- a text of ASCII is UTF-8: whether each byte is one of ASCII is computed
pub ascii_is_utf8 : (text : List ℕ) → list_all (λ b. nat_le b 127) text ≡ true → is_utf8 text ≡ true
ascii_is_utf8 text h = is_utf8-from_IsUtf8 text (IsUtf8-from_ascii text (each text h))
  where
    both : (a b : Bool) → (a && b) ≡ true → (a ≡ true) × (b ≡ true)
    both true b e = (refl, e)
    both false b e = absurd (true≢false (sym e))

    each : (text : List ℕ) → list_all (λ b. nat_le b 127) text ≡ true → IsAscii text
    each [] h i = omega arith
    each (b ∷ text) h zero = let few = leb-true b 127 (both (nat_le b 127) (list_all (λ b. nat_le b 127) text) h).0 in omega (arith, few)
    each (b ∷ text) h (suc i) = each text (both (nat_le b 127) (list_all (λ b. nat_le b 127) text) h).1 i
