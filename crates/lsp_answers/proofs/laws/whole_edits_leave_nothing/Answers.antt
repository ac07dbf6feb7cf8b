use Rattle.std.proofs.Common.{◌≡◌, ℕ, zero, suc, ◌+◌, max, ◌≤◌, Bool, true, false, ◌&&◌, [], ◌∷◌, length, get_or, nat_le, nat_lt, refl, arith, append-nil, take}
use Rattle.std.proofs.Math.Seq.{drop-length}
use Rattle.std.proofs.lemmas.Str.{IsCharBoundary-start}
use Rattle.std.specs.List.{prefix_len}
use Rattle.std.specs.Str.{IsCharBoundary}
use Rattle.text_bytes.specs.Text.{Text}
use Rattle.lsp_messages.proofs.Landing.{comes_back}
use Rattle.lsp_messages.specs.TextChanges.{replaced}
use Rattle.lsp_messages.specs.Places.{IsPlace}
use Rattle.lsp_messages.specs.Rows.{is_inside, offset_of, position_of, row_at}
use Rattle.lsp_messages.specs.Units.{fitting, is_within, width}
use Rattle.lsp_messages.specs.declared.counting.Encoding.{Encoding}
use Rattle.lsp_messages.specs.declared.counting.Encoding.TheVariants.{Utf8, Utf16}
use Rattle.lsp_answers.specs.Queries.{origin}
use Rattle.lsp_answers.proofs.laws.whole_edits_leave_nothing.Goals as goal

-- a byte that begins a character has units
wide : (encoding : Encoding) (b : ℕ) → is_within b ≡ false → nat_le (width encoding b) 0 ≡ false
wide Utf8 b h = grind arith
wide Utf16 b h = grind arith

-- no units have no bytes, unless characters go on
none_fit : (encoding : Encoding) (row : Text) → is_within (get_or row 0 0) ≡ false → fitting encoding 0 row ≡ 0
none_fit encoding [] h = refl
none_fit encoding (b ∷ row) h = rw (wide encoding b h) refl

begins : (b : ℕ) → (128 ≤ b → 192 ≤ b) → is_within b ≡ false
begins b h = by (nat_le 128 b) refl
  where
    by : (x : Bool) → nat_le 128 b ≡ x → (x && nat_lt b 192) ≡ false
    by false e = refl
    by true e = let l : 128 ≤ b = grind arith in let m = h l in grind arith

-- a text begins with a character
head : (text : Text) → IsCharBoundary text 0 → is_within (get_or text 0 0) ≡ false
head [] start = refl
head (b ∷ text) start = begins b (start.1 (omega arith))

-- and so does each front of it that is not empty
front_head : (size : ℕ) (text : Text) → is_within (get_or text 0 0) ≡ false → is_within (get_or (take size text) 0 0) ≡ false
front_head zero [] h = refl
front_head zero (b ∷ text) h = refl
front_head (suc size) [] h = refl
front_head (suc size) (b ∷ text) h = h

past : (text : Text) → get_or text (length text) 0 ≡ 0
past [] = refl
past (b ∷ text) = past text

end_place : (text : Text) → IsPlace text (length text)
end_place text = record {
  inside = omega arith;
  whole = rw (past text) refl;
  apart = λ some before is. let none = past text in omega arith;
}

at_ends : (text new : Text) (from to : ℕ) → from ≡ 0 → to ≡ length text → replaced text from to new ≡ new
at_ends text new from to f t = let most : max 0 (length text) ≡ length text = omega arith in rw (f, t, most, drop-length) (append-nil new)

at_start : (n : ℕ) → n ≡ 0 → 0 + n ≡ 0
at_start n none = omega arith

pub returns : goal.returns
returns c encoding text new utf8 few =
    at_ends text new (offset_of encoding text origin) (offset_of encoding text (position_of encoding text (length text)))
    (at_start _ (none_fit encoding (row_at text 0) (front_head (prefix_len is_inside text) text (head text (IsCharBoundary-start text utf8)))))
    (comes_back encoding text (length text) few (end_place text))
