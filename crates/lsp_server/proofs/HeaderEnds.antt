-- Where a header part ends.
use Rattle.std.proofs.Common.{◌≡◌, ◌≢◌, ℕ, ◌-◌, Bool, true, false, List, [], ◌∷◌, ◌++◌, length, take, refl, sym, ◌∙◌, append_assoc}
use Rattle.std.proofs.lemmas.Bool.Decides.{Decides-eqb}
use Rattle.std.proofs.lemmas.List.{same_from_push}
use Rattle.std.proofs.lemmas.Slice.Eq.{ends_is}
use Rattle.text_bytes.specs.Names.{carriage_return, newline}
use Rattle.lsp_server.specs.Framed.{header_end}
use Rattle.lsp_server.specs.Headers.{is_ended}

-- what holds of no fact is false
not_true : (b : Bool) → (b ≡ true → ⊥) → b ≡ false
not_true true h = absurd (h refl)
not_true false h = refl

ends : (header : List ℕ) → is_ended header ≡ true → header ≡ take (length header - 4) header ++ header_end
ends header h = (ends_is Decides-eqb header header_end (is_ended header) refl).0 h

-- a header part ends at its end
pub ended : (before : List ℕ) → is_ended (before ++ header_end) ≡ true
ended before = (ends_is Decides-eqb (before ++ header_end) header_end (is_ended (before ++ header_end)) refl).1 before refl

-- the end is an end of line, twice
pub twice : (before : List ℕ) → before ++ header_end ≡ (((before ++ carriage_return ∷ []) ++ newline ∷ []) ++ carriage_return ∷ []) ++ newline ∷ []
twice before = sym (append_assoc ((before ++ carriage_return ∷ []) ++ newline ∷ []) (carriage_return ∷ []) (newline ∷ [])
    ∙ append_assoc (before ++ carriage_return ∷ []) (newline ∷ []) (carriage_return ∷ newline ∷ [])
    ∙ append_assoc before (carriage_return ∷ []) (newline ∷ carriage_return ∷ newline ∷ []))

-- it does not end in another byte
pub goes_on : (header : List ℕ) (byte : ℕ) → byte ≢ newline → is_ended (header ++ byte ∷ []) ≡ false
goes_on header byte other = not_true (is_ended (header ++ byte ∷ [])) (λ h.
    let e = ends (header ++ byte ∷ []) h in
    let front = take (length (header ++ byte ∷ []) - 4) (header ++ byte ∷ []) in
    let last = same_from_push header (((front ++ carriage_return ∷ []) ++ newline ∷ []) ++ carriage_return ∷ []) byte newline (e ∙ twice front) in
    other last.1)

-- nor in the only newline
pub goes_on_line : (header : List ℕ) (last : ℕ) → last ≢ newline → is_ended (((header ++ last ∷ []) ++ carriage_return ∷ []) ++ newline ∷ []) ≡ false
goes_on_line header last other =
    let line = ((header ++ last ∷ []) ++ carriage_return ∷ []) ++ newline ∷ [] in
    not_true (is_ended line) (λ h.
    let e = ends line h in
    let front = take (length line - 4) line in
    let one = same_from_push ((header ++ last ∷ []) ++ carriage_return ∷ []) (((front ++ carriage_return ∷ []) ++ newline ∷ []) ++ carriage_return ∷ []) newline newline (e ∙ twice front) in
    let two = same_from_push (header ++ last ∷ []) ((front ++ carriage_return ∷ []) ++ newline ∷ []) carriage_return carriage_return one.0 in
    let three = same_from_push header (front ++ carriage_return ∷ []) last newline two.0 in
    other three.1)
