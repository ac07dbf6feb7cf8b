-- What a value means: the pieces that are read are those of the relation.
use Rattle.std.proofs.Common.{Result, Ok, Err, IfOk, ◌≡◌, ℕ, ◌+◌, Bool, true, false, not, ◌&&◌, List, [], ◌∷◌, ◌++◌, length, refl, ap, sym, ◌∙◌, arith, append-nil, length-append}
use Rattle.std.specs.List.{flat_map}
use Rattle.text_bytes.specs.Names.{backslash}
use Rattle.text_bytes.specs.Texts.{ends_in}
use Rattle.rule_tokens.specs.declared.kinds.Quote.{Quote}
use Rattle.rule_tokens.specs.Values.{Piece, spelling, meaning, has_escapes, Spells, Means, OneMeaning}
use Rattle.rule_tokens.specs.Reading.{pieces_of, value_length, unquoted, IsWholeValue}
use Rattle.rule_tokens.proofs.Pieces.{no_piece}
use Rattle.rule_tokens.proofs.PieceLists.{pieces_again, pieces_sound}

-- the pieces of a value are read again
pieces_are : (escaped : Bool) (ps : List Piece) (value : List ℕ) → Spells escaped ps value → pieces_of escaped 0 value ≡ ps
pieces_are escaped ps value s = ap (λ v. pieces_of escaped 0 v) (sym (append-nil value)) ∙ pieces_again escaped ps value [] s (no_piece escaped []).0

-- a value means what is read of it, and nothing else
pub means_only : (quote : Quote) (value bytes : List ℕ) → Means (has_escapes quote) value bytes → unquoted quote value ≡ bytes
means_only quote value bytes m = ap (λ ps. flat_map meaning ps) (pieces_are (has_escapes quote) m.pieces value m.spells) ∙ sym m.bytes_are

pub one_meaning : OneMeaning
one_meaning escaped text some other m n =
    m.bytes_are ∙ (ap (λ ps. flat_map meaning ps) (sym (pieces_are escaped m.pieces text m.spells) ∙ pieces_are escaped n.pieces text n.spells) ∙ sym n.bytes_are)

empty : (xs : List ℕ) → length xs ≡ 0 → xs ≡ []
empty [] e = refl
empty (x ∷ xs) e = absurd (omega arith)

-- a whole value is spelled by the pieces that are read of it
pub spelled_whole : (quote : Quote) (value : List ℕ) → IsWholeValue quote value → Spells (has_escapes quote) (pieces_of (has_escapes quote) 0 value) value
spelled_whole quote value w =
    let escaped = has_escapes quote in
    let s = pieces_sound escaped 0 value in
    let l : length value ≡ value_length escaped value + length s.1.0 = ap length s.1.1 ∙ length-append (flat_map spelling (pieces_of escaped 0 value)) s.1.0 in
    let n : s.1.0 ≡ [] = empty s.1.0 (omega (arith, w.0)) in
    record {
      spelled = s.1.1 ∙ (ap (λ t. flat_map spelling (pieces_of escaped 0 value) ++ t) n ∙ append-nil (flat_map spelling (pieces_of escaped 0 value)));
      allowed = s.0;
      end = λ f. plain escaped f w.1;
    }
  where
    plain : (escaped : Bool) → escaped ≡ false → (not escaped && ends_in backslash value) ≡ false → ends_in backslash value ≡ false
    plain escaped f e = rw f at e

-- so it means what is read of it
pub means_unquoted : (quote : Quote) (value : List ℕ) → IsWholeValue quote value → Means (has_escapes quote) value (unquoted quote value)
means_unquoted quote value w = record { pieces = pieces_of (has_escapes quote) 0 value; spells = spelled_whole quote value w; bytes_are = refl }

-- what is spelled by pieces is a whole value
pub whole_value : (quote : Quote) (ps : List Piece) (value : List ℕ) → Spells (has_escapes quote) ps value → IsWholeValue quote value
whole_value quote ps value s =
    (ap (λ qs. length (flat_map spelling qs)) (pieces_are (has_escapes quote) ps value s) ∙ sym (ap length s.spelled), plain (has_escapes quote) s.end)
  where
    plain : (escaped : Bool) → (escaped ≡ false → ends_in backslash value ≡ false) → (not escaped && ends_in backslash value) ≡ false
    plain true e = refl
    plain false e = e refl

-- what reading gives is all that a value means
pub given_only : {A E : Type 0} (items : A → List ℕ) (quote : Quote) (value bytes : List ℕ) (r : Result A E) → IfOk r (λ v. items v ≡ unquoted quote value) → Means (has_escapes quote) value bytes → IfOk r (λ v. items v ≡ bytes)
given_only items quote value bytes (Ok v) e m = e ∙ means_only quote value bytes m
given_only items quote value bytes (Err e) h m = h
