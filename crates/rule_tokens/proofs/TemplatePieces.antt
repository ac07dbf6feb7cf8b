-- Reading a template, a piece at a time.
use Rattle.std.proofs.Common.{◌≡◌, ℕ, zero, suc, ◌+◌, ◌≤◌, List, [], ◌∷◌, ◌++◌, length, take, drop, add-one, Result, Ok, Err, refl, ap, sym, ◌∙◌, append_assoc, append-nil, arith}
use Rattle.rule_tokens.specs.Faults.{Fails}
use Rattle.rule_tokens.specs.TemplateReading.{FirstPiece, first_at, pieces_by, pieces_of, pieces_within, with_first, with_piece}
use Rattle.rule_tokens.specs.declared.fault.TemplateFault.{TemplateFault}
use Rattle.rule_tokens.specs.declared.fault.TemplateFault.TheVariants.{Unknown, Brace, Number, Memory}
use Rattle.rule_tokens.specs.declared.piece.Piece.{Piece}
use Rattle.rule_tokens.proofs.FirstPieces.{Leaves, Shrinks, manual_shrinks}
use Rattle.rule_tokens.proofs.Spelled.{left_shorter}

-- the front of a text whose first byte is known, and what is left after it
pub take_more : (len b : ℕ) (text after : List ℕ) → text ≡ b ∷ after → take (len + 1) text ≡ b ∷ take len after
take_more len b text after is = rw (is, add-one len) refl

pub drop_more : (len b : ℕ) (text after : List ℕ) → text ≡ b ∷ after → drop (len + 1) text ≡ drop len after
drop_more len b text after is = rw (is, add-one len) refl

-- room for more pieces than there can be changes nothing
pub enough : (prefix : ℕ → List ℕ → FirstPiece) → Shrinks prefix → (n m : ℕ) (t : List ℕ) → length t ≤ n → length t ≤ m → pieces_by prefix n t ≡ pieces_by prefix m t
enough prefix s zero zero t h k = refl
enough prefix s zero (suc m) [] h k = refl
enough prefix s zero (suc m) (b ∷ t) h k = absurd (omega arith)
enough prefix s (suc n) zero [] h k = refl
enough prefix s (suc n) zero (b ∷ t) h k = absurd (omega arith)
enough prefix s (suc n) (suc m) [] h k = refl
enough prefix s (suc n) (suc m) (b ∷ t) h k = by_first_item (prefix b t) (s b t) (λ l i j. enough prefix s n m l i j) where
  by_first_item : (r : FirstPiece) → Leaves t r → ((l : List ℕ) → length l ≤ n → length l ≤ m → pieces_by prefix n l ≡ pieces_by prefix m l)
      → with_first (pieces_by prefix n) r ≡ with_first (pieces_by prefix m) r
  by_first_item (Err e) less same = refl
  by_first_item (Ok x) less same = let shorter : length x.1 ≤ length t = less in ap (with_piece x.0) (same x.1 (omega arith) (omega arith))

-- pieces, and after them those that the rest gives
abbrev pub with_pieces : List Piece → Result (List Piece) TemplateFault → Result (List Piece) TemplateFault
with_pieces pieces (Ok more) = Ok (pieces ++ more)
with_pieces pieces (Err e) = Err e

pub with_pieces-none : (r : Result (List Piece) TemplateFault) → with_pieces [] r ≡ r
with_pieces-none (Ok more) = refl
with_pieces-none (Err e) = refl

with_pieces-push : (pieces : List Piece) (p : Piece) (r : Result (List Piece) TemplateFault) → with_pieces (pieces ++ p ∷ []) r ≡ with_pieces pieces (with_piece p r)
with_pieces-push pieces p (Ok more) = ap Ok (append_assoc pieces (p ∷ []) more)
with_pieces-push pieces p (Err e) = refl

-- the pieces of a text are its first and those of what is left
piece_first : (b : ℕ) (t rest : List ℕ) (p : Piece) (left : List ℕ) → rest ≡ b ∷ t → first_at b t ≡ Ok (p, left) → with_piece p (pieces_of left) ≡ pieces_of rest
unfolding pieces_of
piece_first b t rest p left e found =
    let less : length left ≤ length t = left_shorter b t (p, left) found in
    ap (with_piece p) (enough first_at manual_shrinks (length left) (length t) left (omega arith) less)
    ∙ sym (ap (with_first (pieces_within (length t))) found)
    ∙ sym (ap (λ (l : List ℕ). pieces_within (length l) l) e)

-- one piece more has been read
pub read_more : (pieces : List Piece) (p : Piece) (b : ℕ) (t rest left : List ℕ) → rest ≡ b ∷ t → first_at b t ≡ Ok (p, left)
    → with_pieces (pieces ++ p ∷ []) (pieces_of left) ≡ with_pieces pieces (pieces_of rest)
read_more pieces p b t rest left e found = with_pieces-push pieces p (pieces_of left) ∙ ap (with_pieces pieces) (piece_first b t rest p left e found)

read_fault : (pieces : List Piece) (f : TemplateFault) (b : ℕ) (t rest : List ℕ) → rest ≡ b ∷ t → first_at b t ≡ Err f → with_pieces pieces (pieces_of rest) ≡ Err f
unfolding pieces_of
read_fault pieces f b t rest e found =
    ap (with_pieces pieces) (ap (λ (l : List ℕ). pieces_within (length l) l) e ∙ ap (with_first (pieces_within (length t))) found)

-- a fault of the next piece is that of the whole
pub fails_more : (pieces : List Piece) (f : TemplateFault) (b : ℕ) (t rest : List ℕ) (all : Result (List Piece) TemplateFault)
    → rest ≡ b ∷ t → Fails f (first_at b t) → with_pieces pieces (pieces_of rest) ≡ all → Fails f all
fails_more pieces Memory b t rest all e found inv = tt
fails_more pieces Unknown b t rest all e found inv = sym inv ∙ read_fault pieces Unknown b t rest e found
fails_more pieces Brace b t rest all e found inv = sym inv ∙ read_fault pieces Brace b t rest e found
fails_more pieces Number b t rest all e found inv = sym inv ∙ read_fault pieces Number b t rest e found

-- nothing is left
pub read_all : (pieces : List Piece) (rest : List ℕ) → length rest ≡ 0 → with_pieces pieces (pieces_of rest) ≡ Ok pieces
unfolding pieces_of
read_all pieces [] h = ap Ok (append-nil pieces)
read_all pieces (b ∷ t) h = absurd (omega arith)
