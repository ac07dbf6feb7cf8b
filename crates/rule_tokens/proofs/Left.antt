-- What udev takes of a text, a piece at a time.
use Rattle.std.proofs.Common.{◌≡◌, ◌↔◌, ℕ, zero, suc, ◌≤◌, true, false, List, [], ◌∷◌, ◌++◌, length, Option, Some, None, Result, Ok, Err, refl, ap, subst, sym, ◌∙◌, append_assoc, append-nil, arith}
use Rattle.std.specs.Prelude.{is_err}
use Rattle.std.proofs.lemmas.Bool.{true≢false}
use Rattle.text_bytes.specs.declared.profile.Profile.TheVariants.{Udev}
use Rattle.rule_tokens.specs.TemplateReading.{FirstPiece, first_as, is_faulty, kept, left_of, left_within, pieces_by, udev_first, udev_pieces, with_first, with_kept, with_piece}
use Rattle.rule_tokens.specs.declared.fault.TemplateFault.{TemplateFault}
use Rattle.rule_tokens.specs.declared.fault.TemplateFault.TheVariants.{Unknown, Brace, Number, Memory}
use Rattle.rule_tokens.specs.declared.piece.Piece.{Piece}
use Rattle.rule_tokens.proofs.FirstPieces.{Leaves, is_shorter, udev_shrinks}
use Rattle.rule_tokens.proofs.TemplatePieces.{enough}

-- what is kept leaves no more
abbrev LeavesKept : List ℕ → Option (Piece × List ℕ) → Type 0
LeavesKept t (Some x) = length x.1 ≤ length t
LeavesKept t None = Unit {0}

kept_leaves : (b : ℕ) (t : List ℕ) (r : FirstPiece) → Leaves t r → LeavesKept t (kept b t r)
kept_leaves b t (Ok x) h = h
kept_leaves b t (Err Unknown) h = omega arith
kept_leaves b t (Err Brace) h = tt
kept_leaves b t (Err Number) h = tt
kept_leaves b t (Err Memory) h = tt

some_shorter : (t : List ℕ) (x : Piece × List ℕ) (o : Option (Piece × List ℕ)) → LeavesKept t o → o ≡ Some x → length x.1 ≤ length t
some_shorter t x (Some y) h e = let same : y.1 ≡ x.1 = cc in rw (sym same) h
some_shorter t x None h e = cc

pub kept_shorter : (b : ℕ) (t : List ℕ) (x : Piece × List ℕ) → kept b t (udev_first b t) ≡ Some x → length x.1 ≤ length t
kept_shorter b t x e = some_shorter t x (kept b t (udev_first b t)) (kept_leaves b t (udev_first b t) (udev_shrinks b t)) e

-- room for more pieces than there can be changes nothing
enough_left : (n m : ℕ) (t : List ℕ) → length t ≤ n → length t ≤ m → left_within n t ≡ left_within m t
enough_left zero zero t h k = refl
enough_left zero (suc m) [] h k = refl
enough_left zero (suc m) (b ∷ t) h k = absurd (omega arith)
enough_left (suc n) zero [] h k = refl
enough_left (suc n) zero (b ∷ t) h k = absurd (omega arith)
enough_left (suc n) (suc m) [] h k = refl
enough_left (suc n) (suc m) (b ∷ t) h k = by_kept (kept b t (udev_first b t)) (kept_leaves b t (udev_first b t) (udev_shrinks b t)) (λ l i j. enough_left n m l i j) where
  by_kept : (o : Option (Piece × List ℕ)) → LeavesKept t o → ((l : List ℕ) → length l ≤ n → length l ≤ m → left_within n l ≡ left_within m l)
      → with_kept (left_within n) o ≡ with_kept (left_within m) o
  by_kept None less same = refl
  by_kept (Some x) less same = let shorter : length x.1 ≤ length t = less in ap (λ (ps : List Piece). x.0 ∷ ps) (same x.1 (omega arith) (omega arith))

pub left_first : (b : ℕ) (t rest : List ℕ) (p : Piece) (left : List ℕ) → rest ≡ b ∷ t → kept b t (udev_first b t) ≡ Some (p, left) → p ∷ left_of left ≡ left_of rest
unfolding left_of
left_first b t rest p left e found =
    let less : length left ≤ length t = kept_shorter b t (p, left) found in
    ap (λ (ps : List Piece). p ∷ ps) (enough_left (length left) (length t) left (omega arith) less)
    ∙ sym (ap (with_kept (left_within (length t))) found)
    ∙ sym (ap (λ (l : List ℕ). left_within (length l) l) e)

-- one piece more is taken
pub left_more : (pieces : List Piece) (p : Piece) (b : ℕ) (t rest left : List ℕ) → rest ≡ b ∷ t → kept b t (udev_first b t) ≡ Some (p, left)
    → (pieces ++ p ∷ []) ++ left_of left ≡ pieces ++ left_of rest
left_more pieces p b t rest left e found = append_assoc pieces (p ∷ []) (left_of left) ∙ ap (λ (ps : List Piece). pieces ++ ps) (left_first b t rest p left e found)

-- one piece more is made
pub left_made : (pieces : List Piece) (p made : Piece) (b : ℕ) (t rest left : List ℕ) → rest ≡ b ∷ t → kept b t (udev_first b t) ≡ Some (p, left) → p ≡ made
    → (pieces ++ made ∷ []) ++ left_of left ≡ pieces ++ left_of rest
left_made pieces p made b t rest left e found same = subst (λ (q : Piece). (pieces ++ q ∷ []) ++ left_of left ≡ pieces ++ left_of rest) same (left_more pieces p b t rest left e found)

abbrev pub the_ok : Piece → Result Piece TemplateFault
the_ok p = Ok p

pub same_made : (p made : Piece) → (the_ok p) ≡ (the_ok made) → p ≡ made
same_made p made e = cc

-- nothing more is taken
pub left_stops : (pieces : List Piece) (b : ℕ) (t rest : List ℕ) → rest ≡ b ∷ t → kept b t (udev_first b t) ≡ None → pieces ++ left_of rest ≡ pieces
unfolding left_of
left_stops pieces b t rest e none =
    ap (λ (ps : List Piece). pieces ++ ps) (ap (λ (l : List ℕ). left_within (length l) l) e ∙ ap (with_kept (left_within (length t))) none) ∙ append-nil pieces

-- nothing is left
pub left_all : (pieces : List Piece) (rest : List ℕ) → length rest ≡ 0 → pieces ++ left_of rest ≡ pieces
unfolding left_of
left_all pieces [] h = append-nil pieces
left_all pieces (b ∷ t) h = absurd (omega arith)

same_fault : (p : Piece) (r : Result (List Piece) TemplateFault) → is_err (with_piece p r) ≡ is_err r
same_fault p (Ok ps) = refl
same_fault p (Err e) = refl

-- a text whose first piece is read is faulty exactly if what is left after it is
pub faulty_on : (b : ℕ) (t rest : List ℕ) (p : Piece) (left : List ℕ) → rest ≡ b ∷ t → first_as Udev b t ≡ Ok (p, left) → is_faulty left ≡ is_faulty rest
unfolding is_faulty udev_pieces udev_first
faulty_on b t rest p left e found =
    let less : length left ≤ length t = is_shorter t (p, left) (udev_first b t) (udev_shrinks b t) found in
    ap is_err (enough udev_first udev_shrinks (length left) (length t) left (omega arith) less)
    ∙ sym (same_fault p (pieces_by udev_first (length t) left))
    ∙ sym (ap (λ (r : FirstPiece). is_err (with_first (pieces_by udev_first (length t)) r)) found)
    ∙ sym (ap (λ (l : List ℕ). is_err (pieces_by udev_first (length l) l)) e)

pub faulty_here : (b : ℕ) (t rest : List ℕ) (f : TemplateFault) → rest ≡ b ∷ t → first_as Udev b t ≡ Err f → is_faulty rest ≡ true
unfolding is_faulty udev_pieces udev_first
faulty_here b t rest f e found =
    ap (λ (l : List ℕ). is_err (pieces_by udev_first (length l) l)) e
    ∙ ap (λ (r : FirstPiece). is_err (with_first (pieces_by udev_first (length t)) r)) found

pub faulty_not : (rest : List ℕ) → length rest ≡ 0 → is_faulty rest ≡ false
unfolding is_faulty udev_pieces
faulty_not [] h = refl
faulty_not (b ∷ t) h = absurd (omega arith)

-- if no fault is reported, what is taken is the whole
same_within : (n : ℕ) (t : List ℕ) (ps : List Piece) → pieces_by udev_first n t ≡ Ok ps → left_within n t ≡ ps
same_within zero t ps e = cc
same_within (suc n) [] ps e = cc
same_within (suc n) (b ∷ t) ps e = by_first_item (udev_first b t) e (λ l qs h. same_within n l qs h) where
  by_rest : (x : Piece × List ℕ) (r : Result (List Piece) TemplateFault) → pieces_by udev_first n x.1 ≡ r → with_piece x.0 r ≡ Ok ps
      → ((l : List ℕ) (qs : List Piece) → pieces_by udev_first n l ≡ Ok qs → left_within n l ≡ qs) → x.0 ∷ left_within n x.1 ≡ ps
  by_rest x (Ok qs) h k same = let is : x.0 ∷ qs ≡ ps = cc in ap (λ (l : List Piece). x.0 ∷ l) (same x.1 qs h) ∙ is
  by_rest x (Err f) h k same = cc

  by_first_item : (r : FirstPiece) → with_first (pieces_by udev_first n) r ≡ Ok ps → ((l : List ℕ) (qs : List Piece) → pieces_by udev_first n l ≡ Ok qs → left_within n l ≡ qs)
      → with_kept (left_within n) (kept b t r) ≡ ps
  by_first_item (Ok x) h same = by_rest x (pieces_by udev_first n x.1) refl h same
  by_first_item (Err f) h same = cc

pub whole_is_left : (t : List ℕ) (ps : List Piece) → udev_pieces t ≡ Ok ps → left_of t ≡ ps
unfolding udev_pieces left_of
whole_is_left t ps e = same_within (length t) t ps e

-- no fault is reported exactly if each piece is read
pub faultless : (t : List ℕ) → (is_faulty t ≡ false) ↔ ((ps : List Piece) × (udev_pieces t ≡ Ok ps))
unfolding is_faulty
faultless t = by_pieces (udev_pieces t) where
  by_pieces : (r : Result (List Piece) TemplateFault) → (is_err r ≡ false) ↔ ((ps : List Piece) × (r ≡ Ok ps))
  by_pieces (Ok ps) = ((λ e. (ps, refl)), λ h. refl)
  by_pieces (Err f) = ((λ e. absurd (true≢false e)), λ h. absurd (is_other h.1))
    where
      is_other : {ps : List Piece} → Err f ≡ Ok ps → ⊥
      is_other e = cc
