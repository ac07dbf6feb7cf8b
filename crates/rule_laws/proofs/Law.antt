-- What is read of a text is just what it is.
use Rattle.std.proofs.Common.{◌≡◌, ℕ, zero, suc, ◌+◌, ◌≤◌, List, [], ◌∷◌, length, Option, Some, None, Result, Ok, Err, refl, ap, sym, subst, ◌∙◌, arith, length-append}
use Rattle.rule_tokens.specs.TemplateGrammar.{IsFaulty, IsRead, OneAnswer, Reads, done, faulty, more}
use Rattle.rule_tokens.specs.TemplateReading.{FirstPiece, first_at, pieces_of, pieces_within, with_first, with_piece}
use Rattle.rule_tokens.specs.declared.fault.TemplateFault.{TemplateFault}
use Rattle.rule_tokens.specs.declared.fault.TemplateFault.TheVariants as fault
use Rattle.rule_tokens.specs.declared.piece.Piece.{Piece}
use Rattle.rule_tokens.proofs.Spelled.{PieceWell, left_shorter, piece_well}
use Rattle.rule_laws.proofs.TemplatesAgain.{fault_again, first_piece, spelled_again}

-- pieces, and the fault after them, if one is
abbrev Trace : Type 0
Trace = List Piece × Option TemplateFault

abbrev onto : (List ℕ → Trace) → FirstPiece → Trace
onto others (Ok x) = (x.0 ∷ (others x.1).0, (others x.1).1)
onto others (Err e) = ([], Some e)

abbrev trace : ℕ → List ℕ → Trace
trace zero t = ([], None)
trace (suc n) [] = ([], None)
trace (suc n) (b ∷ t) = onto (trace n) (first_at b t)

abbrev answer : List Piece → Option TemplateFault → Result (List Piece) TemplateFault
answer ps None = Ok ps
answer ps (Some e) = Err e

-- a text is what is read of it
given : (n : ℕ) (text : List ℕ) → length text ≤ n → Reads text (trace n text).0 (trace n text).1
given zero [] h = done
given zero (b ∷ t) h = absurd (omega arith)
given (suc n) [] h = done
given (suc n) (b ∷ t) h = by_first_item (first_at b t) (piece_well b t) (λ l k. given n l k) where
  by_first_item : (r : FirstPiece) → PieceWell b t r → ((l : List ℕ) → length l ≤ n → Reads l (trace n l).0 (trace n l).1) → Reads (b ∷ t) (onto (trace n) r).0 (onto (trace n) r).1
  by_first_item (Ok x) w others =
      let long : length t ≡ length w.0 + length x.1 = ap (λ (l : List ℕ). length l) w.1 ∙ length-append w.0 x.1 in
      more (b ∷ w.0) x.1 (ap (λ (l : List ℕ). b ∷ l) w.1) w.2 (others x.1 (omega arith))
  by_first_item (Err e) f others = faulty f

-- and it is nothing else
nothing_left : (n : ℕ) → trace n [] ≡ ([], None)
nothing_left zero = refl
nothing_left (suc n) = refl

not_nothing : (e : TemplateFault) → IsFaulty e [] → first_piece [] ≡ Err e → ⊥
not_nothing fault.Unknown f q = cc
not_nothing fault.Brace f q = cc
not_nothing fault.Number f q = cc
not_nothing fault.Memory f q = f

fault_only : (n : ℕ) (text : List ℕ) (e : TemplateFault) → IsFaulty e text → first_piece text ≡ Err e → length text ≤ n → trace n text ≡ ([], Some e)
fault_only n [] e f q h = absurd (not_nothing e f q)
fault_only zero (b ∷ t) e f q h = absurd (omega arith)
fault_only (suc n) (b ∷ t) e f q h = ap (onto (trace n)) q

piece_only : (n : ℕ) (text : List ℕ) (p : Piece) (rest : List ℕ) (ps : List Piece) (end : Option TemplateFault) → first_piece text ≡ Ok (p, rest)
    → ((m : ℕ) → length rest ≤ m → trace m rest ≡ (ps, end)) → length text ≤ n → trace n text ≡ (p ∷ ps, end)
piece_only n [] p rest ps end q others h = cc
piece_only zero (b ∷ t) p rest ps end q others h = absurd (omega arith)
piece_only (suc n) (b ∷ t) p rest ps end q others h =
    let less : length rest ≤ length t = left_shorter b t (p, rest) q in
    ap (onto (trace n)) q ∙ ap (λ (x : Trace). (p ∷ x.0, x.1)) (others n (omega arith))

only : (n : ℕ) (text : List ℕ) (ps : List Piece) (end : Option TemplateFault) → Reads text ps end → length text ≤ n → trace n text ≡ (ps, end)
only n [] [] None done h = nothing_left n
only n (b ∷ t) [] None r h = elim r [ ]
only n text [] (Some e) (faulty f) h = fault_only n text e f (fault_again e text f) h
only n text (p ∷ ps) end (more prefix rest parts spells others) h =
    piece_only n text p rest ps end (ap first_piece parts ∙ spelled_again p prefix rest spells) (λ m k. only m rest ps end others k) h

-- what is read is the answer
with_answer : (p : Piece) (ps : List Piece) (end : Option TemplateFault) → with_piece p (answer ps end) ≡ answer (p ∷ ps) end
with_answer p ps None = refl
with_answer p ps (Some e) = refl

answers : (n : ℕ) (t : List ℕ) → pieces_within n t ≡ answer (trace n t).0 (trace n t).1
answers zero t = refl
answers (suc n) [] = refl
answers (suc n) (b ∷ t) = by_first_item (first_at b t) (λ l. answers n l) where
  by_first_item : (r : FirstPiece) → ((l : List ℕ) → pieces_within n l ≡ answer (trace n l).0 (trace n l).1) → with_first (pieces_within n) r ≡ answer (onto (trace n) r).0 (onto (trace n) r).1
  by_first_item (Ok x) others = ap (with_piece x.0) (others x.1) ∙ with_answer x.0 (trace n x.1).0 (trace n x.1).1
  by_first_item (Err e) others = refl

whole : (text : List ℕ) → pieces_of text ≡ answer (trace (length text) text).0 (trace (length text) text).1
unfolding pieces_of
whole text = answers (length text) text

ok_is : (qs : List Piece) (end : Option TemplateFault) (ps : List Piece) → answer qs end ≡ Ok ps → (qs ≡ ps) × (end ≡ None)
ok_is qs None ps e = (cc, refl)
ok_is qs (Some f) ps e = absurd (cc)

err_is : (qs : List Piece) (end : Option TemplateFault) (f : TemplateFault) → answer qs end ≡ Err f → end ≡ Some f
err_is qs None f e = absurd (cc)
err_is qs (Some g) f e = cc

pub is_read : (text : List ℕ) → IsRead text
is_read text =
    let n = length text in
    let all : length text ≤ n = omega arith in
    let reads : Reads text (trace n text).0 (trace n text).1 = given n text all in
    record {
      pieces = λ ps. (
        (λ e. let is = ok_is (trace n text).0 (trace n text).1 ps (sym (whole text) ∙ e) in
            subst (λ (qs : List Piece). Reads text qs None) is.0 (subst (λ (end : Option TemplateFault). Reads text (trace n text).0 end) is.1 reads)),
        λ r. whole text ∙ ap (λ (x : Trace). answer x.0 x.1) (only n text ps None r all),
      );
      fault = λ f. (
        (λ e. ((trace n text).0, subst (λ (end : Option TemplateFault). Reads text (trace n text).0 end) (err_is (trace n text).0 (trace n text).1 f (sym (whole text) ∙ e)) reads)),
        λ r. whole text ∙ ap (λ (x : Trace). answer x.0 x.1) (only n text r.0 (Some f) r.1 all),
      );
    }

pub one_answer : OneAnswer
one_answer text some other end stop r s =
    let n = length text in
    let all : length text ≤ n = omega arith in
    let same : (some, end) ≡ (other, stop) = sym (only n text some end r all) ∙ only n text other stop s all in
    (ap (λ (x : Trace). x.0) same, ap (λ (x : Trace). x.1) same)
