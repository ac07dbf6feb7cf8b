-- What one turn of a loop over the pieces of a value leaves.
use Rattle.std.proofs.Common.{◌≡◌, ℕ, suc, ◌+◌, ◌<◌, Bool, true, false, not, List, [], ◌∷◌, ◌++◌, length, take, drop, Option, Some, None, cond, option_map, refl, ap, sym, ◌∙◌, ◌==◌, arith, append_assoc, append-nil, length-append, length-drop}
use Rattle.std.specs.Prelude.{◌&&◌}
use Rattle.std.specs.List.{flat_map, prefix_len}
use Rattle.std.proofs.lemmas.Bool.{and_parts, not-true}
use Rattle.std.proofs.lemmas.List.Folds.{length-prefix_len}
use Rattle.std.proofs.lemmas.List.Sums.{prefix_len-le-length}
use Rattle.text_bytes.specs.Names.{nul, backslash, double_quote}
use Rattle.rule_tokens.specs.Values.{Piece, byte, spelling, meaning}
use Rattle.rule_tokens.specs.Reading.{piece_at, if_piece, is_single, pieces_of, meaning_at, value_length}
use Rattle.rule_tokens.proofs.Pieces.{piece_sound}
use Rattle.rule_tokens.proofs.PieceLists.{pieces_some, pieces_none, spelled_some}

abbrev seen : List ℕ → Piece → List ℕ × List ℕ
seen text p = (meaning p, drop (length (spelling p)) text)

record OnePiece (escaped : Bool) (text mean after : List ℕ) : Type 0 where
  piece : Piece
  pieces : pieces_of escaped 0 text ≡ piece ∷ pieces_of escaped 0 after
  mean_is : meaning piece ≡ mean
  spelled : text ≡ spelling piece ++ after

one_piece : (escaped : Bool) (text mean after : List ℕ) → meaning_at escaped text ≡ Some (mean, after) → OnePiece escaped text mean after
one_piece escaped text mean after e = by_piece (piece_at escaped text) refl e
  where
    by_piece : (o : Option Piece) → piece_at escaped text ≡ o → option_map (seen text) o ≡ Some (mean, after) → OnePiece escaped text mean after
    by_piece None f e = absurd (cc)
    by_piece (Some p) f e =
        let s = (piece_sound escaped text p f).1 in
        let q : seen text p ≡ (mean, after) = cc in
        let m : meaning p ≡ mean = ap (λ (x : List ℕ × List ℕ). x.0) q in
        let a : drop (length (spelling p)) text ≡ after = ap (λ (x : List ℕ × List ℕ). x.1) q in
        let t : text ≡ spelling p ++ after = s ∙ ap (λ r. spelling p ++ r) a in
        record { piece = p; mean_is = m; spelled = t; pieces = rw t (pieces_some escaped p after (rw (← t) f)) }

none_left : (escaped : Bool) (text : List ℕ) → meaning_at escaped text ≡ None → pieces_of escaped 0 text ≡ []
none_left escaped text e = by_piece (piece_at escaped text) refl e
  where
    by_piece : (o : Option Piece) → piece_at escaped text ≡ o → option_map (seen text) o ≡ None → pieces_of escaped 0 text ≡ []
    by_piece None f e = pieces_none escaped text f
    by_piece (Some p) f e = absurd (cc)

-- a byte of its own is read as that
single_piece : (escaped : Bool) (b : ℕ) (rest : List ℕ) → is_single b ≡ true → piece_at escaped (b ∷ rest) ≡ Some (byte b)
unfolding piece_at
single_piece escaped b rest e =
    let p = and_parts (not (b == backslash)) _ e in
    let q = and_parts (not (b == double_quote)) _ p.1 in
    rw (not-true (b == backslash) p.0) (allowed escaped p q)
  where
    allowed : (escaped : Bool) → (not (b == backslash) ≡ true) × ((not (b == double_quote) && not (b == nul)) ≡ true) → (not (b == double_quote) ≡ true) × (not (b == nul) ≡ true) → if_piece escaped (byte b) ≡ Some (byte b)
    allowed false p q = rw p.1 refl
    allowed true p q = rw q.0 (rw q.1 (rw p.0 refl))

one-more : (n : ℕ) → 1 + n ≡ suc n
one-more n = omega arith

-- what the pieces at the front give, of which each is a byte of its own, and what those after them give
single_run : (f : Piece → List ℕ) (h : (b : ℕ) → f (byte b) ≡ b ∷ []) (escaped : Bool) (text : List ℕ) → flat_map f (pieces_of escaped 0 text) ≡ take (prefix_len is_single text) text ++ flat_map f (pieces_of escaped 0 (drop (prefix_len is_single text) text))
single_run f h escaped [] = refl
single_run f h escaped (b ∷ rest) = by_test (is_single b) refl (single_run f h escaped rest)
  where
    by_test : (t : Bool) → is_single b ≡ t → flat_map f (pieces_of escaped 0 rest) ≡ take (prefix_len is_single rest) rest ++ flat_map f (pieces_of escaped 0 (drop (prefix_len is_single rest) rest))
        → flat_map f (pieces_of escaped 0 (b ∷ rest)) ≡ take (cond t (1 + prefix_len is_single rest) 0) (b ∷ rest) ++ flat_map f (pieces_of escaped 0 (drop (cond t (1 + prefix_len is_single rest) 0) (b ∷ rest)))
    by_test true e k =
        rw (one-more (prefix_len is_single rest)) (rw (pieces_some escaped (byte b) rest (single_piece escaped b rest e)) (rw (h b) (ap (λ bytes. b ∷ bytes) k)))
    by_test false e k = refl

pub meaning_run : (escaped : Bool) (text : List ℕ) → take (prefix_len is_single text) text ++ flat_map meaning (pieces_of escaped 0 (drop (prefix_len is_single text) text)) ≡ flat_map meaning (pieces_of escaped 0 text)
meaning_run escaped text = sym (single_run meaning (λ b. refl) escaped text)

pub value_run : (escaped : Bool) (text : List ℕ) → length text + value_length escaped (drop (prefix_len is_single text) text) ≡ value_length escaped text + length (drop (prefix_len is_single text) text)
value_run escaped text =
    let n = prefix_len is_single text in
    let e = ap length (single_run spelling (λ b. refl) escaped text) in
    let a = length-append (take n text) (flat_map spelling (pieces_of escaped 0 (drop n text))) in
    omega (arith, e, a, length-prefix_len is_single text, length-drop n text, prefix_len-le-length is_single text)

pub value_step : (escaped : Bool) (text mean after : List ℕ) → meaning_at escaped text ≡ Some (mean, after) → (value_length escaped text + length after ≡ length text + value_length escaped after) × (length after < length text)
value_step escaped text mean after e =
    let o = one_piece escaped text mean after e in
    let l : length text ≡ length (spelling o.piece) + length after = ap length o.spelled ∙ length-append (spelling o.piece) after in
    let v : value_length escaped text ≡ length (spelling o.piece) + value_length escaped after = ap (λ ps. length (flat_map spelling ps)) o.pieces ∙ length-append (spelling o.piece) (flat_map spelling (pieces_of escaped 0 after)) in
    let some : 0 < length (spelling o.piece ++ []) = spelled_some o.piece [] in
    let same = ap length (append-nil (spelling o.piece)) in
    (omega arith, omega arith)

pub value_done : (escaped : Bool) (text : List ℕ) → meaning_at escaped text ≡ None → value_length escaped text ≡ 0
value_done escaped text e = ap (λ ps. length (flat_map spelling ps)) (none_left escaped text e)

pub unquote_step : (escaped : Bool) (text mean after out : List ℕ) → meaning_at escaped text ≡ Some (mean, after) → (out ++ mean) ++ flat_map meaning (pieces_of escaped 0 after) ≡ out ++ flat_map meaning (pieces_of escaped 0 text)
unquote_step escaped text mean after out e =
    let o = one_piece escaped text mean after e in
    rw o.pieces (rw o.mean_is (append_assoc out mean (flat_map meaning (pieces_of escaped 0 after))))

pub unquote_done : (escaped : Bool) (text out : List ℕ) → meaning_at escaped text ≡ None → out ++ flat_map meaning (pieces_of escaped 0 text) ≡ out
unquote_done escaped text out e = rw (none_left escaped text e) (append-nil out)

-- what the steps of the loop over a value have shown, and its end
pub ruleset unquote_steps = (meaning_run, unquote_step, unquote_done, value_step)
