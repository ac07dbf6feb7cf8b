-- The pieces of a value: what is read is spelled so, and what is spelled so is read.
use Rattle.std.proofs.Common.{◌≡◌, ℕ, zero, suc, ◌<◌, Bool, true, false, not, List, [], ◌∷◌, ◌++◌, length, drop, Option, Some, None, cond, refl, ap, sym, ◌∙◌, ◌==◌, arith, append_assoc, eqb-true, subst}
use Rattle.std.specs.List.{list_all, flat_map}
use Rattle.std.proofs.lemmas.Bool.{and_parts, and_from, both_ways, not-true}
use Rattle.std.proofs.lemmas.List.{drop_at}
use Rattle.text_bytes.specs.Names.{backslash, double_quote}
use Rattle.text_bytes.specs.Texts.{ends_in}
use Rattle.rule_tokens.specs.Values.{Piece, byte, letter, octal, hex, short, long, spelling, is_plain_piece, is_escaped_piece, is_piece, Spells}
use Rattle.rule_tokens.specs.Grammar.{BeginsOther}
use Rattle.rule_tokens.specs.Reading.{piece_at, pieces_from, pieces_of, plain_first, if_piece}
use Rattle.rule_tokens.proofs.Pieces.{escaped_again, piece_sound}

-- after so many bytes
pub pieces_after : (escaped : Bool) (run rest : List ℕ) → pieces_of escaped (length run) (run ++ rest) ≡ pieces_of escaped 0 rest
unfolding pieces_of
pieces_after escaped [] rest = refl
pieces_after escaped (b ∷ run) rest = pieces_after escaped run rest

pub pieces_none : (escaped : Bool) (rest : List ℕ) → piece_at escaped rest ≡ None → pieces_of escaped 0 rest ≡ []
unfolding pieces_of
pieces_none escaped [] e = refl
pieces_none escaped (b ∷ rest) e = rw e refl

-- a piece, and the pieces after it
pub pieces_some : (escaped : Bool) (p : Piece) (rest : List ℕ) → piece_at escaped (spelling p ++ rest) ≡ Some p → pieces_of escaped 0 (spelling p ++ rest) ≡ p ∷ pieces_of escaped 0 rest
unfolding pieces_of
pieces_some escaped (byte b) rest e = rw e refl
pieces_some escaped (letter c) rest e = rw e refl
pieces_some escaped (octal digits) rest e = rw e (ap (λ ps. octal digits ∷ ps) (pieces_after escaped digits rest))
pieces_some escaped (hex digits) rest e = rw e (ap (λ ps. hex digits ∷ ps) (pieces_after escaped digits rest))
pieces_some escaped (short digits) rest e = rw e (ap (λ ps. short digits ∷ ps) (pieces_after escaped digits rest))
pieces_some escaped (long digits) rest e = rw e (ap (λ ps. long digits ∷ ps) (pieces_after escaped digits rest))

escaped_pieces : (ps : List Piece) (rest : List ℕ) → list_all is_escaped_piece ps ≡ true → piece_at true rest ≡ None → pieces_of true 0 (flat_map spelling ps ++ rest) ≡ ps
escaped_pieces [] rest a n = pieces_none true rest n
escaped_pieces (p ∷ ps) rest a n =
    let h = and_parts (is_escaped_piece p) (list_all is_escaped_piece ps) a in
    let e : flat_map spelling (p ∷ ps) ++ rest ≡ spelling p ++ (flat_map spelling ps ++ rest) = append_assoc (spelling p) (flat_map spelling ps) rest in
    rw e (pieces_some true p (flat_map spelling ps ++ rest) (escaped_again p (flat_map spelling ps ++ rest) h.0) ∙ ap (λ qs. p ∷ qs) (escaped_pieces ps rest h.1 n))

ends_after : (b : ℕ) (x y : List ℕ) (c : ℕ) → ends_in b (x ++ c ∷ y) ≡ ends_in b (c ∷ y)
ends_after b [] y c = refl
ends_after b (d ∷ []) y c = refl
ends_after b (d ∷ e ∷ x) y c = ends_after b (e ∷ x) y c

-- a plain piece is read, if no backslash comes directly before a quote
plain_again : (p : Piece) (rest : List ℕ) → is_plain_piece p ≡ true → (p ≡ byte backslash → BeginsOther (λ b. b == double_quote) rest) → piece_at false (spelling p ++ rest) ≡ Some p
unfolding piece_at
plain_again (byte b) rest e o = by_test (b == backslash) refl
  where
    following : (rest : List ℕ) → BeginsOther (λ b. b == double_quote) rest → plain_first rest ≡ byte backslash
    following [] o = refl
    following (c ∷ rest) o = rw o refl

    by_test : (t : Bool) → (b == backslash) ≡ t → if_piece false (cond t (plain_first rest) (byte b)) ≡ Some (byte b)
    by_test true f =
        let g : b ≡ backslash = eqb-true b backslash f in
        rw (following rest (o (ap byte g))) (rw (sym g) refl)
    by_test false f = rw e refl
plain_again (letter c) rest e o = rw e (rw e refl)
plain_again (octal digits) rest e o = absurd (both_ways false refl e)
plain_again (hex digits) rest e o = absurd (both_ways false refl e)
plain_again (short digits) rest e o = absurd (both_ways false refl e)
plain_again (long digits) rest e o = absurd (both_ways false refl e)

plain_begins : (ps : List Piece) (tail : List ℕ) → list_all is_plain_piece ps ≡ true → 0 < length ps → BeginsOther (λ b. b == double_quote) (flat_map spelling ps ++ tail)
plain_begins [] tail a l = absurd (omega arith)
plain_begins (byte b ∷ ps) tail a l = not-true _ (and_parts (not (b == double_quote)) _ (and_parts (is_plain_piece (byte b)) (list_all is_plain_piece ps) a).0).0
plain_begins (letter c ∷ ps) tail a l = refl
plain_begins (octal digits ∷ ps) tail a l = refl
plain_begins (hex digits ∷ ps) tail a l = refl
plain_begins (short digits ∷ ps) tail a l = refl
plain_begins (long digits ∷ ps) tail a l = refl

-- a spelling is not empty
pub spelled_some : (p : Piece) (rest : List ℕ) → 0 < length (spelling p ++ rest)
spelled_some (byte b) rest = omega arith
spelled_some (letter c) rest = omega arith
spelled_some (octal digits) rest = omega arith
spelled_some (hex digits) rest = omega arith
spelled_some (short digits) rest = omega arith
spelled_some (long digits) rest = omega arith

-- what ends otherwise after a piece ends otherwise
ends_less : (b : ℕ) (x y : List ℕ) → ends_in b (x ++ y) ≡ false → ends_in b y ≡ false
ends_less b x [] e = refl
ends_less b x (c ∷ y) e = sym (ends_after b x y c) ∙ e

plain_pieces : (ps : List Piece) (rest : List ℕ) → list_all is_plain_piece ps ≡ true → ends_in backslash (flat_map spelling ps) ≡ false → piece_at false rest ≡ None → pieces_of false 0 (flat_map spelling ps ++ rest) ≡ ps
plain_pieces [] rest a o n = pieces_none false rest n
plain_pieces (p ∷ ps) rest a o n =
    let h = and_parts (is_plain_piece p) (list_all is_plain_piece ps) a in
    let e : flat_map spelling (p ∷ ps) ++ rest ≡ spelling p ++ (flat_map spelling ps ++ rest) = append_assoc (spelling p) (flat_map spelling ps) rest in
    rw e (pieces_some false p (flat_map spelling ps ++ rest) (plain_again p (flat_map spelling ps ++ rest) h.0 (next ps rest h.1 p o))
    ∙ ap (λ qs. p ∷ qs) (plain_pieces ps rest h.1 (ends_less backslash (spelling p) (flat_map spelling ps) o) n))
  where
    next : (ps : List Piece) (rest : List ℕ) → list_all is_plain_piece ps ≡ true → (p : Piece) → ends_in backslash (spelling p ++ flat_map spelling ps) ≡ false → p ≡ byte backslash → BeginsOther (λ b. b == double_quote) (flat_map spelling ps ++ rest)
    next [] rest a p o e = absurd (both_ways (ends_in backslash (spelling (byte backslash) ++ [])) (subst (λ (q : Piece). ends_in backslash (spelling q ++ []) ≡ false) e o) refl)
    next (q ∷ ps) rest a p o e = plain_begins (q ∷ ps) rest a (omega arith)

-- what is spelled so is read
pub pieces_again : (escaped : Bool) (ps : List Piece) (text rest : List ℕ) → Spells escaped ps text → piece_at escaped rest ≡ None → pieces_of escaped 0 (text ++ rest) ≡ ps
pieces_again true ps text rest s n = rw s.spelled (escaped_pieces ps rest s.allowed n)
pieces_again false ps text rest s n = rw s.spelled (plain_pieces ps rest s.allowed (rw s.spelled at (s.end refl)) n)

drop_first : (p : Piece) (b : ℕ) (rest : List ℕ) → drop (length (spelling p)) (b ∷ rest) ≡ drop (length (drop 1 (spelling p))) rest
drop_first (byte c) b rest = refl
drop_first (letter c) b rest = refl
drop_first (octal digits) b rest = refl
drop_first (hex digits) b rest = refl
drop_first (short digits) b rest = refl
drop_first (long digits) b rest = refl

-- what is read is spelled so
pub pieces_sound : (escaped : Bool) (n : ℕ) (text : List ℕ) → (list_all (is_piece escaped) (pieces_of escaped n text) ≡ true) × ((tail : List ℕ) × (drop n text ≡ flat_map spelling (pieces_of escaped n text) ++ tail))
unfolding pieces_of
pieces_sound escaped zero [] = (refl, ([], refl))
pieces_sound escaped (suc n) [] = (refl, ([], refl))
pieces_sound escaped (suc n) (b ∷ rest) = pieces_sound escaped n rest
pieces_sound escaped zero (b ∷ rest) = by_piece (piece_at escaped (b ∷ rest)) refl (λ p. pieces_sound escaped (length (drop 1 (spelling p))) rest)
  where
    by_piece : (o : Option Piece) → piece_at escaped (b ∷ rest) ≡ o → ((p : Piece) → (list_all (is_piece escaped) (pieces_of escaped (length (drop 1 (spelling p))) rest) ≡ true) × ((tail : List ℕ) × (drop (length (drop 1 (spelling p))) rest ≡ flat_map spelling (pieces_of escaped (length (drop 1 (spelling p))) rest) ++ tail)))
        → (list_all (is_piece escaped) (pieces_from (λ n. pieces_of escaped n rest) o) ≡ true) × ((tail : List ℕ) × (b ∷ rest ≡ flat_map spelling (pieces_from (λ n. pieces_of escaped n rest) o) ++ tail))
    by_piece None e h = (refl, (b ∷ rest, refl))
    by_piece (Some p) e h =
        let s = piece_sound escaped (b ∷ rest) p e in
        let r = h p in
        (and_from (is_piece escaped p) _ s.0 r.0, (r.1.0, s.1 ∙ (ap (λ t. spelling p ++ t) (drop_first p b rest ∙ r.1.1) ∙ sym (append_assoc (spelling p) _ r.1.0))))

-- before a quote a backslash is not a piece
before_quote : (b c : ℕ) (text rest : List ℕ) → piece_at false (b ∷ text) ≡ Some (byte c) → b ≡ c → text ≡ double_quote ∷ rest → (t : Bool) → (c == backslash) ≡ t → t ≡ false
unfolding piece_at
before_quote b c text rest e f g true h =
    let k : b ≡ backslash = f ∙ eqb-true c backslash h in
    let m : piece_at false (b ∷ text) ≡ Some (letter double_quote) = rw k (rw g refl) in
    absurd (cc)
before_quote b c text rest e f g false h = refl

head_of : (b c : ℕ) (x y : List ℕ) → b ∷ x ≡ c ∷ y → b ≡ c
head_of b c x y e = cc

last_piece : (p : Piece) (b : ℕ) (text rest : List ℕ) → piece_at false (b ∷ text) ≡ Some p → drop (length (drop 1 (spelling p))) text ≡ double_quote ∷ rest → ends_in backslash (spelling p ++ []) ≡ false
last_piece (byte c) b text rest e d = before_quote b c text rest e (head_of b c _ _ (piece_sound false (b ∷ text) (byte c) e).1) d (c == backslash) refl
last_piece (letter c) b text rest e d = let k : c ≡ double_quote = eqb-true c double_quote (piece_sound false (b ∷ text) (letter c) e).0 in rw k refl
last_piece (octal digits) b text rest e d = absurd (both_ways false refl (piece_sound false (b ∷ text) (octal digits) e).0)
last_piece (hex digits) b text rest e d = absurd (both_ways false refl (piece_sound false (b ∷ text) (hex digits) e).0)
last_piece (short digits) b text rest e d = absurd (both_ways false refl (piece_sound false (b ∷ text) (short digits) e).0)
last_piece (long digits) b text rest e d = absurd (both_ways false refl (piece_sound false (b ∷ text) (long digits) e).0)

more_pieces : (p : Piece) (b : ℕ) (text spelled rest : List ℕ) → piece_at false (b ∷ text) ≡ Some p → drop (length (drop 1 (spelling p))) text ≡ spelled ++ double_quote ∷ rest → ends_in backslash spelled ≡ false → ends_in backslash (spelling p ++ spelled) ≡ false
more_pieces p b text [] rest e d h = last_piece p b text rest e d
more_pieces p b text (c ∷ spelled) rest e d h = ends_after backslash (spelling p) spelled c ∙ h

-- what is left after a piece
left : (p : Piece) (b : ℕ) (text x y : List ℕ) → b ∷ text ≡ (spelling p ++ x) ++ y → drop (length (drop 1 (spelling p))) text ≡ x ++ y
left p b text x y e = sym (drop_first p b text) ∙ (ap (λ t. drop (length (spelling p)) t) (e ∙ append_assoc (spelling p) x y) ∙ drop_at (spelling p) (x ++ y) _ refl)

-- the quote after the pieces of a plain value has no backslash before it
pub plain_end : (n : ℕ) (text rest : List ℕ) → drop n text ≡ flat_map spelling (pieces_of false n text) ++ double_quote ∷ rest → ends_in backslash (flat_map spelling (pieces_of false n text)) ≡ false
unfolding pieces_of
plain_end zero [] rest e = refl
plain_end (suc n) [] rest e = refl
plain_end (suc n) (b ∷ text) rest e = plain_end n text rest e
plain_end zero (b ∷ text) rest e = by_piece (piece_at false (b ∷ text)) refl e (λ p. plain_end (length (drop 1 (spelling p))) text rest)
  where
    by_piece : (o : Option Piece) → piece_at false (b ∷ text) ≡ o → b ∷ text ≡ flat_map spelling (pieces_from (λ n. pieces_of false n text) o) ++ double_quote ∷ rest
        → ((p : Piece) → drop (length (drop 1 (spelling p))) text ≡ flat_map spelling (pieces_of false (length (drop 1 (spelling p))) text) ++ double_quote ∷ rest → ends_in backslash (flat_map spelling (pieces_of false (length (drop 1 (spelling p))) text)) ≡ false)
        → ends_in backslash (flat_map spelling (pieces_from (λ n. pieces_of false n text) o)) ≡ false
    by_piece None o e h = refl
    by_piece (Some p) o e h =
        let d = left p b text (flat_map spelling (pieces_of false (length (drop 1 (spelling p))) text)) (double_quote ∷ rest) e in
        more_pieces p b text _ rest o d (h p d)
