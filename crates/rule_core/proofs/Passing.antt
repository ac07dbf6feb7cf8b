-- The ends of lines read byte by byte.
use Rattle.std.proofs.Common.{◌≡◌, ℕ, zero, suc, ◌-◌, ◌<◌, ◌==◌, Bool, true, false, cond, List, [], ◌∷◌, ◌++◌, refl, ap, sym, ◌∙◌, arith, append_assoc, append-nil}
use Rattle.std.proofs.lemmas.Bool.{eqb-true}
use Rattle.text_bytes.specs.Names.{newline}
use Rattle.rule_core.specs.Ends.{as_read, as_read_after, end_size}

pub started : (read bytes : List ℕ) → read ≡ [] → read ++ as_read_after 0 bytes ≡ as_read bytes
unfolding as_read
started read bytes e = ap (λ (l : List ℕ). l ++ as_read_after 0 bytes) e

-- a byte of an end that was met before
pub passed_one : (read : List ℕ) (passed left b : ℕ) (rest following all : List ℕ) → read ++ as_read_after passed rest ≡ all → rest ≡ b ∷ following → 0 < passed → left ≡ passed - 1
    → read ++ as_read_after left following ≡ all
passed_one read zero left b rest following all h e p l = absurd (omega arith)
passed_one read (suc n) left b rest following all h e p l =
    let same : left ≡ n = omega arith in
    ap (λ (k : ℕ). read ++ as_read_after k following) same ∙ ap (λ (t : List ℕ). read ++ as_read_after (suc n) t) (sym e) ∙ h

-- a byte that is one of the line, or begins an end
pub byte_read : (read now : List ℕ) (passed size left b : ℕ) (rest following all : List ℕ) → read ++ as_read_after passed rest ≡ all → rest ≡ b ∷ following → passed ≡ 0 → size ≡ end_size rest → left ≡ size - 1
    → now ≡ read ++ cond (size == 0) b newline ∷ [] → now ++ as_read_after left following ≡ all
byte_read read now passed size left b rest following all h e p s l n =
    ap (λ (k : List ℕ). k ++ as_read_after left following) n
    ∙ append_assoc read (cond (size == 0) b newline ∷ []) (as_read_after left following)
    ∙ ap (λ (k : ℕ). read ++ cond (size == 0) b newline ∷ as_read_after k following) l
    ∙ ap (λ (k : List ℕ). read ++ k) (by size (s ∙ ap end_size e))
    ∙ ap (λ (t : List ℕ). read ++ as_read_after 0 t) (sym e)
    ∙ ap (λ (k : ℕ). read ++ as_read_after k rest) (sym p)
    ∙ h
  where
    prefix : ℕ → List ℕ
    prefix k = cond (k == 0) b newline ∷ as_read_after (k - 1) following

    one : (k : ℕ) → prefix k ≡ cond (k == 0) (b ∷ as_read_after 0 following) (newline ∷ as_read_after (k - 1) following)
    one k = by_size (k == 0) refl
      where
        by_size : (c : Bool) → (k == 0) ≡ c → cond c b newline ∷ as_read_after (k - 1) following ≡ cond c (b ∷ as_read_after 0 following) (newline ∷ as_read_after (k - 1) following)
        by_size true g =
            let none : k ≡ 0 = eqb-true k 0 g in
            let left : k - 1 ≡ 0 = omega arith in
            ap (λ (m : ℕ). b ∷ as_read_after m following) left
        by_size false g = refl

    by : (k : ℕ) → k ≡ end_size (b ∷ following) → prefix k ≡ as_read_after 0 (b ∷ following)
    by k f = one k ∙ ap (λ (m : ℕ). cond (m == 0) (b ∷ as_read_after 0 following) (newline ∷ as_read_after (m - 1) following)) f

-- nothing is left
pub all_read : (read : List ℕ) (passed : ℕ) (rest all : List ℕ) → read ++ as_read_after passed rest ≡ all → rest ≡ [] → read ≡ all
all_read read passed rest all h e = sym (append-nil read) ∙ ap (λ (l : List ℕ). read ++ l) (none passed) ∙ ap (λ (t : List ℕ). read ++ as_read_after passed t) (sym e) ∙ h where
  none : (k : ℕ) → [] ≡ as_read_after k []
  none zero = refl
  none (suc k) = refl
