-- Braces with a comma between them.
use Rattle.std.proofs.Common.{◌≡◌, ℕ, ◌+◌, ◌==◌, Bool, true, false, cond, not, ◌||◌, List, [], ◌∷◌, ◌++◌, drop, suc, refl, ap, sym, ◌∙◌, ◌↔◌, arith, append_assoc, inl, inr, ◌⊎◌}
use Rattle.std.proofs.lemmas.Bool.{or_cases, or_left, or_right, eqb-true, eq-eqb, false≢true}
use Rattle.std.specs.List.{position_or_len}
use Rattle.text_bytes.specs.Names.{close_brace, comma, open_brace}
use Rattle.rule_lints.specs.Laws.{HasBraces}
use Rattle.rule_lints.specs.Patterns.{has_braces}
use Rattle.rule_lints.specs.Texts.{has_byte, rest_after_first as following}

passed : (c : Bool) (n b : ℕ) (text : List ℕ) → drop (cond (not c) (1 + n) 0 + 1) (b ∷ text) ≡ cond c text (drop (n + 1) text)
passed true n b text = refl
passed false n b text =
    let e : 1 + n + 1 ≡ suc (n + 1) = omega arith in
    ap (λ (k : ℕ). drop k (b ∷ text)) e

step : (byte b : ℕ) (text : List ℕ) → following byte (b ∷ text) ≡ cond (b == byte) text (following byte text)
step byte b text = passed (b == byte) (position_or_len (λ x. x == byte) text) b text

-- a text in two parts with a byte between them
pub record Parted (byte : ℕ) (text : List ℕ) : Type 0 where
  pub before : List ℕ
  pub after : List ℕ
  pub whole : text ≡ before ++ byte ∷ after

-- if something follows the first such byte, the byte is in the text, and the rest is after it
record Opened (byte : ℕ) (text : List ℕ) : Type 0 where
  before : List ℕ
  whole : text ≡ before ++ byte ∷ following byte text

opened : (byte other : ℕ) (text : List ℕ) → has_byte other (following byte text) ≡ true → Opened byte text
opened byte other [] h = absurd (false≢true h)
opened byte other (b ∷ text) h = by (b == byte) refl (λ g. opened byte other text g)
  where
    by : (c : Bool) → (b == byte) ≡ c → (has_byte other (following byte text) ≡ true → Opened byte text) → Opened byte (b ∷ text)
    by true e more = record {
      before = [];
      whole = ap (λ (x : ℕ). x ∷ text) (eqb-true b byte e) ∙ ap (λ (t : List ℕ). byte ∷ t) (sym (step byte b text ∙ ap (λ (c : Bool). cond c text (following byte text)) e));
    }
    by false e more =
        let same = step byte b text ∙ ap (λ (c : Bool). cond c text (following byte text)) e in
        let rest = more (ap (has_byte other) (sym same) ∙ h) in
        record {
          before = b ∷ rest.before;
          whole = ap (λ (t : List ℕ). b ∷ t) rest.whole ∙ ap (λ (t : List ℕ). b ∷ (rest.before ++ byte ∷ t)) (sym same);
        }

pub parted : (byte : ℕ) (text : List ℕ) → has_byte byte text ≡ true → Parted byte text
parted byte [] h = absurd (false≢true h)
parted byte (b ∷ text) h = by (or_cases (b == byte) (has_byte byte text) h) (λ g. parted byte text g)
  where
    by : ((b == byte) ≡ true) ⊎ (has_byte byte text ≡ true) → (has_byte byte text ≡ true → Parted byte text) → Parted byte (b ∷ text)
    by (inl e) more = record { before = []; after = text; whole = ap (λ (x : ℕ). x ∷ text) (eqb-true b byte e) }
    by (inr e) more =
        let rest = more e in
        record { before = b ∷ rest.before; after = rest.after; whole = ap (λ (t : List ℕ). b ∷ t) rest.whole }

-- what has a byte in it has one
has_it : (byte other : ℕ) (text : List ℕ) → has_byte byte (following other text) ≡ true → has_byte other text ≡ true
has_it byte other [] h = absurd (false≢true h)
has_it byte other (b ∷ text) h = by (b == other) refl (λ g. has_it byte other text g)
  where
    by : (c : Bool) → (b == other) ≡ c → (has_byte byte (following other text) ≡ true → has_byte other text ≡ true) → ((b == other) || has_byte other text) ≡ true
    by true e more = or_left (b == other) (has_byte other text) e
    by false e more =
        or_right (b == other) (has_byte other text)
        (more (ap (has_byte byte) (sym (step other b text ∙ ap (λ (c : Bool). cond c text (following other text)) e)) ∙ h))

from_signs : (text : List ℕ) → has_braces text ≡ true → HasBraces text
from_signs text h =
    let inner = following open_brace text in
    let last = following comma inner in
    let outer = opened open_brace comma text (has_it close_brace comma inner h) in
    let middle = opened comma close_brace inner h in
    let end = parted close_brace last h in
    record {
      before = outer.before;
      first = middle.before;
      second = end.before;
      following = end.after;
      whole = outer.whole ∙ ap (λ (t : List ℕ). outer.before ++ open_brace ∷ t) (middle.whole ∙ ap (λ (t : List ℕ). middle.before ++ comma ∷ t) end.whole);
    }

-- what follows some such byte follows the first one
record Kept (byte : ℕ) (text rest : List ℕ) : Type 0 where
  prefix : List ℕ
  whole : following byte text ≡ prefix ++ rest

kept : (byte : ℕ) (before rest : List ℕ) → Kept byte (before ++ byte ∷ rest) rest
kept byte [] rest = record { prefix = []; whole = step byte byte rest ∙ ap (λ (c : Bool). cond c rest (following byte rest)) (eq-eqb byte byte refl) }
kept byte (b ∷ before) rest = by (b == byte) refl (kept byte before rest)
  where
    same : (c : Bool) → (b == byte) ≡ c → following byte (b ∷ (before ++ byte ∷ rest)) ≡ cond c (before ++ byte ∷ rest) (following byte (before ++ byte ∷ rest))
    same c e = step byte b (before ++ byte ∷ rest) ∙ ap (λ (c : Bool). cond c (before ++ byte ∷ rest) (following byte (before ++ byte ∷ rest))) e

    by : (c : Bool) → (b == byte) ≡ c → Kept byte (before ++ byte ∷ rest) rest → Kept byte (b ∷ (before ++ byte ∷ rest)) rest
    by true e more = record { prefix = before ++ byte ∷ []; whole = same true e ∙ sym (append_assoc before (byte ∷ []) rest) }
    by false e more = record { prefix = more.prefix; whole = same false e ∙ more.whole }

has_after : (byte : ℕ) (before rest : List ℕ) → has_byte byte (before ++ byte ∷ rest) ≡ true
has_after byte [] rest = or_left (byte == byte) (has_byte byte rest) (eq-eqb byte byte refl)
has_after byte (b ∷ before) rest = or_right (b == byte) (has_byte byte (before ++ byte ∷ rest)) (has_after byte before rest)

from_text : (text : List ℕ) → HasBraces text → has_braces text ≡ true
from_text text t =
    let last = t.second ++ close_brace ∷ t.following in
    let inner = t.first ++ comma ∷ last in
    let outer = kept open_brace t.before inner in
    let prefix = outer.prefix ++ t.first in
    let joined = ap (following open_brace) t.whole ∙ outer.whole ∙ sym (append_assoc outer.prefix t.first (comma ∷ last)) in
    let middle = kept comma prefix last in
    ap (λ (x : List ℕ). has_byte close_brace (following comma x)) joined
    ∙ ap (has_byte close_brace) (middle.whole ∙ sym (append_assoc middle.prefix t.second (close_brace ∷ t.following)))
    ∙ has_after close_brace (middle.prefix ++ t.second) t.following

pub braces : (text : List ℕ) → (has_braces text ≡ true) ↔ HasBraces text
braces text = (from_signs text, from_text text)
