-- What udev's ends of lines give.
use Rattle.std.proofs.Common.{◌≡◌, ℕ, zero, suc, ◌+◌, ◌-◌, ◌<◌, ◌≤◌, ◌==◌, ◌&&◌, Bool, true, false, not, cond, List, [], ◌∷◌, ◌++◌, length, take, refl, ap, sym, ◌∙◌, subst, arith}
use Rattle.std.proofs.lemmas.Bool.{eqb-true}
use Rattle.std.specs.List.{list_all}
use Rattle.text_bytes.specs.Names.{carriage_return, newline, nul}
use Rattle.rule_core.specs.Ends.{as_read, as_read_after, end_size, more_size, nul_size}
use Rattle.rule_laws.specs.LineEnds.{End, StaysAsRead, TakesLongestEnd, byte_if, is_unmarked, newline_first, nul_alone, return_first, spelled}

-- ---- the longest end

longest_of : (e : End) (rest : List ℕ) → length (spelled e) ≤ end_size (spelled e ++ rest)
longest_of (newline_first true true) rest = omega arith
longest_of (newline_first true false) rest = omega arith
longest_of (newline_first false true) rest = omega arith
longest_of (newline_first false false) rest = omega arith
longest_of (return_first true true) rest = omega arith
longest_of (return_first true false) rest = omega arith
longest_of (return_first false true) rest = omega arith
longest_of (return_first false false) rest = omega arith
longest_of nul_alone rest = omega arith

take_next : (n b : ℕ) (text : List ℕ) → take (1 + n) (b ∷ text) ≡ b ∷ take n text
take_next n b text = let next : 1 + n ≡ suc n = omega arith in ap (λ (k : ℕ). take k (b ∷ text)) next

take_none : (text : List ℕ) → take 0 text ≡ []
take_none [] = refl
take_none (b ∷ text) = refl

-- a NUL, or none
abbrev Ends : List ℕ → ℕ → Type 0
Ends text n = (there : Bool) × (take n text ≡ byte_if there nul)

nul_in_place : (text : List ℕ) → Ends text (nul_size text)
nul_in_place [] = (false, refl)
nul_in_place (b ∷ text) = by (b == nul) refl
  where
    by : (c : Bool) → (b == nul) ≡ c → Ends (b ∷ text) (cond c 1 0)
    by true e = (true, take_next 0 b text ∙ ap (λ (l : List ℕ). b ∷ l) (take_none text) ∙ ap (λ (c : ℕ). c ∷ []) (eqb-true b nul e))
    by false e = (false, refl)

-- what goes on with an end
abbrev Proceeds : ℕ → List ℕ → ℕ → Type 0
Proceeds other text n = (paired with_nul : Bool) × (take n text ≡ byte_if paired other ++ byte_if with_nul nul)

more_in_place : (other : ℕ) (text : List ℕ) → Proceeds other text (more_size other text)
more_in_place other [] = (false, false, refl)
more_in_place other (b ∷ text) = by (b == other) refl (nul_in_place text) (nul_in_place (b ∷ text))
  where
    by : (c : Bool) → (b == other) ≡ c → Ends text (nul_size text) → Ends (b ∷ text) (nul_size (b ∷ text)) → Proceeds other (b ∷ text) (cond c (1 + nul_size text) (nul_size (b ∷ text)))
    by true e following here = (true, following.0, take_next (nul_size text) b text ∙ ap (λ (l : List ℕ). b ∷ l) following.1 ∙ ap (λ (c : ℕ). c ∷ byte_if following.0 nul) (eqb-true b other e))
    by false e following here = (false, here.0, here.1)

is_present_of : (text : List ℕ) → 0 < end_size text → (e : End) × (take (end_size text) text ≡ spelled e)
is_present_of [] h = absurd (omega arith)
is_present_of (b ∷ text) h = by (b == newline) refl h
  where
    rest_of : (c : Bool) → (b == carriage_return) ≡ c → 0 < cond c (1 + more_size newline text) (nul_size (b ∷ text))
        → (e : End) × (take (cond c (1 + more_size newline text) (nul_size (b ∷ text))) (b ∷ text) ≡ spelled e)
    rest_of true f k =
        let m = more_in_place newline text in
        (return_first m.0 m.1, take_next (more_size newline text) b text ∙ ap (λ (l : List ℕ). b ∷ l) m.2 ∙ ap (λ (c : ℕ). c ∷ byte_if m.0 newline ++ byte_if m.1 nul) (eqb-true b carriage_return f))
    rest_of false f k = by_nul (b == nul) refl k
      where
        by_nul : (d : Bool) → (b == nul) ≡ d → 0 < cond d 1 0 → (e : End) × (take (cond d 1 0) (b ∷ text) ≡ spelled e)
        by_nul true g l = (nul_alone, take_next 0 b text ∙ ap (λ (l : List ℕ). b ∷ l) (take_none text) ∙ ap (λ (c : ℕ). c ∷ []) (eqb-true b nul g))
        by_nul false g l = absurd (omega arith)

    by : (c : Bool) → (b == newline) ≡ c → 0 < cond c (1 + more_size carriage_return text) (cond (b == carriage_return) (1 + more_size newline text) (nul_size (b ∷ text)))
        → (e : End) × (take (cond c (1 + more_size carriage_return text) (cond (b == carriage_return) (1 + more_size newline text) (nul_size (b ∷ text)))) (b ∷ text) ≡ spelled e)
    by true f k =
        let m = more_in_place carriage_return text in
        (newline_first m.0 m.1, take_next (more_size carriage_return text) b text ∙ ap (λ (l : List ℕ). b ∷ l) m.2 ∙ ap (λ (c : ℕ). c ∷ byte_if m.0 carriage_return ++ byte_if m.1 nul) (eqb-true b newline f))
    by false f k = rest_of (b == carriage_return) refl k

pub takes_longest : (text : List ℕ) → TakesLongestEnd text
takes_longest text = record {
  is_present = is_present_of text;
  longest = λ e rest s. subst (λ (t : List ℕ). length (spelled e) ≤ end_size t) (sym s) (longest_of e rest);
}

-- ---- a file as it was read

both : (a b : Bool) → (a && b) ≡ true → (a ≡ true) × (b ≡ true)
both true b e = (refl, e)
both false b e = cc

not_so : (b : Bool) → not b ≡ true → b ≡ false
not_so true e = cc
not_so false e = refl

no_nul : (text : List ℕ) → list_all is_unmarked text ≡ true → nul_size text ≡ 0
no_nul [] h = refl
no_nul (b ∷ text) h =
    let byte = both (not (b == carriage_return)) (not (b == nul)) (both (is_unmarked b) (list_all is_unmarked text) h).0 in
    ap (λ (c : Bool). cond c 1 0) (not_so (b == nul) byte.1)

no_more : (text : List ℕ) → list_all is_unmarked text ≡ true → more_size carriage_return text ≡ 0
no_more [] h = refl
no_more (b ∷ text) h =
    let byte = both (not (b == carriage_return)) (not (b == nul)) (both (is_unmarked b) (list_all is_unmarked text) h).0 in
    ap (λ (c : Bool). cond c (1 + nul_size text) (nul_size (b ∷ text))) (not_so (b == carriage_return) byte.0) ∙ no_nul (b ∷ text) h

-- what is read at a byte that begins an end of this size
abbrev read_at : ℕ → List ℕ → ℕ → List ℕ
read_at b text size = cond (size == 0) (b ∷ as_read_after 0 text) (newline ∷ as_read_after (size - 1) text)

stays : (text : List ℕ) → list_all is_unmarked text ≡ true → as_read_after 0 text ≡ text
stays [] h = refl
stays (b ∷ text) h = by (b == newline) refl (stays text (both (is_unmarked b) (list_all is_unmarked text) h).1)
  where
    byte : ((not (b == carriage_return)) ≡ true) × ((not (b == nul)) ≡ true)
    byte = both (not (b == carriage_return)) (not (b == nul)) (both (is_unmarked b) (list_all is_unmarked text) h).0

    other : ℕ
    other = cond (b == carriage_return) (1 + more_size newline text) (nul_size (b ∷ text))

    by : (c : Bool) → (b == newline) ≡ c → as_read_after 0 text ≡ text → read_at b text (cond c (1 + more_size carriage_return text) other) ≡ b ∷ text
    by true e following =
        ap (λ (n : ℕ). read_at b text (1 + n)) (no_more text (both (is_unmarked b) (list_all is_unmarked text) h).1)
        ∙ ap (λ (l : List ℕ). newline ∷ l) following ∙ ap (λ (c : ℕ). c ∷ text) (sym (eqb-true b newline e))
    by false e following =
        ap (read_at b text) (ap (λ (c : Bool). cond c (1 + more_size newline text) (nul_size (b ∷ text))) (not_so (b == carriage_return) byte.0) ∙ no_nul (b ∷ text) h)
        ∙ ap (λ (l : List ℕ). b ∷ l) following

-- a byte with which no end begins
unmarked_of : (b : ℕ) (text : List ℕ) → (end_size (b ∷ text) == 0) ≡ true → is_unmarked b ≡ true
unmarked_of b text h = by (b == newline) (b == carriage_return) (b == nul) (eqb-true (end_size (b ∷ text)) 0 h)
  where
    by : (c d e : Bool) → cond c (1 + more_size carriage_return text) (cond d (1 + more_size newline text) (cond e 1 0)) ≡ 0 → (not d && not e) ≡ true
    by true d e k = absurd (omega arith)
    by false true e k = absurd (omega arith)
    by false false true k = absurd (omega arith)
    by false false false k = refl

unmarked_read : (n : ℕ) (text : List ℕ) → list_all is_unmarked (as_read_after n text) ≡ true
unmarked_read n [] = refl
unmarked_read (suc n) (b ∷ text) = unmarked_read n text
unmarked_read zero (b ∷ text) = by (end_size (b ∷ text) == 0) refl (unmarked_read 0 text) (unmarked_read (end_size (b ∷ text) - 1) text)
  where
    by : (c : Bool) → (end_size (b ∷ text) == 0) ≡ c → list_all is_unmarked (as_read_after 0 text) ≡ true → list_all is_unmarked (as_read_after (end_size (b ∷ text) - 1) text) ≡ true
        → list_all is_unmarked (cond c (b ∷ as_read_after 0 text) (newline ∷ as_read_after (end_size (b ∷ text) - 1) text)) ≡ true
    by true e plain marked = ap (λ (d : Bool). d && list_all is_unmarked (as_read_after 0 text)) (unmarked_of b text e) ∙ plain
    by false e plain marked = marked

pub stays_as_read : (text : List ℕ) → StaysAsRead text
unfolding as_read
stays_as_read text = record {
  unmarked = unmarked_read 0 text;
  same = stays text;
  again = stays (as_read_after 0 text) (unmarked_read 0 text);
}
