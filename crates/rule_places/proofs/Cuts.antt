-- What is written of a line that is cut is what is written of it whole.
use Rattle.std.proofs.Common.{◌≡◌, ℕ, ◌+◌, ◌-◌, ◌<◌, ◌≤◌, Bool, true, false, cond, ◌&&◌, nat_lt, None, List, ◌∷◌, [], ◌++◌, length, take, drop, refl, sym, ◌∙◌, ap, append_assoc, append-nil, arith, ◌⊎◌, inl, inr}
use Rattle.std.specs.Prelude.{max, min, nat_le}
use Rattle.std.proofs.lemmas.List.{drop-drop, drop-take, take-append-drop, take-take}
use Rattle.rule_tokens.specs.Grammar.{LexesAt, Placed, answers, last, more}
use Rattle.rule_tokens.specs.Lines.{items_of}
use Rattle.rule_tokens.proofs.IsPresent.{rest_is_shorter}
use Rattle.rule_core.specs.Style.{between}
use Rattle.rule_places.specs.FormatLaws.{Rise}
use Rattle.rule_places.specs.Rewritten.{written_between, written_of}
use Rattle.rule_places.specs.Gaps.{is_good_gap}
use Rattle.rule_places.specs.Stretches.{stretches, stretches_from}
use Rattle.rule_places.specs.declared.stretches.Stretch.{Stretch}
use Rattle.rule_places.proofs.Respacing.{lexed, no_end, starts_there}

abbrev mark_if : Bool → List ℕ
mark_if v = cond v (44 ∷ 32 ∷ []) []

lt : (a b : ℕ) → a < b → nat_lt a b ≡ true
lt a b h = grind (arith, h)

not_lt : (a b : ℕ) → b ≤ a → nat_lt a b ≡ false
not_lt a b h = grind (arith, h)

le : (a b : ℕ) → a ≤ b → nat_le a b ≡ true
le a b h = grind (arith, h)

not_le : (a b : ℕ) → b < a → nat_le a b ≡ false
not_le a b h = grind (arith, h)

either_order : (a b : ℕ) → (a ≤ b) ⊎ (b < a)
either_order a b = by (nat_le a b) refl where
  by : (v : Bool) → nat_le a b ≡ v → (a ≤ b) ⊎ (b < a)
  by true e = inl (grind (arith, e))
  by false e = inr (grind (arith, e))

-- nothing is between a place and one that is not behind it
nothing : (text : List ℕ) (from to : ℕ) → to ≤ from → between from to text ≡ []
nothing text from to h = let none : to - from ≡ 0 = omega arith in ap (λ (k : ℕ). take k (drop from text)) none

-- the first bytes of a text and those after them
taken : (n m : ℕ) (text : List ℕ) → take n text ++ take m (drop n text) ≡ take (n + m) text
taken n m text =
    let within : n ≤ n + m = omega arith in
    ap (λ (x : List ℕ). x ++ take m (drop n text)) (sym (take-take n (n + m) text within))
    ∙ ap (λ (x : List ℕ). take n (take (n + m) text) ++ x) (sym (drop-take n m text))
    ∙ take-append-drop n (take (n + m) text)

-- the bytes up to a place and those after it
joined : (text : List ℕ) (from at to : ℕ) → from ≤ at → at ≤ to → between from at text ++ between at to text ≡ between from to text
joined text from at to h k =
    let here : from + (at - from) ≡ at = omega (arith, h) in
    let whole : (at - from) + (to - at) ≡ to - from = omega (arith, h, k) in
    ap (λ (n : ℕ). between from at text ++ take (to - at) (drop n text)) (sym here)
    ∙ ap (λ (x : List ℕ). between from at text ++ take (to - at) x) (sym (drop-drop (at - from) from text))
    ∙ taken (at - from) (to - at) (drop from text)
    ∙ ap (λ (n : ℕ). take n (drop from text)) whole

-- a stretch that ends before a cut is written before it
before_cut : (text : List ℕ) (a b c : ℕ) (s : Stretch) → s.end ≤ b → b ≤ c → written_of text a b s ≡ written_of text a c s
before_cut text a b c s h k =
    let first : min b s.end ≡ s.end = omega (arith, h) in
    let second : min c s.end ≡ s.end = omega (arith, h, k) in
    ap (λ (n : ℕ). between (max a s.start) n text ++ mark_if (s.comma && (nat_lt a s.end && nat_le s.end b))) (first ∙ sym second)
    ∙ ap (λ (v : Bool). between (max a s.start) (min c s.end) text ++ mark_if (s.comma && (nat_lt a s.end && v))) (le s.end b h ∙ sym (le s.end c (omega (arith, h, k))))

nothing_after : (text : List ℕ) (b c : ℕ) (s : Stretch) → s.end ≤ b → written_of text b c s ≡ []
nothing_after text b c s h =
    let low : min c s.end ≤ max b s.start = omega (arith, h) in
    ap (λ (x : List ℕ). x ++ mark_if (s.comma && (nat_lt b s.end && nat_le s.end c))) (nothing text (max b s.start) (min c s.end) low)
    ∙ ap (λ (v : Bool). mark_if (s.comma && (v && nat_le s.end c))) (not_lt b s.end h) ∙ none s.comma
  where
    none : (v : Bool) → mark_if (v && false) ≡ []
    none true = refl
    none false = refl

-- a stretch that begins after a cut is written after it
nothing_before : (text : List ℕ) (a b : ℕ) (s : Stretch) → b < s.start → s.start ≤ s.end → written_of text a b s ≡ []
nothing_before text a b s h k =
    let low : min b s.end ≤ max a s.start = omega (arith, h) in
    ap (λ (x : List ℕ). x ++ mark_if (s.comma && (nat_lt a s.end && nat_le s.end b))) (nothing text (max a s.start) (min b s.end) low)
    ∙ ap (λ (v : Bool). mark_if (s.comma && (nat_lt a s.end && v))) (not_le s.end b (omega (arith, h, k))) ∙ none s.comma (nat_lt a s.end)
  where
    none : (v w : Bool) → mark_if (v && (w && false)) ≡ []
    none true true = refl
    none true false = refl
    none false w = refl

after_cut : (text : List ℕ) (a b c : ℕ) (s : Stretch) → a ≤ b → b < s.start → s.start ≤ s.end → written_of text b c s ≡ written_of text a c s
after_cut text a b c s h k l =
    let first : max b s.start ≡ s.start = omega (arith, k) in
    let second : max a s.start ≡ s.start = omega (arith, h, k) in
    ap (λ (n : ℕ). between n (min c s.end) text ++ mark_if (s.comma && (nat_lt b s.end && nat_le s.end c))) (first ∙ sym second)
    ∙ ap (λ (v : Bool). between (max a s.start) (min c s.end) text ++ mark_if (s.comma && (v && nat_le s.end c))) (lt b s.end (omega (arith, k, l)) ∙ sym (lt a s.end (omega (arith, h, k, l))))

no_mark : (v w : Bool) → mark_if (v && (w && false)) ≡ []
no_mark true true = refl
no_mark true false = refl
no_mark false w = refl

-- a stretch that ends after a cut is written on both sides of it
over_cut : (text : List ℕ) (a b c : ℕ) (s : Stretch) → a ≤ b → b ≤ c → b < s.end → s.start ≤ s.end → written_of text a b s ++ written_of text b c s ≡ written_of text a c s
over_cut text a b c s h k l m = by (either_order s.start b) where
  by : (s.start ≤ b) ⊎ (b < s.start) → written_of text a b s ++ written_of text b c s ≡ written_of text a c s
  by (inr n) = ap (λ (x : List ℕ). x ++ written_of text b c s) (nothing_before text a b s n m) ∙ after_cut text a b c s h n m
  by (inl n) =
      let x : ℕ = max a s.start in
      let y : ℕ = min c s.end in
      let marks : List ℕ = mark_if (s.comma && (nat_lt b s.end && nat_le s.end c)) in
      let to : min b s.end ≡ b = omega (arith, l) in
      let from : max b s.start ≡ b = omega (arith, n) in
      let low : x ≤ b = omega (arith, h, n) in
      let high : b ≤ y = omega (arith, k, l) in
      let front : written_of text a b s ≡ between x b text =
      ap (λ (j : ℕ). between x j text ++ mark_if (s.comma && (nat_lt a s.end && nat_le s.end b))) to
      ∙ ap (λ (v : Bool). between x b text ++ mark_if (s.comma && (nat_lt a s.end && v))) (not_le s.end b l)
      ∙ ap (λ (z : List ℕ). between x b text ++ z) (no_mark s.comma (nat_lt a s.end)) ∙ append-nil (between x b text)
      in
      let back : written_of text b c s ≡ between b y text ++ marks = ap (λ (j : ℕ). between j y text ++ marks) from in
      let same : marks ≡ mark_if (s.comma && (nat_lt a s.end && nat_le s.end c)) =
      ap (λ (v : Bool). mark_if (s.comma && (v && nat_le s.end c))) (lt b s.end l ∙ sym (lt a s.end (omega (arith, h, l))))
      in
      ap (λ (z : List ℕ). z ++ written_of text b c s) front ∙ ap (λ (z : List ℕ). between x b text ++ z) back
      ∙ sym (append_assoc (between x b text) (between b y text) marks) ∙ ap (λ (z : List ℕ). z ++ marks) (joined text x b y low high)
      ∙ ap (λ (z : List ℕ). between x y text ++ z) same

all_after : (text : List ℕ) (a b c from : ℕ) (ss : List Stretch) → a ≤ b → b < from → Rise from ss
    → (written_between text ss a b ≡ []) × (written_between text ss b c ≡ written_between text ss a c)
all_after text a b c from [] h k r = (refl, refl)
all_after text a b c from (s ∷ ss) h k r =
    let start : b < s.start = omega (arith, k, r.0) in
    let later = all_after text a b c s.end ss h (omega (arith, start, r.1)) r.2 in (
      ap (λ (x : List ℕ). x ++ written_between text ss a b) (nothing_before text a b s start r.1) ∙ later.0,
      ap (λ (x : List ℕ). x ++ written_between text ss b c) (after_cut text a b c s h start r.1) ∙ ap (λ (x : List ℕ). written_of text a c s ++ x) later.1,
    )

pub cut : (text : List ℕ) (from a b c : ℕ) (ss : List Stretch) → a ≤ b → b ≤ c → Rise from ss → written_between text ss a b ++ written_between text ss b c ≡ written_between text ss a c
cut text from a b c [] h k r = refl
cut text from a b c (s ∷ ss) h k r = by (cut text s.end a b c ss h k r.2) (either_order s.end b) where
  more : List ℕ
  more = written_between text ss b c

  by : written_between text ss a b ++ written_between text ss b c ≡ written_between text ss a c → (s.end ≤ b) ⊎ (b < s.end)
      → (written_of text a b s ++ written_between text ss a b) ++ (written_of text b c s ++ written_between text ss b c) ≡ written_of text a c s ++ written_between text ss a c
  by others (inl e) =
      ap (λ (x : List ℕ). (written_of text a b s ++ written_between text ss a b) ++ (x ++ more)) (nothing_after text b c s e)
      ∙ append_assoc (written_of text a b s) (written_between text ss a b) more
      ∙ ap (λ (x : List ℕ). written_of text a b s ++ x) others ∙ ap (λ (x : List ℕ). x ++ written_between text ss a c) (before_cut text a b c s e k)
  by others (inr e) =
      let later = all_after text a b c s.end ss h e r.2 in
      ap (λ (x : List ℕ). (written_of text a b s ++ x) ++ (written_of text b c s ++ more)) later.0
      ∙ ap (λ (x : List ℕ). x ++ (written_of text b c s ++ more)) (append-nil (written_of text a b s))
      ∙ sym (append_assoc (written_of text a b s) (written_of text b c s) more)
      ∙ ap (λ (x : List ℕ). x ++ more) (over_cut text a b c s h k e r.1) ∙ ap (λ (x : List ℕ). written_of text a c s ++ x) later.1

-- the stretches of tokens rise
rising : (line : List ℕ) (from at : ℕ) (text : List ℕ) (t : Placed) (tokens : List Placed) → from ≤ at → LexesAt at text (t ∷ tokens) None → Rise from (stretches_from line t.span tokens)
rising line from at text t [] h (last rest gap here ends) =
    let less = rest_is_shorter text t.parts rest here.is_present in
    let start = here.start in
    let end = here.end in
    (omega (arith, h, start), omega (arith, start, end, less), tt)
rising line from at text t [] h (more rest gap next here ends some following) = absurd (no_end (t.span.end + length gap) next following)
rising line from at text t (u ∷ tokens) h (more rest gap next here ends some following) =
    let less = rest_is_shorter text t.parts rest here.is_present in
    let start = here.start in
    let end = here.end in
    let begins : u.span.start ≡ t.span.end + length gap = starts_there (t.span.end + length gap) next u tokens None following in
    by (is_good_gap (between t.span.end u.span.start line)) (omega (arith, h, start)) (omega (arith, start, end, less)) (omega (arith, start, end, less, begins))
    (rising line t.span.end (t.span.end + length gap) next u tokens (omega arith) following)
    (rising line u.span.start (t.span.end + length gap) next u tokens (omega (arith, begins)) following)
  where
    by : (v : Bool) → from ≤ t.span.start → t.span.start ≤ t.span.end → t.span.start ≤ u.span.start → Rise t.span.end (stretches_from line u.span tokens) → Rise u.span.start (stretches_from line u.span tokens)
        → Rise from (cond v (record { start = t.span.start; end = u.span.start; comma = false }) (record { start = t.span.start; end = t.span.end; comma = true }) ∷ stretches_from line u.span tokens)
    by true a b c d e = (a, c, e)
    by false a b c d e = (a, b, d)

pub line_cut : (line : List ℕ) (t : Placed) (tokens : List Placed) (a b c : ℕ) → items_of line ≡ answers (t ∷ tokens) None → a ≤ b → b ≤ c
    → written_between line (stretches line (t ∷ tokens)) a b ++ written_between line (stretches line (t ∷ tokens)) b c ≡ written_between line (stretches line (t ∷ tokens)) a c
line_cut line t tokens a b c e h k = cut line 0 a b c (stretches line (t ∷ tokens)) h k (rising line 0 0 line t tokens (omega arith) (lexed line t tokens e))
