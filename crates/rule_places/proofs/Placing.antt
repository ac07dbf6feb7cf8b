-- The bytes of the kept lines are at the places that are reported for them.
use Rattle.std.proofs.Common.{◌≡◌, ℕ, suc, ◌+◌, ◌-◌, ◌<◌, ◌≤◌, ◌^◌, ◌==◌, ◌⊎◌, min, inl, inr, Bool, true, false, cond, List, [], ◌∷◌, ◌++◌, length, take, drop, Option, refl, ap, sym, ◌∙◌, subst, take-take, length-drop, length-take, le_refl, arith}
use Rattle.std.specs.List.{AllByRecursion, onto_first}
use Rattle.std.proofs.lemmas.Bool.{cases_lt}
use Rattle.text_bytes.specs.Lines.{NumberedLine, lines, numbered_from, numbered_lines}
use Rattle.text_bytes.specs.Numbers.{capped}
use Rattle.text_bytes.specs.Names.{newline}
use Rattle.rule_core.specs.Lines.{piece_of}
use Rattle.rule_places.specs.Kept.{kept_lines, place_at, place_in, within_line}
use Rattle.rule_places.specs.Laws.{IsFoundIn}
use Rattle.rule_places.specs.Shown.{IsAmong, Shows, kept_text}
use Rattle.rule_places.specs.declared.kept.KeptLine.{KeptLine}
use Rattle.rule_places.specs.declared.kept.Place.{Place}
use Rattle.rule_places.proofs.Showing.{all_shown}

-- at most so many texts, each at most that long
abbrev Fits : ℕ → List (List ℕ) → Type 0
Fits m ts = (length ts ≤ m) × AllByRecursion (λ t. length t ≤ m) ts

no_longer : (m n : ℕ) (ts : List (List ℕ)) → m ≤ n → AllByRecursion (λ t. length t ≤ m) ts → AllByRecursion (λ t. length t ≤ n) ts
no_longer m n [] h a = tt
no_longer m n (t ∷ ts) h a = (omega (arith, h, a.0), no_longer m n ts h a.1)

onto_fits : (m b : ℕ) (ts : List (List ℕ)) → Fits m ts → Fits (suc m) (onto_first b ts)
onto_fits m b [] f = (omega arith, (omega arith, tt))
onto_fits m b (t ∷ ts) f = (omega (arith, f.0), (omega (arith, f.1.0), no_longer m (suc m) ts (omega arith) f.1.1))

-- a file has no more lines than bytes, and none is longer
lines_fit : (text : List ℕ) → Fits (length text) (lines text)
lines_fit [] = (omega arith, tt)
lines_fit (b ∷ text) = by (b == newline) (lines_fit text)
  where
    by : (c : Bool) → Fits (length text) (lines text) → Fits (suc (length text)) (cond c ([] ∷ lines text) (onto_first b (lines text)))
    by true f = (omega (arith, f.0), (omega arith, no_longer (length text) (suc (length text)) (lines text) (omega arith) f.1))
    by false f = onto_fits (length text) b (lines text) f

among_bounds : (m n : ℕ) (l : NumberedLine) (ts : List (List ℕ)) → AllByRecursion (λ t. length t ≤ m) ts → IsAmong l (numbered_from n ts) → (l.number < n + length ts) × (length l.text ≤ m)
among_bounds m n l [] a i = absurd i
among_bounds m n l (t ∷ ts) a (inl e) = let number = ap (λ (x : NumberedLine). x.number) e in let text = ap (λ (x : NumberedLine). length x.text) e in (omega (arith, number), omega (arith, text, a.0))
among_bounds m n l (t ∷ ts) a (inr i) = let more = among_bounds m (n + 1) l ts a.1 i in (omega (arith, more.0), more.1)

-- the number of a line, and how long it is
pub line_bounds : (bytes : List ℕ) (l : NumberedLine) → IsAmong l (numbered_lines bytes) → (l.number ≤ length bytes) × (length l.text ≤ length bytes)
line_bounds bytes l i =
    let f = lines_fit bytes in
    let b = among_bounds (length bytes) 1 l (lines bytes) f.1 i in
    (omega (arith, f.0, b.0), b.1)

-- a line is one of those that it is among
pub among_others : (before : List NumberedLine) (line : NumberedLine) (following : List NumberedLine) → IsAmong line (before ++ line ∷ following)
among_others [] line following = inl refl
among_others (l ∷ before) line following = inr (among_others before line following)

-- what a line gives to a joined line is no longer than the line
piece_within : (l : NumberedLine) → length (piece_of l).text ≤ length l.text
piece_within l = by (piece_of l).continues
  where
    by : (c : Bool) → length (cond c (take (length l.text - 1) l.text) l.text) ≤ length l.text
    by true = let e = length-take (length l.text - 1) l.text in omega (arith, e)
    by false = le_refl (length l.text)

-- numbers under the greatest that is reported
pub capped_is : (n m : ℕ) → n ≤ m → m < 2 ^ 32 - 1 → capped n ≡ n
capped_is n m h f = omega (arith, h, f)

pub capped_end : (n m : ℕ) → n ≤ m + 1 → m < 2 ^ 32 - 1 → capped n ≡ n
capped_end n m h f = omega (arith, h, f)

-- the bytes that a line shows of a byte and those after it
shown_bytes : (n rest size : ℕ) (xs ys : List ℕ) → n ≡ min size rest → take rest xs ≡ take rest ys → take n xs ≡ take n (take size ys)
shown_bytes n rest size xs ys e h =
    sym (take-take n rest xs (omega (arith, e)))
    ∙ ap (take n) h
    ∙ take-take n rest ys (omega (arith, e))
    ∙ sym (take-take n size ys (omega (arith, e)))

-- as many bytes as are asked for, or all up to the line's end
shown_whole : (n rest size : ℕ) (ys : List ℕ) → n ≡ min size rest → rest ≤ length ys → (n ≡ length (take size ys)) ⊎ (n ≡ rest)
shown_whole n rest size ys e h = elim (cases_lt rest size) [
  | inl far ↦ inr (omega (arith, far, e))
  | inr near ↦ let l = length-take size ys in inl (omega (arith, l, near, h, e))
]

-- what is left of a line after a byte of it
rest_within : (at start size column piece line : ℕ) → start ≤ at → at < start + size → 0 < column → column - 1 + size ≡ piece → piece ≤ line → size - (at - start) ≤ line - (column - 1 + (at - start))
rest_within at start size column piece line h g c e f = omega (arith, h, g, c, e, f)

end_within : (at start size column asked piece line bytes : ℕ) → start ≤ at → at < start + size → 0 < column → column - 1 + size ≡ piece → piece ≤ line → line ≤ bytes → column + (at - start) + min asked (size - (at - start)) ≤ bytes + 1
end_within at start size column asked piece line bytes h g c e f b = omega (arith, h, g, c, e, f, b)

-- as many bytes as are alike
enough : (n : ℕ) (xs ys : List ℕ) → take n xs ≡ take n ys → n ≤ length xs → n ≤ length ys
enough n xs ys e h = let x = length-take n xs in let y = length-take n ys in let same = ap (λ (zs : List ℕ). length zs) e in omega (arith, x, y, same, h)

-- a place by its numbers
in_place_by : (bytes text : List ℕ) (p : Place) (l : NumberedLine) (column n : ℕ) → IsAmong l (numbered_lines bytes) → p.line ≡ l.number → p.column ≡ column → p.end ≡ column + n → 0 < column → 0 < n
    → take n (drop (column - 1) l.text) ≡ take n text → (n ≡ length text) ⊎ (column - 1 + n ≡ length (piece_of l).text) → IsFoundIn bytes text p
in_place_by bytes text p l column n among number c e counted some shown whole =
    let width : p.end - p.column ≡ n = omega (arith, c, e) in
    let first : p.column - 1 ≡ column - 1 = omega (arith, c) in
    record {
      line = l;
      among = among;
      number = number;
      counted = omega (arith, c, counted);
      some = omega (arith, c, e, some);
      shown = ap (λ (m : ℕ). take m (drop (p.column - 1) l.text)) width ∙ ap (λ (m : ℕ). take n (drop m l.text)) first ∙ shown ∙ ap (λ (m : ℕ). take m text) (sym width);
      whole = elim whole [
        | inl h ↦ inl (width ∙ h)
        | inr h ↦ inr (omega (arith, c, e, h, counted))
      ];
    }

-- a line's place is that of its bytes
line_placed : (bytes text : List ℕ) (start at size : ℕ) (s : Shows (kept_lines bytes) text (numbered_lines bytes) start at) → length bytes < 2 ^ 32 - 1 → 0 < size
    → IsFoundIn bytes (take size (drop (at - start) text)) (place_at s.place (at - s.place.start) (min size (s.place.size - (at - s.place.start))))
line_placed bytes text start at size s few some =
    let k = s.place in
    let past = at - k.start in
    let rest = k.size - past in
    let n = min size rest in
    let bounds = line_bounds bytes s.line s.among in
    let piece = piece_within s.line in
    let fits : k.column + past + n ≤ length bytes + 1 = end_within at k.start k.size k.column size (length (piece_of s.line).text) (length s.line.text) (length bytes) s.begins s.reaches s.counted s.ends piece bounds.1 in
    let before : k.column + past ≤ length bytes + 1 = omega (arith, fits) in
    let left : rest ≤ length (drop (k.column - 1 + past) s.line.text) = subst (λ (m : ℕ). rest ≤ m) (sym (length-drop (k.column - 1 + past) s.line.text)) (rest_within at k.start k.size k.column (length (piece_of s.line).text) (length s.line.text) s.begins s.reaches s.counted s.ends piece) in
    let first : k.column + past - 1 ≡ k.column - 1 + past = let h = s.counted in omega (arith, h) in
    in_place_by bytes (take size (drop (at - start) text)) (place_at k past n) s.line (k.column + past) n s.among
    (ap capped s.number ∙ capped_is s.line.number (length bytes) bounds.0 few)
    (capped_end (k.column + past) (length bytes) before few)
    (capped_end (k.column + past + n) (length bytes) fits few)
    (let h = s.counted in omega (arith, h))
    (let h = s.reaches in let g = s.begins in omega (arith, h, g, some))
    (ap (λ (m : ℕ). take n (drop m s.line.text)) first ∙ shown_bytes n rest size (drop (k.column - 1 + past) s.line.text) (drop (at - start) text) refl s.bytes)
    (elim (shown_whole n rest size (drop (at - start) text) refl (enough rest (drop (k.column - 1 + past) s.line.text) (drop (at - start) text) s.bytes left)) [
      | inl h ↦ inl h
      | inr h ↦ inr (let a = s.begins in let b = s.reaches in let c = s.counted in let d = s.ends in omega (arith, h, a, b, c, d))
    ])

pub all_placed : (bytes : List ℕ) (at size : ℕ) → length bytes < 2 ^ 32 - 1 → at < length (kept_text (numbered_lines bytes)) → 0 < size
    → IsFoundIn bytes (take size (drop at (kept_text (numbered_lines bytes)))) (place_in (kept_lines bytes) at size)
all_placed bytes at size few h some =
    let s = all_shown bytes at h in
    let text = kept_text (numbered_lines bytes) in
    let none : at - 0 ≡ at = omega arith in
    subst (λ (o : Option KeptLine). IsFoundIn bytes (take size (drop at text)) (within_line o at size)) (sym s.found)
    (subst (λ (n : ℕ). IsFoundIn bytes (take size (drop n text)) (place_at s.place (at - s.place.start) (min size (s.place.size - (at - s.place.start))))) none (line_placed bytes text 0 at size s few some))
