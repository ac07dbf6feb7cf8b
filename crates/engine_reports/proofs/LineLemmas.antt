-- The lines of a text that goes on: those that have ended, and the rest.
use Rattle.std.proofs.Common.{◌≡◌, ℕ, ◌+◌, ◌<◌, ◌≤◌, ◌==◌, Bool, true, false, cond, List, [], ◌∷◌, ◌++◌, length, take, drop, refl, ap, sym, ◌∙◌, append_assoc, length-append, arith, take_at, drop_at}
use Rattle.std.specs.List.{onto_first}
use Rattle.std.proofs.lemmas.List.{append-nil}
use Rattle.std.proofs.lemmas.List.Sums.{sum_by-append, sum_by-cons, count_by-le-length}
use Rattle.text_bytes.specs.Names.{newline}
use Rattle.text_bytes.specs.Lines.{lines}
use Rattle.text_bytes.specs.Text.{Text}
use Rattle.device_core.specs.RunBlocks.{newline_count}
use Rattle.engine_sessions.specs.Turns.{joined}
use Rattle.engine_reports.specs.Runs.{ended_lines, unended}
use Rattle.engine_reports.specs.Taking.{Cut}

pub count-append : (a b : Text) → newline_count (a ++ b) ≡ newline_count a + newline_count b
count-append a b = sum_by-append (λ byte. cond (byte == newline) 1 0) a b

pub count-le : (a : Text) → newline_count a ≤ length a
count-le a = count_by-le-length (λ byte. byte == newline) a

count-cons : (byte : ℕ) (a : Text) → newline_count (byte ∷ a) ≡ cond (byte == newline) 1 0 + newline_count a
count-cons byte a = sum_by-cons (λ other. cond (other == newline) 1 0) byte a

count-one : (byte : ℕ) → (byte == newline) ≡ false → newline_count (byte ∷ []) ≡ 0
count-one byte e = count-cons byte [] ∙ ap (λ v. cond v 1 0 + newline_count []) e

-- a text without a newline, byte by byte
none-cons : (byte : ℕ) (a : Text) → newline_count (byte ∷ a) ≡ 0 → ((byte == newline) ≡ false) × (newline_count a ≡ 0)
none-cons byte a h = by_test (byte == newline) refl
  where
    both : cond (byte == newline) 1 0 + newline_count a ≡ 0
    both = sym (count-cons byte a) ∙ h

    by_test : (v : Bool) → (byte == newline) ≡ v → ((byte == newline) ≡ false) × (newline_count a ≡ 0)
    by_test true e = let one : 1 + newline_count a ≡ 0 = ap (λ v. cond v 1 0 + newline_count a) (sym e) ∙ both in absurd (omega (arith, one))
    by_test false e = let none : 0 + newline_count a ≡ 0 = ap (λ v. cond v 1 0 + newline_count a) (sym e) ∙ both in (e, omega (arith, none))

-- a byte that ends no line is in the first line
pub onto : (byte : ℕ) (text : Text) → (byte == newline) ≡ false → lines (byte ∷ text) ≡ onto_first byte (lines text)
onto byte text e = ap (λ v. cond v ([] ∷ lines text) (onto_first byte (lines text))) e

-- a line that a newline ends is the first
pub first_ended : (a b : Text) → newline_count a ≡ 0 → lines (a ++ newline ∷ b) ≡ a ∷ lines b
first_ended [] b h = refl
first_ended (byte ∷ a) b h =
    let n = none-cons byte a h in
    onto byte (a ++ newline ∷ b) n.0 ∙ ap (onto_first byte) (first_ended a b n.1)

-- a line that none ends is the last
pub last_line : (a : Text) → newline_count a ≡ 0 → 0 < length a → lines a ≡ a ∷ []
last_line [] h l = absurd (omega (arith, l))
last_line (byte ∷ []) h l = onto byte [] (none-cons byte [] h).0
last_line (byte ∷ next ∷ a) h l =
    let n = none-cons byte (next ∷ a) h in
    onto byte (next ∷ a) n.0 ∙ ap (onto_first byte) (last_line (next ∷ a) n.1 (omega arith))

pub onto_some : (byte : ℕ) (ls : List Text) → (more : Text) × (others : List Text) × (onto_first byte ls ≡ (byte ∷ more) ∷ others)
onto_some byte [] = ([], [], refl)
onto_some byte (l ∷ ls) = (l, ls, refl)

-- what goes on after a text without a newline has a first line that begins with it
pub first_longer : (a b : Text) → newline_count a ≡ 0 → 0 < length a → (more : Text) × (others : List Text) × (lines (a ++ b) ≡ (a ++ more) ∷ others)
first_longer [] b h l = absurd (omega (arith, l))
first_longer (byte ∷ []) b h l =
    let some = onto_some byte (lines b) in
    (some.0, some.1, onto byte b (none-cons byte [] h).0 ∙ some.2)
first_longer (byte ∷ next ∷ a) b h l =
    let n = none-cons byte (next ∷ a) h in
    let r = first_longer (next ∷ a) b n.1 (omega arith) in
    (r.0, r.1, onto byte ((next ∷ a) ++ b) n.0 ∙ ap (onto_first byte) r.2)

-- the lines of a text whose rest has no newline, joined
rest_joined : (rest : Text) → newline_count rest ≡ 0 → joined (lines rest) ≡ rest
rest_joined [] h = refl
rest_joined (byte ∷ rest) h = ap joined (last_line (byte ∷ rest) h (omega arith)) ∙ append-nil (byte ∷ rest)

pub cut-none : (text : Text) → newline_count text ≡ 0 → Cut text [] text
cut-none text h = record { lines_are = λ later. refl; count = h; none = h }

pub cut-line : (rest : Text) → newline_count rest ≡ 0 → Cut (rest ++ newline ∷ []) (rest ∷ []) []
cut-line rest h = record {
  lines_are = λ later. ap lines (append_assoc rest (newline ∷ []) later) ∙ first_ended rest later h;
  count = let one : newline_count (newline ∷ []) ≡ 1 = refl in omega (arith, count-append rest (newline ∷ []), h, one);
  none = refl;
}

pub none-push : (rest : Text) (byte : ℕ) → newline_count rest ≡ 0 → (byte == newline) ≡ false → newline_count (rest ++ byte ∷ []) ≡ 0
none-push rest byte h e = omega (arith, count-append rest (byte ∷ []), h, count-one byte e)

pub cut-byte : (rest : Text) (byte : ℕ) → newline_count rest ≡ 0 → (byte == newline) ≡ false → Cut (rest ++ byte ∷ []) [] (rest ++ byte ∷ [])
cut-byte rest byte h e = cut-none (rest ++ byte ∷ []) (none-push rest byte h e)

-- the text goes on after its rest
pub cut-after : (text more : Text) (first second : List Text) (middle rest : Text) → Cut text first middle → Cut (middle ++ more) second rest → Cut (text ++ more) (first ++ second) rest
cut-after text more first second middle rest c d = record {
  lines_are = λ later.
      ap lines (append_assoc text more later) ∙ c.lines_are (more ++ later)
      ∙ ap (λ ls. first ++ ls) (ap lines (sym (append_assoc middle more later)) ∙ d.lines_are later)
      ∙ sym (append_assoc first second (lines (rest ++ later)));
  count = omega (arith, count-append text more, count-append middle more, c.count, c.none, d.count, length-append first second);
  none = d.none;
}

-- the lines of a text that was cut
pub cut_lines : (text : Text) (ended : List Text) (rest : Text) → Cut text ended rest → lines text ≡ ended ++ lines rest
cut_lines text ended rest c = ap lines (sym (append-nil text)) ∙ c.lines_are [] ∙ ap (λ t. ended ++ lines t) (append-nil rest)

pub ended_are : (text : Text) (ended : List Text) (rest : Text) → Cut text ended rest → ended_lines text ≡ ended
ended_are text ended rest c =
    ap (λ n. take n (lines text)) c.count ∙ ap (take (length ended)) (cut_lines text ended rest c) ∙ take_at ended (lines rest) (length ended) refl

pub unended_is : (text : Text) (ended : List Text) (rest : Text) → Cut text ended rest → unended text ≡ rest
unended_is text ended rest c =
    ap (λ n. joined (drop n (lines text))) c.count ∙ ap (λ ls. joined (drop (length ended) ls)) (cut_lines text ended rest c)
    ∙ ap joined (drop_at ended (lines rest) (length ended) refl) ∙ rest_joined rest c.none
