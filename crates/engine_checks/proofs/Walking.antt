-- Line by line, the starts that are not after a line are passed.
use Rattle.std.proofs.Common.{◌≡◌, ℕ, suc, ◌+◌, ◌≤◌, Bool, true, false, cond, List, [], ◌∷◌, ◌++◌, drop, Option, Some, refl, ap, sym, ◌∙◌, append_assoc, append-nil, subst, arith, nat_le}
use Rattle.std.specs.List.{prefix_len, slice_get}
use Rattle.std.proofs.lemmas.Bool.{lt-ltb, le-ltb, leb-true, leb-false}
use Rattle.text_bytes.specs.Lines.{NumberedLine, lines, numbered_from, numbered_lines}
use Rattle.text_bytes.specs.Numbers.{capped}
use Rattle.text_bytes.specs.Texts.{skip_while}
use Rattle.text_bytes.specs.declared.source_file.FileKind.{FileKind}
use Rattle.engine_checks.specs.Ignores.{Ignore, ignores_among, ignores_of_line, next_after}

-- the starts that are left after a line
abbrev pub left_after : List ℕ → ℕ → List ℕ
left_after starts line = skip_while (λ s. nat_le s line) starts

left-cons : (line s : ℕ) (starts : List ℕ) → left_after (s ∷ starts) line ≡ cond (nat_le s line) (left_after starts line) (s ∷ starts)
left-cons line s starts =
    let next : 1 + prefix_len (λ s. nat_le s line) starts ≡ suc (prefix_len (λ s. nat_le s line) starts) = omega arith in
    elim (nat_le s line) as (λ v. drop (cond v (1 + prefix_len (λ s. nat_le s line) starts) 0) (s ∷ starts) ≡ cond v (left_after starts line) (s ∷ starts)) [
      | true ↦ ap (λ (n : ℕ). drop n (s ∷ starts)) next
      | false ↦ refl
    ]

-- the first of them is the next one
pub first_left : (starts : List ℕ) (line : ℕ) → slice_get (left_after starts line) 0 ≡ next_after starts line
first_left [] line = refl
first_left (s ∷ starts) line = ap (λ ss. slice_get ss 0) (left-cons line s starts) ∙ by (nat_le s line) refl (first_left starts line)
  where
    by : (b : Bool) → nat_le s line ≡ b → slice_get (left_after starts line) 0 ≡ next_after starts line → slice_get (cond b (left_after starts line) (s ∷ starts)) 0 ≡ next_after (s ∷ starts) line
    by true e more = more ∙ sym (ap (λ b. cond b (Some s) (next_after starts line)) (le-ltb line s (leb-true s line e)))
    by false e more = sym (ap (λ b. cond b (Some s) (next_after starts line)) (lt-ltb line s (leb-false s line e)))

-- after a later line the next one is the same
next_left : (starts : List ℕ) (line later : ℕ) → line ≤ later → next_after (left_after starts line) later ≡ next_after starts later
next_left [] line later h = refl
next_left (s ∷ starts) line later h = ap (λ ss. next_after ss later) (left-cons line s starts) ∙ by (nat_le s line) refl (next_left starts line later h)
  where
    by : (b : Bool) → nat_le s line ≡ b → next_after (left_after starts line) later ≡ next_after starts later → next_after (cond b (left_after starts line) (s ∷ starts)) later ≡ next_after (s ∷ starts) later
    by true e more =
        let within : s ≤ line = leb-true s line e in
        more ∙ sym (ap (λ b. cond b (Some s) (next_after starts later)) (le-ltb later s (omega arith)))
    by false e more = refl

-- numbers that don't fall, from this one on
abbrev pub RiseFrom : ℕ → List NumberedLine → Type 0
RiseFrom n [] = Unit {0}
RiseFrom n (l ∷ ls) = (n ≤ l.number) × RiseFrom l.number ls

rise_more : (n m : ℕ) (ts : List (List ℕ)) → m ≤ n → RiseFrom m (numbered_from n ts)
rise_more n m [] h = tt
rise_more n m (t ∷ ts) h = (h, rise_more (n + 1) n ts (omega arith))

pub lines_rise : (bytes : List ℕ) → RiseFrom 0 (numbered_lines bytes)
lines_rise bytes = rise_more 1 0 (lines bytes) (omega arith)

capped-le : (a b : ℕ) → a ≤ b → capped a ≤ capped b
capped-le a b h = omega arith

-- lines after this one have the same codes by the starts that are left
among_left : (kind : FileKind) (starts : List ℕ) (n m : ℕ) (ls : List NumberedLine) → n ≤ m → RiseFrom m ls → ignores_among kind (left_after starts (capped n)) ls ≡ ignores_among kind starts ls
among_left kind starts n m [] h r = refl
among_left kind starts n m (l ∷ ls) h r =
    let here : m ≤ l.number = r.0 in
    ap (λ next. ignores_of_line kind next l ++ ignores_among kind (left_after starts (capped n)) ls) (next_left starts (capped n) (capped l.number) (capped-le n l.number (omega arith)))
    ∙ ap (λ more. ignores_of_line kind (next_after starts (capped l.number)) l ++ more) (among_left kind starts n l.number ls (omega arith) r.1)

rise_less : (n : ℕ) (ls : List NumberedLine) → RiseFrom n ls → RiseFrom 0 ls
rise_less n [] r = tt
rise_less n (l ∷ ls) r = (omega arith, r.1)

-- what was found comes with the starts and the lines that are left to the codes of all lines
pub record Walks (kind : FileKind) (all held : List Ignore) (starts : List ℕ) (left : List NumberedLine) : Type 0 where
  pub reported : held ++ ignores_among kind starts left ≡ all
  pub rises : RiseFrom 0 left

-- no line yet
pub no_line : (kind : FileKind) (held : List Ignore) (starts : List ℕ) (bytes : List ℕ) (left : List NumberedLine) → held ≡ [] → left ≡ numbered_lines bytes
    → Walks kind (ignores_among kind starts (numbered_lines bytes)) held starts left
no_line kind held starts bytes left e f = record {
  reported = ap (λ hs. hs ++ ignores_among kind starts left) e ∙ ap (ignores_among kind starts) f;
  rises = subst (RiseFrom 0) (sym f) (lines_rise bytes);
}

-- a line more
pub line_more : (kind : FileKind) (all held more : List Ignore) (starts rest : List ℕ) (l : NumberedLine) (left ls : List NumberedLine) (next : Option ℕ)
    → Walks kind all held starts left → left ≡ l ∷ ls → rest ≡ left_after starts (capped l.number) → next ≡ slice_get rest 0 → more ≡ held ++ ignores_of_line kind next l
    → Walks kind all more rest ls
line_more kind all held more starts rest l left ls next w e r f g =
    let rises : RiseFrom 0 (l ∷ ls) = subst (RiseFrom 0) e w.rises in
    let first : next ≡ next_after starts (capped l.number) = f ∙ ap (λ ss. slice_get ss 0) r ∙ first_left starts (capped l.number) in
    record {
      reported =
          ap (λ hs. hs ++ ignores_among kind rest ls) g
          ∙ append_assoc held (ignores_of_line kind next l) (ignores_among kind rest ls)
          ∙ ap (λ n. held ++ (ignores_of_line kind n l ++ ignores_among kind rest ls)) first
          ∙ ap (λ ss. held ++ (ignores_of_line kind (next_after starts (capped l.number)) l ++ ignores_among kind ss ls)) r
          ∙ ap (λ is. held ++ (ignores_of_line kind (next_after starts (capped l.number)) l ++ is)) (among_left kind starts l.number l.number ls (omega arith) rises.1)
          ∙ ap (λ ms. held ++ ignores_among kind starts ms) (sym e)
          ∙ w.reported;
      rises = rise_less l.number ls rises.1;
    }

-- no line is left
pub lines_done : (kind : FileKind) (all held : List Ignore) (starts : List ℕ) (left : List NumberedLine) → Walks kind all held starts left → left ≡ [] → held ≡ all
lines_done kind all held starts left w e = sym (append-nil held) ∙ ap (λ ms. held ++ ignores_among kind starts ms) (sym e) ∙ w.reported
