-- A text that begins as an answer does.
use Rattle.std.proofs.Common.{◌≡◌, ℕ, Bool, true, false, not, ◌&&◌, List, [], ◌∷◌, length, take, nat_eq, ◌==◌, cond, refl, ap, sym, ◌∙◌, arith}
use Rattle.std.specs.List.{starts_with, list_all, onto_first}
use Rattle.std.specs.Cmp.Lexicographic.{pointwise}
use Rattle.text_bytes.specs.Names.{newline, colon, space}
use Rattle.text_bytes.specs.Lines.{lines}
use Rattle.device_core.specs.Lines.{begins_answer, letter_of}
use Rattle.device_core.specs.declared.lines.LineKind.TheVariants.{Answer}

abbrev pub first_line : List (List ℕ) → List ℕ
first_line [] = []
first_line (line ∷ below) = line

first_onto : (b : ℕ) (ls : List (List ℕ)) → first_line (onto_first b ls) ≡ b ∷ first_line ls
first_onto b [] = refl
first_onto b (line ∷ below) = refl

abbrev pub begins : List ℕ → List ℕ → Bool
begins needle text = pointwise nat_eq needle (take (length needle) text)

no_newline : (n b : ℕ) → (n == newline) ≡ false → (b == newline) ≡ true → nat_eq n b ≡ false
no_newline n b x y = grind arith

-- what has no newline begins a text exactly if it begins its first line
begins_line : (needle text : List ℕ) → list_all (λ n. not (n == newline)) needle ≡ true → begins needle text ≡ begins needle (first_line (lines text))
begins_line [] text h = refl
begins_line (n ∷ needle) [] h = refl
begins_line (n ∷ needle) (b ∷ text) h = by (b == newline) (n == newline) refl refl h (begins_line needle text)
  where
    by : (t u : Bool) → (b == newline) ≡ t → (n == newline) ≡ u → (not u && list_all (λ n. not (n == newline)) needle) ≡ true
        → (list_all (λ n. not (n == newline)) needle ≡ true → begins needle text ≡ begins needle (first_line (lines text)))
        → (nat_eq n b && begins needle text) ≡ begins (n ∷ needle) (first_line (cond t ([] ∷ lines text) (onto_first b (lines text))))
    by t true e f h more = cc
    by true false e f h more = ap (λ (x : Bool). x && begins needle text) (no_newline n b f e)
    by false false e f h more = ap (λ (x : Bool). nat_eq n b && x) (more h) ∙ sym (ap (begins (n ∷ needle)) (first_onto b (lines text)))

answer_line : (ls : List (List ℕ)) → begins_answer ls ≡ begins (letter_of Answer ∷ colon ∷ space ∷ []) (first_line ls)
unfolding begins_answer
answer_line [] = refl
answer_line (line ∷ below) = refl

-- a text begins as an answer does exactly if its first line does
pub begins_answer-of : (text : List ℕ) → begins_answer (lines text) ≡ starts_with nat_eq text (letter_of Answer ∷ colon ∷ space ∷ [])
begins_answer-of text = answer_line (lines text) ∙ sym (begins_line (letter_of Answer ∷ colon ∷ space ∷ []) text refl)

pub begins_answer_is : (text : List ℕ) → starts_with nat_eq text (letter_of Answer ∷ colon ∷ space ∷ []) ≡ begins_answer (lines text)
begins_answer_is text = sym (begins_answer-of text)
