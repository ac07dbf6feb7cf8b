-- The elements of a bracket expression, read so far and to come.
use Rattle.std.proofs.Common.{◌≡◌, ℕ, zero, suc, Bool, true, false, ◌&&◌, not, cond, List, ◌∷◌, [], ◌++◌, length, drop, Option, Some, None, refl, sym, ◌∙◌, ap, arith, append_assoc, append-nil}
use Rattle.std.specs.Option.{is_some}
use Rattle.text_core.specs.Brackets.{Closed, elements_at, with_element, with_found}
use Rattle.text_core.specs.Elements.{element_of}
use Rattle.text_core.specs.Spell.{closes}
use Rattle.text_core.specs.declared.elements.Element.{Element}
use Rattle.text_core.specs.declared.elements.Found.{Found}
use Rattle.text_core.specs.declared.reading.Reading.{Reading}

-- elements, and after them those that are closed
abbrev pub with_elements : List Element → Option Closed → Option Closed
with_elements xs None = None
with_elements xs (Some closed) = Some (record { elements = xs ++ closed.elements; left = closed.left })

pub with_elements-none : (r : Option Closed) → with_elements [] r ≡ r
with_elements-none None = refl
with_elements-none (Some closed) = refl

with_elements-push : (xs : List Element) (x : Element) (r : Option Closed) → with_elements (xs ++ x ∷ []) r ≡ with_elements xs (with_element x r)
with_elements-push xs x None = refl
with_elements-push xs x (Some closed) = ap (λ (es : List Element). let c : Closed = record { elements = es; left = closed.left } in Some c) (append_assoc xs (x ∷ []) closed.elements)

-- bytes that are skipped are dropped
elements-drop : (reading : Reading) (first : Bool) (t : List ℕ) (n : ℕ) → elements_at reading first t n ≡ elements_at reading first (drop n t) zero
elements-drop reading first t zero = refl
elements-drop reading first [] (suc n) = refl
elements-drop reading first (b ∷ t) (suc n) = elements-drop reading first t n

-- elements that a `]` closes before a text
abbrev pub closed_before : List Element → List ℕ → Closed
closed_before xs t = record { elements = xs; left = length t }

module _ (reading : Reading) (first : Bool) (xs : List Element) (b : ℕ) (t rest : List ℕ) (e : rest ≡ b ∷ t) where
  by_test : (v : Bool) → (closes b && not first) ≡ v
      → elements_at reading first rest 0 ≡ cond v (Some (closed_before [] t)) (with_found (element_of reading b t) (λ n. elements_at reading false t n))
  by_test v test =
      ap (λ (r : List ℕ). elements_at reading first r 0) e
      ∙ ap (λ (w : Bool). cond w (Some (closed_before [] t)) (with_found (element_of reading b t) (λ n. elements_at reading false t n))) test

  -- the elements are closed
  pub elements_close : (closes b && not first) ≡ true → with_elements xs (elements_at reading first rest 0) ≡ Some (closed_before xs t)
  elements_close test = ap (with_elements xs) (by_test true test) ∙ ap (λ (es : List Element). Some (closed_before es t)) (append-nil xs)

  -- the text ends within an element
  pub elements_open : (closes b && not first) ≡ false → element_of reading b t ≡ None → with_elements xs (elements_at reading first rest 0) ≡ None
  elements_open test read =
      ap (with_elements xs) (by_test false test ∙ ap (λ (o : Option Found). with_found o (λ n. elements_at reading false t n)) read)

  -- one element more has been read
  pub elements_more : (found : Found) (more : List ℕ) → (closes b && not first) ≡ false → element_of reading b t ≡ Some found → more ≡ drop found.following t
      → with_elements (xs ++ found.element ∷ []) (elements_at reading false more 0) ≡ with_elements xs (elements_at reading first rest 0)
  elements_more found more test read back =
      with_elements-push xs found.element (elements_at reading false more 0)
      ∙ ap (with_elements xs) (
      ap (λ (m : List ℕ). with_element found.element (elements_at reading false m 0)) back
      ∙ ap (with_element found.element) (sym (elements-drop reading false t found.following))
      ∙ sym (by_test false test ∙ ap (λ (o : Option Found). with_found o (λ n. elements_at reading false t n)) read))

-- nothing is left, and nothing closed them
pub elements_end : (reading : Reading) (first : Bool) (xs : List Element) (rest : List ℕ) → length rest ≡ 0 → with_elements xs (elements_at reading first rest 0) ≡ None
elements_end reading first xs [] h = refl
elements_end reading first xs (b ∷ t) h = absurd (omega arith)

is_some-with_element : (x : Element) (r : Option Closed) → is_some (with_element x r) ≡ is_some r
is_some-with_element x None = refl
is_some-with_element x (Some closed) = refl

-- whether elements that go on at a text are closed
abbrev pub are_closed : Reading → List ℕ → Bool
are_closed reading t = is_some (elements_at reading false t 0)

-- elements are closed exactly if those after the first of them are
pub closed_after : (reading : Reading) (b : ℕ) (t : List ℕ) (found : Found) → element_of reading b t ≡ Some found
    → are_closed reading (drop found.following t) ≡ is_some (with_found (element_of reading b t) (λ n. elements_at reading false t n))
closed_after reading b t found read =
    ap is_some (sym (elements-drop reading false t found.following))
    ∙ sym (is_some-with_element found.element (elements_at reading false t found.following))
    ∙ ap (λ (o : Option Found). is_some (with_found o (λ n. elements_at reading false t n))) (sym read)
