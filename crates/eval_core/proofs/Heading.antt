-- A pattern that begins with a byte fits only a text that does.
use Rattle.std.proofs.Common.{◌≡◌, ℕ, Bool, true, false, ◌||◌, ◌&&◌, List, [], ◌∷◌, Some, refl, ap, sym, ◌∙◌, true≢false}
use Rattle.std.proofs.lemmas.Bool.{eqb-true}
use Rattle.std.proofs.lemmas.Option.{same_Some}
use Rattle.text_bytes.specs.Text.{Text}
use Rattle.text_core.specs.Choices.{choice_fits}
use Rattle.text_core.specs.Fits.{fits}
use Rattle.text_core.specs.declared.item.Item.{Item}
use Rattle.text_core.specs.declared.item.Item.TheVariants as item
use Rattle.eval_core.specs.Sketches.{byte_item, exact_head, first_byte, head_in, head_of, only_part}

-- a choice is one pattern, which begins with this byte
pub record IsHeaded (choice : List (List Item)) (found : ℕ) : Type 0 where
  pub items : List Item
  pub choice_is : choice ≡ items ∷ []
  pub head : head_of items ≡ Some found

pub headed : (choice : List (List Item)) (found : ℕ) → exact_head choice ≡ Some found → IsHeaded choice found
headed choice found h = by choice refl h
  where
    by : (parts : List (List Item)) → choice ≡ parts → head_in (only_part parts) ≡ Some found → IsHeaded choice found
    by [] c h = cc h
    by (items ∷ []) c h = record { items = items; choice_is = c; head = h }
    by (items ∷ other ∷ parts) c h = cc h

first : (a b : Bool) → (a && b) ≡ true → a ≡ true
first true b h = refl
first false b h = h

begins : (items : List Item) (text : Text) (found : ℕ) → head_of items ≡ Some found → fits items text ≡ true → first_byte text ≡ found
begins [] text found h f = cc h
begins (x ∷ xs) text found h f = by x text h f
  where
    by : (y : Item) (t : Text) → byte_item y ≡ Some found → fits (y ∷ xs) t ≡ true → first_byte t ≡ found
    by (item.Byte c) [] h f = absurd (true≢false (sym f))
    by (item.Byte c) (b ∷ t) h f = sym (eqb-true c b (first _ _ f)) ∙ same_Some c found h
    by item.One t h f = cc h
    by item.Many t h f = cc h
    by (item.Among set) t h f = cc h

or_nothing : (b : Bool) → (b || false) ≡ true → b ≡ true
or_nothing true h = refl
or_nothing false h = h

pub fits_same_head : (choice : List (List Item)) (found : ℕ) (text : Text) → exact_head choice ≡ Some found → choice_fits choice text ≡ true → first_byte text ≡ found
fits_same_head choice found text e f =
    let one : IsHeaded choice found = headed choice found e in
    begins one.items text found one.head (or_nothing (fits one.items text) (ap (λ c. choice_fits c text) (sym one.choice_is) ∙ f))
