-- A pattern that is a text fits only a text with its sketch.
use Rattle.std.proofs.Common.{◌≡◌, ℕ, Bool, true, false, cond, ◌||◌, ◌&&◌, List, [], ◌∷◌, fold, Some, None, refl, ap, sym, ◌∙◌, true≢false}
use Rattle.std.specs.List.{list_all}
use Rattle.std.proofs.lemmas.Option.{same_Some}
use Rattle.std.proofs.lemmas.Bool.{eqb-true}
use Rattle.text_bytes.specs.Text.{Text}
use Rattle.text_core.specs.Choices.{choice_fits}
use Rattle.text_core.specs.Fits.{fits}
use Rattle.text_core.specs.declared.item.Item.{Item}
use Rattle.text_core.specs.declared.item.Item.TheVariants as item
use Rattle.eval_core.specs.Sketches.{byte_of, exact_sketch, is_word_item, items_sketch, mixed, only_part, sketch, word_sketch}

-- a choice is one text, which has this sketch
pub record IsExact (choice : List (List Item)) (found : ℕ) : Type 0 where
  pub items : List Item
  pub choice_is : choice ≡ items ∷ []
  pub words : list_all is_word_item items ≡ true
  pub is : items_sketch items ≡ found

pub exact : (choice : List (List Item)) (found : ℕ) → exact_sketch choice ≡ Some found → IsExact choice found
exact choice found h = by choice refl h
  where
    one : (items : List Item) → choice ≡ items ∷ [] → (b : Bool) → list_all is_word_item items ≡ b → cond b (Some (items_sketch items)) None ≡ Some found → IsExact choice found
    one items c true w h = record { items = items; choice_is = c; words = w; is = same_Some (items_sketch items) found h }
    one items c false w h = cc h

    by : (parts : List (List Item)) → choice ≡ parts → word_sketch (only_part parts) ≡ Some found → IsExact choice found
    by [] c h = cc h
    by (items ∷ []) c h = one items c (list_all is_word_item items) refl h
    by (items ∷ other ∷ parts) c h = cc h

both : (a b : Bool) → (a && b) ≡ true → (a ≡ true) × (b ≡ true)
both true true h = (refl, refl)
both true false h = absurd (true≢false (sym h))
both false b h = absurd (true≢false (sym h))

-- the sketch of items after one so far, made of the byte of each
abbrev sketched : ℕ → List Item → ℕ
sketched h items = fold (λ sketch x. mixed sketch (byte_of x)) h items

one_byte : (x : Item) (b : ℕ) (xs : List Item) (t : Text) → is_word_item x ≡ true → fits (x ∷ xs) (b ∷ t) ≡ true → (byte_of x ≡ b) × (fits xs t ≡ true)
one_byte (item.Byte c) b xs t w h = (let e = both _ _ h in (eqb-true c b e.0, e.1))
one_byte item.One b xs t w h = absurd (true≢false (sym w))
one_byte item.Many b xs t w h = absurd (true≢false (sym w))
one_byte (item.Among set) b xs t w h = absurd (true≢false (sym w))

no_byte : (x : Item) (xs : List Item) → is_word_item x ≡ true → fits (x ∷ xs) [] ≡ true → ⊥
no_byte (item.Byte c) xs w h = true≢false (sym h)
no_byte item.One xs w h = true≢false (sym w)
no_byte item.Many xs w h = true≢false (sym w)
no_byte (item.Among set) xs w h = true≢false (sym w)

sketch_by_item : (items : List Item) (text : Text) (h : ℕ) → list_all is_word_item items ≡ true → fits items text ≡ true → sketched h items ≡ fold mixed h text
sketch_by_item [] [] h w f = refl
sketch_by_item [] (b ∷ t) h w f = absurd (true≢false (sym f))
sketch_by_item (x ∷ xs) [] h w f = absurd (no_byte x xs (both (is_word_item x) (list_all is_word_item xs) w).0 f)
sketch_by_item (x ∷ xs) (b ∷ t) h w f =
    let words = both (is_word_item x) (list_all is_word_item xs) w in
    let first = one_byte x b xs t words.0 f in
    ap (λ c. sketched (mixed h c) xs) first.0 ∙ sketch_by_item xs t (mixed h b) words.1 first.1

or_nothing : (b : Bool) → (b || false) ≡ true → b ≡ true
or_nothing true h = refl
or_nothing false h = h

pub fits_same_sketch : (choice : List (List Item)) (found : ℕ) (text : Text) → exact_sketch choice ≡ Some found → choice_fits choice text ≡ true → sketch text ≡ found
fits_same_sketch choice found text e f =
    let one : IsExact choice found = exact choice found e in
    let fit : fits one.items text ≡ true = or_nothing (fits one.items text) (ap (λ c. choice_fits c text) (sym one.choice_is) ∙ f) in
    sym (sketch_by_item one.items text 0 one.words fit) ∙ one.is
