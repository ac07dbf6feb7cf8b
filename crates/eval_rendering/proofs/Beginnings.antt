-- A pattern that begins with a byte fits no text that does not.
use Rattle.std.proofs.Common.{◌≡◌, ◌==◌, Bool, true, false, not, ◌&&◌, List, [], ◌∷◌, slice_get, Some, refl, ap, sym, ◌∙◌, true≢false}
use Rattle.std.proofs.lemmas.Option.{none-some, same_Some}
use Rattle.text_bytes.specs.Text.{Text}
use Rattle.text_core.specs.Fits.{fits}
use Rattle.text_core.specs.declared.item.Item.{Item}
use Rattle.text_core.specs.declared.item.Item.TheVariants as item
use Rattle.eval_rendering.specs.Beginnings.{is_other_byte}

differs : (b more : Bool) → not b ≡ true → (b && more) ≡ false
differs true more h = absurd (true≢false (sym h))
differs false more h = refl

pub other_byte_fails : (items : List Item) (text : Text) (x : Item) → slice_get items 0 ≡ Some x → is_other_byte x text ≡ true → fits items text ≡ false
other_byte_fails [] text x at h = absurd (none-some x at)
other_byte_fails (y ∷ items) text x at h = by y text (ap (λ z. is_other_byte z text) (same_Some y x at) ∙ h)
  where
    by : (y : Item) (text : Text) → is_other_byte y text ≡ true → fits (y ∷ items) text ≡ false
    by (item.Byte c) [] k = refl
    by (item.Byte c) (b ∷ t) k = differs (c == b) (fits items t) k
    by other t k = absurd (true≢false (sym k))
