-- Serves inner proofs only: what the items up to the next Many say of a text.
use Rattle.std.specs.Prelude.{◌≡◌, ◌<◌, ◌≤◌, true, false, List, length, map}
use Rattle.text_bytes.specs.Text.{Text}
use Rattle.text_core.specs.Fits.{fits, some_suffix}
use Rattle.text_core.specs.declared.item.Item.{Item}
use Rattle.text_core.specs.declared.glob.Stop.{Stop}
use Rattle.text_core.specs.declared.glob.Stop.TheVariants.{Whole, Fails, Star}

-- Items are held in some form. Whole and Fails decide whether the text fits. At a Many, what is left of items and text
-- decides it, both for the text and for its suffixes, and there is less of both.
abbrev pub StopsAt : {A : Type 0} → (A → Item) → List A → Text → Stop A → Type 0
StopsAt item held t Whole = fits (map item held) t ≡ true
StopsAt item held t Fails = fits (map item held) t ≡ false
StopsAt item held t (Star after rest) =
    (fits (map item held) t ≡ some_suffix (fits (map item after.now)) rest.now)
    × (some_suffix (fits (map item held)) t ≡ some_suffix (fits (map item after.now)) rest.now)
    × (length after.now < length held)
    × (length rest.now ≤ length t)
