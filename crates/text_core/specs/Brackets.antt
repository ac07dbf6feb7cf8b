-- What is between brackets, in both ways of writing, and what a set made of it takes.
use Rattle.std.specs.Prelude.{ℕ, zero, suc, Bool, false, not, ◌&&◌, if◌then◌else◌, List, ◌∷◌, [], length, Option, Some, None}
use Rattle.text_bytes.specs.Text.{Text}
use Rattle.text_core.specs.Elements.{element_of, takes_among}
use Rattle.text_core.specs.Sets.{set_takes}
use Rattle.text_core.specs.Spell.{closes}
use Rattle.text_core.specs.declared.brackets.Expression.{Expression}
use Rattle.text_core.specs.declared.elements.Element.{Element}
use Rattle.text_core.specs.declared.elements.Found.{Found}
use Rattle.text_core.specs.declared.reading.Reading.{Reading}
use Rattle.text_core.specs.declared.sets.Between.{Between}
use Rattle.text_core.specs.declared.sets.Between.TheVariants.{Members, Elements}

-- Whether a set takes a byte, whichever way it is written.
abbrev pub between_takes : Reading → Bool → Between → ℕ → Bool
between_takes reading negated (Members members) = set_takes reading negated members.now
between_takes reading negated (Elements elements) = takes_among reading negated elements.now

-- The elements up to the `]` that closes them, and how many bytes follow it.
pub record Closed : Type 0 where
  pub elements : List Element
  pub left : ℕ

-- What an expression has, wherever it lies in memory.
abbrev pub closed_of : Expression → Closed
closed_of expression = record { elements = expression.elements.items; left = expression.left }

-- An element, and after it those that are closed.
abbrev pub with_element : Element → Option Closed → Option Closed
with_element x None = None
with_element x (Some closed) = Some (record { elements = x ∷ closed.elements; left = closed.left })

-- The element found, and after it what the rest gives once the element's own bytes are skipped.
abbrev pub with_found : Option Found → (ℕ → Option Closed) → Option Closed
with_found None rest = None
with_found (Some found) rest = with_element found.element (rest found.following)

-- The elements of a text after a `[` and its sign, after so many bytes to be skipped: up to the first `]` that begins
-- one other than the first. If no such `]` closes them there are none.
abbrev pub elements_at : Reading → Bool → Text → ℕ → Option Closed
elements_at reading first [] passed = None
elements_at reading first (b ∷ t) zero =
    if closes b && not first then Some (record { elements = []; left = length t })
    else with_found (element_of reading b t) (λ n. elements_at reading false t n)
elements_at reading first (b ∷ t) (suc n) = elements_at reading first t n
