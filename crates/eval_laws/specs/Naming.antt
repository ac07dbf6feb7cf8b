-- How a name that names an attribute with its device is written, and which device is meant.
use Rattle.std.specs.Prelude.{◌≡◌, ◌⊎◌, ℕ, ◌<◌, ◌==◌, true, false, ◌∷◌, ◌++◌, length}
use Rattle.std.specs.List.{list_any}
use Rattle.text_bytes.specs.Names.{close_bracket, open_bracket, slash}
use Rattle.text_bytes.specs.Text.{Text}
use Rattle.device_core.specs.Values.{EventValue, chain}
use Rattle.eval_state.specs.Chains.{device_at}
use Rattle.eval_state.specs.Named.{NamedValue, is_named}

-- a byte is not in a text
abbrev pub HasNone : ℕ → Text → Type 0
HasNone byte text = list_any (λ b. b == byte) text ≡ false

-- a subsystem and a kernel's name in brackets, and a text after them
abbrev pub bracketed : Text → Text → Text → Text
bracketed subsystem kernel following = open_bracket ∷ (subsystem ++ slash ∷ (kernel ++ close_bracket ∷ following))

-- A name is written like this: the subsystem has no slash and the kernel's name no `]`, and the attribute follows
-- them, perhaps after a slash.
pub record IsWrittenSo (name : Text) (is : NamedValue) : Type 0 where
  pub subsystem : HasNone slash is.subsystem
  pub kernel : HasNone close_bracket is.kernel
  pub whole : (name ≡ bracketed is.subsystem is.kernel is.attribute) ⊎ (name ≡ bracketed is.subsystem is.kernel (slash ∷ is.attribute))

-- The device at a place of the chain is the one that is named, and none before it is.
pub record IsNearestNamed (is : NamedValue) (event : EventValue) (place : ℕ) : Type 0 where
  pub in_chain : place < length (chain event)
  pub meant : is_named is (device_at event place) ≡ true
  pub first : (earlier : ℕ) → earlier < place → is_named is (device_at event earlier) ≡ false
