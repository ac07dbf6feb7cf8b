-- The kernel's names of parents, by the places that these have in the chain.
use Rattle.std.proofs.Common.{◌≡◌, ℕ, ◌+◌, List, ◌∷◌, map, option_map, slice_get, sym, ap, ◌∙◌, add-one}
use Rattle.std.proofs.lemmas.Option.{slice_get-map}
use Rattle.text_bytes.specs.Text.{Text}
use Rattle.device_core.specs.Values.{DeviceValue}
use Rattle.eval_state.specs.Chains.{kernel_of}

-- a parent's place in the chain is one more than among the parents
pub kernel_above : (names : List Text) (device : DeviceValue) (parents : List DeviceValue) (above place : ℕ) → names ≡ map kernel_of parents → place ≡ above + 1
    → slice_get names above ≡ option_map kernel_of (slice_get (device ∷ parents) place)
kernel_above names device parents above place kept is =
    ap (λ ns. slice_get ns above) kept ∙ slice_get-map kernel_of parents above
    ∙ ap (λ n. option_map kernel_of (slice_get (device ∷ parents) n)) (sym (is ∙ add-one above))
