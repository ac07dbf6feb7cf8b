-- Where paths lead, component by component.
use Rattle.std.proofs.Common.{◌≡◌, ◌+◌, ◌-◌, Bool, true, false, ◌||◌, List, [], ◌∷◌, ◌++◌, length, take, Option, cond, codes, refl, ap, ◌∙◌, arith, length-append}
use Rattle.std.proofs.Math.Bool.{or-true}
use Rattle.std.proofs.Math.Seq.{take-append_seam}
use Rattle.std.specs.List.{list_any}
use Rattle.text_bytes.specs.Names.{slash}
use Rattle.text_bytes.specs.Text.{Text}
use Rattle.text_tables.specs.Texts.{same_text}
use Rattle.device_core.specs.Values.{EventValue, chain}
use Rattle.eval_state.specs.Files.{lies_at}
use Rattle.eval_state.specs.Places.{PlaceValue, gone, has, has_rest, is_there, path_to, shows, stays}
use Rattle.eval_state.proofs.Starring.{after_two}

-- the place one component on, by whether that stays and whether it leads up
abbrev next_to : PlaceValue → Text → (still up : Bool) → PlaceValue
next_to at component still up =
    cond still (record { components = at.components; is_folder = true })
    (cond up (record { components = take (length at.components - 1) at.components; is_folder = true }) (record { components = at.components ++ component ∷ []; is_folder = false }))

by_both : (at : PlaceValue) (component : Text) → gone at component ≡ next_to at component (stays component) (same_text component (codes ".."))
by_both at component = refl

pub stays_there : (at : PlaceValue) (component next : Text) → stays component ≡ true → gone (gone at component) next ≡ gone at next
stays_there at component next h = ap (λ b. gone (next_to at component b (same_text component (codes ".."))) next) h

without_last : (held : List Text) (component : Text) → take (length (held ++ component ∷ []) - 1) (held ++ component ∷ []) ≡ held
without_last held component = ap (λ n. take n (held ++ component ∷ [])) size ∙ take-append_seam held (component ∷ [])
  where
    size : length (held ++ component ∷ []) - 1 ≡ length held
    size = let a : length (held ++ component ∷ []) ≡ length held + 1 = length-append held (component ∷ []) in omega (arith, a)

pub leads_back : (at : PlaceValue) (component : Text) → stays component ≡ false → same_text component (codes "..") ≡ false → (gone (gone at component) (codes "..")).components ≡ at.components
leads_back at component some down =
    ap (λ b. (gone (next_to at component b (same_text component (codes ".."))) (codes "..")).components) some
    ∙ ap (λ b. (gone (next_to at component false b) (codes "..")).components) down
    ∙ without_last at.components component

pub has_there : (event : EventValue) (at : PlaceValue) (name : Text) → path_to at ≡ event.device.path ++ slash ∷ name → has at.is_folder event.device name ≡ true → is_there event at ≡ true
has_there event at name path some =
    let own = event.device.path in
    let whole = own ++ slash ∷ name in
    let others : Bool = list_any (shows whole at.is_folder) event.parents in
    ap (λ p. list_any (shows p at.is_folder) (chain event)) path
    ∙ ap (λ (rest : Option Text). (lies_at whole own || has_rest at.is_folder event.device rest) || others) (after_two own (slash ∷ name))
    ∙ ap (λ b. (lies_at whole own || b) || others) some
    ∙ ap (λ b. b || others) (or-true (lies_at whole own))
