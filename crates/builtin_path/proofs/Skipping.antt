-- Devices that are skipped.
use Rattle.std.proofs.Common.{◌≡◌, ℕ, zero, suc, Bool, ◌||◌, List, [], ◌∷◌, ◌++◌, ◌∙◌, ap, append_assoc, drop, is_some, refl, sym}
use Rattle.device_core.specs.Values.{DeviceValue, EventValue}
use Rattle.builtin_path.specs.Stops.{passed}
use Rattle.builtin_path.specs.Table.{stop}
use Rattle.builtin_path.specs.Way.{stops_from}
use Rattle.builtin_path.specs.declared.stops.Stop.{Stop}

-- devices that are skipped are left out
pub skipped : (event : EventValue) (is_begun : Bool) (n : ℕ) (members : List DeviceValue)
    → stops_from event is_begun n members ≡ stops_from event is_begun 0 (drop n members)
skipped event is_begun zero [] = refl
skipped event is_begun (suc n) [] = refl
skipped event is_begun zero (m ∷ above) = refl
skipped event is_begun (suc n) (m ∷ above) = skipped event is_begun n above

-- one device more, after which those are left that are not skipped
pub one_more : (event : EventValue) (is_begun begun : Bool) (m : DeviceValue) (above left : List DeviceValue) (before now : List Stop) (here : Stop)
    → here ≡ stop event is_begun m above → begun ≡ (is_begun || is_some here.part) → left ≡ drop (passed here.next above) above → now ≡ before ++ here ∷ []
    → now ++ stops_from event begun 0 left ≡ before ++ stops_from event is_begun 0 (m ∷ above)
one_more event is_begun begun m above left before now here e b l n =
    let here_is : here ∷ stops_from event (is_begun || is_some here.part) (passed here.next above) above ≡ stops_from event is_begun 0 (m ∷ above) =
    rw e refl in
    let rest : stops_from event begun 0 left ≡ stops_from event (is_begun || is_some here.part) (passed here.next above) above =
    rw (b, l) (sym (skipped event (is_begun || is_some here.part) (passed here.next above) above)) in
    ap (λ prefix. prefix ++ stops_from event begun 0 left) n ∙ append_assoc before (here ∷ []) (stops_from event begun 0 left)
    ∙ ap (λ r. before ++ here ∷ r) rest ∙ ap (λ r. before ++ r) here_is
