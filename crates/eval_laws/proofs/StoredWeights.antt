-- What an IMPORT{db} sets is a part of the event's block.
use Rattle.std.proofs.Common.{◌≡◌, ◌+◌, ◌≤◌, Bool, true, false, List, [], ◌∷◌, length, Option, Some, None, refl, ap, if◌then◌else◌, arith}
use Rattle.std.proofs.lemmas.List.Sums.{sum_by-cons}
use Rattle.std.specs.Cmp.Lexicographic.{bytes_decides}
use Rattle.text_bytes.specs.Text.{Text}
use Rattle.text_tables.specs.Texts.{same_text}
use Rattle.text_tables.specs.Pairs.{Pair, value_of}
use Rattle.device_core.specs.Values.{DeviceValue, EventValue}
use Rattle.eval_state.specs.Texts.{filled}
use Rattle.eval_acts.specs.Stored.{is_removal, stored_value}
use Rattle.eval_laws.specs.DeviceWeights.{pair_weight, pairs_weight, device_weight, event_weight}
use Rattle.eval_laws.proofs.CmdlineWeights.{set_weight}

value_light : (pairs : List Pair) (name : Text) → set_weight name (value_of pairs name) ≤ pairs_weight pairs
value_light [] name = omega arith
value_light (pair ∷ pairs) name = by (same_text name pair.0) refl (value_light pairs name)
  where
    by : (b : Bool) → same_text name pair.0 ≡ b → set_weight name (value_of pairs name) ≤ pairs_weight pairs
        → set_weight name (if b then Some pair.1 else value_of pairs name) ≤ pairs_weight (pair ∷ pairs)
    by true e rest = let long : length name ≡ length pair.0 = ap length ((bytes_decides name pair.0).0 e) in let a = sum_by-cons pair_weight pair pairs in omega (arith, a, long)
    by false e rest = let a = sum_by-cons pair_weight pair pairs in omega (arith, a, rest)

filled_light : (name : Text) (value : Option Text) → set_weight name (filled value) ≤ set_weight name value
filled_light name None = omega arith
filled_light name (Some []) = omega arith
filled_light name (Some (b ∷ t)) = omega arith

device_light : (d : DeviceValue) → pairs_weight d.stored ≤ device_weight d
unfolding device_weight
device_light d = omega arith

pub stored_light : (name : Text) (event : EventValue) → set_weight name (stored_value name event) ≤ event_weight event
unfolding event_weight
stored_light name event = by (is_removal event)
  where
    by : (b : Bool) → set_weight name (if b then None else filled (value_of event.device.stored name)) ≤ event_weight event
    by true = omega arith
    by false =
        let a = filled_light name (value_of event.device.stored name) in
        let b = value_light event.device.stored name in
        let c = device_light event.device in
        let d = sum_by-cons device_weight event.device event.parents in
        omega (arith, a, b, c, d)
