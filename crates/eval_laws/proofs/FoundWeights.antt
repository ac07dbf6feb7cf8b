-- What properties weigh with those that were found.
use Rattle.std.proofs.Common.{◌≡◌, ◌+◌, ◌≤◌, Bool, true, false, List, [], ◌∷◌, ◌++◌, Option, Some, None, if◌then◌else◌, refl, arith}
use Rattle.std.proofs.lemmas.List.Sums.{sum_by-append, sum_by-cons}
use Rattle.std.specs.List.{slice_get}
use Rattle.text_bytes.specs.declared.profile.Profile.{Profile}
use Rattle.text_bytes.specs.declared.profile.Profile.TheVariants.{Manual, Udev}
use Rattle.text_bytes.specs.Text.{Text}
use Rattle.text_tables.specs.Pairs.{Pair}
use Rattle.builtin_devices.specs.Knowledge.{Known}
use Rattle.device_core.specs.Values.{DeviceValue, EventValue}
use Rattle.eval_laws.specs.DeviceWeights.{device_weight, devices_weight, event_weight, pair_weight, pairs_weight}
use Rattle.eval_state.specs.Chains.{device_at}
use Rattle.trie_nodes.specs.Query.{query}
use Rattle.eval_acts.specs.BuiltinRuns.{is_address_name, looked_up, properties_size, property_size, with_maker}
use Rattle.eval_commands.specs.LookUps.{found}
use Rattle.eval_state.specs.Properties.{property_set}
use Rattle.eval_acts.specs.Imports.{with_found}
use Rattle.eval_laws.specs.Allowances.{entries_weight}
use Rattle.eval_laws.proofs.Tables.{with_value_light, with_values_light, without_name_light}
use Rattle.eval_laws.proofs.Sums.{fold_light}
use Rattle.eval_laws.proofs.Found.{query_light}

-- the properties of a device, if there is one
abbrev pub env_of : Option DeviceValue → List Pair
env_of None = []
env_of (Some device) = device.env

env_light : (d : DeviceValue) → pairs_weight d.env ≤ device_weight d
unfolding device_weight
env_light d = omega arith

second_light : (first : DeviceValue) (others : List DeviceValue) → pairs_weight (env_of (slice_get (first ∷ others) 1)) ≤ devices_weight (first ∷ others)
second_light first [] = omega arith
second_light first (second ∷ others) =
    let a = sum_by-cons device_weight first (second ∷ others) in
    let b = sum_by-cons device_weight second others in
    let c = env_light second in
    omega (arith, a, b, c)

property_light : (held : List Pair) (pair : Pair) → pairs_weight (property_set pair.0 pair.1 held) ≤ pairs_weight held + pair_weight pair
property_light held (name, []) = let a = without_name_light held name in omega (arith, a)
property_light held (name, b ∷ t) = with_value_light held name (b ∷ t)

-- properties with those that were found
pub found_more : (profile : Profile) (env properties : List Pair) → pairs_weight (with_found profile env properties) ≤ pairs_weight env + pairs_weight properties
found_more Manual env properties = with_values_light env properties
found_more Udev env properties = fold_light pair_weight pair_weight (λ held pair. property_set pair.0 pair.1 held) property_light env properties

-- the second device of an event has some of its texts
pub parent_light : (event : EventValue) → pairs_weight (env_of (device_at event 1)) ≤ event_weight event
unfolding event_weight
parent_light event = let a = second_light event.device event.parents in omega (arith, a)

-- what the database says about a text
pub looked_up_light : (known : Known) (text : Option Text) → properties_size (looked_up known text) ≤ entries_weight known.entries
looked_up_light known None = omega arith
looked_up_light known (Some text) =
    let a = query_light known.entries text in
    let b : pairs_weight (query known.entries text) ≡ properties_size (query known.entries text) = refl in
    omega (arith, a, b)

-- properties with others after one of them
pub with_maker_light : (found properties : List Pair) → properties_size (with_maker found properties) ≤ properties_size found + properties_size properties
with_maker_light found [] = omega arith
with_maker_light found (p ∷ ps) = by (is_address_name p) (with_maker_light found ps)
  where
    by : (b : Bool) → properties_size (with_maker found ps) ≤ properties_size found + properties_size ps
        → properties_size (if◌then◌else◌ {A = List Pair} b (p ∷ found ++ ps) (p ∷ with_maker found ps)) ≤ properties_size found + properties_size (p ∷ ps)
    by true rest =
        let a = sum_by-cons property_size p (found ++ ps) in
        let b = sum_by-append property_size found ps in
        let c = sum_by-cons property_size p ps in
        omega (arith, a, b, c)
    by false rest =
        let a = sum_by-cons property_size p (with_maker found ps) in
        let c = sum_by-cons property_size p ps in
        omega (arith, a, rest, c)
