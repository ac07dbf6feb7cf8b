-- What an event weighs before any rule has run.
use Rattle.std.proofs.Common.{◌≡◌, ◌+◌, ◌≤◌, Bool, true, false, cond, not, is_some, List, [], ◌∷◌, ◌++◌, length, Option, Some, None, option_map, codes, refl, arith}
use Rattle.std.proofs.lemmas.List.Sums.{sum_by-cons, sum_by-append}
use Rattle.text_bytes.specs.Texts.{is_empty}
use Rattle.text_bytes.specs.declared.profile.Profile.{Profile}
use Rattle.text_bytes.specs.declared.profile.Profile.TheVariants.{Manual, Udev}
use Rattle.text_bytes.specs.Text.{Text}
use Rattle.text_tables.specs.Pairs.{Pair, with_values}
use Rattle.device_core.specs.Values.{DeviceValue, EventValue, NumberValue}
use Rattle.eval_laws.specs.DeviceWeights.{device_weight, event_weight, given_weight, number_weight, pair_weight, pairs_weight, text_weight}
use Rattle.eval_state.specs.Properties.{given_properties}
use Rattle.eval_acts.specs.Imports.{parent_properties}
use Rattle.eval_state.specs.Start.{node_path, pair_if, reported_by, start_env}
use Rattle.eval_state.specs.Scenes.{start}
use Rattle.eval_laws.specs.Inner.{Within, scene_weight}
use Rattle.eval_laws.proofs.Sums.{filter_light}
use Rattle.eval_laws.proofs.Tables.{with_texts_light, with_values_light}

given_light : (name : Text) (value : Option Text) → pairs_weight (pair_if name value) ≤ given_weight value + (length name + 1)
given_light name None = omega arith
given_light name (Some value) = let a = sum_by-cons pair_weight (name, value) [] in omega (arith, a)

node_light : (node : Option Text) → given_weight (option_map node_path node) ≤ given_weight node + 5
node_light None = omega arith
node_light (Some node) = omega arith

numbers_light : (number : Option NumberValue) → given_weight (option_map (λ n. n.major) number) + given_weight (option_map (λ n. n.minor) number) ≤ number_weight number
numbers_light None = omega arith
numbers_light (Some number) = omega arith

-- lists one after another
four_light : (first second third fourth : List Pair) → pairs_weight (first ++ second ++ third ++ fourth) ≡ pairs_weight first + pairs_weight second + pairs_weight third + pairs_weight fourth
four_light first second third fourth =
    let a = sum_by-append pair_weight (first ++ second ++ third) fourth in
    let b = sum_by-append pair_weight (first ++ second) third in
    let c = sum_by-append pair_weight first second in
    omega (arith, a, b, c)

reported_light : (subsystem node major minor : Option Text) → pairs_weight (pair_if (codes "SUBSYSTEM") subsystem ++ pair_if (codes "DEVNAME") node ++ pair_if (codes "MAJOR") major ++ pair_if (codes "MINOR") minor)
    ≤ given_weight subsystem + given_weight node + given_weight major + given_weight minor + 30
reported_light subsystem node major minor =
    let a = four_light (pair_if (codes "SUBSYSTEM") subsystem) (pair_if (codes "DEVNAME") node) (pair_if (codes "MAJOR") major) (pair_if (codes "MINOR") minor) in
    let b = given_light (codes "SUBSYSTEM") subsystem in
    let c = given_light (codes "DEVNAME") node in
    let d = given_light (codes "MAJOR") major in
    let e = given_light (codes "MINOR") minor in
    omega (arith, a, b, c, d, e)

two_light : (action path : Text) (rest : List Pair) → pairs_weight ((codes "ACTION", action) ∷ (codes "DEVPATH", path) ∷ rest) ≡ text_weight action + text_weight path + pairs_weight rest + 15
two_light action path rest =
    let a = sum_by-cons pair_weight (codes "ACTION", action) ((codes "DEVPATH", path) ∷ rest) in
    let b = sum_by-cons pair_weight (codes "DEVPATH", path) rest in
    omega (arith, a, b)

-- what an event says of its device is in the event once
event_reported : (event : EventValue) → pairs_weight (reported_by event) ≤ text_weight event.action + text_weight event.device.path + given_weight event.device.subsystem + given_weight event.device.node + number_weight event.device.number + 50
event_reported event =
    let a = two_light event.action event.device.path
    (pair_if (codes "SUBSYSTEM") event.device.subsystem ++ pair_if (codes "DEVNAME") (option_map node_path event.device.node)
    ++ pair_if (codes "MAJOR") (option_map (λ n. n.major) event.device.number) ++ pair_if (codes "MINOR") (option_map (λ n. n.minor) event.device.number)) in
    let b = reported_light event.device.subsystem (option_map node_path event.device.node) (option_map (λ n. n.major) event.device.number) (option_map (λ n. n.minor) event.device.number) in
    let c = node_light event.device.node in
    let d = numbers_light event.device.number in
    omega (arith, a, b, c, d)

-- the properties that a device has by a profile are among those of its block
pub properties_light : (profile : Profile) (env : List Pair) → pairs_weight (given_properties profile env) ≤ pairs_weight env
properties_light Manual env = omega arith
properties_light Udev env = filter_light pair_weight (λ property. not (is_empty property.1)) env

-- and so are those that an import takes of a device above
pub parent_properties_light : (profile : Profile) (parent : DeviceValue) → pairs_weight (parent_properties profile parent) ≤ pairs_weight parent.env
parent_properties_light Manual parent = omega arith
parent_properties_light Udev parent = by (is_some parent.subsystem)
  where
    by : (b : Bool) → pairs_weight (cond b (given_properties Udev parent.env) []) ≤ pairs_weight parent.env
    by true = properties_light Udev parent.env
    by false = omega arith

env_light : (event : EventValue) → pairs_weight (start_env event) ≤ pairs_weight event.device.env + pairs_weight (reported_by event)
unfolding start_env
env_light event =
    let a = with_values_light (with_values [] (given_properties event.profile event.device.env)) (reported_by event) in
    let b = with_values_light [] (given_properties event.profile event.device.env) in
    let c = properties_light event.profile event.device.env in
    omega (arith, a, b, c)

own_light : (event : EventValue) → text_weight event.action + device_weight event.device ≤ event_weight event
unfolding event_weight
own_light event = let a = sum_by-cons device_weight event.device event.parents in omega (arith, a)

pub start_within : (event : EventValue) → Within event (event_weight event + 50) (start event)
unfolding scene_weight device_weight
start_within event =
    let a = env_light event in
    let b = event_reported event in
    let c = with_texts_light [] event.device.links in
    let d = with_texts_light [] event.device.tags in
    let e = own_light event in
    record { same = refl; light = omega (arith, a, b, c, d, e) }
