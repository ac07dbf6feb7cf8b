-- Properties as udev takes them from a device and sets them.
use Rattle.std.specs.Prelude.{not, List, [], ◌∷◌, filter, fold}
use Rattle.text_bytes.specs.Texts.{is_empty}
use Rattle.text_bytes.specs.declared.profile.Profile.{Profile}
use Rattle.text_bytes.specs.declared.profile.Profile.TheVariants.{Manual, Udev}
use Rattle.text_bytes.specs.Text.{Text}
use Rattle.text_tables.specs.Pairs.{Pair, with_value, without_name}

-- a property is set; the empty text removes it
abbrev pub property_set : Text → Text → List Pair → List Pair
property_set name [] env = without_name env name
property_set name (b ∷ t) env = with_value env name (b ∷ t)

-- properties are set one after another
abbrev pub properties_set : List Pair → List Pair → List Pair
properties_set env more = fold (λ held pair. property_set pair.0 pair.1 held) env more

-- the properties that a device has by a profile, of those that its block gives it: for udev an empty one is none
abbrev pub given_properties : Profile → List Pair → List Pair
given_properties Manual env = env
given_properties Udev env = filter (λ property. not (is_empty property.1)) env
