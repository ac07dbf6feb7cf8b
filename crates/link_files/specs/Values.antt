-- The values that keys take, as far as they are looked at.
use Rattle.std.specs.Prelude.{Bool, true, ◌&&◌, ◌||◌, List, map}
use Rattle.std.specs.List.{list_all}
use Rattle.text_bytes.specs.Texts.{is_empty}
use Rattle.text_bytes.specs.Text.{Text}
use Rattle.text_tables.specs.Texts.{is_among}
use Rattle.link_files.specs.Booleans.{is_no, is_yes}
use Rattle.link_files.specs.Lists.{is_list}
use Rattle.link_files.specs.Names.{is_interface_name}
use Rattle.link_files.specs.Words.{words_of}
use Rattle.link_files.specs.declared.words.WordKind.TheVariants as words
use Rattle.link_files.specs.declared.keys.Form.{Form}
use Rattle.link_files.specs.declared.keys.Form.TheVariants as form
use Rattle.link_files.specs.declared.keys.TheConstants.{ADDRESS_POLICIES, ALTERNATIVE_POLICIES, DUPLEX, NAME_POLICIES, WAKES}

-- words that are all among these
abbrev pub are_among : List Text → Text → Bool
are_among known value = is_list words.Plain value && list_all (is_among known) (words_of words.Plain value)

-- whether a form has a value that is not empty
abbrev pub has_form : Form → Text → Bool
has_form form.Any value = true
has_form form.Names value = is_list words.Name value
has_form form.Globs value = is_list words.Glob value
has_form form.Properties value = is_list words.Property value
has_form form.Name value = is_interface_name value
has_form form.Boolean value = is_yes value || is_no value
has_form form.NamePolicies value = are_among (map (λ word. word.now) NAME_POLICIES) value
has_form form.AlternativePolicies value = are_among (map (λ word. word.now) ALTERNATIVE_POLICIES) value
has_form form.AddressPolicy value = is_among (map (λ word. word.now) ADDRESS_POLICIES) value
has_form form.Duplex value = is_among (map (λ word. word.now) DUPLEX) value
has_form form.Wake value = are_among (map (λ word. word.now) WAKES) value

-- whether a key whose values have a form takes a value: an empty one takes back those before it
abbrev pub takes : Form → Text → Bool
takes form value = is_empty value || has_form form value
