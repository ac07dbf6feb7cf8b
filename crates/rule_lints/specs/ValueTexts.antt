-- What is looked for in texts and in the head of a token.
use Rattle.std.specs.Prelude.{Bool, false, ◌&&◌, ◌||◌, nat_eq, List, [], ◌∷◌, option_map, unwrap_or}
use Rattle.std.specs.List.{list_any, starts_with}
use Rattle.rule_tokens.specs.Grammar.{Placed}
use Rattle.text_bytes.specs.Text.{Text}
use Rattle.text_tables.specs.Texts.{is_among, same_text}

-- whether a text begins with one of these
abbrev pub begins_with_one : List Text → Text → Bool
begins_with_one names text = list_any (λ name. starts_with nat_eq text name) names

-- whether one of these is somewhere in a text
abbrev pub has_one : List Text → Text → Bool
has_one names [] = false
has_one names (b ∷ text) = begins_with_one names (b ∷ text) || has_one names text

-- whether a token has this key, and one of these names in braces
abbrev pub has_name : Text → List Text → Placed → Bool
has_name key names t = same_text t.parts.head.key key && unwrap_or (option_map (is_among names) t.parts.head.attribute) false
