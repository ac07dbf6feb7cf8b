-- Lists that assignments change: the tags and the links.
use Rattle.std.specs.Prelude.{not, ◌==◌, if◌then◌else◌, List, [], ◌∷◌, filter, fold}
use Rattle.std.specs.List.{slice_split}
use Rattle.text_bytes.specs.Names.{space}
use Rattle.text_bytes.specs.Texts.{is_empty}
use Rattle.text_bytes.specs.Text.{Text}
use Rattle.text_tables.specs.Texts.{with_texts, without_text}
use Rattle.rule_types.specs.declared.roles.AssignOperator.{AssignOperator}
use Rattle.rule_types.specs.declared.roles.AssignOperator.TheVariants.{Assign, Add, Remove, AssignFinal}

-- each of these texts is removed
abbrev pub without_texts : List Text → List Text → List Text
without_texts texts gone = fold without_text texts gone

-- texts as an operator changes them: made anew, added at the end if they are not there, removed
abbrev pub changed : AssignOperator → List Text → List Text → List Text
changed Assign given texts = with_texts [] given
changed AssignFinal given texts = with_texts [] given
changed Add given texts = with_texts texts given
changed Remove given texts = without_texts texts given

-- a text as one tag; an empty text is no tag
abbrev pub one_tag : Text → List Text
one_tag t = if is_empty t then [] else t ∷ []

-- the texts that have a byte
abbrev pub not_empty : List Text → List Text
not_empty texts = filter (λ t. not (is_empty t)) texts

-- the names in a text, with spaces between them
abbrev pub link_names : Text → List Text
link_names t = not_empty (slice_split (λ b. b == space) t)
