-- Words for the laws.
use Rattle.std.specs.Prelude.{◌≡◌, ◌+◌, ◌-◌, ◌<◌, List, [], ◌∷◌, ◌++◌, codes, drop, length, map, take}
use Rattle.text_bytes.specs.Names.{double_quote}
use Rattle.text_bytes.specs.Text.{Text}
use Rattle.rule_tokens.specs.declared.kinds.Operator.{Operator}
use Rattle.rule_tokens.specs.declared.kinds.Operator.TheVariants.{Equal, NotEqual, Add, Remove, AssignFinal, Assign}
use Rattle.rule_types.specs.declared.types.RunType.{RunType}
use Rattle.rule_types.specs.declared.types.RunType.TheVariants as run_of
use Rattle.lsp_words.specs.Marks.{MarkValue}
use Rattle.lsp_words.specs.Tables.{entries_of}
use Rattle.lsp_words.specs.declared.kinds.WordKind.{WordKind}
use Rattle.lsp_words.specs.declared.marks.MarkKind.TheVariants.{Label}

-- the names of the words of a kind
abbrev pub names_of : WordKind → List Text
names_of kind = map (λ row. row.name) (entries_of kind)

-- all operators
abbrev pub operators : List Operator
operators = Equal ∷ NotEqual ∷ Add ∷ Remove ∷ AssignFinal ∷ Assign ∷ []

-- all types of RUN
abbrev pub run_types : List RunType
run_types = run_of.Program ∷ run_of.Builtin ∷ []

-- the values of OPTIONS: those that `rule_parts` reads, whole or up to their `=`, and the beginning of those about escapes
abbrev pub option_names : List Text
option_names =
    codes "link_priority=" ∷ codes "string_escape=none" ∷ codes "string_escape=replace" ∷ codes "string_escape=" ∷ codes "static_node="
    ∷ codes "watch" ∷ codes "nowatch" ∷ codes "db_persist" ∷ codes "log_level=" ∷ []

-- a mark to which a jump may lead: a label of its name, in a later rule
pub record IsGoalOf (jump mark : MarkValue) : Type 0 where
  pub is_label : mark.kind ≡ Label
  pub later : jump.rule < mark.rule
  pub named : mark.name ≡ jump.name

-- a mark is written in a row: between its places is its name, and a quote is on either side
pub record IsWrittenIn (row : Text) (mark : MarkValue) : Type 0 where
  pub after_quote : 0 < mark.start
  pub whole : mark.start + length mark.name ≡ mark.end
  pub quoted : take (length mark.name + 2) (drop (mark.start - 1) row) ≡ double_quote ∷ mark.name ++ double_quote ∷ []
