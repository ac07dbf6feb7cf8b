-- Serves inner proofs only: the tokens of a rule taken one by one.
use Rattle.std.specs.Prelude.{ℕ, List, [], ◌∷◌, ◌++◌, Option, Some, None, filter_map}
use Rattle.text_bytes.specs.Text.{Text}
use Rattle.text_bytes.specs.declared.profile.Profile.{Profile}
use Rattle.text_bytes.specs.declared.profile.Profile.TheVariants.{Manual, Udev}
use Rattle.text_bytes.specs.Texts.{first}
use Rattle.file_messages.specs.declared.message.MessageKind.{MessageKind}
use Rattle.rule_tokens.specs.Grammar.{Placed}
use Rattle.rule_types.specs.Rules.{Rule}
use Rattle.rule_types.specs.declared.part.Part.{Part}
use Rattle.rule_types.specs.declared.part.Part.TheVariants as part
use Rattle.rule_core.specs.Drafts.{act_in, acts_of, assignment_in, given_again_after, given_twice, goto_at, label_among}
use Rattle.rule_core.specs.Drafts.{label_at, lost_name, name_place, plain_in, result_in, sets_of, up_in}
use Rattle.rule_types.specs.Tokens.{WrittenPart}
use Rattle.rule_core.specs.declared.names.NamePlace.{NamePlace}
use Rattle.rule_types.specs.declared.spot.Spot.{Spot}

-- the names of a rule, and the findings about those that don't count
pub record RuleNames : Type 0 where
  pub label : Option NamePlace
  pub goto : Option NamePlace
  pub findings : List (Spot MessageKind)

-- the names that tokens give
abbrev pub names_given : Profile → List WrittenPart → RuleNames
names_given profile parts = record {
  label = label_among profile (filter_map label_at parts);
  goto = first (filter_map goto_at parts);
  findings = given_again_after profile [] parts;
}

-- a name, or the one that was given before it
abbrev pub first_given : Option NamePlace → NamePlace → Option NamePlace
first_given (Some name) later = Some name
first_given None name = Some name

-- the findings about a name, by the one that was given before it
abbrev pub again : Option NamePlace → NamePlace → List (Spot MessageKind)
again None name = []
again (Some name) later = given_twice later ∷ []

-- of a label and a later one, the one that counts
abbrev pub label_given : Profile → Option NamePlace → NamePlace → Option NamePlace
label_given Manual earlier name = first_given earlier name
label_given Udev earlier name = Some name

-- the findings about a label, by the one that counts of those before it
abbrev pub label_said : Profile → Option NamePlace → NamePlace → List (Spot MessageKind)
label_said Manual earlier name = again earlier name
label_said Udev earlier name = lost_name earlier

-- one more token, which is this part
abbrev pub with_name : Profile → RuleNames → Placed → Part → RuleNames
with_name profile n t (part.Label name) =
    record n { label = label_given profile n.label (name_place t name); findings = n.findings ++ label_said profile n.label (name_place t name) }
with_name profile n t (part.Goto name) = record n { goto = first_given n.goto (name_place t name); findings = n.findings ++ again n.goto (name_place t name) }
with_name profile n t _ = n

-- a rule of these names and of these parts, all as they are written
abbrev pub written_rule : Text → ℕ → Option Text → Option Text → List Part → Rule
written_rule name line label goto parts = record {
  file = name;
  line = line;
  label = label;
  goto = goto;
  plain = filter_map plain_in parts;
  up = filter_map up_in parts;
  acts = filter_map act_in parts;
  results = filter_map result_in parts;
  sets = filter_map assignment_in parts;
}

-- the same, those that act and those that assign in the order of evaluation
abbrev pub sorted_rule : Profile → Text → ℕ → Option Text → Option Text → List Part → Rule
sorted_rule profile name line label goto parts = record (written_rule name line label goto parts) { acts = acts_of parts; sets = sets_of profile parts }

-- one more part
abbrev pub with_kind : Rule → Part → Rule
with_kind r (part.Plain m) = record r { plain = r.plain ++ m ∷ [] }
with_kind r (part.Up m) = record r { up = r.up ++ m ∷ [] }
with_kind r (part.Act a) = record r { acts = r.acts ++ a ∷ [] }
with_kind r (part.Result c) = record r { results = r.results ++ c ∷ [] }
with_kind r (part.Set a) = record r { sets = r.sets ++ a ∷ [] }
with_kind r _ = r
