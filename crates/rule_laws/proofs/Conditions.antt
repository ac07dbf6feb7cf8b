-- The fault of a token is that of the first condition that holds.
use Rattle.std.specs.Option.{option_and_then}
use Rattle.std.specs.Result.{result_err}
use Rattle.std.proofs.Common.{◌≡◌, ℕ, Bool, true, false, List, [], ◌∷◌, Option, Some, None, is_none, is_err, Result, Ok, Err, refl}
use Rattle.file_messages.specs.declared.message.MessageKind.TheVariants.{UnknownKey, OperatorNotAllowed, WrongAttribute, BadValue, BadSubstitution, SetNotSupported}
use Rattle.text_bytes.specs.declared.profile.Profile.TheVariants.{Manual}
use Rattle.text_core.specs.Choices.{choice, choice_blind}
use Rattle.text_core.specs.declared.item.Item.{Item}
use Rattle.text_core.specs.declared.glob_fault.GlobFault.{GlobFault}
use Rattle.text_core.specs.declared.glob_fault.GlobFault.TheVariants as glob
use Rattle.rule_tokens.specs.TemplateReading as templates
use Rattle.rule_tokens.specs.Template.{Parts as Template}
use Rattle.rule_tokens.specs.declared.piece.Piece.{Piece}
use Rattle.rule_tokens.specs.declared.fault.TemplateFault.{TemplateFault}
use Rattle.rule_tokens.specs.Grammar.{Placed}
use Rattle.rule_tokens.specs.declared.kinds.Operator.{Operator}
use Rattle.rule_types.specs.Names.{key_of}
use Rattle.rule_types.specs.Topics.{topic_of}
use Rattle.rule_types.specs.Operators.{read_as}
use Rattle.rule_types.specs.Roles.{role_of}
use Rattle.rule_types.specs.declared.keys.Key.{Key}
use Rattle.rule_types.specs.declared.types.ImportType.TheVariants as import_of
use Rattle.rule_types.specs.declared.topics.Topic.{Topic}
use Rattle.rule_types.specs.declared.roles.Role.{Role}
use Rattle.rule_types.specs.declared.roles.Role.TheVariants as role
use Rattle.rule_parts.specs.Options.{option_of}
use Rattle.rule_parts.specs.Values.{as_choice, as_option, as_template, finding, read_choice, read_name, read_option, read_template}
use Rattle.rule_parts.specs.Parts.{comparison, ignores_case, if_found, import_by, made, meaning_of, part_by, part_of, value_part}
use Rattle.rule_laws.specs.Conditions.{FirstFaultCounts, first_of, has_bad_substitution, has_class, ignores_in_vain, is_class, is_no_value, some_role}
use Rattle.rule_parts.specs.declared.finding.Finding.{Finding}
use Rattle.rule_types.specs.declared.rule_option.RuleOption.{RuleOption}

-- the conditions on a value, once none is said of its case
abbrev value_conditions : List ℕ → Bool → Bool → Bool → Option Finding
value_conditions text a b c = first_of ((a, finding SetNotSupported text) ∷ (b, finding BadSubstitution text) ∷ (c, finding BadValue text) ∷ [])

patterns : {A B : Type 0} (f : A → B) (g : List (List Item) → A) (text : List ℕ) (read : Result (List (List Item)) GlobFault)
    → result_err (made f (made g (as_choice text read))) ≡ value_conditions text (is_class read) false (is_err (made f (made g (as_choice text read))))
patterns f g text (Ok c) = refl
patterns f g text (Err (glob.Class at)) = refl
patterns f g text (Err glob.TooLong) = refl
patterns f g text (Err glob.Memory) = refl

substitutions : {B : Type 0} (f : Template → B) (text : List ℕ) (read : Result (List Piece) TemplateFault)
    → result_err (made f (as_template text read)) ≡ value_conditions text false (is_err read) (is_err (made f (as_template text read)))
substitutions f text (Ok pieces) = refl
substitutions f text (Err fault) = refl

imported : {A B : Type 0} (f : A → B) (g : Template → A) (text : List ℕ) (read : Result (List Piece) TemplateFault)
    → result_err (made f (made g (as_template text read))) ≡ value_conditions text false (is_err read) (is_err (made f (made g (as_template text read))))
imported f g text (Ok pieces) = refl
imported f g text (Err fault) = refl

options : {B : Type 0} (f : RuleOption → B) (text : List ℕ) (read : Option RuleOption)
    → result_err (made f (as_option text read)) ≡ value_conditions text false false (is_err (made f (as_option text read)))
options f text (Some known) = refl
options f text None = refl

names : {B : Type 0} (f : List ℕ → B) (text : List ℕ) → result_err (made f (read_name Manual text)) ≡ value_conditions text false false (is_err (made f (read_name Manual text)))
unfolding read_name
names f [] = refl
names f (b ∷ text) = refl

-- the fault of a value
by_value : (r : Role) (blind : Bool) (text : List ℕ)
    → result_err (value_part Manual r blind text)
    ≡ first_of ((ignores_in_vain blind r, finding BadValue text) ∷ (has_class blind text r, finding SetNotSupported text) ∷ (has_bad_substitution text r, finding BadSubstitution text) ∷ (is_no_value blind text r, finding BadValue text) ∷ [])
unfolding value_part part_by comparison import_by read_choice read_template read_option
by_value (role.Plain k o) true text = patterns _ _ text (choice_blind text)
by_value (role.Plain k o) false text = patterns _ _ text (choice text)
by_value (role.Up k o) true text = patterns _ _ text (choice_blind text)
by_value (role.Up k o) false text = patterns _ _ text (choice text)
by_value (role.Result o) true text = patterns _ _ text (choice_blind text)
by_value (role.Result o) false text = patterns _ _ text (choice text)
by_value (role.Test mask o) true text = refl
by_value (role.Test mask o) false text = substitutions _ text (templates.pieces_of text)
by_value (role.Program o) true text = refl
by_value (role.Program o) false text = substitutions _ text (templates.pieces_of text)
by_value (role.Import import_of.Program o) true text = refl
by_value (role.Import import_of.Program o) false text = imported _ _ text (templates.pieces_of text)
by_value (role.Import import_of.Builtin o) true text = refl
by_value (role.Import import_of.Builtin o) false text = imported _ _ text (templates.pieces_of text)
by_value (role.Import import_of.File o) true text = refl
by_value (role.Import import_of.File o) false text = imported _ _ text (templates.pieces_of text)
by_value (role.Import import_of.Parent o) true text = refl
by_value (role.Import import_of.Parent o) false text = patterns _ _ text (choice text)
by_value (role.Import import_of.Cmdline o) true text = refl
by_value (role.Import import_of.Cmdline o) false text = refl
by_value (role.Import import_of.Db o) true text = refl
by_value (role.Import import_of.Db o) false text = refl
by_value (role.Set t o) true text = refl
by_value (role.Set t o) false text = substitutions _ text (templates.pieces_of text)
by_value (role.Run type o) true text = refl
by_value (role.Run type o) false text = substitutions _ text (templates.pieces_of text)
by_value (role.Option o) true text = refl
by_value (role.Option o) false text = options _ text (option_of Manual text)
by_value role.Label true text = refl
by_value role.Label false text = names _ text
by_value role.Goto true text = refl
by_value role.Goto false text = names _ text

-- the conditions of a token, by what its key, its attribute and its operator are read as
abbrev listed : List ℕ → Bool → List ℕ → Option Key → Option Topic → Option Role → List (Bool × Finding)
listed word blind text key about r =
    (is_none key, finding UnknownKey word)
    ∷ (is_none about, finding WrongAttribute word)
    ∷ (is_none r, finding OperatorNotAllowed word)
    ∷ (some_role (ignores_in_vain blind) r, finding BadValue text)
    ∷ (some_role (has_class blind text) r, finding SetNotSupported text)
    ∷ (some_role (has_bad_substitution text) r, finding BadSubstitution text)
    ∷ (some_role (is_no_value blind text) r, finding BadValue text)
    ∷ []

by_operator : (word : List ℕ) (blind : Bool) (text : List ℕ) (key : Key) (about : Topic) (r : Option Role)
    → result_err (if_found r (finding OperatorNotAllowed word) (λ x. value_part Manual x blind text)) ≡ first_of (listed word blind text (Some key) (Some about) r)
by_operator word blind text key about None = refl
by_operator word blind text key about (Some r) = by_value r blind text

by_attribute : (word : List ℕ) (blind : Bool) (text : List ℕ) (o : Operator) (key : Key) (about : Option Topic)
    → result_err (if_found about (finding WrongAttribute word) (λ x. if_found (role_of x o) (finding OperatorNotAllowed word) (λ y. value_part Manual y blind text)))
    ≡ first_of (listed word blind text (Some key) about (option_and_then (λ x. role_of x o) about))
by_attribute word blind text o key None = refl
by_attribute word blind text o key (Some about) = by_operator word blind text key about (role_of about o)

by_key : (t : Placed) (word : List ℕ) (blind : Bool) (text : List ℕ) (key : Option Key)
    → result_err (if_found key (finding UnknownKey word) (λ k. if_found (topic_of Manual k t.parts.head.attribute) (finding WrongAttribute word) (λ x. if_found (role_of x (read_as k t.parts.head.operator)) (finding OperatorNotAllowed word) (λ y. value_part Manual y blind text))))
    ≡ first_of (listed word blind text key (option_and_then (λ k. topic_of Manual k t.parts.head.attribute) key) (option_and_then (λ k. option_and_then (λ x. role_of x (read_as k t.parts.head.operator)) (topic_of Manual k t.parts.head.attribute)) key))
by_key t word blind text None = refl
by_key t word blind text (Some key) = by_attribute word blind text (read_as key t.parts.head.operator) key (topic_of Manual key t.parts.head.attribute)

pub first_fault_counts : FirstFaultCounts
unfolding part_of
first_fault_counts t = by_key t t.parts.head.key (ignores_case t.parts.quote) (meaning_of t) (key_of t.parts.head.key)
