-- The operator of a part is that of its token.
use Rattle.std.proofs.Common.{◌≡◌, ℕ, Bool, true, false, not, ◌&&◌, cond, List, Option, Some, None, option_map, Result, Ok, Err, IfSome, IfOk, refl, ap, sym, subst, ◌∙◌}
use Rattle.file_messages.specs.declared.message.MessageKind.TheVariants.{BadValue, OperatorNotAllowed, UnknownKey, WrongAttribute}
use Rattle.text_bytes.specs.declared.profile.Profile.TheVariants.{Manual}
use Rattle.rule_tokens.specs.Grammar.{Placed}
use Rattle.rule_tokens.specs.declared.kinds.Operator.{Operator}
use Rattle.rule_tokens.specs.declared.kinds.Operator.TheVariants as op
use Rattle.rule_types.specs.Names.{key_of}
use Rattle.rule_types.specs.Operators.{is_read_as_assign, read_as}
use Rattle.rule_types.specs.Roles.{assigned, compared, is_assign, is_assign_or_add, is_assign_or_final, is_not_final, is_not_remove, role_of, taken}
use Rattle.rule_types.specs.Topics.{bare, topic_of}
use Rattle.rule_types.specs.Written.{key_of_topic}
use Rattle.rule_types.specs.declared.keys.Key.{Key}
use Rattle.rule_types.specs.declared.keys.Key.TheVariants as key
use Rattle.rule_types.specs.declared.topics.Topic.{Topic}
use Rattle.rule_types.specs.declared.topics.Topic.TheVariants as topic
use Rattle.rule_types.specs.declared.part.Part.{Part}
use Rattle.rule_types.specs.declared.roles.AssignOperator.{AssignOperator}
use Rattle.rule_types.specs.declared.roles.AssignOperator.TheVariants.{Assign, Add, Remove, AssignFinal}
use Rattle.rule_types.specs.declared.roles.MatchOperator.{MatchOperator}
use Rattle.rule_types.specs.declared.roles.MatchOperator.TheVariants.{Equal, NotEqual}
use Rattle.rule_types.specs.declared.roles.Role.{Role}
use Rattle.rule_types.specs.declared.roles.Role.TheVariants as role
use Rattle.rule_parts.specs.Parts.{comparison, ignores_case, if_found, import_by, is_match, made, meaning_of, part_by, part_of, value_part}
use Rattle.rule_parts.specs.Values.{finding, read_choice, read_name, read_option, read_template}
use Rattle.rule_parts.specs.declared.finding.Finding.{Finding}
use Rattle.rule_laws.specs.Operators.{compared_as, counted_as, of_assignment, of_match, operator_of}

-- the operator of a role
abbrev of_role : Role → Operator
of_role (role.Plain k o) = of_match o
of_role (role.Up k o) = of_match o
of_role (role.Result o) = of_match o
of_role (role.Test mask o) = of_match o
of_role (role.Program o) = of_match o
of_role (role.Import type o) = of_match o
of_role (role.Set t o) = of_assignment o
of_role (role.Run type o) = of_assignment o
of_role (role.Option o) = of_assignment o
of_role role.Label = op.Assign
of_role role.Goto = op.Assign

-- what an operator counts as that the key has read
abbrev counted : Key → Operator → Operator
counted key.Program o = compared_as o
counted key.Import o = compared_as o
counted k o = o

abbrev HasOperator : Option Role → Operator → Type 0
HasOperator found o = IfSome found (λ r. of_role r ≡ o)

compared_is : (about : Topic) (o : MatchOperator) → HasOperator (compared about o) (of_match o)
unfolding compared
compared_is topic.Owner o = tt
compared_is topic.Group o = tt
compared_is topic.Mode o = tt
compared_is (topic.Seclabel name) o = tt
compared_is (topic.Run type) o = tt
compared_is topic.Options o = tt
compared_is topic.Label o = tt
compared_is topic.Goto o = tt
compared_is about o = refl

taken_is : (is_taken : Bool) (r : Role) (o : Operator) → of_role r ≡ o → HasOperator (taken is_taken r) o
taken_is true r o is = is
taken_is false r o is = tt

assigned_is : (about : Topic) (o : AssignOperator) → HasOperator (assigned about o) (counted (key_of_topic about) (of_assignment o))
unfolding assigned
assigned_is topic.Program Remove = tt
assigned_is topic.Program o = refl
assigned_is (topic.Import type) Remove = tt
assigned_is (topic.Import type) o = refl
assigned_is topic.Symlink o = refl
assigned_is topic.Name o = taken_is (is_assign_or_final o) _ _ refl
assigned_is topic.Owner o = taken_is (is_assign_or_final o) _ _ refl
assigned_is topic.Group o = taken_is (is_assign_or_final o) _ _ refl
assigned_is topic.Mode o = taken_is (is_assign_or_final o) _ _ refl
assigned_is topic.Tag o = taken_is (is_not_final o) _ _ refl
assigned_is (topic.Attr name) o = taken_is (is_assign o) _ _ refl
assigned_is (topic.Sysctl name) o = taken_is (is_assign o) _ _ refl
assigned_is (topic.Env name) o = taken_is (is_assign_or_add o) _ _ refl
assigned_is (topic.Seclabel name) o = taken_is (is_assign_or_add o) _ _ refl
assigned_is (topic.Run type) o = taken_is (is_not_remove o) _ _ refl
assigned_is topic.Options o = taken_is (is_not_remove o) _ _ refl
assigned_is topic.Label Assign = refl
assigned_is topic.Goto Assign = refl
assigned_is about o = tt

compared_counts : (k : Key) (o : MatchOperator) → of_match o ≡ counted k (of_match o)
compared_counts key.Program Equal = refl
compared_counts key.Program NotEqual = refl
compared_counts key.Import Equal = refl
compared_counts key.Import NotEqual = refl
compared_counts k o = refl

compared_as_written : (about : Topic) (o : MatchOperator) → HasOperator (compared about o) (counted (key_of_topic about) (of_match o))
compared_as_written about o = subst (HasOperator (compared about o)) (compared_counts (key_of_topic about) o) (compared_is about o)

role_is : (about : Topic) (o : Operator) → HasOperator (role_of about o) (counted (key_of_topic about) o)
unfolding role_of
role_is about op.Equal = compared_as_written about Equal
role_is about op.NotEqual = compared_as_written about NotEqual
role_is about op.Assign = assigned_is about Assign
role_is about op.Add = assigned_is about Add
role_is about op.Remove = assigned_is about Remove
role_is about op.AssignFinal = assigned_is about AssignFinal

read_is : (k : Key) (o : Operator) → counted k (read_as k o) ≡ counted_as k o
unfolding is_read_as_assign
read_is key.Program o = refl
read_is key.Import o = refl
read_is k o = refl

-- a topic has the key of its token
abbrev HasKey : Option Topic → Key → Type 0
HasKey found k = IfSome found (λ about. key_of_topic about ≡ k)

named_is : {A : Type 0} (name : Option A) (f : A → Topic) (k : Key) → ((x : A) → key_of_topic (f x) ≡ k) → HasKey (option_map f name) k
named_is None f k is = tt
named_is (Some x) f k is = is x

bare_is : (a : Option (List ℕ)) (about : Topic) (k : Key) → key_of_topic about ≡ k → HasKey (bare a about) k
bare_is None about k is = is
bare_is (Some text) about k is = tt

topic_is : (k : Key) (a : Option (List ℕ)) → HasKey (topic_of Manual k a) k
unfolding topic_of
topic_is key.Attrs a = named_is _ topic.Attrs _ (λ name. refl)
topic_is key.Const a = named_is _ topic.Const _ (λ name. refl)
topic_is key.Test a = named_is _ topic.Test _ (λ mask. refl)
topic_is key.Import a = named_is _ topic.Import _ (λ type. refl)
topic_is key.Attr a = named_is _ topic.Attr _ (λ name. refl)
topic_is key.Sysctl a = named_is _ topic.Sysctl _ (λ name. refl)
topic_is key.Env a = named_is _ topic.Env _ (λ name. refl)
topic_is key.Seclabel a = named_is _ topic.Seclabel _ (λ name. refl)
topic_is key.Run a = named_is _ topic.Run _ (λ type. refl)
topic_is k a = bare_is a _ _ refl

-- a part has the operator of its role
abbrev Has : Result Part Finding → Operator → Type 0
Has read o = IfOk read (λ p. operator_of p ≡ o)

made_is : {A : Type 0} (f : A → Part) (read : Result A Finding) (o : Operator) → ((x : A) → operator_of (f x) ≡ o) → Has (made f read) o
made_is f (Ok x) o is = is x
made_is f (Err fault) o is = tt

made_twice : {A B : Type 0} (f : B → Part) (g : A → B) (read : Result A Finding) (o : Operator) → ((x : A) → operator_of (f (g x)) ≡ o) → Has (made f (made g read)) o
made_twice f g (Ok x) o is = is x
made_twice f g (Err fault) o is = tt

part_is : (r : Role) (blind : Bool) (text : List ℕ) → Has (part_by Manual r blind text) (of_role r)
unfolding part_by comparison
part_is (role.Plain k o) blind text = made_twice _ _ (read_choice Manual blind text) _ (λ x. refl)
part_is (role.Up k o) blind text = made_twice _ _ (read_choice Manual blind text) _ (λ x. refl)
part_is (role.Result o) blind text = made_twice _ _ (read_choice Manual blind text) _ (λ x. refl)
part_is (role.Test mask o) blind text = made_is _ (read_template Manual text) _ (λ x. refl)
part_is (role.Program o) blind text = made_is _ (read_template Manual text) _ (λ x. refl)
part_is (role.Import type o) blind text = made_is _ (import_by Manual type text) _ (λ x. refl)
part_is (role.Set t o) blind text = made_is _ (read_template Manual text) _ (λ x. refl)
part_is (role.Run type o) blind text = made_is _ (read_template Manual text) _ (λ x. refl)
part_is (role.Option o) blind text = made_is _ (read_option Manual text) _ (λ x. refl)
part_is role.Label blind text = made_is _ (read_name Manual text) _ (λ x. refl)
part_is role.Goto blind text = made_is _ (read_name Manual text) _ (λ x. refl)

value_is : (r : Role) (blind : Bool) (text : List ℕ) → Has (value_part Manual r blind text) (of_role r)
unfolding value_part
value_is r blind text = by (blind && not (is_match r))
  where
    by : (in_vain : Bool) → Has (cond in_vain (Err (finding BadValue text)) (part_by Manual r blind text)) (of_role r)
    by true = tt
    by false = part_is r blind text

after_role : (found : Option Role) (o : Operator) (wrong : Finding) (blind : Bool) (text : List ℕ) → HasOperator found o
    → Has (if_found found wrong (λ r. value_part Manual r blind text)) o
after_role None o wrong blind text is = tt
after_role (Some r) o wrong blind text is = subst (Has (value_part Manual r blind text)) is (value_is r blind text)

after_topic : (found : Option Topic) (k : Key) (o : Operator) (wrong unread : Finding) (blind : Bool) (text : List ℕ) → HasKey found k
    → Has (if_found found wrong (λ about. if_found (role_of about (read_as k o)) unread (λ r. value_part Manual r blind text))) (counted_as k o)
after_topic None k o wrong unread blind text is = tt
after_topic (Some about) k o wrong unread blind text is =
    after_role (role_of about (read_as k o)) (counted_as k o) unread blind text
    (subst (HasOperator (role_of about (read_as k o))) (ap (λ of. counted of (read_as k o)) is ∙ read_is k o) (role_is about (read_as k o)))

pub operator_is : (token : Placed) (k : Key) (p : Part) → key_of token.parts.head.key ≡ Some k → part_of Manual token ≡ Ok p
    → operator_of p ≡ counted_as k token.parts.head.operator
unfolding part_of
operator_is token k p known reads =
    let o : Operator = token.parts.head.operator in
    let text : List ℕ = meaning_of token in
    let blind : Bool = ignores_case token.parts.quote in
    let name : List ℕ = token.parts.head.key in
    subst (λ read. Has read (counted_as k o)) reads
    (subst (λ found. Has (if_found found (finding UnknownKey name) (λ it.
    if_found (topic_of Manual it token.parts.head.attribute) (finding WrongAttribute name) (λ about.
    if_found (role_of about (read_as it o)) (finding OperatorNotAllowed name) (λ r. value_part Manual r blind text)))) (counted_as k o)) (sym known)
    (after_topic (topic_of Manual k token.parts.head.attribute) k o (finding WrongAttribute name) (finding OperatorNotAllowed name) blind text (topic_is k token.parts.head.attribute)))
