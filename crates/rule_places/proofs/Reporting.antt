-- What is wrong with a token is about its key, its attribute or its value.
use Rattle.std.proofs.Common.{◌≡◌, ℕ, Bool, true, false, cond, not, ◌&&◌, ◌||◌, List, [], ◌∷◌, Option, Some, None, Result, Ok, Err, refl, is_some}
use Rattle.std.specs.Option.{IfSome}
use Rattle.file_messages.specs.declared.message.MessageKind.{MessageKind}
use Rattle.text_bytes.specs.declared.profile.Profile.{Profile}
use Rattle.text_bytes.specs.declared.profile.Profile.TheVariants as profile
use Rattle.file_messages.specs.declared.message.MessageKind.TheVariants.{UnknownKey, OperatorNotAllowed, WrongAttribute, BadValue, ReservedProperty, NameWithoutEffect, UnknownBuiltin}
use Rattle.text_core.specs.Choices.{choice, choice_blind}
use Rattle.text_core.specs.Fnmatch.{fnmatch_choice}
use Rattle.text_core.specs.declared.item.Item.{Item}
use Rattle.text_core.specs.declared.glob_fault.GlobFault.{GlobFault}
use Rattle.text_core.specs.declared.glob_fault.GlobFault.TheVariants as glob
use Rattle.rule_tokens.specs.TemplateReading as templates
use Rattle.rule_tokens.specs.declared.piece.Piece.{Piece}
use Rattle.rule_tokens.specs.declared.fault.TemplateFault.{TemplateFault}
use Rattle.rule_tokens.specs.Grammar.{Placed}
use Rattle.rule_types.specs.Names.{key_of}
use Rattle.rule_types.specs.Operators as operators
use Rattle.rule_types.specs.Roles.{role_of}
use Rattle.rule_types.specs.Topics.{topic_of}
use Rattle.rule_types.specs.declared.part.Import.TheVariants as import
use Rattle.rule_types.specs.declared.part.Part.{Part}
use Rattle.rule_types.specs.declared.keys.Key.{Key}
use Rattle.rule_types.specs.declared.roles.MatchOperator.{MatchOperator}
use Rattle.rule_types.specs.declared.roles.Role.{Role}
use Rattle.rule_types.specs.declared.roles.Role.TheVariants as role
use Rattle.rule_types.specs.declared.rule_option.RuleOption.{RuleOption}
use Rattle.rule_types.specs.declared.roles.Target.{Target}
use Rattle.rule_types.specs.declared.roles.Target.TheVariants as target
use Rattle.rule_types.specs.declared.topics.Topic.{Topic}
use Rattle.rule_types.specs.declared.types.RunType.{RunType}
use Rattle.rule_types.specs.declared.types.RunType.TheVariants as run_of
use Rattle.rule_types.specs.declared.types.ImportType.{ImportType}
use Rattle.rule_types.specs.declared.types.ImportType.TheVariants as import_of
use Rattle.rule_types.specs.Builtins.{builtin_of}
use Rattle.rule_parts.specs.Options.{option_of}
use Rattle.rule_parts.specs.Parts.{comparison, if_found, ignores_case, import_by, is_match, made, meaning_of, part_by, part_of, role_as, unless_refused, value_part}
use Rattle.rule_parts.specs.Refusals.{is_no_name, is_reserved, refusal_by, refusal_of, refused_builtin, refused_import, refused_run, refused_text}
use Rattle.rule_parts.specs.Values.{as_choice, as_option, as_template, choice_fault, finding, read_choice, read_name, read_option, read_template, reading_of}
use Rattle.rule_parts.specs.declared.finding.Finding.{Finding}
use Rattle.rule_core.specs.Spots.{is_of_attribute, is_of_key}
use Rattle.rule_places.specs.Laws.{is_about_value}

-- whether what is said is about a token's key, its attribute or its value
abbrev pub is_of_token : MessageKind → Bool
is_of_token kind = is_of_key kind || (is_of_attribute kind || is_about_value kind)

-- what is wrong is about a token
unfoldable pub IsOfToken : {A : Type 0} → Result A Finding → Type 0
IsOfToken (Ok x) = Unit {0}
IsOfToken (Err found) = is_of_token found.kind ≡ true

made_is : {A B : Type 0} (f : A → B) (r : Result A Finding) → IsOfToken r → IsOfToken (made f r)
unfolding IsOfToken
made_is f (Ok x) h = tt
made_is f (Err found) h = h

choice_fault_is : (fault : GlobFault) → is_of_token (choice_fault fault) ≡ true
choice_fault_is (glob.Class at) = refl
choice_fault_is glob.TooLong = refl
choice_fault_is glob.Memory = refl

choice_is : (text : List ℕ) (r : Result (List (List Item)) GlobFault) → IsOfToken (as_choice text r)
unfolding IsOfToken
choice_is text (Ok patterns) = tt
choice_is text (Err fault) = choice_fault_is fault

read_choice_is : (by : Profile) (blind : Bool) (text : List ℕ) → IsOfToken (read_choice by blind text)
unfolding read_choice
read_choice_is profile.Manual true text = choice_is text (choice_blind text)
read_choice_is profile.Manual false text = choice_is text (choice text)
read_choice_is profile.Udev blind text = choice_is text (fnmatch_choice (reading_of blind) text)

template_is : (text : List ℕ) (r : Result (List Piece) TemplateFault) → IsOfToken (as_template text r)
unfolding IsOfToken
template_is text (Ok pieces) = tt
template_is text (Err fault) = refl

read_template_is : (by : Profile) (text : List ℕ) → IsOfToken (read_template by text)
unfolding read_template
read_template_is by text = template_is text (templates.pieces_as by text)

option_is : (text : List ℕ) (o : Option RuleOption) → IsOfToken (as_option text o)
unfolding IsOfToken
option_is text (Some known) = tt
option_is text None = refl

read_option_is : (by : Profile) (text : List ℕ) → IsOfToken (read_option by text)
unfolding read_option
read_option_is by text = option_is text (option_of by text)

read_name_is : (by : Profile) (text : List ℕ) → IsOfToken (read_name by text)
unfolding read_name IsOfToken
read_name_is profile.Manual [] = refl
read_name_is profile.Manual (b ∷ rest) = tt
read_name_is profile.Udev text = tt

comparison_is : (by : Profile) (o : MatchOperator) (blind : Bool) (text : List ℕ) → IsOfToken (comparison by o blind text)
unfolding comparison
comparison_is by o blind text = made_is _ (read_choice by blind text) (read_choice_is by blind text)

import_is : (by : Profile) (known : ImportType) (text : List ℕ) → IsOfToken (import_by by known text)
unfolding import_by IsOfToken
import_is by import_of.Program text = made_is import.Program (read_template by text) (read_template_is by text)
import_is by import_of.Builtin text = made_is import.Builtin (read_template by text) (read_template_is by text)
import_is by import_of.File text = made_is import.File (read_template by text) (read_template_is by text)
import_is by import_of.Parent text = made_is (λ names. import.Parent names text) (read_choice by false text) (read_choice_is by false text)
import_is by import_of.Cmdline text = tt
import_is by import_of.Db text = tt

part_by_is : (by : Profile) (r : Role) (blind : Bool) (text : List ℕ) → IsOfToken (part_by by r blind text)
unfolding part_by
part_by_is by (role.Plain key o) blind text = made_is _ (comparison by o blind text) (comparison_is by o blind text)
part_by_is by (role.Up key o) blind text = made_is _ (comparison by o blind text) (comparison_is by o blind text)
part_by_is by (role.Result o) blind text = made_is _ (comparison by o blind text) (comparison_is by o blind text)
part_by_is by (role.Test mask o) blind text = made_is _ (read_template by text) (read_template_is by text)
part_by_is by (role.Program o) blind text = made_is _ (read_template by text) (read_template_is by text)
part_by_is by (role.Import known o) blind text = made_is _ (import_by by known text) (import_is by known text)
part_by_is by (role.Set target o) blind text = made_is _ (read_template by text) (read_template_is by text)
part_by_is by (role.Run known o) blind text = made_is _ (read_template by text) (read_template_is by text)
part_by_is by (role.Option o) blind text = made_is _ (read_option by text) (read_option_is by text)
part_by_is by role.Label blind text = made_is _ (read_name by text) (read_name_is by text)
part_by_is by role.Goto blind text = made_is _ (read_name by text) (read_name_is by text)

-- what is refused
abbrev RefusalIs : Option Finding → Type 0
RefusalIs o = IfSome o (λ found. is_of_token found.kind ≡ true)

refused_where : (b : Bool) (found : Finding) → is_of_token found.kind ≡ true → RefusalIs (cond b (Some found) None)
refused_where true found h = h
refused_where false found h = tt

refused_unless : (b : Bool) (found : Finding) → is_of_token found.kind ≡ true → RefusalIs (cond b None (Some found))
refused_unless true found h = tt
refused_unless false found h = h

text_refused : (about : Target) (text : List ℕ) → RefusalIs (refused_text about text)
text_refused (target.Env name) text = refused_where (is_reserved name) (finding ReservedProperty name) refl
text_refused target.Name text = refused_where (is_no_name text) (finding NameWithoutEffect text) refl
text_refused target.Owner text = tt
text_refused target.Group text = tt
text_refused target.Mode text = tt
text_refused target.Tag text = tt
text_refused (target.Seclabel name) text = tt
text_refused target.Symlink text = tt
text_refused (target.Attr name) text = tt
text_refused (target.Sysctl name) text = tt

builtin_refused : (text : List ℕ) → RefusalIs (refused_builtin text)
builtin_refused text = refused_unless (is_some (builtin_of text)) (finding UnknownBuiltin text) refl

run_refused : (type : Option RunType) (text : List ℕ) → RefusalIs (refused_run type text)
run_refused None text = tt
run_refused (Some run_of.Program) text = tt
run_refused (Some run_of.Builtin) text = builtin_refused text

import_refused : (type : ImportType) (text : List ℕ) → RefusalIs (refused_import type text)
import_refused import_of.Program text = tt
import_refused import_of.Builtin text = builtin_refused text
import_refused import_of.File text = tt
import_refused import_of.Parent text = tt
import_refused import_of.Cmdline text = tt
import_refused import_of.Db text = tt

role_refused : (r : Role) (text : List ℕ) → RefusalIs (refusal_of r text)
unfolding refusal_of
role_refused (role.Plain key o) text = tt
role_refused (role.Up key o) text = tt
role_refused (role.Result o) text = tt
role_refused (role.Test mask o) text = tt
role_refused (role.Program o) text = tt
role_refused (role.Import type o) text = import_refused type text
role_refused (role.Set about o) text = text_refused about text
role_refused (role.Run type o) text = run_refused type text
role_refused (role.Option o) text = tt
role_refused role.Label text = tt
role_refused role.Goto text = tt

refusal_is : (by : Profile) (r : Role) (text : List ℕ) → RefusalIs (refusal_by by r text)
refusal_is profile.Manual r text = tt
refusal_is profile.Udev r text = role_refused r text

unless_is : (o : Option Finding) (read : Result Part Finding) → RefusalIs o → IsOfToken read → IsOfToken (unless_refused o read)
unfolding IsOfToken
unless_is None read h k = k
unless_is (Some found) read h k = h

value_is : (by : Profile) (r : Role) (blind : Bool) (text : List ℕ) → IsOfToken (value_part by r blind text)
unfolding value_part IsOfToken
value_is by r blind text = on (blind && not (is_match r))
  where
    on : (b : Bool) → IsOfToken (cond b (Err (finding BadValue text)) (unless_refused (refusal_by by r text) (part_by by (role_as by r text) blind text)))
    on true = refl
    on false = unless_is (refusal_by by r text) (part_by by (role_as by r text) blind text) (refusal_is by r text) (part_by_is by (role_as by r text) blind text)

if_found_is : {A : Type 0} (wrong : Finding) (next : A → Result Part Finding) (o : Option A) → is_of_token wrong.kind ≡ true → ((x : A) → IsOfToken (next x)) → IsOfToken (if_found o wrong next)
unfolding IsOfToken
if_found_is wrong next None h g = h
if_found_is wrong next (Some x) h g = g x

pub part_is_of_token : (by : Profile) (t : Placed) → IsOfToken (part_of by t)
unfolding part_of
part_is_of_token by t =
    let key : List ℕ = t.parts.head.key in
    if_found_is (finding UnknownKey key) _ (key_of key) refl (λ (k : Key).
    if_found_is (finding WrongAttribute key) _ (topic_of by k t.parts.head.attribute) refl (λ (about : Topic).
    if_found_is (finding OperatorNotAllowed key) _ (role_of about (operators.read_as k t.parts.head.operator)) refl (λ (r : Role).
    value_is by r (ignores_case t.parts.quote) (meaning_of t))))
