-- What each key and each option sets.
use Rattle.std.proofs.Common.{◌≡◌, ◌≢◌, ℤ, true, false, cond, List, [], ◌∷◌, ◌++◌, Option, Some, None, refl, ap, ◌∙◌, true≢false}
use Rattle.std.specs.Cmp.Lexicographic.{bytes_decides}
use Rattle.text_bytes.specs.Names.{space}
use Rattle.text_bytes.specs.Texts.{is_empty}
use Rattle.text_bytes.specs.declared.profile.Profile.{Profile}
use Rattle.text_bytes.specs.declared.profile.Profile.TheVariants.{Manual}
use Rattle.text_bytes.specs.Text.{Text}
use Rattle.text_tables.specs.Texts.{same_text}
use Rattle.text_tables.specs.Pairs.{Pair, value_of, with_value}
use Rattle.text_tables.proofs.Found.{value_removed, value_set}
use Rattle.rule_tokens.specs.Template.{Parts as Template}
use Rattle.rule_types.specs.declared.part.Change.TheVariants as change
use Rattle.rule_types.specs.declared.roles.AssignOperator.{AssignOperator}
use Rattle.rule_types.specs.declared.roles.AssignOperator.TheVariants.{Add, AssignFinal}
use Rattle.rule_types.specs.declared.roles.Target.{Target}
use Rattle.rule_types.specs.declared.roles.Target.TheVariants as target
use Rattle.rule_types.specs.declared.rule_option.RuleOption.{RuleOption}
use Rattle.rule_types.specs.declared.rule_option.RuleOption.TheVariants as option
use Rattle.rule_types.specs.Rules.{Rule}
use Rattle.eval_state.specs.Finals.{is_final}
use Rattle.eval_state.specs.Properties.{property_set}
use Rattle.eval_state.specs.Scenes.{noted}
use Rattle.eval_state.specs.Texts.{or_empty}
use Rattle.eval_state.specs.declared.finals.FinalKey.{FinalKey}
use Rattle.eval_state.specs.declared.finals.FinalKey.TheVariants as key
use Rattle.eval_state.specs.declared.note_kind.NoteKind.TheVariants.{NameIgnored}
use Rattle.eval_state.specs.declared.scene.Scene.{Scene}
use Rattle.eval_rendering.specs.Bounds.{bounded}
use Rattle.eval_rendering.specs.declared.rendered.Rendered.{Rendered}
use Rattle.eval_assignments.specs.Assigning.{assigned, labels_before, link_text, unless_empty, with_option}
use Rattle.eval_assignments.specs.Escapes.{escape_of}
use Rattle.eval_assignments.specs.Finality.{final_option, final_priority, final_target, finally, is_settled}
use Rattle.eval_assignments.specs.Givens.{Given}
use Rattle.eval_assignments.specs.Inner.{given_by}
use Rattle.eval_assignments.specs.Lists.{changed, link_names, one_tag}
use Rattle.eval_assignments.specs.Names.{name_text}
use Rattle.eval_assignments.specs.Properties.{appended, property_joined}
use Rattle.eval_assignments.specs.Steps.{text_set, text_step}
use Rattle.eval_laws.specs.Making.{IsAssigned, after_option, after_text}
use Rattle.eval_laws.proofs.Making.{open_step}

-- `:=` changes nothing but what is final
finally_same : (o : AssignOperator) (k : Option FinalKey) (s : Scene) → record (finally o k s) { finals = s.finals } ≡ s
finally_same AssignFinal None s = refl
finally_same AssignFinal (Some k) s = refl
finally_same o k s = refl

own : (name : Text) → same_text name name ≡ true
own name = (bytes_decides name name).1 refl

-- a value that is set is there, and one that is removed is not
set_there : (pairs : List Pair) (name value : Text) → value_of (with_value pairs name value) name ≡ Some value
set_there pairs name value = value_set pairs name value name ∙ ap (λ b. cond b (Some value) (value_of pairs name)) (own name)

property_there : (pairs : List Pair) (name t : Text) → value_of (property_set name t pairs) name ≡ unless_empty t
property_there pairs name [] = value_removed pairs name name ∙ ap (λ b. cond b None (value_of pairs name)) (own name)
property_there pairs name (b ∷ t) = set_there pairs name (b ∷ t)

module _ (r : Rule) (o : AssignOperator) (about : Target) (template : Template) (s : Scene) (t : Text) (is : IsAssigned r about template s t) where
  abbrev g : Given
  g = given_by r (escape_of r.sets) o about template.written

  -- what an assignment of a text leaves, apart from what is final
  set_is : record (after_text r o about template s) { finals = s.finals } ≡ record (assigned Manual about g t s) { finals = s.finals }
  set_is =
      ap (λ (u : Scene). record u { finals = s.finals })
      (open_step r s (record { operator = o; change = change.Text about template }) is.free
      ∙ ap (λ (p : Profile). text_step p g template s) is.manual
      ∙ ap (λ (x : Rendered). text_set Manual g x s) is.text
      ∙ ap (λ b. cond b (noted r NameIgnored t s) (finally o (final_target about) (assigned Manual about g t s))) is.heard)
      ∙ ap (λ (u : Scene). record u { finals = s.finals }) (finally_same o (final_target about) (assigned Manual about g t s))

module _ (r : Rule) (o : AssignOperator) (template : Template) (s : Scene) (t : Text) where
  pub links_set : IsAssigned r target.Symlink template s t
      → (after_text r o target.Symlink template s).state.links ≡ changed o (link_names (link_text (escape_of r.sets) t)) s.state.links
  links_set is = ap (λ (u : Scene). u.state.links) (set_is r o target.Symlink template s t is)

  pub tags_set : IsAssigned r target.Tag template s t → (after_text r o target.Tag template s).state.tags ≡ changed o (one_tag t) s.state.tags
  tags_set is = ap (λ (u : Scene). u.state.tags) (set_is r o target.Tag template s t is)

  pub name_set : IsAssigned r target.Name template s t → (after_text r o target.Name template s).state.name ≡ unless_empty (name_text Manual (escape_of r.sets) t)
  name_set is = ap (λ (u : Scene). u.state.name) (set_is r o target.Name template s t is)

module _ (name : Text) (r : Rule) (o : AssignOperator) (template : Template) (s : Scene) (t : Text) where
  pub property_is : IsAssigned r (target.Env name) template s t → o ≢ Add → value_of (after_text r o (target.Env name) template s).state.env name ≡ unless_empty t
  property_is is other = ap (λ (u : Scene). value_of u.state.env name) (set_is r o (target.Env name) template s t is) ∙ by o other
    where
      by : (p : AssignOperator) → p ≢ Add → value_of (assigned Manual (target.Env name) (given_by r (escape_of r.sets) p (target.Env name) template.written) t s).state.env name ≡ unless_empty t
      by Add h = absurd (h refl)
      by p h = property_there s.state.env name t

  pub attribute_is : IsAssigned r (target.Attr name) template s t → value_of (after_text r o (target.Attr name) template s).attrs name ≡ Some t
  attribute_is is = ap (λ (u : Scene). value_of u.attrs name) (set_is r o (target.Attr name) template s t is) ∙ set_there s.attrs name t

  pub parameter_is : IsAssigned r (target.Sysctl name) template s t → value_of (after_text r o (target.Sysctl name) template s).sysctls name ≡ Some t
  parameter_is is = ap (λ (u : Scene). value_of u.sysctls name) (set_is r o (target.Sysctl name) template s t is) ∙ set_there s.sysctls name t

  pub label_is : IsAssigned r (target.Seclabel name) template s t → value_of (after_text r o (target.Seclabel name) template s).labels name ≡ Some t
  label_is is = ap (λ (u : Scene). value_of u.labels name) (set_is r o (target.Seclabel name) template s t is) ∙ set_there (labels_before o s.labels) name t

-- a property that `+=` extends
joined_there : (name : Text) (r : Rule) (s : Scene) (joined : Option Text) (whole : Text) → joined ≡ Some whole → value_of (property_joined r name joined s).state.env name ≡ Some whole
joined_there name r s joined whole e = ap (λ (j : Option Text). value_of (property_joined r name j s).state.env name) e ∙ set_there s.state.env name whole

module _ (name : Text) (r : Rule) (template : Template) (s : Scene) (t : Text) (is : IsAssigned r (target.Env name) template s t) where
  added_is : is_empty t ≡ false → value_of (after_text r Add (target.Env name) template s).state.env name
      ≡ value_of (property_joined r name (appended (or_empty (value_of s.state.env name)) t) s).state.env name
  added_is some = ap (λ (u : Scene). value_of u.state.env name) (set_is r Add (target.Env name) template s t is)
      ∙ ap (λ b. value_of (cond b s (property_joined r name (appended (or_empty (value_of s.state.env name)) t) s)).state.env name) some

  pub first_is : is_empty t ≡ false → or_empty (value_of s.state.env name) ≡ [] → value_of (after_text r Add (target.Env name) template s).state.env name ≡ Some t
  first_is some none = added_is some ∙ joined_there name r s _ t (ap (λ v. appended v t) none)

appended_is : (value t whole : Text) → is_empty value ≡ false → bounded (value ++ space ∷ t) ≡ Some whole → appended value t ≡ Some whole
appended_is [] t whole some e = absurd (true≢false some)
appended_is (b ∷ value) t whole some e = e

pub extended_is : (name : Text) (r : Rule) (template : Template) (s : Scene) (t value whole : Text) → IsAssigned r (target.Env name) template s t → is_empty t ≡ false → is_empty value ≡ false
    → value_of s.state.env name ≡ Some value → bounded (value ++ space ∷ t) ≡ Some whole → value_of (after_text r Add (target.Env name) template s).state.env name ≡ Some whole
extended_is name r template s t value whole is some filled there e =
    added_is name r template s t is some
    ∙ joined_there name r s _ whole (ap (λ (v : Option Text). appended (or_empty v) t) there ∙ appended_is value t whole filled e)

-- options
module _ (r : Rule) (o : AssignOperator) (s : Scene) where
  option_is : (known : RuleOption) → is_settled (final_option s.state.event.profile known) s.finals ≡ false
      → record (after_option r o known s) { finals = s.finals } ≡ record (with_option known s) { finals = s.finals }
  option_is known free =
      ap (λ (u : Scene). record u { finals = s.finals })
      (open_step r s (record { operator = o; change = change.Option known }) free)
      ∙ ap (λ (u : Scene). record u { finals = s.finals }) (finally_same o (final_option s.state.event.profile known) (with_option known s))

  priority_free : (profile : Profile) → is_final s.finals key.Priority ≡ false → is_settled (final_priority profile) s.finals ≡ false
  priority_free Manual h = h
  priority_free other h = refl

  pub priority_is : (priority : ℤ) → is_final s.finals key.Priority ≡ false → (after_option r o (option.LinkPriority priority) s).priority ≡ Some priority
  priority_is priority h = ap (λ (u : Scene). u.priority) (option_is (option.LinkPriority priority) (priority_free s.state.event.profile h))

  pub watch_is : is_final s.finals key.Watch ≡ false → (after_option r o option.Watch s).watch ≡ Some true
  watch_is h = ap (λ (u : Scene). u.watch) (option_is option.Watch h)

  pub nowatch_is : is_final s.finals key.Watch ≡ false → (after_option r o option.NoWatch s).watch ≡ Some false
  nowatch_is h = ap (λ (u : Scene). u.watch) (option_is option.NoWatch h)

  pub persist_is : (after_option r o option.DbPersist s).persist ≡ true
  persist_is = ap (λ (u : Scene). u.persist) (option_is option.DbPersist refl)
