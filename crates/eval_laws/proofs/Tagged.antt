-- Tags that were removed with udev, and tags that are left.
use Rattle.std.proofs.Common.{◌≡◌, Bool, true, false, cond, not, ◌||◌, ◌&&◌, List, [], ◌∷◌, Option, Some, None, refl, ap, ◌∙◌}
use Rattle.std.specs.Cmp.Lexicographic.{bytes_decides}
use Rattle.text_bytes.specs.Texts.{is_empty}
use Rattle.text_bytes.specs.declared.profile.Profile.{Profile}
use Rattle.text_bytes.specs.declared.profile.Profile.TheVariants.{Udev}
use Rattle.text_bytes.specs.Text.{Text}
use Rattle.text_tables.specs.Texts.{is_among, same_text, with_text, without_text}
use Rattle.text_tables.proofs.Found.{among_added, among_removed}
use Rattle.rule_tokens.specs.Template.{Parts as Template}
use Rattle.rule_types.specs.declared.part.Change.TheVariants as change
use Rattle.rule_types.specs.declared.roles.AssignOperator.{AssignOperator}
use Rattle.rule_types.specs.declared.roles.AssignOperator.TheVariants.{Assign, Add, Remove, AssignFinal}
use Rattle.rule_types.specs.declared.roles.Target.TheVariants as target
use Rattle.rule_types.specs.Rules.{Rule}
use Rattle.rule_types.specs.Written.{attribute_of_target, key_of_target}
use Rattle.device_core.specs.Values.{NumberValue}
use Rattle.eval_state.specs.Scenes.{noted, noted_key}
use Rattle.eval_state.specs.declared.note_kind.NoteKind.TheVariants.{NoDeviceNumber, TagIgnored}
use Rattle.eval_state.specs.declared.scene.Scene.{Scene}
use Rattle.eval_rendering.specs.Bounds.{most_path_bytes, within}
use Rattle.eval_rendering.specs.Rendering.{render}
use Rattle.eval_rendering.specs.declared.rendered.Mode.{Mode}
use Rattle.eval_rendering.specs.declared.rendered.Mode.TheVariants.{Plain}
use Rattle.eval_rendering.specs.declared.rendered.Rendered.{Rendered}
use Rattle.eval_rendering.specs.declared.rendered.Rendered.TheVariants as rendered
use Rattle.eval_assignments.specs.Escapes.{escape_of, mode_of}
use Rattle.eval_assignments.specs.Inner.{given_by}
use Rattle.eval_assignments.specs.Lists.{without_texts}
use Rattle.eval_assignments.specs.Steps.{emptied, lacks_number, set_step, step_by, text_rendered, text_set}
use Rattle.eval_assignments.specs.Tags.{current_tags, is_tag, tag_added, tag_changed, with_tag, without_tags}
use Rattle.eval_assignments.specs.declared.escapes.Escape.{Escape}
use Rattle.eval_assignments.specs.declared.escapes.Escape.TheVariants as escape
use Rattle.eval_laws.proofs.Gone.{all_gone}

plain_tag : (e : Escape) → mode_of Udev target.Tag e ≡ Plain
plain_tag escape.Usual = refl
plain_tag escape.Keep = refl
plain_tag escape.Replace = refl

none_emptied : (o : AssignOperator) (s : Scene) → emptied o target.Tag s ≡ s
none_emptied Assign s = refl
none_emptied Add s = refl
none_emptied Remove s = refl
none_emptied AssignFinal s = refl

needs_no_number : (number : Option NumberValue) → lacks_number target.Tag number ≡ false
needs_no_number None = refl
needs_no_number (Some number) = refl

module _ (r : Rule) (template : Template) (s : Scene) (t : Text) (udev : s.state.event.profile ≡ Udev) (text : within most_path_bytes (render template s.state Plain) ≡ rendered.Text t) where
  tag_set : (o : AssignOperator) → text_set Udev (given_by r (escape_of r.sets) o target.Tag template.written) (rendered.Text t) s ≡ tag_changed r o t s
  tag_set Assign = refl
  tag_set Add = refl
  tag_set Remove = refl
  tag_set AssignFinal = refl

  -- what an assignment of a tag changes
  tag_step : (o : AssignOperator) → set_step r s (record { operator = o; change = change.Text target.Tag template }) ≡ tag_changed r o t s
  unfolding set_step
  tag_step o =
      ap (λ (p : Profile). step_by p r o (change.Text target.Tag template) s) udev
      ∙ ap (λ (b : Bool). cond b (noted_key r NoDeviceNumber (key_of_target target.Tag) (attribute_of_target target.Tag) s) (text_rendered Udev (given_by r (escape_of r.sets) o target.Tag template.written) template (emptied o target.Tag s)))
      (needs_no_number s.state.event.device.number)
      ∙ ap (λ (u : Scene). text_rendered Udev (given_by r (escape_of r.sets) o target.Tag template.written) template u) (none_emptied o s)
      ∙ ap (λ (x : Rendered). text_set Udev (given_by r (escape_of r.sets) o target.Tag template.written) x s)
      (ap (λ (m : Mode). within most_path_bytes (render template s.state m)) (plain_tag (escape_of r.sets)) ∙ text)
      ∙ tag_set o

  pub still_met : (set_step r s (record { operator = Remove; change = change.Text target.Tag template })).state.tags ≡ s.state.tags
  still_met = ap (λ (u : Scene). u.state.tags) (tag_step Remove)

  itself : same_text t t ≡ true
  itself = (bytes_decides t t).1 refl

  or_last : (a b : Bool) → b ≡ true → (a || b) ≡ true
  or_last true b h = refl
  or_last false b h = h

  added : (texts : List Text) → is_among (with_text texts t) t ≡ true
  added texts = among_added texts t t ∙ or_last (is_among texts t) (same_text t t) itself

  pub no_more_reported : is_among (current_tags (set_step r s (record { operator = Remove; change = change.Text target.Tag template }))) t ≡ false
  no_more_reported = ap (λ (u : Scene). is_among (current_tags u) t) (tag_step Remove) ∙ all_gone (with_text s.gone t) s.state.tags t (added s.gone)

  -- a text that is there stays if others are removed
  is_present : (texts gone : List Text) → is_among texts t ≡ true → is_among gone t ≡ false → is_among (without_texts texts gone) t ≡ true
  is_present texts [] there kept = there
  is_present texts (other ∷ gone) there kept = by (same_text t other) refl kept (is_present (without_text texts other) gone)
    where
      by : (b : Bool) → same_text t other ≡ b → (b || is_among gone t) ≡ false → (is_among (without_text texts other) t ≡ true → is_among gone t ≡ false → is_among (without_texts (without_text texts other) gone) t ≡ true)
          → is_among (without_texts (without_text texts other) gone) t ≡ true
      by true e h more = cc
      by false e h more = more (among_removed texts other t ∙ ap (λ b. not b && is_among texts t) e ∙ there) h

  reported_again : (u : Scene) → is_among (current_tags (with_tag t u)) t ≡ true
  reported_again u = is_present (with_text u.state.tags t) (without_text u.gone t) (added u.state.tags) (among_removed u.gone t t ∙ ap (λ b. not b && is_among u.gone t) itself)

  is_with_tag : (u : Scene) (x : Text) → is_empty x ≡ false → is_tag x ≡ true → tag_added r x u ≡ with_tag x u
  is_with_tag u [] some tag = cc
  is_with_tag u (b ∷ x) some tag = ap (λ w. cond w (with_tag (b ∷ x) u) (noted r TagIgnored (b ∷ x) u)) tag

  pub reported : (o : AssignOperator) → (o ≡ Remove → ⊥) → is_empty t ≡ false → is_tag t ≡ true
      → is_among (current_tags (set_step r s (record { operator = o; change = change.Text target.Tag template }))) t ≡ true
  reported o other some tag = ap (λ (u : Scene). is_among (current_tags u) t) (tag_step o) ∙ by o other
    where
      by : (p : AssignOperator) → (p ≡ Remove → ⊥) → is_among (current_tags (tag_changed r p t s)) t ≡ true
      by Remove h = absurd (h refl)
      by Add h = ap (λ (u : Scene). is_among (current_tags u) t) (is_with_tag s t some tag) ∙ reported_again s
      by Assign h = ap (λ (u : Scene). is_among (current_tags u) t) (is_with_tag (without_tags s) t some tag) ∙ reported_again (without_tags s)
      by AssignFinal h = ap (λ (u : Scene). is_among (current_tags u) t) (is_with_tag (without_tags s) t some tag) ∙ reported_again (without_tags s)
