-- Items that a rule does not name are as they were.
use Rattle.std.proofs.Common.{◌≡◌, Bool, true, false, cond, not, ◌||◌, ◌++◌, List, Some, drop, flat_map, fold, length, map, nat_eq, codes, refl, ap, sym, ◌∙◌, subst}
use Rattle.std.specs.List.{list_any}
use Rattle.text_bytes.specs.Texts.{is_empty}
use Rattle.text_bytes.specs.Text.{Text}
use Rattle.text_tables.specs.Texts.{is_among}
use Rattle.text_tables.specs.Pairs.{value_of}
use Rattle.builtin_devices.specs.Knowledge.{Known}
use Rattle.device_core.specs.Values.{EventValue}
use Rattle.rule_types.specs.Rules.{Rule}
use Rattle.eval_state.specs.declared.scene.Scene.{Scene}
use Rattle.eval_state.specs.declared.state.State.{State}
use Rattle.eval_assignments.specs.Steps.{set_step}
use Rattle.eval_rules.specs.Idle.{is_idle}
use Rattle.eval_rules.specs.Steps.{Went, apply, before_sets, only_noted, set_all, steps}
use Rattle.eval_rules.proofs.Staying.{event_stays}
use Rattle.eval_effects.specs.Items.{item_name, items, node_items}
use Rattle.eval_sources.specs.Inner.{Proceeds, kept_after, told_after, updated}
use Rattle.eval_sources.specs.Sources.{Held}
use Rattle.eval_sources.specs.Touched.{changes_more, found_after, is_wide, named_by, sizes, touched}
use Rattle.eval_sources.proofs.Framing.{Framed, among_append, framed_self, item_stays}
use Rattle.eval_sources.proofs.Keeping.{keeps_on, keeps_touched}
use Rattle.eval_sources.proofs.Quiet.{keys_quiet, quiet}
use Rattle.eval_sources.proofs.Setting.{all_framed}

neither : (a b : Bool) → (a || b) ≡ false → (a ≡ false) × (b ≡ false)
neither true b h = cc
neither false b h = (refl, h)

not_false : (b : Bool) → not b ≡ false → b ≡ true
not_false true h = refl
not_false false h = cc

module _ (known : Known) (r : Rule) (s : Scene) (end : State) (n : Text) (acts : not (is_empty r.acts) ≡ false) (event : end.event ≡ s.state.event)
    (narrow : list_any (λ a. is_wide s.state.event.profile a.operator a.change) r.sets ≡ false) (apart : is_among (flat_map (λ a. named_by s.state.event.profile end a.change) r.sets) n ≡ false) where
  -- a scene that is the same but for what matches change
  from_quiet : (u t : Scene) → quiet u ≡ quiet s → Framed n u t → Framed n s t
  unfolding node_items
  from_quiet u t e h =
      let all : Framed n (quiet u) t = h in
      subst (λ v. Framed n v t) e all

  end_framed : (w : Went) → quiet w.0 ≡ quiet s → (b : Bool) → Framed n s (cond b (set_all r w.0) w).0
  unfolding node_items
  end_framed w e true =
      from_quiet w.0 (fold (set_step r) w.0 r.sets) e
      (all_framed n r end r.sets w.0 (event ∙ sym (ap (λ (u : Scene). u.state.event) e)) (ap (λ (u : Scene). list_any (λ a. is_wide u.state.event.profile a.operator a.change) r.sets) e ∙ narrow)
      (ap (λ (u : Scene). is_among (flat_map (λ a. named_by u.state.event.profile end a.change) r.sets) n) e ∙ apart))
  end_framed w e false = from_quiet w.0 w.0 e (framed_self n w.0)

  apply_framed : Framed n s (apply known r s).0
  unfolding apply steps node_items
  apply_framed = by (is_idle r s.state.event)
    where
      by : (b : Bool) → Framed n s (cond b (only_noted known r s) (steps known r s)).0
      by true = framed_self n s
      by false = end_framed (before_sets known r s) (keys_quiet known r s acts) (before_sets known r s).1

-- an item that is not among those that a rule can have changed is as it was
pub untouched : (known : Known) (r : Rule) (s t : Scene) (on : Bool) (n : Text) → (t, on) ≡ apply known r s → not (is_empty r.acts) ≡ false → changes_more r (sizes s) t ≡ false
    → is_among (touched r (sizes s) t) n ≡ false → value_of (items t) n ≡ value_of (items s) n
untouched known r s t on n e acts narrow apart =
    let is : t ≡ (apply known r s).0 = ap (λ (w : Went). w.0) e in
    let few = neither (list_any (λ a. is_wide t.state.event.profile a.operator a.change) r.sets) (not (nat_eq (length t.gone) (length s.gone))) narrow in
    let event : t.state.event ≡ s.state.event = ap (λ (u : Scene). u.state.event) is ∙ event_stays known r s in
    let before = ap (λ (event : EventValue). list_any (λ a. is_wide event.profile a.operator a.change) r.sets) (sym event) ∙ few.0 in
    let links : List Text = map (item_name (codes "link")) (drop (length s.state.links) t.state.links) in
    let tags : List Text = map (item_name (codes "tag")) (drop (length s.state.tags) t.state.tags) in
    let named : List Text = flat_map (λ a. named_by t.state.event.profile t.state a.change) r.sets in
    let rest = among_append (links ++ tags) named n apart in
    let parts = among_append links tags n rest.0 in
    item_stays n s t (subst (λ u. Framed n s u) (sym is) (apply_framed known r s t.state n acts event before (ap (λ (event : EventValue). is_among (flat_map (λ a. named_by event.profile t.state a.change) r.sets) n) (sym event) ∙ rest.1))) (not_false (nat_eq (length t.gone) (length s.gone)) few.1) parts.0 parts.1

-- what is kept after a rule that can have changed an item
pub told_on : (known : Known) (r : Rule) (s t : Scene) (on : Bool) (held now : Held) → (t, on) ≡ apply known r s → now ≡ told_after r (sizes s) t held → Proceeds (items s) (Some r) (items t) held now
unfolding found_after
told_on known r s t on held now e is = by (not (is_empty r.acts) || changes_more r (sizes s) t) refl is
  where
    by : (b : Bool) → (not (is_empty r.acts) || changes_more r (sizes s) t) ≡ b → now ≡ cond b (kept_after held (Some r) (items t)) (updated held (Some r) (found_after r (sizes s) t)) → Proceeds (items s) (Some r) (items t) held now
    by true h is = keeps_on (items s) (Some r) (items t) held now is
    by false h is =
        let none = neither (not (is_empty r.acts)) (changes_more r (sizes s) t) h in
        keeps_touched (items s) (Some r) (items t) (touched r (sizes s) t) held now (λ n. untouched known r s t on n e none.0 none.1) is
