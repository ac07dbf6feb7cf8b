-- A rule that can have changed no item leaves all of them.
use Rattle.std.proofs.Common.{◌≡◌, Bool, true, false, not, ◌||◌, ◌&&◌, List, [], ◌∷◌, None, fold, cond, refl, ap, sym, ◌∙◌}
use Rattle.text_bytes.specs.Texts.{is_empty}
use Rattle.builtin_devices.specs.Knowledge.{Known}
use Rattle.rule_types.specs.declared.roles.PlainKey.{PlainKey}
use Rattle.rule_types.specs.declared.roles.PlainKey.TheVariants as plain
use Rattle.rule_types.specs.declared.part.Act.{Act}
use Rattle.rule_types.specs.declared.part.Assignment.{Assignment}
use Rattle.rule_types.specs.declared.part.Comparison.{Comparison}
use Rattle.rule_types.specs.declared.part.PlainMatch.{PlainMatch}
use Rattle.rule_types.specs.declared.part.UpMatch.{UpMatch}
use Rattle.rule_types.specs.Rules.{Rule}
use Rattle.eval_rendering.specs.Attributes.{is_not_read}
use Rattle.eval_rendering.specs.Subjects.{is_not_given}
use Rattle.eval_state.specs.Scenes.{noted}
use Rattle.eval_state.specs.declared.note_kind.NoteKind.TheVariants.{AttributeNotRead, ConstantNotGiven}
use Rattle.eval_state.specs.declared.scene.Scene.{Scene}
use Rattle.eval_acts.specs.Acts.{act_step}
use Rattle.eval_acts.specs.Reaching.{match_reached}
use Rattle.eval_assignments.specs.Steps.{set_step}
use Rattle.eval_rules.specs.Idle.{is_idle}
use Rattle.eval_rules.specs.Steps.{Went, apply, only_noted, if_proceeding, plain_step, result_step, search, set_all, steps, before_sets, walk, with_selected}
use Rattle.eval_sources.specs.Inner.{can_change}
use Rattle.eval_sources.specs.Touched.{sizes}
use Rattle.eval_effects.specs.Items.{items, node_items}

-- a scene without what matches change in it: its notes, and which device is selected
abbrev pub quiet : Scene → Scene
quiet s = record s { notes = []; state = with_selected None s.state }

items_quiet : (s : Scene) → items (quiet s) ≡ items s
unfolding items node_items
items_quiet s = refl

reached_quiet : (r : Rule) (k : PlainKey) (s : Scene) → quiet (match_reached r k s) ≡ quiet s
reached_quiet r (plain.Sysctl name) s = refl
reached_quiet r (plain.Attr name) s = by (is_not_read name s.state.event)
  where
    by : (b : Bool) → quiet (cond b (noted r AttributeNotRead name s) s) ≡ quiet s
    by true = refl
    by false = refl
reached_quiet r (plain.Const name) s = by (is_not_given name s.state.event)
  where
    by : (b : Bool) → quiet (cond b (noted r ConstantNotGiven name s) s) ≡ quiet s
    by true = refl
    by false = refl
reached_quiet r k s = refl

plain_quiet : (r : Rule) (part : PlainMatch) (s : Scene) → quiet (plain_step r part s).0 ≡ quiet s
unfolding plain_step
plain_quiet r part s = reached_quiet r part.key s

result_quiet : (part : Comparison) (s : Scene) → quiet (result_step part s).0 ≡ quiet s
unfolding result_step
result_quiet part s = refl

search_quiet : (parts : List UpMatch) (s : Scene) → quiet (search parts s).0 ≡ quiet s
search_quiet [] s = refl
search_quiet (part ∷ parts) s = refl

if_proceeding_quiet : (next : Scene → Went) → ((t : Scene) → quiet (next t).0 ≡ quiet t) → (s : Scene) (w : Went) → quiet w.0 ≡ quiet s → quiet (if_proceeding next w).0 ≡ quiet s
if_proceeding_quiet next h s w e = by w.1
  where
    by : (b : Bool) → quiet (cond b (next w.0) w).0 ≡ quiet s
    by true = h w.0 ∙ e
    by false = e

walk_quiet : {P : Type 0} (step : P → Scene → Went) → ((p : P) (t : Scene) → quiet (step p t).0 ≡ quiet t) → (parts : List P) (s : Scene) → quiet (walk step parts s).0 ≡ quiet s
unfolding walk
walk_quiet step h [] s = refl
walk_quiet step h (part ∷ parts) s = if_proceeding_quiet (walk step parts) (walk_quiet step h parts) s (step part s) (h part s)

acts_quiet : (known : Known) (r : Rule) (acts : List Act) (s : Scene) → not (is_empty acts) ≡ false → quiet (walk (act_step known r) acts s).0 ≡ quiet s
unfolding walk
acts_quiet known r [] s h = refl
acts_quiet known r (act ∷ acts) s h = cc

sets_quiet : (r : Rule) (sets : List Assignment) (s : Scene) → not (is_empty sets) ≡ false → fold (set_step r) s sets ≡ s
sets_quiet r [] s h = refl
sets_quiet r (set ∷ sets) s h = cc

end_quiet : (r : Rule) (s : Scene) (w : Went) → quiet w.0 ≡ quiet s → ((if_proceeding (set_all r) w).1 && not (is_empty r.sets)) ≡ false → quiet (if_proceeding (set_all r) w).0 ≡ quiet s
end_quiet r s w e h = by w.1 h
  where
    by : (b : Bool) → ((cond b (set_all r w.0) w).1 && not (is_empty r.sets)) ≡ false → quiet (cond b (set_all r w.0) w).0 ≡ quiet s
    by true none = ap quiet (sets_quiet r r.sets w.0 none) ∙ e
    by false none = e

neither : (a b : Bool) → (a || b) ≡ false → (a ≡ false) × (b ≡ false)
neither true b h = cc
neither false b h = (refl, h)

-- the keys of a rule that does not act leave all items
pub keys_quiet : (known : Known) (r : Rule) (s : Scene) → not (is_empty r.acts) ≡ false → quiet (before_sets known r s).0 ≡ quiet s
keys_quiet known r s none =
    let plains = walk_quiet (plain_step r) (plain_quiet r) r.plain s in
    let ups = if_proceeding_quiet (search r.up) (search_quiet r.up) s _ plains in
    let acted = if_proceeding_quiet (walk (act_step known r) r.acts) (λ u. acts_quiet known r r.acts u none) s _ ups in
    if_proceeding_quiet (walk result_step r.results) (walk_quiet result_step result_quiet r.results) s _ acted

abbrev Quietly : Rule → Scene → Went → Type 0
Quietly r s w = can_change w.1 r ≡ false → quiet w.0 ≡ quiet s

steps_quiet : (known : Known) (r : Rule) (s : Scene) → Quietly r s (steps known r s)
unfolding steps
steps_quiet known r s h =
    let none = neither (not (is_empty r.acts)) ((steps known r s).1 && not (is_empty r.sets)) h in
    end_quiet r s (before_sets known r s) (keys_quiet known r s none.0) none.1

apply_quiet : (known : Known) (r : Rule) (s : Scene) → Quietly r s (apply known r s)
unfolding apply
apply_quiet known r s = by (is_idle r s.state.event)
  where
    by : (b : Bool) → Quietly r s (cond b (only_noted known r s) (steps known r s))
    by true h = refl
    by false h = steps_quiet known r s h

-- such a rule leaves as many links and tags
pub sizes_stay : (known : Known) (r : Rule) (s t : Scene) (on : Bool) → (t, on) ≡ apply known r s → can_change on r ≡ false → sizes t ≡ sizes s
sizes_stay known r s t on e h =
    let all = apply_quiet known r s (ap (λ (w : Went). can_change w.1 r) (sym e) ∙ h) in
    ap (λ (w : Went). sizes w.0) e ∙ ap sizes all

-- such a rule leaves all items
pub items_stay : (known : Known) (r : Rule) (s t : Scene) (on : Bool) → (t, on) ≡ apply known r s → can_change on r ≡ false → items t ≡ items s
items_stay known r s t on e h =
    let all = apply_quiet known r s (ap (λ (w : Went). can_change w.1 r) (sym e) ∙ h) in
    ap (λ (w : Went). items w.0) e ∙ sym (items_quiet (apply known r s).0) ∙ ap items all ∙ items_quiet s
