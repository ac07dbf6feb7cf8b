-- What an assignment to an attribute or a parameter changed is told by the one that it writes.
use Rattle.std.proofs.Common.{◌≡◌, inl, inr, Bool, true, false, cond, List, [], ◌∷◌, ◌++◌, flat_map, Option, Some, None, is_some, codes, slice_get, refl, ap, sym, ◌∙◌}
use Rattle.std.specs.Cmp.Lexicographic.{bytes_decides}
use Rattle.std.specs.List.{AllByRecursion, IsDistinct}
use Rattle.text_bytes.specs.declared.profile.Profile.{Profile}
use Rattle.text_bytes.specs.declared.profile.Profile.TheVariants.{Manual, Udev}
use Rattle.text_bytes.specs.Text.{Text}
use Rattle.text_tables.specs.Texts.{AreOnce, same_text}
use Rattle.text_tables.specs.Pairs.{Pair, names, value_of, with_value}
use Rattle.text_tables.proofs.Found.{value_set}
use Rattle.rule_types.specs.declared.roles.Target.TheVariants as target
use Rattle.rule_types.specs.declared.part.Assignment.{Assignment}
use Rattle.rule_types.specs.declared.part.Change.{Change}
use Rattle.rule_types.specs.declared.part.Change.TheVariants as change
use Rattle.rule_types.specs.Rules.{Rule}
use Rattle.eval_state.specs.declared.finals.FinalKey.{FinalKey}
use Rattle.eval_state.specs.declared.scene.Scene.{Scene}
use Rattle.eval_state.specs.declared.state.State.{State}
use Rattle.eval_assignments.specs.Finality.{final_key}
use Rattle.eval_assignments.specs.Steps.{set_step}
use Rattle.eval_assignments.specs.Written.{Writes, written_name}
use Rattle.eval_assignments.proofs.Staying.{set_stays}
use Rattle.eval_assignments.proofs.Writing.{attributes_written, parameters_written}
use Rattle.eval_effects.specs.Changes.{Snapshot, item_changes, made_changes, removed_item, removed_text, run_changes, set_item, set_text, snapshot}
use Rattle.eval_effects.specs.Effects.{changed_text, effect, effect_by, made_text, said_left, settled_key}
use Rattle.eval_effects.specs.Items.{given_item, is_value, item_name, pair_items}
use Rattle.eval_effects.specs.Narrow.{found_about, found_snapshot, found_text, written_by, written_item}
use Rattle.eval_effects.specs.Scope.{fronts, items_about, written_items}
use Rattle.eval_effects.specs.Since.{Since}
use Rattle.eval_effects.specs.declared.scope.Fronts.{Fronts}

is_same : (a b : Text) → same_text a b ≡ true → a ≡ b
is_same a b h = (bytes_decides a b).0 h

same_self : (a : Text) → same_text a a ≡ true
same_self a = (bytes_decides a a).1 refl

module _ (w : Text) (alike : (x y : Text) → same_text (item_name w x) (item_name w y) ≡ same_text x y) where
  value_at : (ps : List Pair) (x : Text) → value_of (pair_items w ps) (item_name w x) ≡ value_of ps x
  value_at [] x = refl
  value_at (p ∷ ps) x = ap (λ b. cond b (Some p.1) (value_of (pair_items w ps) (item_name w x))) (alike x p.0) ∙ ap (cond (same_text x p.0) (Some p.1)) (value_at ps x)

  value_given : (value : Option Text) (x : Text) → value_of (given_item (item_name w x) value) (item_name w x) ≡ value
  value_given None x = refl
  value_given (Some v) x = ap (λ b. cond b (Some v) None) (alike x x ∙ same_self x)

  -- ---- names that are there once

  -- whether each name has its value in a list
  abbrev AllThere : List Pair → List Pair → Type 0
  AllThere all ps = AllByRecursion (λ p. value_of all p.0 ≡ Some p.1) ps

  there_after : (q : Pair) (all ps : List Pair) → AllByRecursion (λ t. same_text q.0 t ≡ false) (names ps) → AllThere all ps → AllThere (q ∷ all) ps
  there_after q all [] apart h = h
  there_after q all (p ∷ ps) apart h = (ap (λ b. cond b (Some q.1) (value_of all p.0)) (other p.0 apart.0) ∙ h.0, there_after q all ps apart.1 h.1)
    where
      other : (t : Text) → same_text q.0 t ≡ false → same_text t q.0 ≡ false
      other t e = by (same_text t q.0) refl
        where
          by : (b : Bool) → same_text t q.0 ≡ b → b ≡ false
          by true k = sym (ap (λ x. same_text q.0 x) (is_same t q.0 k) ∙ same_self q.0) ∙ e
          by false k = refl

  all_there : (ps : List Pair) → AreOnce (names ps) → AllThere ps ps
  unfolding IsDistinct
  all_there [] once = once
  all_there (p ∷ ps) once = (ap (λ b. cond b (Some p.1) (value_of ps p.0)) (same_self p.0), there_after p ps ps once.0 (all_there ps once.1))

  module _ (all : List Pair) where
    none_set : (ps : List Pair) → AllThere all ps → flat_map (set_item (pair_items w all)) (pair_items w ps) ≡ []
    none_set [] h = refl
    none_set (p ∷ ps) h =
        let there : is_value (value_of (pair_items w all) (item_name w p.0)) p.1 ≡ true = ap (λ v. is_value v p.1) (value_at all p.0 ∙ h.0) ∙ same_self p.1 in
        ap (λ b. cond b [] (set_text (item_name w p.0, p.1) ∷ []) ++ flat_map (set_item (pair_items w all)) (pair_items w ps)) there ∙ none_set ps h.1

    one_set : (ps : List Pair) (n t : Text) → AllThere all ps → flat_map (set_item (pair_items w all)) (pair_items w (with_value ps n t)) ≡ set_item (pair_items w all) (item_name w n, t) ++ []
    one_set [] n t h = refl
    one_set (p ∷ ps) n t h = by (same_text n p.0) refl (one_set ps n t h.1)
      where
        by : (b : Bool) → same_text n p.0 ≡ b → flat_map (set_item (pair_items w all)) (pair_items w (with_value ps n t)) ≡ set_item (pair_items w all) (item_name w n, t) ++ []
            → flat_map (set_item (pair_items w all)) (pair_items w (cond b ((p.0, t) ∷ ps) (p ∷ with_value ps n t))) ≡ set_item (pair_items w all) (item_name w n, t) ++ []
        by true e more =
            ap (λ rest. set_item (pair_items w all) (item_name w p.0, t) ++ rest) (none_set ps h.1)
            ∙ ap (λ x. set_item (pair_items w all) (item_name w x, t) ++ []) (sym (is_same n p.0 e))
        by false e more =
            let there : is_value (value_of (pair_items w all) (item_name w p.0)) p.1 ≡ true = ap (λ v. is_value v p.1) (value_at all p.0 ∙ h.0) ∙ same_self p.1 in
            ap (λ b. cond b [] (set_text (item_name w p.0, p.1) ∷ []) ++ flat_map (set_item (pair_items w all)) (pair_items w (with_value ps n t))) there ∙ more

    none_removed : (ps : List Pair) → ((x : Text) → is_some (value_of ps x) ≡ true → is_some (value_of all x) ≡ true) → (qs : List Pair) → AllThere ps qs
        → flat_map (removed_item (pair_items w all)) (pair_items w qs) ≡ []
    none_removed ps kept [] h = refl
    none_removed ps kept (q ∷ qs) h =
        let there : is_some (value_of (pair_items w all) (item_name w q.0)) ≡ true = ap is_some (value_at all q.0) ∙ kept q.0 (ap is_some h.0) in
        ap (λ b. cond b [] (removed_text (item_name w q.0) ∷ []) ++ flat_map (removed_item (pair_items w all)) (pair_items w qs)) there ∙ none_removed ps kept qs h.1

  still_there : (ps : List Pair) (n t x : Text) → is_some (value_of ps x) ≡ true → is_some (value_of (with_value ps n t) x) ≡ true
  still_there ps n t x h = ap is_some (value_set ps n t x) ∙ by (same_text x n)
    where
      by : (b : Bool) → is_some (cond b (Some t) (value_of ps x)) ≡ true
      by true = refl
      by false = h

  -- ---- what changed

  unchanged : (ps : List Pair) → AreOnce (names ps) → item_changes (pair_items w ps) (pair_items w ps) ≡ []
  unchanged ps once =
      ap (λ removed. removed ++ flat_map (set_item (pair_items w ps)) (pair_items w ps)) (none_removed ps ps (λ x h. h) ps (all_there ps once))
      ∙ none_set ps ps (all_there ps once)

  given_once : (value : Option Text) (x : Text) → item_changes (given_item (item_name w x) value) (given_item (item_name w x) value) ≡ []
  given_once None x = refl
  given_once (Some v) x =
      let there : value_of (given_item (item_name w x) (Some v)) (item_name w x) ≡ Some v = value_given (Some v) x in
      ap (λ o. (cond (is_some o) [] (removed_text (item_name w x) ∷ []) ++ []) ++ (cond (is_value o v) [] (set_text (item_name w x, v) ∷ []) ++ [])) there
      ∙ ap (λ b. cond b [] (set_text (item_name w x, v) ∷ []) ++ []) (same_self v)

  given_set : (before : Option Text) (x t : Text) → item_changes (given_item (item_name w x) before) (given_item (item_name w x) (Some t)) ≡ cond (is_value before t) [] (set_text (item_name w x, t) ∷ []) ++ []
  given_set None x t = refl
  given_set (Some v) x t =
      ap (λ o. (cond (is_some o) [] (removed_text (item_name w x) ∷ []) ++ []) ++ (cond (is_value (value_of (given_item (item_name w x) (Some v)) (item_name w x)) t) [] (set_text (item_name w x, t) ∷ []) ++ [])) (value_given (Some t) x)
      ∙ ap (λ o. cond (is_value o t) [] (set_text (item_name w x, t) ∷ []) ++ []) (value_given (Some v) x)

  changed_one : (ps : List Pair) (n t : Text) → AreOnce (names ps) → item_changes (pair_items w ps) (pair_items w (with_value ps n t)) ≡ cond (is_value (value_of ps n) t) [] (set_text (item_name w n, t) ∷ []) ++ []
  changed_one ps n t once =
      ap (λ removed. removed ++ flat_map (set_item (pair_items w ps)) (pair_items w (with_value ps n t))) (none_removed (with_value ps n t) ps (still_there ps n t) ps (all_there ps once))
      ∙ one_set ps ps n t (all_there ps once)
      ∙ ap (λ o. cond (is_value o t) [] (set_text (item_name w n, t) ∷ []) ++ []) (value_at ps n)

  set_here : (ps : List Pair) (n t : Text) → value_of (with_value ps n t) n ≡ Some t
  set_here ps n t = value_set ps n t n ∙ ap (λ b. cond b (Some t) (value_of ps n)) (same_self n)

  -- of all names the one that is written tells what changed
  written_tells : (written : Option Text) (was now : List Pair) → AreOnce (names was) → Writes written was now
      → item_changes (written_item w written was) (written_item w written now) ≡ item_changes (pair_items w was) (pair_items w now)
  written_tells None was now once (inl e) =
      sym (unchanged was once) ∙ ap (λ ps. item_changes (pair_items w was) (pair_items w ps)) (sym e)
  written_tells (Some n) was now once (inl e) =
      ap (λ ps. item_changes (written_item w (Some n) was) (written_item w (Some n) ps)) e
      ∙ given_once (value_of was n) n ∙ sym (unchanged was once) ∙ ap (λ ps. item_changes (pair_items w was) (pair_items w ps)) (sym e)
  written_tells written was now once (inr (n, t, is, e)) =
      ap (λ o. item_changes (written_item w o was) (written_item w o now)) is
      ∙ ap (λ ps. item_changes (given_item (item_name w n) (value_of was n)) (given_item (item_name w n) (value_of ps n))) e
      ∙ ap (λ o. item_changes (given_item (item_name w n) (value_of was n)) (given_item (item_name w n) o)) (set_here was n t)
      ∙ given_set (value_of was n) n t
      ∙ sym (changed_one was n t once)
      ∙ ap (λ ps. item_changes (pair_items w was) (pair_items w ps)) (sym e)

-- the same by a profile: by the manual the one that is named is written
attributes_tell : (profile : Profile) (name : Text) (state : State) (was now : List Pair) → AreOnce (names was) → Writes (written_name profile (target.Attr name) state) was now
    → item_changes (written_item (codes "attr") (written_name profile (target.Attr name) state) was) (written_item (codes "attr") (written_name profile (target.Attr name) state) now)
    ≡ item_changes (written_items profile (codes "attr") name was) (written_items profile (codes "attr") name now)
attributes_tell Manual name state was now once h = refl
attributes_tell Udev name state was now once h = written_tells (codes "attr") (λ a b. refl) (written_name Udev (target.Attr name) state) was now once h

parameters_tell : (profile : Profile) (name : Text) (state : State) (was now : List Pair) → AreOnce (names was) → Writes (written_name profile (target.Sysctl name) state) was now
    → item_changes (written_item (codes "sysctl") (written_name profile (target.Sysctl name) state) was) (written_item (codes "sysctl") (written_name profile (target.Sysctl name) state) now)
    ≡ item_changes (written_items profile (codes "sysctl") name was) (written_items profile (codes "sysctl") name now)
parameters_tell Manual name state was now once h = refl
parameters_tell Udev name state was now once h = written_tells (codes "sysctl") (λ a b. refl) (written_name Udev (target.Sysctl name) state) was now once h

module _ (r : Rule) (s : Scene) (a : Assignment) (f : Fronts) (attrs : AreOnce (names s.attrs)) (sysctls : AreOnce (names s.sysctls)) where
  event_same : (set_step r s a).state.event ≡ s.state.event
  event_same = set_stays r a s

  items_tell : (c : Change) → a.change ≡ c
      → item_changes (found_about (written_by c s.state) c f s) (found_about (written_by c s.state) c f (set_step r s a)) ≡ item_changes (items_about c f s) (items_about c f (set_step r s a))
  items_tell (change.Option known) e = refl
  items_tell (change.Run braces template) e = refl
  items_tell (change.Text (target.Attr name) template) e =
      attributes_tell s.state.event.profile name s.state s.attrs (set_step r s a).attrs attrs (attributes_written r s a name template e)
      ∙ ap (λ (event : _). item_changes (written_items s.state.event.profile (codes "attr") name s.attrs) (written_items event.profile (codes "attr") name (set_step r s a).attrs)) (sym event_same)
  items_tell (change.Text (target.Sysctl name) template) e =
      parameters_tell s.state.event.profile name s.state s.sysctls (set_step r s a).sysctls sysctls (parameters_written r s a name template e)
      ∙ ap (λ (event : _). item_changes (written_items s.state.event.profile (codes "sysctl") name s.sysctls) (written_items event.profile (codes "sysctl") name (set_step r s a).sysctls)) (sym event_same)
  items_tell (change.Text about template) e = refl

  -- what is said by what is written is what is said
  pub said_by_written :
      found_text (written_by a.change s.state) a.change f (found_snapshot (written_by a.change s.state) a.change f s) (set_step r s a)
      ≡ made_text a.change f (snapshot a.change f s) (set_step r s a)
  said_by_written =
      let t : Scene = set_step r s a in
      let was = snapshot a.change f s in
      let now = snapshot a.change f t in
      ap (λ items. changed_text a.change ((items ++ run_changes was.runs now.runs ++ made_changes was.made now.made) ++ said_left a.change t (slice_get t.notes was.notes))) (items_tell a.change refl)

-- what an assignment does is said by what is written
pub effect_told : (since : Since) (r : Rule) (s t : Scene) (a : Assignment) (written : Option Text) (f : Fronts) (was : Snapshot) → AreOnce (names s.attrs) → AreOnce (names s.sysctls)
    → settled_key s.finals (final_key s.state.event.profile a.change) ≡ None → written ≡ written_by a.change s.state → f ≡ fronts a.operator s → was ≡ found_snapshot written a.change f s
    → t ≡ set_step r s a → found_text written a.change f was t ≡ effect since r s a
unfolding effect
effect_told since r s t a written f was attrs sysctls none by_written by_fronts by_was by_step =
    let g : Fronts = fronts a.operator s in
    ap (λ (v : Snapshot). found_text written a.change f v t) by_was
    ∙ ap (λ (w : Option Text). found_text w a.change f (found_snapshot w a.change f s) t) by_written
    ∙ ap (λ (h : Fronts). found_text (written_by a.change s.state) a.change h (found_snapshot (written_by a.change s.state) a.change h s) t) by_fronts
    ∙ ap (λ (u : Scene). found_text (written_by a.change s.state) a.change g (found_snapshot (written_by a.change s.state) a.change g s) u) by_step
    ∙ said_by_written r s a g attrs sysctls
    ∙ sym (ap (λ (key : Option FinalKey). effect_by since r a.change key g (snapshot a.change g s) (set_step r s a)) none)
