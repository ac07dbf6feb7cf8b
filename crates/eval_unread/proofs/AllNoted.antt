-- A watcher that notes what searches and assignments ask for notes it of all rules.
use Rattle.std.proofs.Common.{◌≡◌, Bool, true, false, cond, List, [], ◌∷◌, ◌++◌, Option, None, append_assoc, append-nil, refl, ap, sym, ◌∙◌}
use Rattle.text_bytes.specs.Text.{Text}
use Rattle.builtin_devices.specs.Knowledge.{Known}
use Rattle.rule_types.specs.Rules.{Rule}
use Rattle.eval_state.specs.declared.notes.Note.{Note}
use Rattle.eval_state.specs.declared.scene.Scene.{Scene}
use Rattle.eval_acts.specs.Unread.{unread_notes}
use Rattle.eval_acts.specs.Acts.{act_step}
use Rattle.eval_rules.specs.Idle.{is_idle}
use Rattle.eval_rules.specs.Jumps.{is_passed, sought_after}
use Rattle.eval_rules.specs.Steps.{Went, apply, before_sets, if_proceeding, only_noted, plain_step, result_step, search, set_all, steps, walk}
use Rattle.eval_rules.specs.Watched.{Seen, acted, apply_watched, assigned_watched, comparing, keys_watched, meeting, run_watched, searching, skip_told, skipped, skipped_watched, stopped, told}
use Rattle.eval_unread.specs.Inner.{noting}
use Rattle.eval_unread.specs.Unread.{rule_unread, rules_unread, search_unread, searched_unread, unread_after}

module _ (notes : List Note) where
  abbrev pub beside : Went → Seen (List Note)
  beside went = ((went.0, notes), went.1)

  on_quiet : (next : Scene → Went) (watched : Scene × List Note → Seen (List Note)) → ((s : Scene) → watched (s, notes) ≡ beside (next s)) → (went : Went)
      → if_proceeding watched (beside went) ≡ beside (if_proceeding next went)
  on_quiet next watched h went = by went.1
    where
      by : (b : Bool) → cond b (watched (went.0, notes)) ((went.0, notes), b) ≡ beside (cond b (next went.0) (went.0, b))
      by true = h went.0
      by false = refl

  walk_quiet : {P : Type 0} (step : P → Scene → Went) (watched : P → Scene × List Note → Seen (List Note)) → ((part : P) (s : Scene) → watched part (s, notes) ≡ beside (step part s))
      → (parts : List P) (s : Scene) → walk watched parts (s, notes) ≡ beside (walk step parts s)
  unfolding walk
  walk_quiet step watched h [] s = refl
  walk_quiet step watched h (part ∷ parts) s =
      ap (if_proceeding (walk watched parts)) (h part s) ∙ on_quiet (walk step parts) (walk watched parts) (walk_quiet step watched h parts) (step part s)

module _ (known : Known) (r : Rule) (s : Scene) (notes : List Note) where
  -- the search leaves its note, if the rule goes on to it
  searches : (went : Went) → if_proceeding (told noting (λ parts went. searching r) search r.up) (beside notes went) ≡ beside (notes ++ searched_unread r went) (if_proceeding (search r.up) went)
  searches went = by went.1
    where
      by : (b : Bool) → cond b (told noting (λ parts went. searching r) search r.up (went.0, notes)) ((went.0, notes), b)
          ≡ beside (notes ++ cond b (unread_notes r (search_unread r.up went.0.state)) []) (cond b (search r.up went.0) (went.0, b))
      by true = refl
      by false = ap (λ (left : List Note). ((went.0, left), false)) (sym (append-nil notes))

  -- what its keys leave
  abbrev found : List Note
  found = searched_unread r (walk (plain_step r) r.plain s)

  keys_are : keys_watched noting known r (s, notes) ≡ beside (notes ++ found) (before_sets known r s)
  keys_are =
      let left : List Note = notes ++ found in
      let matched : Went = walk (plain_step r) r.plain s in
      let searched : Went = if_proceeding (search r.up) matched in
      let done : Went = if_proceeding (walk (act_step known r) r.acts) searched in
      let search_watched : Scene × List Note → Seen (List Note) = told noting (λ parts went. searching r) search r.up in
      let acts_watched : Scene × List Note → Seen (List Note) = walk (told noting (acted r) (act_step known r)) r.acts in
      let results_watched : Scene × List Note → Seen (List Note) = walk (told noting (λ part went. comparing r part) result_step) r.results in
      ap (λ (went : Seen (List Note)). if_proceeding results_watched (if_proceeding acts_watched (if_proceeding search_watched went)))
      (walk_quiet notes (plain_step r) (told noting (λ part went. meeting r part) (plain_step r)) (λ part t. refl) r.plain s)
      ∙ ap (λ (went : Seen (List Note)). if_proceeding results_watched (if_proceeding acts_watched went)) (searches matched)
      ∙ ap (λ (went : Seen (List Note)). if_proceeding results_watched went)
      (on_quiet left (walk (act_step known r) r.acts) acts_watched (walk_quiet left (act_step known r) (told noting (acted r) (act_step known r)) (λ part t. refl) r.acts) searched)
      ∙ on_quiet left (walk result_step r.results) results_watched (walk_quiet left result_step (told noting (λ part went. comparing r part) result_step) (λ part t. refl) r.results) done

  -- its assignments leave theirs, if it goes on to them
  ends : (left : List Note) (went : Went) → assigned_watched noting r (beside left went) ≡ beside (left ++ unread_after r went) (if_proceeding (set_all r) went)
  ends left went = by went.1
    where
      by : (b : Bool) → assigned_watched noting r (beside left (went.0, b)) ≡ beside (left ++ unread_after r (went.0, b)) (if_proceeding (set_all r) (went.0, b))
      by true = refl
      by false = ap (λ (all : List Note). ((went.0, all), false)) (sym (append-nil left))

  skips : (left : List Note) (went : Went) → skip_told noting r (beside left went) ≡ left
  skips left went = by went.1
    where
      by : (b : Bool) → noting left (cond b (skipped r) (stopped r)) went.0 ≡ left
      by true = refl
      by false = refl

  rule_is : apply_watched noting known r (s, notes) ≡ beside (notes ++ rule_unread known r s) (apply known r s)
  unfolding apply apply_watched steps rule_unread
  rule_is = by (is_idle r s.state.event)
    where
      by : (b : Bool) → cond b (skipped_watched noting known r (s, notes)) (assigned_watched noting r (keys_watched noting known r (s, notes)))
          ≡ beside (notes ++ (found ++ cond b [] (unread_after r (before_sets known r s)))) (cond b (only_noted known r s) (steps known r s))
      by true =
          ap (λ (went : Seen (List Note)). (((only_noted known r s).0, skip_told noting r went), false)) keys_are
          ∙ ap (λ (left : List Note). (((only_noted known r s).0, left), false))
          (skips (notes ++ found) (before_sets known r s) ∙ ap (λ (left : List Note). notes ++ left) (sym (append-nil found)))
      by false =
          ap (assigned_watched noting r) keys_are
          ∙ ends (notes ++ found) (before_sets known r s)
          ∙ ap (λ (left : List Note). (((steps known r s).0, left), (steps known r s).1)) (append_assoc notes found (unread_after r (before_sets known r s)))

module _ (known : Known) where
  rules_are : (rules : List Rule) (sought : Option Text) (s : Scene) (notes : List Note) → (run_watched noting known sought rules (s, notes)).1 ≡ notes ++ rules_unread known sought rules s
  unfolding run_watched rules_unread
  rules_are [] sought s notes = sym (append-nil notes)
  rules_are (r ∷ rs) sought s notes =
      by (is_passed sought r) (rules_are rs sought s notes) (rules_are rs (sought_after (apply known r s).1 r) (apply known r s).0 (notes ++ rule_unread known r s))
    where
      holds : Option Text → Scene → List Note → Type 0
      holds wanted t before = (run_watched noting known wanted rs (t, before)).1 ≡ before ++ rules_unread known wanted rs t

      by : (b : Bool) → holds sought s notes → holds (sought_after (apply known r s).1 r) (apply known r s).0 (notes ++ rule_unread known r s)
          → (cond b (run_watched noting known sought rs (s, notes)) (run_watched noting known (sought_after (apply_watched noting known r (s, notes)).1 r) rs (apply_watched noting known r (s, notes)).0)).1
          ≡ notes ++ cond b (rules_unread known sought rs s) (rule_unread known r s ++ rules_unread known (sought_after (apply known r s).1 r) rs (apply known r s).0)
      by true over through = over
      by false over through =
          ap (λ (went : Seen (List Note)). (run_watched noting known (sought_after went.1 r) rs went.0).1) (rule_is known r s notes)
          ∙ through
          ∙ append_assoc notes (rule_unread known r s) (rules_unread known (sought_after (apply known r s).1 r) rs (apply known r s).0)

  -- all that was noted, after what was there
  pub all_noted : (rules : List Rule) (s t : Scene) (before after noted : List Note) → (t, after) ≡ run_watched noting known None rules (s, before) → noted ≡ after → noted ≡ before ++ rules_unread known None rules s
  all_noted rules s t before after noted is taken = taken ∙ ap (λ (at : Scene × List Note). at.1) is ∙ rules_are rules None s before
