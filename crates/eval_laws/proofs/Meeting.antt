-- The end of a rule is reached where all its keys let it go on.
use Rattle.std.proofs.Common.{◌≡◌, ◌↔◌, ℕ, nat_lt, ltb-true, ltb-false, Bool, true, false, cond, ◌&&◌, List, [], ◌∷◌, Option, Some, None, is_some, length, refl, ap, sym, subst, ◌∙◌, true≢false, arith}
use Rattle.std.specs.List.{fold, list_all}
use Rattle.text_bytes.specs.declared.profile.Profile.{Profile}
use Rattle.text_bytes.specs.declared.profile.Profile.TheVariants.{Manual}
use Rattle.builtin_devices.specs.Knowledge.{Known}
use Rattle.device_core.specs.Values.{EventValue, chain}
use Rattle.rule_types.specs.declared.part.Act.{Act}
use Rattle.rule_types.specs.declared.part.Comparison.{Comparison}
use Rattle.rule_types.specs.declared.part.PlainMatch.{PlainMatch}
use Rattle.rule_types.specs.declared.part.UpMatch.{UpMatch}
use Rattle.rule_types.specs.Rules.{Rule}
use Rattle.eval_state.specs.declared.state.State.{State}
use Rattle.eval_rendering.specs.Holding.{holds, one}
use Rattle.eval_rendering.specs.Laws.{IsFirstToMeet}
use Rattle.eval_rendering.specs.Subjects.{found_place, holds_at, plain_subject}
use Rattle.eval_rendering.proofs.Finding.{found_first, none_found}
use Rattle.eval_state.specs.declared.scene.Scene.{Scene}
use Rattle.eval_acts.specs.Acts.{act_step}
use Rattle.eval_acts.specs.Reaching.{match_reached}
use Rattle.eval_assignments.specs.Steps.{set_step}
use Rattle.eval_rules.specs.Idle.{is_idle, is_idle_by}
use Rattle.eval_rules.specs.Steps.{Went, apply, if_proceeding, only_noted, plain_step, result_step, search, set_all, steps, walk, with_selected}
use Rattle.eval_rules.specs.Laws.{IsMetByOneDevice}
use Rattle.eval_laws.specs.Reaching.{AllGoOn, IsSearched, LetGoOn, matched}
use Rattle.eval_laws.proofs.Unmatched.{walk_holds, walk_same}

-- a step after one that goes on
on : (f : Scene → Went) (w : Went) (s : Scene) → w ≡ (s, true) → if_proceeding f w ≡ f s
on f w s e = ap (λ (x : Went). if_proceeding f x) e

-- a rule that goes on after a step went on before it
went_on : (f : Scene → Went) (w : Went) → (if_proceeding f w).1 ≡ true → (w.1 ≡ true) × ((f w.0).1 ≡ true)
went_on f w = by w.1
  where
    by : (b : Bool) → (cond b (f w.0) (w.0, b)).1 ≡ true → (b ≡ true) × ((f w.0).1 ≡ true)
    by true h = (refl, h)
    by false h = absurd (true≢false (sym h))

pairs : (w : Went) → w.1 ≡ true → w ≡ (w.0, true)
pairs w e = ap (λ b. (w.0, b)) e

-- the matches of the event
plain_on : (r : Rule) (parts : List PlainMatch) (s : Scene) → (walk (plain_step r) parts s).1 ≡ true
    → walk (plain_step r) parts s ≡ (fold (λ at (part : PlainMatch). match_reached r part.key at) s parts, true)
unfolding walk plain_step
plain_on r [] s h = refl
plain_on r (part ∷ parts) s h = by (plain_on r parts (match_reached r part.key s)) (holds (plain_subject part.key s.state) part.wanted) h
  where
    by : ((walk (plain_step r) parts (match_reached r part.key s)).1 ≡ true → walk (plain_step r) parts (match_reached r part.key s) ≡ (fold (λ at (p : PlainMatch). match_reached r p.key at) (match_reached r part.key s) parts, true))
        → (b : Bool) → (if_proceeding (walk (plain_step r) parts) (match_reached r part.key s, b)).1 ≡ true
        → if_proceeding (walk (plain_step r) parts) (match_reached r part.key s, b) ≡ (fold (λ at (p : PlainMatch). match_reached r p.key at) (match_reached r part.key s) parts, true)
    by more true h = more h
    by more false h = absurd (true≢false (sym h))

-- which leave nothing but notes
plain_let : (r : Rule) (s : Scene) → (walk (plain_step r) r.plain s).1 ≡ true → walk (plain_step r) r.plain s ≡ (matched r s, true)
plain_let r s h =
    let left : Scene = fold (λ at (part : PlainMatch). match_reached r part.key at) s r.plain in
    let whole : walk (plain_step r) r.plain s ≡ (left, true) = plain_on r r.plain s h in
    whole ∙ ap (λ (t : Scene). (t, true)) (sym (ap (λ (w : Went). record w.0 { notes = left.notes }) whole) ∙ walk_same r r.plain left.notes s)

-- a search that finds a device
met : (parts : List UpMatch) (state : State) (place : ℕ) → found_place parts state ≡ Some place → IsFirstToMeet parts state place
unfolding found_place
met parts state place found =
    let first = found_first (λ n. list_all (holds_at state n) parts) (length (chain state.event)) place found in
    record { in_chain = first.0; meets = first.1; first = first.2 }

-- the nearest device is the one that is found
one_is_found : (parts : List UpMatch) (state : State) (place : ℕ) → IsFirstToMeet parts state place → found_place parts state ≡ None → ⊥
unfolding found_place
one_is_found parts state place first e =
    true≢false (sym first.meets ∙ (none_found (λ n. list_all (holds_at state n) parts) (length (chain state.event))).0 e place first.in_chain)

same_place : (parts : List UpMatch) (state : State) (place other : ℕ) → IsFirstToMeet parts state place → IsFirstToMeet parts state other
    → (a b : Bool) → nat_lt other place ≡ a → nat_lt place other ≡ b → other ≡ place
same_place parts state place other first is true b e f = absurd (true≢false (sym is.meets ∙ first.first other (ltb-true other place e)))
same_place parts state place other first is false true e f = absurd (true≢false (sym first.meets ∙ is.first place (ltb-true place other f)))
same_place parts state place other first is false false e f = let x = ltb-false other place e in let y = ltb-false place other f in omega (arith, x, y)

found_is : (parts : List UpMatch) (state : State) (place : ℕ) → IsFirstToMeet parts state place → found_place parts state ≡ Some place
found_is parts state place first = by (found_place parts state) refl
  where
    by : (o : Option ℕ) → found_place parts state ≡ o → found_place parts state ≡ Some place
    by None e = absurd (one_is_found parts state place first e)
    by (Some other) e = e ∙ ap Some (same_place parts state place other first (met parts state other e) (nat_lt other place) (nat_lt place other) refl refl)

search_found : (parts : List UpMatch) (s : Scene) → (search parts s).1 ≡ true → IsSearched parts s (search parts s).0
search_found [] s h = refl
search_found (part ∷ parts) s h = by (found_place (part ∷ parts) s.state) refl h
  where
    by : (o : Option ℕ) → found_place (part ∷ parts) s.state ≡ o → is_some o ≡ true
        → (is : IsMetByOneDevice (part ∷ parts) s.state) × (record s { state = with_selected o s.state } ≡ record s { state = with_selected (Some is.place) s.state })
    by None e h = absurd (true≢false (sym h))
    by (Some place) e h = (record { place = place; first = met (part ∷ parts) s.state place e }, refl)

searched_is : (parts : List UpMatch) (s found : Scene) → IsSearched parts s found → search parts s ≡ (found, true)
searched_is [] s found is = ap (λ t. (t, true)) (sym is)
searched_is (part ∷ parts) s found is =
    ap (λ (o : Option ℕ). (record s { state = with_selected o s.state }, is_some o)) (found_is (part ∷ parts) s.state is.0.place is.0.first)
    ∙ ap (λ t. (t, true)) (sym is.1)

-- what acts
acts_on : (known : Known) (r : Rule) (acts : List Act) (s : Scene) → (walk (act_step known r) acts s).1 ≡ true → AllGoOn known r acts s (walk (act_step known r) acts s).0
unfolding walk
acts_on known r [] s h = refl
acts_on known r (act ∷ acts) s h =
    let w : Went = act_step known r act s in
    let step = went_on (walk (act_step known r) acts) w h in
    (step.0, subst (λ (e : Went). AllGoOn known r acts w.0 e.0) (sym (on (walk (act_step known r) acts) w w.0 (pairs w step.0))) (acts_on known r acts w.0 step.1))

acts_done : (known : Known) (r : Rule) (acts : List Act) (s done : Scene) → AllGoOn known r acts s done → walk (act_step known r) acts s ≡ (done, true)
unfolding walk
acts_done known r [] s done is = ap (λ t. (t, true)) (sym is)
acts_done known r (act ∷ acts) s done is =
    let w : Went = act_step known r act s in
    on (walk (act_step known r) acts) w w.0 (pairs w is.0) ∙ acts_done known r acts w.0 done is.1

-- the matches of the result
results_are : (parts : List Comparison) (s : Scene) → walk result_step parts s ≡ (s, list_all (holds (one s.state.result)) parts)
unfolding walk result_step
results_are [] s = refl
results_are (part ∷ parts) s = by (results_are parts s) (holds (one s.state.result) part)
  where
    by : walk result_step parts s ≡ (s, list_all (holds (one s.state.result)) parts) → (b : Bool)
        → if_proceeding (walk result_step parts) (s, b) ≡ (s, b && list_all (holds (one s.state.result)) parts)
    by more true = more
    by more false = refl

module _ (known : Known) (r : Rule) (s : Scene) where
  -- a rule that is not skipped
  kept : is_idle r s.state.event ≡ false → apply known r s ≡ steps known r s
  unfolding apply
  kept idle = ap (λ b. cond b (only_noted known r s) (steps known r s)) idle

  -- the end of a rule that is skipped is not reached
  skipped : is_idle r s.state.event ≡ true → (apply known r s).1 ≡ false
  unfolding apply
  skipped idle = ap (λ b. (cond b (only_noted known r s) (steps known r s)).1) idle

  steps_leave : (done : Scene) → LetGoOn known r s done → steps known r s ≡ (fold (set_step r) done r.sets, true)
  unfolding steps
  steps_leave done let_on =
      let w : Went = walk (plain_step r) r.plain s in
      let plain : w ≡ (matched r s, true) = plain_let r s (walk_holds r r.plain s ∙ let_on.hold) in
      let up : if_proceeding (search r.up) w ≡ (let_on.found, true) = on (search r.up) w (matched r s) plain ∙ searched_is r.up (matched r s) let_on.found let_on.searched in
      let acts : if_proceeding (walk (act_step known r) r.acts) (if_proceeding (search r.up) w) ≡ (done, true) =
      on (walk (act_step known r) r.acts) (if_proceeding (search r.up) w) let_on.found up ∙ acts_done known r r.acts let_on.found done let_on.acted in
      ap (λ e. if_proceeding (set_all r) (if_proceeding (walk result_step r.results) e)) acts
      ∙ ap (if_proceeding (set_all r)) (results_are r.results done)
      ∙ ap (λ b. if_proceeding (set_all r) (done, b)) let_on.results

  steps_let : (steps known r s).1 ≡ true → (done : Scene) × LetGoOn known r s done
  unfolding steps
  steps_let h =
      let up : Scene → Went = search r.up in
      let acts : Scene → Went = walk (act_step known r) r.acts in
      let results : Scene → Went = walk result_step r.results in
      let sets : Scene → Went = set_all r in
      let m : Scene = matched r s in
      let a : Went = walk (plain_step r) r.plain s in
      let a_on : a.1 ≡ true = (went_on up a (went_on acts (if_proceeding up a) (went_on results (if_proceeding acts (if_proceeding up a)) (went_on sets (if_proceeding results (if_proceeding acts (if_proceeding up a))) h).0).0).0).0 in
      let after_plain = ap (λ (w : Went). (if_proceeding sets (if_proceeding results (if_proceeding acts (if_proceeding up w)))).1) (sym (plain_let r s a_on)) ∙ h in
      let b : Went = up m in
      let b_on : b.1 ≡ true = (went_on acts b (went_on results (if_proceeding acts b) (went_on sets (if_proceeding results (if_proceeding acts b)) after_plain).0).0).0 in
      let after_up = ap (λ (w : Went). (if_proceeding sets (if_proceeding results (if_proceeding acts w))).1) (sym (pairs b b_on)) ∙ after_plain in
      let c : Went = acts b.0 in
      let c_on : c.1 ≡ true = (went_on results c (went_on sets (if_proceeding results c) after_up).0).0 in
      let after_acts = ap (λ (w : Went). (if_proceeding sets (if_proceeding results w)).1) (sym (pairs c c_on)) ∙ after_up in
      let d_on : (results c.0).1 ≡ true = (went_on sets (results c.0) after_acts).0 in (
        c.0,
        record {
          hold = sym (walk_holds r r.plain s) ∙ a_on;
          found = b.0;
          searched = search_found r.up m b_on;
          acted = acts_on known r r.acts b.0 c_on;
          results = sym (ap (λ (w : Went). w.1) (results_are r.results c.0)) ∙ d_on;
        },
      )

  pub all_leave : (done : Scene) → is_idle r s.state.event ≡ false → LetGoOn known r s done → apply known r s ≡ (fold (set_step r) done r.sets, true)
  all_leave done idle let_on = kept idle ∙ steps_leave done let_on

  pub all_reach : ((apply known r s).1 ≡ true) ↔ ((is_idle r s.state.event ≡ false) × ((done : Scene) × LetGoOn known r s done))
  all_reach = (forth (is_idle r s.state.event) refl, λ is. ap (λ (w : Went). w.1) (all_leave is.1.0 is.0 is.1.1))
    where
      forth : (b : Bool) → is_idle r s.state.event ≡ b → (apply known r s).1 ≡ true → (is_idle r s.state.event ≡ false) × ((done : Scene) × LetGoOn known r s done)
      forth true idle h = absurd (true≢false (sym h ∙ skipped idle))
      forth false idle h = (idle, steps_let (sym (ap (λ (w : Went). w.1) (kept idle)) ∙ h))

-- by the manual no rule is skipped
pub never_idle : (r : Rule) (event : EventValue) → event.profile ≡ Manual → is_idle r event ≡ false
unfolding is_idle_by
never_idle r event e = ap (λ (p : Profile). is_idle_by p r event) e
