-- Matches change nothing but the notes, so that a rule whose matches do not hold changes nothing else.
use Rattle.std.proofs.Common.{◌≡◌, Bool, true, false, cond, ◌||◌, ◌&&◌, List, [], ◌∷◌, None, refl, ap, sym, ◌∙◌}
use Rattle.std.specs.List.{list_all, list_any}
use Rattle.builtin_devices.specs.Knowledge.{Known}
use Rattle.rule_types.specs.declared.roles.PlainKey.{PlainKey}
use Rattle.rule_types.specs.declared.roles.PlainKey.TheVariants as plain
use Rattle.rule_types.specs.declared.part.PlainMatch.{PlainMatch}
use Rattle.rule_types.specs.Rules.{Rule}
use Rattle.eval_state.specs.declared.state.State.{State}
use Rattle.eval_rendering.specs.Holding.{holds}
use Rattle.eval_rendering.specs.Subjects.{plain_subject}
use Rattle.eval_state.specs.declared.notes.Note.{Note}
use Rattle.eval_state.specs.declared.scene.Scene.{Scene}
use Rattle.eval_acts.specs.Acts.{act_step}
use Rattle.eval_acts.specs.Reaching.{match_reached}
use Rattle.eval_rendering.specs.Attributes.{is_not_read}
use Rattle.eval_rendering.specs.Subjects.{is_not_given}
use Rattle.eval_state.specs.Scenes.{noted}
use Rattle.eval_state.specs.declared.note_kind.NoteKind.TheVariants.{AttributeNotRead, ConstantNotGiven}
use Rattle.eval_rules.specs.Idle.{is_idle}
use Rattle.eval_rules.specs.Steps.{Went, apply, if_proceeding, only_noted, plain_step, result_step, search, set_all, steps, walk}
use Rattle.eval_rules.specs.Jumps.{run, sought_after}
use Rattle.eval_rules.specs.Laws.{SameButNotes, SameOutcomeButNotes, plain_hold}
use Rattle.eval_rules.specs.Outcomes.{outcome_of}

-- a scene with these notes alone
abbrev noting : List Note → Scene → Scene
noting notes s = record s { notes = notes }

abbrev all_hold : State → List PlainMatch → Bool
all_hold state parts = list_all (λ part. holds (plain_subject part.key state) part.wanted) parts

reached_same : (r : Rule) (k : PlainKey) (notes : List Note) (s : Scene) → noting notes (match_reached r k s) ≡ noting notes s
reached_same r (plain.Sysctl name) notes s = refl
reached_same r (plain.Attr name) notes s = by (is_not_read name s.state.event)
  where
    by : (b : Bool) → noting notes (cond b (noted r AttributeNotRead name s) s) ≡ noting notes s
    by true = refl
    by false = refl
reached_same r (plain.Const name) notes s = by (is_not_given name s.state.event)
  where
    by : (b : Bool) → noting notes (cond b (noted r ConstantNotGiven name s) s) ≡ noting notes s
    by true = refl
    by false = refl
reached_same r k notes s = refl

reached_state : (r : Rule) (k : PlainKey) (s : Scene) → (match_reached r k s).state ≡ s.state
reached_state r k s = ap (λ (t : Scene). t.state) (reached_same r k [] s)

step_same : (r : Rule) (part : PlainMatch) (notes : List Note) (s : Scene) → noting notes (plain_step r part s).0 ≡ noting notes s
unfolding plain_step
step_same r part notes s = reached_same r part.key notes s

if_proceeding_same : (f : Scene → Went) (notes : List Note) → ((t : Scene) → noting notes (f t).0 ≡ noting notes t) → (s t : Scene) (b : Bool) → noting notes t ≡ noting notes s → noting notes (if_proceeding f (t, b)).0 ≡ noting notes s
if_proceeding_same f notes h s t true e = h t ∙ e
if_proceeding_same f notes h s t false e = e

-- matches one after another change nothing else
pub walk_same : (r : Rule) (parts : List PlainMatch) (notes : List Note) (s : Scene) → noting notes (walk (plain_step r) parts s).0 ≡ noting notes s
unfolding walk
walk_same r [] notes s = refl
walk_same r (part ∷ parts) notes s =
    if_proceeding_same (walk (plain_step r) parts) notes (walk_same r parts notes) s (plain_step r part s).0 (plain_step r part s).1 (step_same r part notes s)

-- and the rule goes on exactly if all of them hold
pub walk_holds : (r : Rule) (parts : List PlainMatch) (s : Scene) → (walk (plain_step r) parts s).1 ≡ all_hold s.state parts
unfolding walk plain_step
walk_holds r [] s = refl
walk_holds r (part ∷ parts) s = by (holds (plain_subject part.key s.state) part.wanted) (walk_holds r parts (match_reached r part.key s))
  where
    by : (b : Bool) → (walk (plain_step r) parts (match_reached r part.key s)).1 ≡ all_hold (match_reached r part.key s).state parts
        → (if_proceeding (walk (plain_step r) parts) (match_reached r part.key s, b)).1 ≡ (b && all_hold s.state parts)
    by true h = h ∙ ap (λ state. all_hold state parts) (reached_state r part.key s)
    by false h = refl

stopped : (f g h i : Scene → Went) (w : Went) → w.1 ≡ false → if_proceeding f (if_proceeding g (if_proceeding h (if_proceeding i w))) ≡ w
stopped f g h i w n = ap (λ b. if_proceeding f (if_proceeding g (if_proceeding h (if_proceeding i (w.0, b))))) n ∙ ap (λ b. (w.0, b)) (sym n)

steps_stop : (known : Known) (r : Rule) (s : Scene) → plain_hold s.state r ≡ false → steps known r s ≡ walk (plain_step r) r.plain s
unfolding steps
steps_stop known r s h =
    stopped (set_all r) (walk result_step r.results) (walk (act_step known r) r.acts) (search r.up) (walk (plain_step r) r.plain s) (walk_holds r r.plain s ∙ h)

-- a rule whose matches of the event do not all hold
pub unmatched : (known : Known) (r : Rule) (s : Scene) → plain_hold s.state r ≡ false → SameButNotes s (apply known r s).0
unfolding apply
unmatched known r s h = by (is_idle r s.state.event)
  where
    by : (b : Bool) → SameButNotes s (cond b (only_noted known r s) (steps known r s)).0
    by true = refl
    by false = ap (λ (w : Went). noting s.notes w.0) (steps_stop known r s h) ∙ walk_same r r.plain s.notes s

-- its end is not reached
unmatched_stops : (known : Known) (r : Rule) (s : Scene) → plain_hold s.state r ≡ false → (apply known r s).1 ≡ false
unfolding apply
unmatched_stops known r s h = by (is_idle r s.state.event)
  where
    by : (b : Bool) → (cond b (only_noted known r s) (steps known r s)).1 ≡ false
    by true = refl
    by false = ap (λ (w : Went). w.1) (steps_stop known r s h) ∙ walk_holds r r.plain s ∙ h

none_holds : (known : Known) (rules : List Rule) (s : Scene) → list_any (plain_hold s.state) rules ≡ false → SameButNotes s (run known None rules s)
unfolding run
none_holds known [] s h = refl
none_holds known (r ∷ rs) s h = by (none_holds known rs) (plain_hold s.state r) refl h
  where
    t : Scene
    t = (apply known r s).0

    by : ((u : Scene) → list_any (plain_hold u.state) rs ≡ false → SameButNotes u (run known None rs u)) → (b : Bool) → plain_hold s.state r ≡ b → (b || list_any (plain_hold s.state) rs) ≡ false
        → SameButNotes s (run known (sought_after (apply known r s).1 r) rs t)
    by more true e none = cc none
    by more false e none =
        let same : SameButNotes s t = unmatched known r s e in
        let state : t.state ≡ s.state = ap (λ (u : Scene). u.state) same in
        let on : (apply known r s).1 ≡ false = unmatched_stops known r s e in
        let rest : SameButNotes t (run known None rs t) = more t (ap (λ u. list_any (plain_hold u) rs) state ∙ none) in
        ap (λ b. noting s.notes (run known (sought_after b r) rs t)) on ∙ ap (noting s.notes) rest ∙ same

-- rules of which none has matches that hold
pub nothing_matches : (known : Known) (rules : List Rule) (s : Scene) → list_any (plain_hold s.state) rules ≡ false → SameOutcomeButNotes (outcome_of s) (outcome_of (run known None rules s))
unfolding outcome_of
nothing_matches known rules s h = ap (λ (u : Scene). record (outcome_of u) { notes = (outcome_of s).notes }) (none_holds known rules s h)
