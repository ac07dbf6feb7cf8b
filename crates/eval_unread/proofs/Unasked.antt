-- Rules that ask for no attribute of another device leave no notes by their searches and assignments.
use Rattle.std.proofs.Common.{◌≡◌, ℕ, Bool, true, false, cond, not, ◌&&◌, ◌||◌, List, [], ◌∷◌, ◌++◌, is_none, is_some, Option, Some, None, append-nil, refl, ap, sym, ◌∙◌}
use Rattle.std.specs.List.{find, list_any}
use Rattle.std.specs.Option.{option_and_then, option_or}
use Rattle.text_bytes.specs.Names.{dot, open_bracket}
use Rattle.text_bytes.specs.Texts.{begins_with}
use Rattle.text_bytes.specs.declared.profile.Profile.{Profile}
use Rattle.text_bytes.specs.declared.profile.Profile.TheVariants.{Manual, Udev}
use Rattle.text_bytes.specs.Text.{Text}
use Rattle.rule_tokens.specs.declared.piece.Piece.{Piece}
use Rattle.rule_tokens.specs.declared.piece.Piece.TheVariants as piece
use Rattle.rule_types.specs.declared.part.Assignment.{Assignment}
use Rattle.rule_types.specs.declared.part.Change.{Change}
use Rattle.rule_types.specs.declared.part.Change.TheVariants as change
use Rattle.rule_types.specs.declared.part.UpMatch.{UpMatch}
use Rattle.rule_types.specs.declared.roles.UpKey.{UpKey}
use Rattle.rule_types.specs.declared.roles.UpKey.TheVariants as up
use Rattle.rule_types.specs.Rules.{Rule}
use Rattle.device_core.specs.Values.{DeviceValue, EventValue}
use Rattle.builtin_devices.specs.Knowledge.{Known}
use Rattle.eval_state.specs.Scenes.{start}
use Rattle.eval_state.specs.declared.notes.Note.{Note}
use Rattle.eval_state.specs.declared.scene.Scene.{Scene}
use Rattle.eval_rendering.specs.Behind.{may_be_untold}
use Rattle.eval_rendering.specs.Paths.{is_unread}
use Rattle.eval_rendering.proofs.Telling.{told_name}
use Rattle.eval_state.specs.Chains.{device_at}
use Rattle.eval_state.specs.Named.{named}
use Rattle.eval_state.specs.declared.state.State.{State}
use Rattle.eval_rendering.specs.Attributes.{attribute_by, is_not_read, is_elsewhere, is_not_read_by, is_unknown, is_untold_at, written_value, own_attribute, sought, told_subject, udev_subject}
use Rattle.eval_rendering.specs.Holding.{udev_unread}
use Rattle.eval_rendering.specs.Subjects.{found_place, holds_at, tried, up_subject}
use Rattle.eval_acts.specs.Unread.{first_unread, unread_in, unread_notes}
use Rattle.eval_assignments.specs.Finality.{final_key, is_settled}
use Rattle.eval_assignments.specs.Steps.{set_step}
use Rattle.eval_rules.specs.Idle.{is_idle}
use Rattle.eval_rules.specs.Jumps.{is_passed, sought_after}
use Rattle.eval_rules.specs.Steps.{Went, apply, before_sets, plain_step, walk}
use Rattle.eval_rules.specs.declared.outcome.Outcome.{Outcome}
use Rattle.eval_unread.specs.Given.{is_of_others}
use Rattle.eval_unread.specs.Others.{ask_others, change_asks, piece_asks, rule_asks, up_asks}
use Rattle.eval_unread.specs.Unread.{is_rendered_for, rendered_pieces, name_unread, rule_unread, rules_unread, search_unread, searched_unread, unread, unread_after, unread_at, unread_place, unread_by, unread_from, unread_of, with_notes}

-- the first of two that are both false, and the second
neither : (a b : Bool) → (a || b) ≡ false → (a ≡ false) × (b ≡ false)
neither true b h = absurd (cc)
neither false b h = (refl, h)

-- what a name is that leads to no other device, and to nothing that a block does not tell
module _ (name : Text) (h : is_of_others name ≡ false) where
  no : ((begins_with open_bracket name ≡ false) × (begins_with dot name ≡ false)) × (may_be_untold name ≡ false)
  no =
      let outer = neither (begins_with open_bracket name || begins_with dot name) (may_be_untold name) h in
      (neither (begins_with open_bracket name) (begins_with dot name) outer.0, outer.1)

  both : (a x y : Bool) → a ≡ false → y ≡ false → ((a && x) || (not a && y)) ≡ false
  both true x y p q = absurd (cc)
  both false x y p q = q

  name_read : (event : EventValue) → is_not_read name event ≡ false
  unfolding is_not_read
  name_read event = by event.profile
    where
      by : (p : Profile) → is_not_read_by p name event ≡ false
      by Manual = refl
      by Udev = both (begins_with open_bracket name) _ (is_unread event event.device name) no.0.0 (told_name event event.device name no.0.1 no.1)

  untold : (event : EventValue) (device : Option DeviceValue) → is_untold_at name event device ≡ false
  untold event None = by (begins_with open_bracket name)
    where
      by : (b : Bool) → (not b && false) ≡ false
      by true = refl
      by false = refl
  untold event (Some device) = by (begins_with open_bracket name) (told_name event device name no.0.1 no.1)
    where
      by : (b : Bool) → is_unread event device name ≡ false → (not b && is_unread event device name) ≡ false
      by true told = refl
      by false told = told

  never : (a b : Bool) → a ≡ false → (a && b) ≡ false
  never true b p = absurd (cc)
  never false b p = refl

  known_there : (event : EventValue) → is_unknown name event ≡ false
  known_there event = never (begins_with open_bracket name) (is_elsewhere event (named name) && is_none (written_value event name)) no.0.0

  subject_read : (event : EventValue) (p : Profile) (device : Option DeviceValue) (own : Option Text) → name_unread (up.Attrs name) (attribute_by p name event device own) ≡ None
  unfolding udev_subject
  subject_read event Manual device own = refl
  subject_read event Udev device own =
      ap (λ (b : Bool). name_unread (up.Attrs name) (cond b udev_unread (told_subject (is_untold_at name event device) (sought name event own)))) (known_there event)
      ∙ ap (λ (b : Bool). name_unread (up.Attrs name) (told_subject b (sought name event own))) (untold event device)

piece_read : (event : EventValue) (p : Piece) → piece_asks p ≡ false → unread_in event p ≡ None
piece_read event (piece.Attr name) h = ap (λ (b : Bool). cond b (Some name) None) (name_read name h event)
piece_read event other h = refl

pieces_read : (event : EventValue) (pieces : List Piece) → list_any piece_asks pieces ≡ false → first_unread event pieces ≡ None
unfolding first_unread
pieces_read event [] h = refl
pieces_read event (p ∷ pieces) h =
    let no = neither (piece_asks p) (list_any piece_asks pieces) h in
    ap (λ (o : Option Text). option_or o (first_unread event pieces)) (piece_read event p no.0) ∙ pieces_read event pieces no.1

rendered_read : (event : EventValue) (c : Change) → change_asks c ≡ false → first_unread event (rendered_pieces c event.device) ≡ None
unfolding first_unread
rendered_read event (change.Option known) h = refl
rendered_read event (change.Text about template) h = by (is_rendered_for about event.device)
  where
    by : (b : Bool) → first_unread event (cond b template.pieces []) ≡ None
    by true = pieces_read event template.pieces h
    by false = refl
rendered_read event (change.Run braces template) h = pieces_read event template.pieces h

assignment_read : (s : Scene) (a : Assignment) → change_asks a.change ≡ false → unread_of s a ≡ None
assignment_read s a h = by (is_settled (final_key s.state.event.profile a.change) s.finals)
  where
    by : (b : Bool) → cond b None (first_unread s.state.event (rendered_pieces a.change s.state.event.device)) ≡ None
    by true = refl
    by false = rendered_read s.state.event a.change h

sets_read : (r : Rule) (sets : List Assignment) (s : Scene) → list_any (λ (a : Assignment). change_asks a.change) sets ≡ false → unread_from r sets s ≡ []
sets_read r [] s h = refl
sets_read r (a ∷ sets) s h =
    let no = neither (change_asks a.change) (list_any (λ (a : Assignment). change_asks a.change) sets) h in
    ap (λ (o : Option Text). unread_notes r o ++ unread_from r sets (set_step r s a)) (assignment_read s a no.0) ∙ sets_read r sets (set_step r s a) no.1

-- a match of one device, the matches of a rule at a device, and its search
match_read : (key : UpKey) (state : State) (place : ℕ) → up_asks key ≡ false → name_unread key (up_subject key state place) ≡ None
match_read (up.Attrs name) state place h =
    subject_read name h state.event state.event.profile (device_at state.event place) (own_attribute name (tried state place) place)
match_read other state place h = refl

at_read : (parts : List UpMatch) (state : State) (place : ℕ) → list_any (λ (part : UpMatch). up_asks part.key) parts ≡ false → unread_at parts state place ≡ None
at_read [] state place h = refl
at_read (part ∷ parts) state place h = by (holds_at state place part) (at_read parts state place no.1)
  where
    no : (up_asks part.key ≡ false) × (list_any (λ (other : UpMatch). up_asks other.key) parts ≡ false)
    no = neither (up_asks part.key) (list_any (λ (other : UpMatch). up_asks other.key) parts) h

    by : (b : Bool) → unread_at parts state place ≡ None
        → option_and_then (λ (met : UpMatch). name_unread met.key (up_subject met.key state place)) (cond (not b) (Some part) (find (λ (other : UpMatch). not (holds_at state place other)) parts)) ≡ None
    by true more = more
    by false more = match_read part.key state place no.0

search_read : (parts : List UpMatch) (state : State) → list_any (λ (part : UpMatch). up_asks part.key) parts ≡ false → search_unread parts state ≡ None
search_read parts state h = by (is_some (found_place parts state)) (unread_place parts state)
  where
    by : (b : Bool) (found : Option ℕ) → cond b None (option_and_then (unread_at parts state) found) ≡ None
    by true found = refl
    by false None = refl
    by false (Some place) = at_read parts state place h

searched_read : (r : Rule) (went : Went) → list_any (λ (part : UpMatch). up_asks part.key) r.up ≡ false → searched_unread r went ≡ []
searched_read r went h = by went.1
  where
    by : (b : Bool) → cond b (unread_notes r (search_unread r.up went.0.state)) [] ≡ []
    by true = ap (unread_notes r) (search_read r.up went.0.state h)
    by false = refl

rule_read : (known : Known) (r : Rule) (s : Scene) → rule_asks r ≡ false → rule_unread known r s ≡ []
unfolding rule_unread
rule_read known r s h =
    ap (λ (notes : List Note). notes ++ cond (is_idle r s.state.event) [] (unread_after r (before_sets known r s))) (searched_read r (walk (plain_step r) r.plain s) no.0)
    ∙ by (is_idle r s.state.event)
  where
    no : (list_any (λ (part : UpMatch). up_asks part.key) r.up ≡ false) × (list_any (λ (a : Assignment). change_asks a.change) r.sets ≡ false)
    no = neither (list_any (λ (part : UpMatch). up_asks part.key) r.up) (list_any (λ (a : Assignment). change_asks a.change) r.sets) h

    after : (went : Went) → unread_after r went ≡ []
    after went = on went.1
      where
        on : (b : Bool) → cond b (unread_from r r.sets went.0) [] ≡ []
        on true = sets_read r r.sets went.0 no.1
        on false = refl

    by : (b : Bool) → cond b [] (unread_after r (before_sets known r s)) ≡ []
    by true = refl
    by false = after (before_sets known r s)

rules_read : (known : Known) (rules : List Rule) (sought : Option Text) (s : Scene) → ask_others rules ≡ false → rules_unread known sought rules s ≡ []
unfolding rules_unread
rules_read known [] sought s h = refl
rules_read known (r ∷ rs) sought s h =
    let no = neither (rule_asks r) (ask_others rs) h in
    by (is_passed sought r) (rules_read known rs sought s no.1) (rules_read known rs (sought_after (apply known r s).1 r) (apply known r s).0 no.1) (rule_read known r s no.0)
  where
    by : (b : Bool) → rules_unread known sought rs s ≡ [] → rules_unread known (sought_after (apply known r s).1 r) rs (apply known r s).0 ≡ [] → rule_unread known r s ≡ []
        → cond b (rules_unread known sought rs s) (rule_unread known r s ++ rules_unread known (sought_after (apply known r s).1 r) rs (apply known r s).0) ≡ []
    by true over through own = over
    by false over through own = ap (λ (notes : List Note). notes ++ rules_unread known (sought_after (apply known r s).1 r) rs (apply known r s).0) own ∙ through

-- rules that ask for no attribute of another device leave no note
pub none_unread : (rules : List Rule) (known : Known) (event : EventValue) → ask_others rules ≡ false → unread rules known event ≡ []
none_unread rules known event h = by event.profile
  where
    by : (p : Profile) → unread_by p rules known event ≡ []
    by Manual = refl
    by Udev = rules_read known rules None (start event) h

-- by the manual there is none
pub manual_unread : (rules : List Rule) (known : Known) (event : EventValue) → event.profile ≡ Manual → unread rules known event ≡ []
manual_unread rules known event manual = ap (λ (p : Profile). unread_by p rules known event) manual

-- an outcome with no more notes
pub same_outcome : (o : Outcome) (more : List Note) → more ≡ [] → o ≡ with_notes more o
same_outcome o more none = sym (ap (λ (notes : List Note). with_notes notes o) none ∙ ap (λ (notes : List Note). record o { notes = notes }) (append-nil o.notes))
