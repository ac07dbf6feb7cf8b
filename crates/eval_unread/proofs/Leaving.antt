-- Which search and which assignment leaves a note: first in a text, then in a rule, then in all rules.
use Rattle.std.proofs.Common.{◌≡◌, ◌⊎◌, inl, inr, Bool, true, false, cond, ◌&&◌, is_none, List, [], ◌∷◌, ◌++◌, Option, Some, None, fold, refl, ap, subst, sym, ◌∙◌}
use Rattle.std.specs.List.{list_all}
use Rattle.std.specs.Option.{option_or}
use Rattle.text_bytes.specs.Text.{Text}
use Rattle.rule_tokens.specs.declared.piece.Piece.{Piece}
use Rattle.rule_tokens.specs.declared.piece.Piece.TheVariants as piece
use Rattle.rule_types.specs.declared.part.Assignment.{Assignment}
use Rattle.rule_types.specs.Rules.{Rule}
use Rattle.device_core.specs.Values.{EventValue}
use Rattle.builtin_devices.specs.Knowledge.{Known}
use Rattle.eval_state.specs.Notes.{note_about}
use Rattle.eval_state.specs.declared.note_kind.NoteKind.TheVariants.{AttributeNotRead}
use Rattle.eval_state.specs.declared.notes.Note.{Note}
use Rattle.eval_state.specs.declared.scene.Scene.{Scene}
use Rattle.eval_rendering.specs.Attributes.{is_not_read}
use Rattle.eval_acts.specs.Unread.{first_unread, unread_in, unread_notes}
use Rattle.eval_assignments.specs.Finality.{final_key, is_settled}
use Rattle.eval_assignments.specs.Steps.{set_step}
use Rattle.eval_rules.specs.Idle.{is_idle}
use Rattle.eval_rules.specs.Jumps.{is_passed, run, sought_after}
use Rattle.eval_rules.specs.Steps.{Went, apply, before_sets, plain_step, walk}
use Rattle.eval_unread.specs.Laws.{AsksFirst, IsAmong, Leaves, SearchLeaves, SetLeaves, sought_past}
use Rattle.eval_unread.specs.Unread.{rendered_pieces, rule_unread, rules_unread, search_unread, searched_unread, unread_after, unread_from, unread_of}
use Rattle.eval_unread.proofs.Among.{among_either, among_first, among_none, among_one, among_second}

module _ (event : EventValue) where
  -- a piece that is not read is an attribute of its name
  piece_is : (p : Piece) (name : Text) → unread_in event p ≡ Some name → (p ≡ piece.Attr name) × (is_not_read name event ≡ true)
  piece_is (piece.Attr own) name u = by (is_not_read own event) refl u
    where
      by : (b : Bool) → is_not_read own event ≡ b → cond b (Some own) None ≡ Some name → (piece.Attr own ≡ piece.Attr name) × (is_not_read name event ≡ true)
      by true e u = let same : own ≡ name = cc in (ap piece.Attr same, subst (λ (t : Text). is_not_read t event ≡ true) same e)
      by false e u = absurd (cc)
  piece_is other name u = absurd (cc)

  pub asks_of : (pieces : List Piece) (name : Text) → first_unread event pieces ≡ Some name → AsksFirst event pieces name
  unfolding first_unread
  asks_of [] name e = absurd (cc)
  asks_of (p ∷ pieces) name e = by (unread_in event p) refl (λ h. asks_of pieces name h) e
    where
      by : (o : Option Text) → unread_in event p ≡ o → (first_unread event pieces ≡ Some name → AsksFirst event pieces name)
          → option_or o (first_unread event pieces) ≡ Some name → AsksFirst event (p ∷ pieces) name
      by None u later e =
          let rest = later e in
          record {
            before = p ∷ rest.before;
            following = rest.following;
            are = ap (λ (l : List Piece). p ∷ l) rest.are;
            read = ap (λ (o : Option Text). is_none o && list_all (λ (q : Piece). is_none (unread_in event q)) rest.before) u ∙ rest.read;
            unread = rest.unread;
          }
      by (Some own) u later e =
          let same : own ≡ name = cc in
          let is = piece_is p own u in
          record {
            before = [];
            following = pieces;
            are = ap (λ (q : Piece). q ∷ pieces) (is.0 ∙ ap piece.Attr same);
            read = refl;
            unread = subst (λ (t : Text). is_not_read t event ≡ true) same is.1;
          }

  first_at : (before following : List Piece) (name : Text) → list_all (λ (p : Piece). is_none (unread_in event p)) before ≡ true → is_not_read name event ≡ true
      → first_unread event (before ++ piece.Attr name ∷ following) ≡ Some name
  unfolding first_unread
  first_at [] following name read is = ap (λ (b : Bool). option_or (cond b (Some name) None) (first_unread event following)) is
  first_at (p ∷ before) following name read is = by (unread_in event p) (λ h. first_at before following name h is) read
    where
      by : (o : Option Text) → (list_all (λ (q : Piece). is_none (unread_in event q)) before ≡ true → first_unread event (before ++ piece.Attr name ∷ following) ≡ Some name)
          → (is_none o && list_all (λ (q : Piece). is_none (unread_in event q)) before) ≡ true → option_or o (first_unread event (before ++ piece.Attr name ∷ following)) ≡ Some name
      by None later h = later h
      by (Some t) later h = absurd (cc)

  pub first_of : (pieces : List Piece) (name : Text) → AsksFirst event pieces name → first_unread event pieces ≡ Some name
  first_of pieces name h = ap (first_unread event) h.are ∙ first_at h.before h.following name h.read h.unread

-- an assignment that finds a scene leaves a note of this name
abbrev Asks : Scene → Assignment → Text → Type 0
Asks s a name = (is_settled (final_key s.state.event.profile a.change) s.finals ≡ false) × AsksFirst s.state.event (rendered_pieces a.change s.state.event.device) name

asks_here : (s : Scene) (a : Assignment) (name : Text) → unread_of s a ≡ Some name → Asks s a name
asks_here s a name e = by (is_settled (final_key s.state.event.profile a.change) s.finals) refl e
  where
    by : (b : Bool) → is_settled (final_key s.state.event.profile a.change) s.finals ≡ b
        → cond b None (first_unread s.state.event (rendered_pieces a.change s.state.event.device)) ≡ Some name → Asks s a name
    by true f e = absurd (cc)
    by false f e = (f, asks_of s.state.event (rendered_pieces a.change s.state.event.device) name e)

here_asks : (s : Scene) (a : Assignment) (name : Text) → Asks s a name → unread_of s a ≡ Some name
here_asks s a name h =
    ap (λ (b : Bool). cond b None (first_unread s.state.event (rendered_pieces a.change s.state.event.device))) h.0
    ∙ first_of s.state.event (rendered_pieces a.change s.state.event.device) name h.1

module _ (note : Note) (r : Rule) where
  -- the only note on an attribute that is not read
  only_note : (o : Option Text) → IsAmong note (unread_notes r o) → (name : Text) × (o ≡ Some name) × (note ≡ note_about r AttributeNotRead name)
  only_note None h = absurd (among_none note h)
  only_note (Some name) h = (name, refl, among_one note (note_about r AttributeNotRead name) h)

  note_is_only : (o : Option Text) (name : Text) → o ≡ Some name → note ≡ note_about r AttributeNotRead name → IsAmong note (unread_notes r o)
  note_is_only o name e is =
      subst (λ (l : Option Text). IsAmong note (unread_notes r l)) (sym e) (record { before = []; following = []; are = ap (λ (n : Note). n ∷ []) (sym is) })

  -- one of these assignments leaves the note
  record OneLeaves (sets : List Assignment) (s : Scene) : Type 0 where
    before : List Assignment
    assignment : Assignment
    after : List Assignment
    are : sets ≡ before ++ assignment ∷ after
    name : Text
    asks : Asks (fold (set_step r) s before) assignment name
    is : note ≡ note_about r AttributeNotRead name

  sets_left : (sets : List Assignment) (s : Scene) → IsAmong note (unread_from r sets s) → OneLeaves sets s
  sets_left [] s h = absurd (among_none note h)
  sets_left (a ∷ sets) s h = by (among_either note (unread_notes r (unread_of s a)) (unread_from r sets (set_step r s a)) h) (λ more. sets_left sets (set_step r s a) more)
    where
      by : IsAmong note (unread_notes r (unread_of s a)) ⊎ IsAmong note (unread_from r sets (set_step r s a))
          → (IsAmong note (unread_from r sets (set_step r s a)) → OneLeaves sets (set_step r s a)) → OneLeaves (a ∷ sets) s
      by (inl own) later =
          let found = only_note (unread_of s a) own in
          record { before = []; assignment = a; after = sets; are = refl; name = found.0; asks = asks_here s a found.0 found.1; is = found.2 }
      by (inr more) later =
          let rest = later more in
          record {
            before = a ∷ rest.before;
            assignment = rest.assignment;
            after = rest.after;
            are = ap (λ (l : List Assignment). a ∷ l) rest.are;
            name = rest.name;
            asks = rest.asks;
            is = rest.is;
          }

  set_leaves : (before : List Assignment) (a : Assignment) (after : List Assignment) (name : Text) (s : Scene) → Asks (fold (set_step r) s before) a name → note ≡ note_about r AttributeNotRead name
      → IsAmong note (unread_from r (before ++ a ∷ after) s)
  set_leaves [] a after name s asks is =
      among_first note (unread_notes r (unread_of s a)) (unread_from r after (set_step r s a)) (note_is_only (unread_of s a) name (here_asks s a name asks) is)
  set_leaves (b ∷ before) a after name s asks is =
      among_second note (unread_notes r (unread_of s b)) (unread_from r (before ++ a ∷ after) (set_step r s b)) (set_leaves before a after name (set_step r s b) asks is)

  module _ (known : Known) (s : Scene) where
    matched : Went
    matched = walk (plain_step r) r.plain s

    abbrev after_keys : List Note
    after_keys = cond (is_idle r s.state.event) [] (unread_after r (before_sets known r s))

    search_left : IsAmong note (searched_unread r matched) → SearchLeaves r s note
    unfolding matched
    search_left h = by matched.1 refl h
      where
        by : (b : Bool) → matched.1 ≡ b → IsAmong note (cond b (unread_notes r (search_unread r.up matched.0.state)) []) → SearchLeaves r s note
        by true e h =
            let found = only_note (search_unread r.up matched.0.state) h in
            record { goes_on = e; name = found.0; asks = found.1; is = found.2 }
        by false e h = absurd (among_none note h)

    keys_left : IsAmong note after_keys → SetLeaves known r s note
    keys_left h = by (is_idle r s.state.event) refl h
      where
        after : is_idle r s.state.event ≡ false → (b : Bool) → (before_sets known r s).1 ≡ b → IsAmong note (cond b (unread_from r r.sets (before_sets known r s).0) []) → SetLeaves known r s note
        after e true f h =
            let one = sets_left r.sets (before_sets known r s).0 h in
            record {
              counts = e;
              goes_on = f;
              before = one.before;
              assignment = one.assignment;
              after = one.after;
              are = one.are;
              scene = fold (set_step r) (before_sets known r s).0 one.before;
              found = refl;
              made = one.asks.0;
              name = one.name;
              asks = one.asks.1;
              is = one.is;
            }
        after e false f h = absurd (among_none note h)

        by : (b : Bool) → is_idle r s.state.event ≡ b → IsAmong note (cond b [] (unread_after r (before_sets known r s))) → SetLeaves known r s note
        by true e h = absurd (among_none note h)
        by false e h = after e (before_sets known r s).1 refl h

    rule_left : IsAmong note (rule_unread known r s) → SearchLeaves r s note ⊎ SetLeaves known r s note
    unfolding rule_unread matched
    rule_left h = by (among_either note (searched_unread r matched) after_keys h)
      where
        by : IsAmong note (searched_unread r matched) ⊎ IsAmong note after_keys → SearchLeaves r s note ⊎ SetLeaves known r s note
        by (inl search) = inl (search_left search)
        by (inr keys) = inr (keys_left keys)

    search_leaves : SearchLeaves r s note → IsAmong note (searched_unread r matched)
    unfolding matched
    search_leaves h =
        subst (IsAmong note) (sym (ap (λ (b : Bool). cond b (unread_notes r (search_unread r.up matched.0.state)) []) h.goes_on))
        (note_is_only (search_unread r.up matched.0.state) h.name h.asks h.is)

    keys_leave : SetLeaves known r s note → IsAmong note after_keys
    keys_leave h =
        let entered : Scene = (before_sets known r s).0 in
        let asks : Asks h.scene h.assignment h.name = (h.made, h.asks) in
        let asked : Asks (fold (set_step r) entered h.before) h.assignment h.name = subst (λ (u : Scene). Asks u h.assignment h.name) h.found asks in
        let some : IsAmong note (unread_from r (h.before ++ h.assignment ∷ h.after) entered) = set_leaves h.before h.assignment h.after h.name entered asked h.is in
        let own : IsAmong note (unread_from r r.sets entered) = subst (λ (l : List Assignment). IsAmong note (unread_from r l entered)) (sym h.are) some in
        let counts : after_keys ≡ unread_after r (before_sets known r s) = ap (λ (b : Bool). cond b [] (unread_after r (before_sets known r s))) h.counts in
        let goes : unread_after r (before_sets known r s) ≡ unread_from r r.sets entered = ap (λ (b : Bool). cond b (unread_from r r.sets entered) []) h.goes_on in
        subst (IsAmong note) (sym (counts ∙ goes)) own

    rule_leaves : SearchLeaves r s note ⊎ SetLeaves known r s note → IsAmong note (rule_unread known r s)
    unfolding rule_unread matched
    rule_leaves (inl search) = among_first note (searched_unread r matched) after_keys (search_leaves search)
    rule_leaves (inr set) = among_second note (searched_unread r matched) after_keys (keys_leave set)

module _ (note : Note) (known : Known) where
  -- what rules below one leave, all of them leave
  below_leaves : (r : Rule) (rs : List Rule) (sought : Option Text) (s : Scene) (wanted : Option Text) (t : Scene)
      → ((above : List Rule) → sought_past known sought (r ∷ above) s ≡ sought_past known wanted above t) → ((above : List Rule) → run known sought (r ∷ above) s ≡ run known wanted above t)
      → Leaves known wanted rs t note → Leaves known sought (r ∷ rs) s note
  below_leaves r rs sought s wanted t labels scenes h =
      let way = h.enters in
      record {
        rule = h.rule;
        scene = h.scene;
        enters = record {
          above = r ∷ way.above;
          below = way.below;
          are = ap (λ (l : List Rule). r ∷ l) way.are;
          entered = ap (λ (l : Option Text). is_passed l h.rule) (labels way.above) ∙ way.entered;
          found = way.found ∙ sym (scenes way.above);
        };
        leaves = h.leaves;
      }

  -- what a rule leaves that is not passed over, all leave
  own_leaves : (r : Rule) (rs : List Rule) (sought : Option Text) (s : Scene) → is_passed sought r ≡ false → IsAmong note (rule_unread known r s) → Leaves known sought (r ∷ rs) s note
  unfolding sought_past run
  own_leaves r rs sought s entered h =
      record { rule = r; scene = s; enters = record { above = []; below = rs; are = refl; entered = entered; found = refl }; leaves = rule_left note r known s h }

  pub left : (sought : Option Text) (rules : List Rule) (s : Scene) → IsAmong note (rules_unread known sought rules s) → Leaves known sought rules s note
  unfolding rules_unread sought_past run
  left sought [] s h = absurd (among_none note h)
  left sought (r ∷ rs) s h =
      by (is_passed sought r) refl (λ more. left sought rs s more) (λ more. left (sought_after (apply known r s).1 r) rs (apply known r s).0 more) h
    where
      wanted : Option Text
      wanted = sought_after (apply known r s).1 r

      next : Scene
      next = (apply known r s).0

      by : (b : Bool) → is_passed sought r ≡ b → (IsAmong note (rules_unread known sought rs s) → Leaves known sought rs s note)
          → (IsAmong note (rules_unread known wanted rs next) → Leaves known wanted rs next note)
          → IsAmong note (cond b (rules_unread known sought rs s) (rule_unread known r s ++ rules_unread known wanted rs next)) → Leaves known sought (r ∷ rs) s note
      by true e over through h =
          below_leaves r rs sought s sought s
          (λ above. ap (λ (b : Bool). cond b (sought_past known sought above s) (sought_past known wanted above next)) e)
          (λ above. ap (λ (b : Bool). cond b (run known sought above s) (run known wanted above next)) e)
          (over h)
      by false e over through h = on (among_either note (rule_unread known r s) (rules_unread known wanted rs next) h)
        where
          on : IsAmong note (rule_unread known r s) ⊎ IsAmong note (rules_unread known wanted rs next) → Leaves known sought (r ∷ rs) s note
          on (inl own) = own_leaves r rs sought s e own
          on (inr more) =
              below_leaves r rs sought s wanted next
              (λ above. ap (λ (b : Bool). cond b (sought_past known sought above s) (sought_past known wanted above next)) e)
              (λ above. ap (λ (b : Bool). cond b (run known sought above s) (run known wanted above next)) e)
              (through more)

  module _ (r : Rule) (below : List Rule) where
    -- a rule that is entered with a label sought and in a scene, and leaves the note
    abbrev Enters : Option Text → Scene → Type 0
    Enters label t = (is_passed label r ≡ false) × IsAmong note (rule_unread known r t)

    down : (above : List Rule) (sought : Option Text) (s : Scene) → Enters (sought_past known sought above s) (run known sought above s) → IsAmong note (rules_unread known sought (above ++ r ∷ below) s)
    unfolding rules_unread sought_past run
    down [] sought s h =
        let rest : List Note = rules_unread known (sought_after (apply known r s).1 r) below (apply known r s).0 in
        subst (IsAmong note) (sym (ap (λ (b : Bool). cond b (rules_unread known sought below s) (rule_unread known r s ++ rest)) h.0)) (among_first note (rule_unread known r s) rest h.1)
    down (q ∷ above) sought s h =
        by (is_passed sought q) (λ more. down above sought s more) (λ more. down above (sought_after (apply known q s).1 q) (apply known q s).0 more) h
      where
        wanted : Option Text
        wanted = sought_after (apply known q s).1 q

        next : Scene
        next = (apply known q s).0

        by : (b : Bool) → (Enters (sought_past known sought above s) (run known sought above s) → IsAmong note (rules_unread known sought (above ++ r ∷ below) s))
            → (Enters (sought_past known wanted above next) (run known wanted above next) → IsAmong note (rules_unread known wanted (above ++ r ∷ below) next))
            → Enters (cond b (sought_past known sought above s) (sought_past known wanted above next)) (cond b (run known sought above s) (run known wanted above next))
            → IsAmong note (cond b (rules_unread known sought (above ++ r ∷ below) s) (rule_unread known q s ++ rules_unread known wanted (above ++ r ∷ below) next))
        by true over through h = over h
        by false over through h = among_second note (rule_unread known q s) (rules_unread known wanted (above ++ r ∷ below) next) (through h)

  pub leaves : (sought : Option Text) (rules : List Rule) (s : Scene) → Leaves known sought rules s note → IsAmong note (rules_unread known sought rules s)
  leaves sought rules s h =
      let way = h.enters in
      let own : IsAmong note (rule_unread known h.rule (run known sought way.above s)) =
      subst (λ (t : Scene). IsAmong note (rule_unread known h.rule t)) way.found (rule_leaves note h.rule known h.scene h.leaves) in
      subst (λ (l : List Rule). IsAmong note (rules_unread known sought l s)) (sym way.are) (down h.rule way.below way.above sought s (way.entered, own))
