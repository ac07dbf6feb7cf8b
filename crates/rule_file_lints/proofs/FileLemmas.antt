-- Laws of the lints of a file.
use Rattle.std.proofs.Common.{◌≡◌, ℕ, Bool, true, false, cond, not, ◌||◌, ◌&&◌, List, [], ◌∷◌, ◌++◌, map, reverse, Option, Some, None, refl, ap, sym, ◌∙◌}
use Rattle.std.specs.List.{list_any}
use Rattle.std.proofs.lemmas.List.{map-append, reverse-append}
use Rattle.std.proofs.lemmas.List.Folds.{list_any-append}
use Rattle.std.proofs.lemmas.Grind.{flat_map-append}
use Rattle.text_bytes.specs.declared.profile.Profile.{Profile}
use Rattle.text_bytes.specs.declared.source_file.SourceFile.{SourceFile}
use Rattle.text_bytes.specs.Text.{Text}
use Rattle.text_tables.specs.Texts.{is_among, same_text}
use Rattle.rule_lints.specs.declared.lint.Lint.{Lint}
use Rattle.rule_core.specs.Rules.{name_of}
use Rattle.rule_core.specs.Ends.{abandoned}
use Rattle.rule_places.specs.Kept.{kept_lines}
use Rattle.rule_places.specs.Placed.{placed}
use Rattle.rule_places.specs.declared.kept.KeptLine.{KeptLine}
use Rattle.rule_file_lints.specs.ByName.{later_families}
use Rattle.rule_file_lints.specs.Compared.{Valued, assigned_value, meant_spots, meant_to_compare}
use Rattle.rule_file_lints.specs.FileLaws.{ImportsFurtherDown, IsImportedBelow, NoneAfterMatches, NoneUncompared, ReachedAfterLostJumps, ReachedAfterMatches, ReachedByLabels, lints_without_places, without_place}
use Rattle.rule_file_lints.specs.FileLints.{lints_below, lints_of, placed_lints, spots_of}
use Rattle.rule_file_lints.specs.FileRules.{FileRule, file_rules, rules_unless}
use Rattle.rule_file_lints.specs.Imported.{any_property, assigned_in, below_spots, families, given_by, given_names, has_family, has_property, imported_by, imported_in, imported_names, is_given, is_of, perhaps_in, wanted_in}
use Rattle.rule_file_lints.specs.Matches.{is_match, may_end_at}
use Rattle.rule_file_lints.specs.Reached.{is_labelled, jumps_above, jumps_to, may_go_on, never_reached}
use Rattle.rule_types.specs.Tokens.{WrittenPart}
use Rattle.rule_types.specs.declared.spot.Spot.{Spot}

-- tests
or_by : (a b c : Bool) → (a ≡ true → c ≡ true) → (b ≡ true → c ≡ true) → (a || b) ≡ true → c ≡ true
or_by true b c f g h = f refl
or_by false b c f g h = g h

or_left : (a b : Bool) → a ≡ true → (a || b) ≡ true
or_left true b h = refl
or_left false b h = absurd (cc)

or_right : (a b : Bool) → b ≡ true → (a || b) ≡ true
or_right true b h = refl
or_right false b h = h

and_more : (a b c : Bool) → (b ≡ true → c ≡ true) → (a && b) ≡ true → (a && c) ≡ true
and_more true b c f h = f h
and_more false b c f h = absurd (cc)

-- each text of the first list is in the second
abbrev Within : List Text → List Text → Type 0
Within a b = (x : Text) → is_among a x ≡ true → is_among b x ≡ true

among_append : (a b : List Text) (x : Text) → is_among (a ++ b) x ≡ (is_among a x || is_among b x)
among_append a b x = list_any-append (same_text x) a b

within_both : (a b c d : List Text) → Within a c → Within b d → Within (a ++ b) (c ++ d)
within_both a b c d f g x h =
    among_append c d x
    ∙ or_by (is_among a x) (is_among b x) (is_among c x || is_among d x) (λ e. or_left (is_among c x) (is_among d x) (f x e)) (λ e. or_right (is_among c x) (is_among d x) (g x e)) (sym (among_append a b x) ∙ h)

within_reversed : (a b c d : List Text) → Within a c → Within b d → Within (a ++ b) (d ++ c)
within_reversed a b c d f g x h =
    among_append d c x
    ∙ or_by (is_among a x) (is_among b x) (is_among d x || is_among c x) (λ e. or_right (is_among d x) (is_among c x) (f x e)) (λ e. or_left (is_among d x) (is_among c x) (g x e)) (sym (among_append a b x) ∙ h)

within_prefix : (a b : List Text) → Within a (a ++ b)
within_prefix a b x h = among_append a b x ∙ or_left (is_among a x) (is_among b x) h

within_suffix : (a b : List Text) → Within b (a ++ b)
within_suffix a b x h = among_append a b x ∙ or_right (is_among a x) (is_among b x) h

-- what tokens import they give
imports_given : (tokens : List WrittenPart) → Within (imported_by tokens) (given_by tokens)
imports_given [] x h = h
imports_given (w ∷ tokens) x h =
    let others = perhaps_in w.part ++ assigned_in w.part in
    within_both (imported_in w.part) (imported_by tokens) (imported_in w.part ++ others) (given_by tokens) (within_prefix (imported_in w.part) others) (imports_given tokens) x h

-- what rules import they give, the nearest first
above_given : (above : List FileRule) → Within (imported_names (reverse above)) (given_names above)
above_given [] x h = h
above_given (r ∷ above) x h =
    let reversed : imported_names (reverse (r ∷ above)) ≡ imported_names (reverse above) ++ imported_names (r ∷ []) =
    ap imported_names (reverse-append (r ∷ []) above) ∙ flat_map-append (λ (s : FileRule). imported_by s.draft.parts) (reverse above) (r ∷ []) in
    let own : Within (imported_names (r ∷ [])) (given_by r.draft.parts) =
    λ y k. or_by (is_among (imported_by r.draft.parts) y) false (is_among (given_by r.draft.parts) y) (imports_given r.draft.parts y) (λ e. absurd (cc)) (sym (among_append (imported_by r.draft.parts) [] y) ∙ k) in
    within_reversed (imported_names (reverse above)) (imported_names (r ∷ [])) (given_names above) (given_by r.draft.parts) (above_given above) own x
    (ap (λ n. is_among n x) (sym reversed) ∙ h)

-- a property of two lists is one of either
family_by : (a b : List Text) (rows : List (Text × Text)) (name : Text) → has_family (a ++ b) rows name ≡ true → (has_family a rows name || has_family b rows name) ≡ true
family_by a b [] name h = h
family_by a b (row ∷ rows) name h =
    let all : Bool = has_family a (row ∷ rows) name || has_family b (row ∷ rows) name in
    or_by (is_of row.1 name && is_among (a ++ b) row.1) (has_family (a ++ b) rows name) all
    (λ e. by_row (is_of row.1 name) (is_among a row.1) (is_among b row.1) (has_family a rows name) (has_family b rows name) (ap (λ x. is_of row.1 name && x) (sym (among_append a b row.1)) ∙ e))
    (λ e. by_rest (is_of row.1 name && is_among a row.1) (is_of row.1 name && is_among b row.1) (has_family a rows name) (has_family b rows name) (family_by a b rows name e))
    h
  where
    by_row : (o x y f g : Bool) → (o && (x || y)) ≡ true → (((o && x) || f) || ((o && y) || g)) ≡ true
    by_row true true y f g e = refl
    by_row true false true f g e = or_right f true refl
    by_row true false false f g e = absurd (cc)
    by_row false x y f g e = absurd (cc)

    by_rest : (x y f g : Bool) → (f || g) ≡ true → ((x || f) || (y || g)) ≡ true
    by_rest true y f g e = refl
    by_rest false y true g e = refl
    by_rest false true false g e = refl
    by_rest false false false g e = e

property_by : (a b : List Text) (name : Text) → has_property (a ++ b) name ≡ true → (has_property a name || has_property b name) ≡ true
property_by a b name h =
    or_by (is_among (a ++ b) name) (has_family (a ++ b) families name) (has_property a name || has_property b name)
    (λ e. by_name (is_among a name) (is_among b name) (has_family a families name) (has_family b families name) (sym (among_append a b name) ∙ e))
    (λ e. by_family (is_among a name) (is_among b name) (has_family a families name) (has_family b families name) (family_by a b families name e))
    h
  where
    by_name : (x y f g : Bool) → (x || y) ≡ true → ((x || f) || (y || g)) ≡ true
    by_name true y f g e = refl
    by_name false true f g e = or_right f true refl
    by_name false false f g e = absurd (cc)

    by_family : (x y f g : Bool) → (f || g) ≡ true → ((x || f) || (y || g)) ≡ true
    by_family true y f g e = refl
    by_family false y true g e = refl
    by_family false true false g e = refl
    by_family false false false g e = e

family_within : (a b : List Text) → Within a b → (rows : List (Text × Text)) (name : Text) → has_family a rows name ≡ true → has_family b rows name ≡ true
family_within a b f [] name h = h
family_within a b f (row ∷ rows) name h =
    or_by (is_of row.1 name && is_among a row.1) (has_family a rows name) (has_family b (row ∷ rows) name)
    (λ e. or_left (is_of row.1 name && is_among b row.1) (has_family b rows name) (and_more (is_of row.1 name) (is_among a row.1) (is_among b row.1) (f row.1) e))
    (λ e. or_right (is_of row.1 name && is_among b row.1) (has_family b rows name) (family_within a b f rows name e))
    h

property_within : (a b : List Text) → Within a b → (name : Text) → has_property a name ≡ true → has_property b name ≡ true
property_within a b f name h =
    or_by (is_among a name) (has_family a families name) (has_property b name)
    (λ e. or_left (is_among b name) (has_family b families name) (f name e))
    (λ e. or_right (is_among b name) (has_family b families name) (family_within a b f families name e))
    h

or_neither : (a b : Bool) → (a || b) ≡ false → b ≡ false
or_neither false b h = h
or_neither true b h = absurd (cc)

left_out : (a b c : Bool) → (a ≡ true → c ≡ true) → c ≡ false → (a || b) ≡ true → b ≡ true
left_out true b c f e h = absurd (let t : c ≡ true = f refl in cc)
left_out false b c f e h = h

imported_here : (above : List FileRule) (r : FileRule) (below : List FileRule) (name : Text) → has_property (imported_names (reverse above ++ r ∷ below)) name ≡ true → has_property (given_names above) name ≡ false
    → has_property (imported_names (r ∷ below)) name ≡ true
imported_here above r below name h e =
    let cut : imported_names (reverse above ++ r ∷ below) ≡ imported_names (reverse above) ++ imported_names (r ∷ below) = flat_map-append (λ (s : FileRule). imported_by s.draft.parts) (reverse above) (r ∷ below) in
    left_out (has_property (imported_names (reverse above)) name) (has_property (imported_names (r ∷ below)) name) (has_property (given_names above) name)
    (property_within (imported_names (reverse above)) (given_names above) (above_given above) name) e
    (property_by (imported_names (reverse above)) (imported_names (r ∷ below)) name (ap (λ n. has_property n name) (sym cut) ∙ h))

-- a property that rules or later files import, if it is not given above
imported_or_later : (above : List FileRule) (r : FileRule) (below : List FileRule) (later : List Text) (name : Text)
    → has_property (imported_names (reverse above ++ r ∷ below) ++ later) name ≡ true → has_property (given_names above) name ≡ false
    → has_property (imported_names (r ∷ below) ++ later) name ≡ true
imported_or_later above r below later name h e =
    let all : List Text = imported_names (reverse above ++ r ∷ below) in
    let here : List Text = imported_names (r ∷ below) in
    or_by (has_property all name) (has_property later name) (has_property (here ++ later) name)
    (λ i. property_within here (here ++ later) (within_prefix here later) name (imported_here above r below name i e))
    (λ i. property_within later (here ++ later) (within_suffix here later) name i)
    (property_by all later name h)

both_hold : (a b : Bool) (x reported : Spot Lint) → cond (a && not b) (x ∷ []) [] ≡ reported ∷ [] → (a ≡ true) × (b ≡ false) × (x ≡ reported)
both_hold true false x reported e = (refl, refl, cc)
both_hold true true x reported e = absurd (cc)
both_hold false b x reported e = absurd (cc)

wanted_here : (path : Text) (above : List FileRule) (r : FileRule) (below : List FileRule) (w : WrittenPart) (wanted : Option Text) (reported : Spot Lint)
    → below_spots (imported_names (reverse above ++ r ∷ below) ++ later_families path) (given_names above) w wanted ≡ reported ∷ [] → IsImportedBelow path above r below reported.word
wanted_here path above r below w None reported e = absurd (cc)
wanted_here path above r below w (Some name) reported e =
    let k = both_hold (has_property (imported_names (reverse above ++ r ∷ below) ++ later_families path) name) (is_given (given_names above) name) _ reported e in
    let none = or_neither (is_among (given_names above) any_property) (has_property (given_names above) name) k.1 in
    let word : name ≡ reported.word = ap (λ (s : Spot Lint). s.word) k.2 in
    record {
      here = ap (λ (n : Text). has_property (imported_names (r ∷ below) ++ later_families path) n) (sym word) ∙ imported_or_later above r below (later_families path) name k.0 none;
      before = ap (λ (n : Text). is_given (given_names above) n) (sym word) ∙ k.1;
    }

pub further_down : ImportsFurtherDown
further_down path above r below w reported e = wanted_here path above r below w (wanted_in w.part) reported e

pub none_following : NoneAfterMatches
none_following compared [] h = refl
none_following compared (w ∷ tokens) h =
    let none : list_any (λ (x : WrittenPart). is_match x.part) tokens ≡ false = or_neither (is_match w.part) (list_any (λ (x : WrittenPart). is_match x.part) tokens) h in
    ap (λ b. cond b (meant_spots compared w (assigned_value w.part)) [] ++ meant_to_compare compared tokens) none ∙ none_following compared tokens none

spot_uncompared : (b : Bool) (w : WrittenPart) (given : Option Valued) → cond b (meant_spots [] w given) [] ≡ []
spot_uncompared true w None = refl
spot_uncompared true w (Some v) = refl
spot_uncompared false w given = refl

pub none_uncompared : NoneUncompared
none_uncompared [] = refl
none_uncompared (w ∷ tokens) =
    ap (λ x. x ++ meant_to_compare [] tokens) (spot_uncompared (list_any (λ (x : WrittenPart). is_match x.part) tokens) w (assigned_value w.part)) ∙ none_uncompared tokens

proceeds : (nearest r : FileRule) → may_go_on nearest ≡ true → never_reached (jumps_to nearest) r ≡ []
proceeds nearest r h = ap (λ b. never_reached (cond b None (name_of nearest.draft.goto)) r) h

pub after_matches : ReachedAfterMatches
after_matches nearest farther r h = proceeds nearest r (or_right nearest.landing.lost (list_any (λ w. may_end_at w.part) nearest.draft.parts) h)

pub after_lost : ReachedAfterLostJumps
after_lost nearest farther r h = proceeds nearest r (or_left nearest.landing.lost (list_any (λ w. may_end_at w.part) nearest.draft.parts) h)

labelled : (above : Option Text) (r : FileRule) → is_labelled r ≡ true → never_reached above r ≡ []
labelled None r h = refl
labelled (Some name) r h = rw h refl

pub by_labels : ReachedByLabels
by_labels above r h = labelled (jumps_above above) r h

places_left_out : (kept : List KeptLine) (number start : ℕ) (spots : List (Spot Lint)) → map without_place (map (placed kept number start) spots) ≡ map (λ s. (s.kind, s.word)) spots
places_left_out kept number start [] = refl
places_left_out kept number start (s ∷ spots) = ap (λ (xs : List (Lint × Text)). (s.kind, s.word) ∷ xs) (places_left_out kept number start spots)

lints_of_rules_below : (by : Profile) (path : Text) (kept : List KeptLine) (all above rules : List FileRule)
    → map without_place (lints_below by path kept all above rules) ≡ lints_without_places by path all above rules
lints_of_rules_below by path kept all above [] = refl
lints_of_rules_below by path kept all above (r ∷ rules) =
    map-append without_place (map (placed kept r.number r.start) (spots_of by path all above r)) (lints_below by path kept all (r ∷ above) rules)
    ∙ ap (λ (xs : List (Lint × Text)). xs ++ map without_place (lints_below by path kept all (r ∷ above) rules)) (places_left_out kept r.number r.start (spots_of by path all above r))
    ∙ ap (λ (xs : List (Lint × Text)). map (λ s. (s.kind, s.word)) (spots_of by path all above r) ++ xs) (lints_of_rules_below by path kept all (r ∷ above) rules)

pub lints_of_rules : (by : Profile) (file : SourceFile) → map without_place (placed_lints by file) ≡ lints_without_places by file.name (file_rules by file.bytes) [] (file_rules by file.bytes)
unfolding placed_lints
lints_of_rules by file = lints_of_rules_below by file.name (kept_lines file.bytes) (file_rules by file.bytes) [] (file_rules by file.bytes)

pub none_abandoned : (by : Profile) (file : SourceFile) (number : ℕ) → abandoned by file.bytes ≡ Some number → placed_lints by file ≡ []
unfolding placed_lints
none_abandoned by file number e = ap (λ (o : Option ℕ). lints_of by file.name (kept_lines file.bytes) (rules_unless by file.bytes o)) e
