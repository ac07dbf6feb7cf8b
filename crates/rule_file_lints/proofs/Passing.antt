-- What the pass over the lines of a file keeps.
use Rattle.std.proofs.Common.{◌≡◌, ℕ, ◌+◌, Bool, true, false, cond, not, ◌||◌, ◌&&◌, List, [], ◌∷◌, ◌++◌, length, map, drop, Option, Some, None, unwrap_or, Result, Ok, Err, refl, ap, ap₂, sym, ◌∙◌}
use Rattle.std.specs.List.{flat_map, list_any}
use Rattle.std.specs.Option.{option_map_or}
use Rattle.std.proofs.lemmas.List.Folds.{list_any-append}
use Rattle.text_bytes.specs.declared.profile.Profile.{Profile}
use Rattle.text_bytes.specs.Text.{Text}
use Rattle.text_bytes.specs.Texts.{first}
use Rattle.text_tables.specs.Texts.{is_among, same_text, with_text, with_texts}
use Rattle.text_tables.proofs.Found.{among_added}
use Rattle.file_messages.specs.declared.message.MessageKind.{MessageKind}
use Rattle.rule_types.specs.declared.jumps.Landing.{Landing}
use Rattle.rule_core.specs.Drafts.{Draft}
use Rattle.rule_core.specs.Rules.{Reading}
use Rattle.rule_file_lints.specs.Compared.{compared_by, compared_texts, meant_spots, meant_to_compare, assigned_value, text_of, Valued}
use Rattle.rule_lints.specs.Assignments.{is_about_tags}
use Rattle.rule_lints.specs.ValueLints.{value_lints}
use Rattle.rule_file_lints.specs.Beside.{imported_beside, imports_any, late_spots}
use Rattle.rule_file_lints.specs.FileLints.{FileNames, RulesAbove, left_by, lints_below, lints_of_lines, names_of, spots_by, spots_of}
use Rattle.rule_file_lints.specs.ByName.{later_families}
use Rattle.rule_file_lints.specs.Late.{has_access, has_tag, late_tag}
use Rattle.rule_file_lints.specs.Guarded.{has_program, may_jump, no_result, unguarded}
use Rattle.rule_file_lints.specs.FileRules.{FileRule, rule_before, rules_from}
use Rattle.rule_file_lints.specs.Imported.{any_property, below_spots, families, given_by, given_names, has_property, imported_below, imported_by, imported_names, is_of, wanted_in}
use Rattle.rule_file_lints.specs.Matches.{is_match}
use Rattle.rule_file_lints.specs.Reached.{never_reached}
use Rattle.rule_lints.specs.RuleLints.{lints_of_rule}
use Rattle.rule_file_lints.specs.Steps.{lints_over, names_after, names_at_first, names_in, names_over, nothing_above, rule_in, with_names, with_rule}
use Rattle.rule_types.specs.Tokens.{WrittenPart}
use Rattle.rule_types.specs.declared.spot.Spot.{Spot}
use Rattle.rule_lints.specs.declared.lint.Lint.{Lint}
use Rattle.rule_places.specs.Placed.{placed}
use Rattle.rule_places.specs.declared.kept.KeptLine.{KeptLine}
use Rattle.rule_places.specs.declared.placed_finding.PlacedFinding.{PlacedFinding}

-- the same texts are among two lists
abbrev pub SameTexts : List Text → List Text → Type 0
SameTexts a b = (name : Text) → is_among a name ≡ is_among b name

or_swapped : (a b c : Bool) → ((a || b) || c) ≡ (a || (b || c))
or_swapped true b c = refl
or_swapped false b c = refl

reversed_or : (a b : Bool) → (a || b) ≡ (b || a)
reversed_or true true = refl
reversed_or true false = refl
reversed_or false true = refl
reversed_or false false = refl

same_reversed : (a b : Text) → same_text a b ≡ same_text a b
same_reversed a b = refl

-- what was added one after another is there, and so is what was there before
pub among_all : (more texts : List Text) (name : Text) → is_among (with_texts texts more) name ≡ (is_among texts name || is_among more name)
among_all [] texts name = reversed_or false (is_among texts name)
among_all (t ∷ more) texts name =
    among_all more (with_text texts t) name
    ∙ ap (λ b. b || is_among more name) (among_added texts t name)
    ∙ or_swapped (is_among texts name) (same_text name t) (is_among more name)

pub all_added : (more : List Text) → SameTexts (with_texts [] more) more
all_added more name = among_all more [] name

has_by : (a b : List Text) → SameTexts a b → (rows : List (Text × Text)) (name : Text)
    → list_any (λ row. is_of row.1 name && is_among a row.1) rows ≡ list_any (λ row. is_of row.1 name && is_among b row.1) rows
has_by a b same [] name = refl
has_by a b same (row ∷ rows) name =
    ap (λ x. (is_of row.1 name && x) || list_any (λ r. is_of r.1 name && is_among a r.1) rows) (same row.1)
    ∙ ap (λ x. (is_of row.1 name && is_among b row.1) || x) (has_by a b same rows name)

pub has_same : (a b : List Text) → SameTexts a b → (name : Text) → has_property a name ≡ has_property b name
has_same a b same name =
    ap (λ x. x || list_any (λ row. is_of row.1 name && is_among a row.1) families) (same name)
    ∙ ap (λ x. is_among b name || x) (has_by a b same families name)

below_same : (imported all given before : List Text) → SameTexts imported all → SameTexts given before → (w : WrittenPart) (wanted : Option Text)
    → below_spots imported given w wanted ≡ below_spots all before w wanted
below_same imported all given before i g w None = refl
below_same imported all given before i g w (Some name) = rw (has_same imported all i name, g any_property, has_same given before g name)

tokens_same : (imported all given before : List Text) → SameTexts imported all → SameTexts given before → (tokens : List WrittenPart)
    → flat_map (imported_below imported given) tokens ≡ flat_map (imported_below all before) tokens
tokens_same imported all given before i g [] = refl
tokens_same imported all given before i g (w ∷ tokens) =
    ap (λ x. x ++ flat_map (imported_below imported given) tokens) (below_same imported all given before i g w (wanted_in w.part))
    ∙ ap (λ x. imported_below all before w ++ x) (tokens_same imported all given before i g tokens)

spot_same : (compared all : List Text) → SameTexts compared all → (w : WrittenPart) (given : Option Valued) → meant_spots compared w given ≡ meant_spots all w given
spot_same compared all same w None = refl
spot_same compared all same w (Some v) = rw (same (text_of v))

meant_same : (compared all : List Text) → SameTexts compared all → (tokens : List WrittenPart) → meant_to_compare compared tokens ≡ meant_to_compare all tokens
meant_same compared all same [] = refl
meant_same compared all same (w ∷ tokens) =
    ap (λ x. cond (list_any (λ y. is_match y.part) tokens) x [] ++ meant_to_compare compared tokens) (spot_same compared all same w (assigned_value w.part))
    ∙ ap (λ x. cond (list_any (λ y. is_match y.part) tokens) (meant_spots all w (assigned_value w.part)) [] ++ x) (meant_same compared all same tokens)

late_same : (given before : List Text) → SameTexts given before → (w : WrittenPart) (wanted : Option Text) → late_spots given w wanted ≡ late_spots before w wanted
late_same given before g w None = refl
late_same given before g w (Some name) = rw (g any_property, has_same given before g name)

beside_same : (given before : List Text) → SameTexts given before → (imported : Bool) (tokens : List WrittenPart) → imported_beside given imported tokens ≡ imported_beside before imported tokens
beside_same given before g imported [] = refl
beside_same given before g imported (w ∷ tokens) =
    ap (λ x. cond imported x [] ++ imported_beside given (imported || imports_any w) tokens) (late_same given before g w (wanted_in w.part))
    ∙ ap (λ x. cond imported (late_spots before w (wanted_in w.part)) [] ++ x) (beside_same given before g (imported || imports_any w) tokens)

-- names and what is left above are the same, the texts in any order
pub record SameNames (names all : FileNames) : Type 0 where
  pub imported : SameTexts names.imported all.imported
  pub compared : SameTexts names.compared all.compared
  pub tagged : names.tagged ≡ all.tagged
  pub late : names.late ≡ all.late

pub record SameAbove (a b : RulesAbove) : Type 0 where
  pub given : SameTexts a.given b.given
  pub jump : a.jump ≡ b.jump
  pub guarded : a.guarded ≡ b.guarded
  pub programs : a.programs ≡ b.programs
  pub tag : a.tag ≡ b.tag

pub spots_same : (profile : Profile) (names all : FileNames) (a b : RulesAbove) (r : FileRule) → SameNames names all → SameAbove a b → spots_by profile names a r ≡ spots_by profile all b r
spots_same profile names all a b r n s =
    let tokens = r.draft.parts in
    ap (λ x. lints_of_rule profile tokens ++ x)
    (ap (λ t. value_lints t tokens ++ rest names.imported a.given names.compared a.jump a.guarded a.programs names.late a.tag) n.tagged
    ∙ ap (λ x. value_lints all.tagged tokens ++ x) rests)
  where
    rest : List Text → List Text → List Text → Option Text → Bool → Bool → Bool → Bool → List (Spot Lint)
    rest imported given compared jump guarded programs late tag =
        flat_map (imported_below imported given) r.draft.parts
        ++ (imported_beside given false r.draft.parts
        ++ (meant_to_compare compared r.draft.parts
        ++ (never_reached jump r
        ++ (unguarded guarded r.draft.parts
        ++ (no_result programs r.draft.parts ++ late_tag late tag r.draft.parts)))))

    rests : rest names.imported a.given names.compared a.jump a.guarded a.programs names.late a.tag ≡ rest all.imported b.given all.compared b.jump b.guarded b.programs all.late b.tag
    rests =
        rw (tokens_same names.imported all.imported a.given b.given n.imported s.given r.draft.parts, beside_same a.given b.given s.given false r.draft.parts, meant_same names.compared all.compared n.compared r.draft.parts, s.jump, s.guarded, s.programs, n.late, s.tag)

given_more : (given : List Text) (above : List FileRule) (r : FileRule) → SameTexts given (given_names above) → SameTexts (with_texts given (given_by r.draft.parts)) (given_names (r ∷ above))
given_more given above r same name =
    among_all (given_by r.draft.parts) given name
    ∙ ap (λ x. x || is_among (given_by r.draft.parts) name) (same name)
    ∙ reversed_or (is_among (given_names above) name) (is_among (given_by r.draft.parts) name)
    ∙ sym (list_any-append (same_text name) (given_by r.draft.parts) (given_names above))

-- one more rule above
left_more : (above next : RulesAbove) (past : List FileRule) (r : FileRule) → SameAbove above (left_by past) → next ≡ with_rule above r → SameAbove next (left_by (r ∷ past))
left_more above next past r same n = record {
  given = λ name. ap (λ (a : RulesAbove). is_among a.given name) n ∙ given_more above.given past r same.given name;
  jump = ap (λ (a : RulesAbove). a.jump) n;
  guarded = ap (λ (a : RulesAbove). a.guarded) n ∙ ap (λ b. may_jump r || b) same.guarded;
  programs = ap (λ (a : RulesAbove). a.programs) n ∙ ap (λ b. has_program r.draft.parts || b) same.programs;
  tag = ap (λ (a : RulesAbove). a.tag) n ∙ ap (λ b. has_tag r.draft.parts || b) same.tag;
}

-- what is known of lines, one after another, is what is known of their rules
abbrev Lines : Type 0
Lines = List (Reading × Landing)

imports_over : (n : FileNames) (start : ℕ) (lines : Lines) (name : Text) → is_among (names_over n lines).imported name ≡ (is_among n.imported name || is_among (imported_names (rules_from start lines)) name)
imports_over n start [] name = reversed_or false (is_among n.imported name)
imports_over n start (x ∷ lines) name = by x.0.read (λ (m : FileNames). imports_over m (start + length x.0.text) lines name)
  where
    more : ℕ
    more = start + length x.0.text

    by : (read : Result Draft (Spot MessageKind)) → ((m : FileNames) → is_among (names_over m lines).imported name ≡ (is_among m.imported name || is_among (imported_names (rules_from more lines)) name)) → is_among (names_over (option_map_or (with_names n) (rule_in read x.1) n) lines).imported name
        ≡ (is_among n.imported name || is_among (imported_names (rule_before x.0.line start read x.1 (rules_from more lines))) name)
    by (Err wrong) those = those n
    by (Ok d) those =
        let added : List Text = imported_by d.parts in
        let rest : List Text = imported_names (rules_from more lines) in
        those (with_names n (record { number = 0; start = 0; draft = d; landing = x.1 }))
        ∙ ap (λ b. b || is_among rest name) (among_all added n.imported name)
        ∙ or_swapped (is_among n.imported name) (is_among added name) (is_among rest name)
        ∙ ap (λ b. is_among n.imported name || b) (sym (list_any-append (same_text name) added rest))

compares_over : (n : FileNames) (start : ℕ) (lines : Lines) (name : Text) → is_among (names_over n lines).compared name ≡ (is_among n.compared name || is_among (compared_texts (rules_from start lines)) name)
compares_over n start [] name = reversed_or false (is_among n.compared name)
compares_over n start (x ∷ lines) name = by x.0.read (λ (m : FileNames). compares_over m (start + length x.0.text) lines name)
  where
    more : ℕ
    more = start + length x.0.text

    by : (read : Result Draft (Spot MessageKind)) → ((m : FileNames) → is_among (names_over m lines).compared name ≡ (is_among m.compared name || is_among (compared_texts (rules_from more lines)) name)) → is_among (names_over (option_map_or (with_names n) (rule_in read x.1) n) lines).compared name
        ≡ (is_among n.compared name || is_among (compared_texts (rule_before x.0.line start read x.1 (rules_from more lines))) name)
    by (Err wrong) those = those n
    by (Ok d) those =
        let added : List Text = compared_by d.parts in
        let rest : List Text = compared_texts (rules_from more lines) in
        those (with_names n (record { number = 0; start = 0; draft = d; landing = x.1 }))
        ∙ ap (λ b. b || is_among rest name) (among_all added n.compared name)
        ∙ or_swapped (is_among n.compared name) (is_among added name) (is_among rest name)
        ∙ ap (λ b. is_among n.compared name || b) (sym (list_any-append (same_text name) added rest))

tags_over : (n : FileNames) (start : ℕ) (lines : Lines) → (names_over n lines).tagged ≡ (n.tagged || list_any (λ r. is_about_tags r.draft.parts) (rules_from start lines))
tags_over n start [] = reversed_or false n.tagged
tags_over n start (x ∷ lines) = by x.0.read (λ (m : FileNames). tags_over m (start + length x.0.text) lines)
  where
    more : ℕ
    more = start + length x.0.text

    by : (read : Result Draft (Spot MessageKind)) → ((m : FileNames) → (names_over m lines).tagged ≡ (m.tagged || list_any (λ r. is_about_tags r.draft.parts) (rules_from more lines))) → (names_over (option_map_or (with_names n) (rule_in read x.1) n) lines).tagged
        ≡ (n.tagged || list_any (λ r. is_about_tags r.draft.parts) (rule_before x.0.line start read x.1 (rules_from more lines)))
    by (Err wrong) those = those n
    by (Ok d) those =
        those (with_names n (record { number = 0; start = 0; draft = d; landing = x.1 }))
        ∙ or_swapped n.tagged (is_about_tags d.parts) (list_any (λ r. is_about_tags r.draft.parts) (rules_from more lines))

neither : (a b c : Bool) → ((a && not b) && not c) ≡ (a && not (b || c))
neither true true c = refl
neither true false c = refl
neither false b c = refl

unchanged : (a : Bool) → a ≡ (a && true)
unchanged true = refl
unchanged false = refl

late_over : (n : FileNames) (start : ℕ) (lines : Lines) → (names_over n lines).late ≡ (n.late && not (list_any (λ r. has_access r.draft.parts) (rules_from start lines)))
late_over n start [] = unchanged n.late
late_over n start (x ∷ lines) = by x.0.read (λ (m : FileNames). late_over m (start + length x.0.text) lines)
  where
    more : ℕ
    more = start + length x.0.text

    by : (read : Result Draft (Spot MessageKind)) → ((m : FileNames) → (names_over m lines).late ≡ (m.late && not (list_any (λ r. has_access r.draft.parts) (rules_from more lines)))) → (names_over (option_map_or (with_names n) (rule_in read x.1) n) lines).late
        ≡ (n.late && not (list_any (λ r. has_access r.draft.parts) (rule_before x.0.line start read x.1 (rules_from more lines))))
    by (Err wrong) those = those n
    by (Ok d) those =
        those (with_names n (record { number = 0; start = 0; draft = d; landing = x.1 }))
        ∙ neither n.late (has_access d.parts) (list_any (λ r. has_access r.draft.parts) (rules_from more lines))

-- one more line is read, or none is left
pub names_more : (n next : FileNames) (rest others : Lines) (x : Reading × Landing) (whole : FileNames) → first rest ≡ Some x → others ≡ drop 1 rest → next ≡ names_after n x → names_over n rest ≡ whole → names_over next others ≡ whole
names_more n next [] others x whole f o e w = cc
names_more n next (y ∷ rest) others x whole f o e w =
    ap₂ names_over e o
    ∙ ap (λ (z : Reading × Landing). names_over (names_after n z) rest) (ap (λ (m : Option (Reading × Landing)). unwrap_or m x) (sym f))
    ∙ w

pub names_end : (n : FileNames) (rest : Lines) (whole : FileNames) → first rest ≡ None → names_over n rest ≡ whole → n ≡ whole
names_end n [] whole f w = w
names_end n (x ∷ rest) whole f w = cc

pub names_known : (path : Text) (start : ℕ) (lines : Lines) → SameNames (names_in path lines) (names_of path (rules_from start lines))
names_known path start lines =
    let rules : List FileRule = rules_from start lines in
    let families : List Text = later_families path in
    record {
      imported = λ name.
          imports_over (names_at_first path) start lines name
          ∙ ap (λ b. b || is_among (imported_names rules) name) (all_added families name)
          ∙ reversed_or (is_among families name) (is_among (imported_names rules) name)
          ∙ sym (list_any-append (same_text name) (imported_names rules) families);
      compared = λ name. compares_over (names_at_first path) start lines name;
      tagged = tags_over (names_at_first path) start lines;
      late = late_over (names_at_first path) start lines;
    }

-- where a rule is does not matter to its lints
never_anywhere : (jump : Option Text) (number start : ℕ) (d : Draft) (l : Landing)
    → never_reached jump (record { number = 0; start = 0; draft = d; landing = l }) ≡ never_reached jump (record { number = number; start = start; draft = d; landing = l })
never_anywhere None number start d l = refl
never_anywhere (Some name) number start d l = refl

spots_anywhere : (profile : Profile) (n : FileNames) (a : RulesAbove) (number start : ℕ) (d : Draft) (l : Landing)
    → spots_by profile n a (record { number = 0; start = 0; draft = d; landing = l }) ≡ spots_by profile n a (record { number = number; start = start; draft = d; landing = l })
spots_anywhere profile n a number start d l =
    ap (λ (found : List (Spot Lint)). lints_of_rule profile d.parts
    ++ (value_lints n.tagged d.parts
    ++ (flat_map (imported_below n.imported a.given) d.parts
    ++ (imported_beside a.given false d.parts
    ++ (meant_to_compare n.compared d.parts
    ++ (found
    ++ (unguarded a.guarded d.parts
    ++ (no_result a.programs d.parts ++ late_tag n.late a.tag d.parts))))))))
    (never_anywhere a.jump number start d l)

-- the lints of lines, one after another, are those of their rules
pub lints_known : (profile : Profile) (path : Text) (kept : List KeptLine) (all : List FileRule) (n : FileNames) → SameNames n (names_of path all)
    → (start : ℕ) (past : List FileRule) (a : RulesAbove) (lines : Lines) → SameAbove a (left_by past)
    → lints_over profile n kept a start lines ≡ lints_below profile path kept all past (rules_from start lines)
lints_known profile path kept all n known start past a [] same = refl
lints_known profile path kept all n known start past a (x ∷ lines) same =
    by x.0.read (λ (rs : List FileRule) (b : RulesAbove) (alike : SameAbove b (left_by rs)). lints_known profile path kept all n known (start + length x.0.text) rs b lines alike)
  where
    more : ℕ
    more = start + length x.0.text

    by : (read : Result Draft (Spot MessageKind)) → ((rs : List FileRule) (b : RulesAbove) → SameAbove b (left_by rs) → lints_over profile n kept b more lines ≡ lints_below profile path kept all rs (rules_from more lines))
        → map (placed kept x.0.line start) (option_map_or (spots_by profile n a) (rule_in read x.1) []) ++ lints_over profile n kept (option_map_or (with_rule a) (rule_in read x.1) a) more lines
        ≡ lints_below profile path kept all past (rule_before x.0.line start read x.1 (rules_from more lines))
    by (Err wrong) those = those past a same
    by (Ok d) those =
        let r : FileRule = record { number = x.0.line; start = start; draft = d; landing = x.1 } in
        let here : List (PlacedFinding Lint) = map (placed kept x.0.line start) (spots_of profile path all past r) in
        ap (λ (found : List (Spot Lint)). map (placed kept x.0.line start) found ++ lints_over profile n kept (with_rule a r) more lines)
        (spots_anywhere profile n a x.0.line start d x.1 ∙ spots_same profile n (names_of path all) a (left_by past) r known same)
        ∙ ap (λ (found : List (PlacedFinding Lint)). here ++ found) (those (r ∷ past) (with_rule a r) (left_more a (with_rule a r) past r same refl))

nothing_left : SameAbove nothing_above (left_by [])
nothing_left = record { given = λ name. refl; jump = refl; guarded = refl; programs = refl; tag = refl }

pub all_known : (profile : Profile) (path : Text) (kept : List KeptLine) (n : FileNames) (lines : Lines) → n ≡ names_in path lines → lints_over profile n kept nothing_above 0 lines ≡ lints_of_lines profile path kept lines
all_known profile path kept n lines e =
    ap (λ (m : FileNames). lints_over profile m kept nothing_above 0 lines) e
    ∙ lints_known profile path kept (rules_from 0 lines) (names_in path lines) (names_known path 0 lines) 0 [] nothing_above lines nothing_left
