-- What the passes over the rules of a file keep.
use Rattle.std.proofs.Common.{◌≡◌, ℕ, ◌+◌, ◌<◌, ◌≤◌, suc, Bool, true, false, cond, not, ◌||◌, List, [], ◌∷◌, ◌++◌, length, map, get_or, take, drop, Option, Some, None, unwrap_or, reverse, refl, ap, sym, ◌∙◌, append-nil, append_assoc, length-drop, arith}
use Rattle.std.proofs.Math.Seq.{drop-cons}
use Rattle.std.proofs.lemmas.List.{reverse-append, reverse-reverse, take_more}
use Rattle.std.specs.List.{zip}
use Rattle.rule_types.specs.Jumps.{Names, has_label, is_awaited, is_lost, is_named, is_unused, landings, landings_below}
use Rattle.text_tables.specs.Texts.{is_among, same_text}
use Rattle.text_tables.specs.Pairs.{value_of}
use Rattle.text_tables.proofs.Found.{among_added, value_set}
use Rattle.rule_types.specs.Passes.{is_waited_for, joined, leaves_unused, lost_flags, misses, unused_flags, with_name, with_note}

-- the two lists of flags are what becomes of the jumps
landings-joined : (above rules : List Names) → map joined (zip (lost_flags rules) (unused_flags above rules)) ≡ landings_below above rules
landings-joined above [] = refl
landings-joined above (r ∷ below) = ap (λ ls. record { lost = is_lost r.goto below; unused = is_unused r.label above } ∷ ls) (landings-joined (r ∷ above) below)

pub landings-from_flags : (rules : List Names) → map joined (zip (lost_flags rules) (unused_flags [] rules)) ≡ landings rules
unfolding landings
landings-from_flags rules = landings-joined [] rules

-- going up: the labels met and the flags so far are those of the rules gone past, from the last one on
pub record Ascends (met : List (List ℕ)) (flags : List Bool) (past : List Names) : Type 0 where
  pub labels : (name : List ℕ) → is_among met name ≡ has_label name (reverse past)
  pub so_far : reverse flags ≡ lost_flags (reverse past)

-- going down: the names waited for are those of the rules above, and the flags so far and those of the rules below are all
pub record Descends (waiting : List (List ℕ × Bool)) (flags : List Bool) (rules : List Names) (i : ℕ) : Type 0 where
  pub waits : (name : List ℕ) → is_waited_for waiting name ≡ is_awaited name (reverse (take i rules))
  pub so_far : flags ++ unused_flags (reverse (take i rules)) (drop i rules) ≡ unused_flags [] rules

-- what misses the labels met is lost
missed : (met : List (List ℕ)) (goto : Option (List ℕ)) (below : List Names) → ((name : List ℕ) → is_among met name ≡ has_label name below) → misses met goto ≡ is_lost goto below
missed met None below same = refl
missed met (Some name) below same = ap not (same name)

or_swapped : (a b : Bool) → (a || b) ≡ (b || a)
or_swapped true true = refl
or_swapped true false = refl
or_swapped false true = refl
or_swapped false false = refl

-- names with one more
named_more : (names : List (List ℕ)) (new : Option (List ℕ)) (name : List ℕ) → is_among (with_name names new) name ≡ (is_named name new || is_among names name)
named_more names None name = refl
named_more names (Some new) name = among_added names new name ∙ or_swapped (is_among names name) (same_text name new)

-- what is noted last about a name counts, and other names keep what they had
noted_more : (waiting : List (List ℕ × Bool)) (new : Option (List ℕ)) (waits : Bool) (name : List ℕ) → is_waited_for (with_note waiting new waits) name ≡ cond (is_named name new) waits (is_waited_for waiting name)
noted_more waiting None waits name = refl
noted_more waiting (Some new) waits name = ap (λ (o : Option Bool). unwrap_or o false) (value_set waiting new waits name) ∙ by (same_text name new)
  where
    by : (b : Bool) → unwrap_or (cond b (Some waits) (value_of waiting name)) false ≡ cond b waits (is_waited_for waiting name)
    by true = refl
    by false = refl

pub up_start : (met : List (List ℕ)) (flags : List Bool) → met ≡ [] → flags ≡ [] → Ascends met flags []
up_start met flags e f = record {
  labels = λ name. ap (λ (names : List (List ℕ)). is_among names name) e;
  so_far = ap reverse f;
}

pub up_past : (met more : List (List ℕ)) (flags longer : List Bool) (past : List Names) (r : Names) (lost : Bool) → Ascends met flags past
    → lost ≡ misses met r.goto → longer ≡ flags ++ lost ∷ [] → more ≡ with_name met r.label
    → Ascends more longer (past ++ r ∷ [])
up_past met more flags longer past r lost before is_missed pushed added =
    let reversed : reverse (past ++ r ∷ []) ≡ r ∷ reverse past = reverse-append past (r ∷ []) in
    record {
      labels = λ name. ap (λ (names : List (List ℕ)). is_among names name) added ∙ named_more met r.label name ∙ ap (λ b. is_named name r.label || b) (before.labels name) ∙ ap (has_label name) (sym reversed);
      so_far =
          ap reverse pushed ∙ reverse-append flags (lost ∷ []) ∙ ap (λ b. b ∷ reverse flags) (is_missed ∙ missed met r.goto (reverse past) before.labels)
          ∙ ap (λ bs. is_lost r.goto (reverse past) ∷ bs) before.so_far ∙ ap lost_flags (sym reversed);
    }

pub up_end : (met : List (List ℕ)) (flags reversed : List Bool) (past rules : List Names) → Ascends met flags past → past ≡ reverse rules → reversed ≡ reverse flags → reversed ≡ lost_flags rules
up_end met flags reversed past rules before whole e = e ∙ before.so_far ∙ ap (λ rs. lost_flags (reverse rs)) whole ∙ ap lost_flags (reverse-reverse rules)

-- what nothing waits for is unused
unwaited : (waiting : List (List ℕ × Bool)) (label : Option (List ℕ)) (above : List Names) → ((name : List ℕ) → is_waited_for waiting name ≡ is_awaited name above) → leaves_unused waiting label ≡ is_unused label above
unwaited waiting None above same = refl
unwaited waiting (Some name) above same = ap not (same name)

pub down_start : (waiting : List (List ℕ × Bool)) (flags : List Bool) (rules : List Names) → waiting ≡ [] → flags ≡ [] → Descends waiting flags rules 0
down_start waiting flags rules e f = record {
  waits = λ name. ap (λ (w : List (List ℕ × Bool)). is_waited_for w name) e;
  so_far = ap (λ bs. bs ++ unused_flags [] rules) f;
}

-- a rule comes before those after it
rule_item : (rules : List Names) (i : ℕ) (r : Names) → i < length rules → r ≡ get_or rules i r → drop i rules ≡ r ∷ drop (i + 1) rules
rule_item rules i r h e =
    let next : i + 1 ≡ suc i = omega arith in
    drop-cons rules i r h ∙ ap (λ x. x ∷ drop (suc i) rules) (sym e) ∙ ap (λ n. r ∷ drop n rules) (sym next)

pub down_past : (waiting between more : List (List ℕ × Bool)) (flags longer : List Bool) (rules : List Names) (i : ℕ) (r : Names) (unused : Bool) → Descends waiting flags rules i
    → i < length rules → r ≡ get_or rules i r → unused ≡ leaves_unused waiting r.label → longer ≡ flags ++ unused ∷ []
    → between ≡ with_note waiting r.label false → more ≡ with_note between r.goto true
    → Descends more longer rules (i + 1)
down_past waiting between more flags longer rules i r unused before h e is_left pushed arrives leaves =
    let above : List Names = reverse (take i rules) in
    let reversed : reverse (take (i + 1) rules) ≡ r ∷ above = ap reverse (take_more rules i r h ∙ ap (λ x. take i rules ++ x ∷ []) (sym e)) ∙ reverse-append (take i rules) (r ∷ []) in
    record {
      waits = λ name.
          ap (λ (w : List (List ℕ × Bool)). is_waited_for w name) leaves ∙ noted_more between r.goto true name
          ∙ ap (λ b. cond (is_named name r.goto) true b) (ap (λ (w : List (List ℕ × Bool)). is_waited_for w name) arrives ∙ noted_more waiting r.label false name ∙ ap (λ b. cond (is_named name r.label) false b) (before.waits name))
          ∙ ap (is_awaited name) (sym reversed);
      so_far =
          ap (λ bs. bs ++ unused_flags (reverse (take (i + 1) rules)) (drop (i + 1) rules)) pushed
          ∙ ap (λ rs. (flags ++ unused ∷ []) ++ unused_flags rs (drop (i + 1) rules)) reversed
          ∙ append_assoc flags (unused ∷ []) (unused_flags (r ∷ above) (drop (i + 1) rules))
          ∙ ap (λ b. flags ++ (b ∷ unused_flags (r ∷ above) (drop (i + 1) rules))) (is_left ∙ unwaited waiting r.label above before.waits)
          ∙ ap (λ rs. flags ++ unused_flags above rs) (sym (rule_item rules i r h e))
          ∙ before.so_far;
    }

-- past the end nothing is left
none_left : (rules : List Names) → length rules ≡ 0 → rules ≡ []
none_left [] e = refl
none_left (r ∷ rules) e = absurd (omega arith)

pub down_end : (waiting : List (List ℕ × Bool)) (flags : List Bool) (rules : List Names) (i : ℕ) → Descends waiting flags rules i → length rules ≤ i → flags ≡ unused_flags [] rules
down_end waiting flags rules i before h =
    let none : drop i rules ≡ [] = none_left (drop i rules) (length-drop i rules ∙ omega arith) in
    sym (append-nil flags) ∙ ap (λ rs. flags ++ unused_flags (reverse (take i rules)) rs) (sym none) ∙ before.so_far
