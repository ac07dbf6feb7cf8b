-- What the pass over rules keeps.
use Rattle.std.proofs.Common.{◌≡◌, ℕ, ◌+◌, suc, Bool, true, false, cond, not, List, [], ◌∷◌, ◌++◌, length, Option, Some, None, reverse, refl, ap, sym, ◌∙◌, arith}
use Rattle.std.proofs.lemmas.List.{reverse-append, reverse-reverse, length-append, length-reverse}
use Rattle.std.specs.List.{prefix_len}
use Rattle.text_bytes.specs.Text.{Text}
use Rattle.text_tables.specs.Pairs.{value_of}
use Rattle.text_tables.proofs.Found.{value_set}
use Rattle.rule_types.specs.Jumps.{is_named}
use Rattle.rule_types.specs.Rules.{Rule}
use Rattle.rule_types.specs.Passed.{over, skipped}
use Rattle.rule_types.specs.Walks.{over_met, over_to, with_label}

-- how many rules are below the first that has a label
abbrev pub below_label : Text → List Rule → Option ℕ
below_label name [] = None
below_label name (r ∷ below) = cond (is_named name r.label) (Some (length below)) (below_label name below)

-- so many rules are those before the one with a label, that one, and those below it; or none has it
abbrev Cut : Option ℕ → ℕ → ℕ → Type 0
Cut None all before = all ≡ before
Cut (Some following) all before = all ≡ before + 1 + following

further : (o : Option ℕ) (all before : ℕ) → Cut o all before → Cut o (suc all) (1 + before)
further None all before h = omega (arith, h)
further (Some following) all before h = omega (arith, h)

abbrev before_label : Text → List Rule → ℕ
before_label name rules = prefix_len (λ r. not (is_named name r.label)) rules

cut : (name : Text) (rules : List Rule) → Cut (below_label name rules) (length rules) (before_label name rules)
cut name [] = refl
cut name (r ∷ rs) = by (is_named name r.label) (cut name rs)
  where
    by : (b : Bool) → Cut (below_label name rs) (length rs) (before_label name rs)
        → Cut (cond b (Some (length rs)) (below_label name rs)) (suc (length rs)) (cond (not b) (1 + before_label name rs) 0)
    by true h = omega arith
    by false h = further (below_label name rs) (length rs) (before_label name rs) h

passed : (o : Option ℕ) (all before : ℕ) → Cut o all before → over_to o all ≡ before
passed None all before h = h
passed (Some following) all before h = omega (arith, h)

-- going up: the labels met and the counts so far are those of the rules gone past, from the last one on
pub record Ascends (met : List (Text × ℕ)) (counts : List ℕ) (past : List Rule) : Type 0 where
  pub labels : (name : Text) → value_of met name ≡ below_label name (reverse past)
  pub so_far : reverse counts ≡ skipped (reverse past)
  pub count : length counts ≡ length past

counted : (met : List (Text × ℕ)) (goto : Option Text) (below : List Rule) → ((name : Text) → value_of met name ≡ below_label name below) → over_met met goto (length below) ≡ over goto below
counted met None below same = refl
counted met (Some name) below same =
    ap (λ o. over_to o (length below)) (same name) ∙ passed (below_label name below) (length below) (before_label name below) (cut name below)

labels_more : (met : List (Text × ℕ)) (r : Rule) (below : List Rule) (label : Option Text) (name : Text) → value_of met name ≡ below_label name below
    → value_of (with_label met label (length below)) name ≡ cond (is_named name label) (Some (length below)) (below_label name below)
labels_more met r below None name same = same
labels_more met r below (Some label) name same = value_set met label (length below) name ∙ ap (λ o. cond (is_named name (Some label)) (Some (length below)) o) same

pub up_start : (met : List (Text × ℕ)) (counts : List ℕ) → met ≡ [] → counts ≡ [] → Ascends met counts []
up_start met counts e f = record {
  labels = λ name. ap (λ (pairs : List (Text × ℕ)). value_of pairs name) e;
  so_far = ap reverse f;
  count = ap (λ (ns : List ℕ). length ns) f;
}

pub up_past : (met more : List (Text × ℕ)) (counts longer : List ℕ) (past : List Rule) (r : Rule) (below passes : ℕ) → Ascends met counts past
    → below ≡ length counts → passes ≡ over_met met r.goto below → longer ≡ counts ++ passes ∷ [] → more ≡ with_label met r.label below
    → Ascends more longer (past ++ r ∷ [])
up_past met more counts longer past r below passes before is_below is_over pushed added =
    let reversed : reverse (past ++ r ∷ []) ≡ r ∷ reverse past = reverse-append past (r ∷ []) in
    let all : below ≡ length (reverse past) = is_below ∙ before.count ∙ sym (length-reverse past) in
    record {
      labels = λ name.
          ap (λ (pairs : List (Text × ℕ)). value_of pairs name) (added ∙ ap (with_label met r.label) all)
          ∙ labels_more met r (reverse past) r.label name (before.labels name) ∙ ap (below_label name) (sym reversed);
      so_far =
          ap reverse pushed ∙ reverse-append counts (passes ∷ [])
          ∙ ap (λ n. n ∷ reverse counts) (is_over ∙ ap (over_met met r.goto) all ∙ counted met r.goto (reverse past) before.labels)
          ∙ ap (λ ns. over r.goto (reverse past) ∷ ns) before.so_far ∙ ap skipped (sym reversed);
      count =
          ap (λ (ns : List ℕ). length ns) pushed ∙ length-append counts (passes ∷ []) ∙ ap (λ n. n + 1) before.count ∙ sym (length-append past (r ∷ []));
    }

pub up_end : (met : List (Text × ℕ)) (counts reversed : List ℕ) (past rules : List Rule) → Ascends met counts past → past ≡ reverse rules → reversed ≡ reverse counts → reversed ≡ skipped rules
up_end met counts reversed past rules before whole e = e ∙ before.so_far ∙ ap (λ rs. skipped (reverse rs)) whole ∙ ap skipped (reverse-reverse rules)
