-- Whether a rule of these has a label, as a test and as a relation.
use Rattle.std.proofs.Common.{◌≡◌, ℕ, Bool, true, false, not, ◌||◌, List, [], ◌∷◌, ◌++◌, Option, Some, None, reverse, refl, ap, sym, ◌∙◌}
use Rattle.std.proofs.lemmas.Bool.{false≢true}
use Rattle.std.proofs.lemmas.List.{reverse-append}
use Rattle.std.proofs.lemmas.List.Folds.{list_any-append}
use Rattle.std.specs.Cmp.Lexicographic.{bytes_decides}
use Rattle.rule_types.specs.Jumps.{Names, has_label, is_lost, is_named}
use Rattle.rule_laws.specs.Landings.{HasLabel, IsLost, Reaches}

-- a name that is found is the name
pub named_so : (name : List ℕ) (label : Option (List ℕ)) → is_named name label ≡ true → label ≡ Some name
named_so name None h = absurd (false≢true h)
named_so name (Some other) h = ap (λ n. Some n) (sym ((bytes_decides name other).0 h))

pub so_named : (name : List ℕ) (label : Option (List ℕ)) → label ≡ Some name → is_named name label ≡ true
so_named name label e = ap (is_named name) e ∙ (bytes_decides name name).1 refl

-- both sides of an `or` that is false are
pub neither : (a b : Bool) → (a || b) ≡ false → (a ≡ false) × (b ≡ false)
neither true b h = absurd (false≢true (sym h))
neither false b h = (refl, h)

pub label_in_place : (name : List ℕ) (rules : List Names) → has_label name rules ≡ true → HasLabel name rules
label_in_place name [] h = absurd (false≢true h)
label_in_place name (r ∷ rules) h = by (is_named name r.label) refl (label_in_place name rules) h
  where
    by : (b : Bool) → is_named name r.label ≡ b → (has_label name rules ≡ true → HasLabel name rules) → (b || has_label name rules) ≡ true → HasLabel name (r ∷ rules)
    by true e farther h = record { above = []; rule = r; below = rules; is_present = refl; has = named_so name r.label e }
    by false e farther h =
        let more = farther h in
        record { above = r ∷ more.above; rule = more.rule; below = more.below; is_present = ap (λ rs. r ∷ rs) more.is_present; has = more.has }

found_in : (name : List ℕ) (above : List Names) (r : Names) (below : List Names) → is_named name r.label ≡ true → has_label name (above ++ r ∷ below) ≡ true
found_in name [] r below h = ap (λ b. b || has_label name below) h
found_in name (a ∷ above) r below h = ap (λ b. is_named name a.label || b) (found_in name above r below h) ∙ ends (is_named name a.label)
  where
    ends : (b : Bool) → (b || true) ≡ true
    ends true = refl
    ends false = refl

pub present_label : (name : List ℕ) (rules : List Names) → HasLabel name rules → has_label name rules ≡ true
present_label name rules h = ap (has_label name) h.is_present ∙ found_in name h.above h.rule h.below (so_named name h.rule.label h.has)

-- no rule has the label if the test fails, and the test fails if none has
pub none_in_place : (name : List ℕ) (rules : List Names) → has_label name rules ≡ false → ¬ HasLabel name rules
none_in_place name rules h there = false≢true (sym h ∙ present_label name rules there)

pub none_found : (name : List ℕ) (rules : List Names) → ¬ HasLabel name rules → has_label name rules ≡ false
none_found name rules h = by (has_label name rules) refl
  where
    by : (b : Bool) → has_label name rules ≡ b → b ≡ false
    by true e = absurd (h (label_in_place name rules e))
    by false e = refl

-- the order of rules does not matter for whether one has a label
pub label-reverse : (name : List ℕ) (rules : List Names) → has_label name (reverse rules) ≡ has_label name rules
label-reverse name [] = refl
label-reverse name (r ∷ rules) =
    ap (has_label name) (reverse-append (r ∷ []) rules)
    ∙ list_any-append (λ q. is_named name q.label) (reverse rules) (r ∷ [])
    ∙ ap (λ b. b || (is_named name r.label || false)) (label-reverse name rules)
    ∙ reversed (has_label name rules) (is_named name r.label)
  where
    reversed : (a b : Bool) → (a || (b || false)) ≡ (b || a)
    reversed true true = refl
    reversed true false = refl
    reversed false true = refl
    reversed false false = refl

-- lost, as a test and as a relation
pub lost_so : (rule : Names) (following : List Names) → is_lost rule.goto following ≡ true → IsLost rule following
lost_so rule following h = by rule.goto refl h
  where
    by : (goto : Option (List ℕ)) → rule.goto ≡ goto → is_lost goto following ≡ true → IsLost rule following
    by None e h = absurd (false≢true h)
    by (Some name) e h = record { name = name; goto = e; none = none_in_place name following (flipped (has_label name following) h) }
      where
        flipped : (b : Bool) → not b ≡ true → b ≡ false
        flipped true h = absurd (false≢true h)
        flipped false h = refl

pub so_lost : (rule : Names) (following : List Names) → IsLost rule following → is_lost rule.goto following ≡ true
so_lost rule following h = ap (λ g. is_lost g following) h.goto ∙ ap not (none_found h.name following h.none)

-- the jump lands at the first rule with the label
pub first_lands : (rule : Names) (name : List ℕ) → rule.goto ≡ Some name → (following : List Names) → has_label name following ≡ true → (found : Reaches rule following) × (found.jumps.name ≡ name)
first_lands rule name advances [] h = absurd (false≢true h)
first_lands rule name advances (r ∷ rest) h = by (is_named name r.label) refl (first_lands rule name advances rest) h
  where
    by : (b : Bool) → is_named name r.label ≡ b → (has_label name rest ≡ true → (found : Reaches rule rest) × (found.jumps.name ≡ name)) → (b || has_label name rest) ≡ true → (found : Reaches rule (r ∷ rest)) × (found.jumps.name ≡ name)
    by true e farther h = (record { between = []; landing = r; farther = rest; is_present = refl; jumps = record { name = name; goto = advances; label = named_so name r.label e; next = none_in_place name [] refl } }, refl)
    by false e farther h =
        let more = farther h in
        let found = more.0 in
        let same : has_label name found.between ≡ false = ap (λ n. has_label n found.between) (sym more.1) ∙ none_found found.jumps.name found.between found.jumps.next in (
          record {
            between = r ∷ found.between;
            landing = found.landing;
            farther = found.farther;
            is_present = ap (λ rs. r ∷ rs) found.is_present;
            jumps = record { name = name; goto = advances; label = found.jumps.label ∙ ap (λ n. Some n) more.1; next = none_in_place name (r ∷ found.between) (ap (λ b. b || has_label name found.between) e ∙ same) };
          },
          refl,
        )

pub reaches : (rule : Names) (following : List Names) (name : List ℕ) → rule.goto ≡ Some name → HasLabel name following → Reaches rule following
reaches rule following name advances there = (first_lands rule name advances following (present_label name following there)).0
