-- Whether a jump waits for a label, as a test from the nearest rule on and as a relation.
use Rattle.std.proofs.Common.{◌≡◌, ℕ, Bool, true, false, not, cond, ◌||◌, List, [], ◌∷◌, ◌++◌, Option, Some, None, reverse, refl, ap, sym, ◌∙◌}
use Rattle.std.proofs.lemmas.Bool.{false≢true}
use Rattle.std.proofs.lemmas.List.{append_assoc, reverse-append, reverse-reverse}
use Rattle.rule_types.specs.Jumps.{Names, has_label, is_awaited, is_named, is_unused}
use Rattle.rule_laws.specs.Landings.{IsReached, IsUnused}
use Rattle.rule_laws.proofs.Labelled.{label-reverse, named_so, neither, none_found, none_in_place, so_named}

-- one of these rules, the nearest first, jumps over the nearer ones to a label of this name
pub record Awaits (name : List ℕ) (above : List Names) : Type 0 where
  pub nearer : List Names
  pub leaving : Names
  pub farther : List Names
  pub is_present : above ≡ nearer ++ leaving ∷ farther
  pub goto : leaving.goto ≡ Some name
  pub next : has_label name nearer ≡ false

awaited_so : (name : List ℕ) (above : List Names) → is_awaited name above ≡ true → Awaits name above
awaited_so name [] h = absurd (false≢true h)
awaited_so name (r ∷ above) h = by (is_named name r.goto) (is_named name r.label) refl refl (awaited_so name above) h
  where
    by : (g l : Bool) → is_named name r.goto ≡ g → is_named name r.label ≡ l → (is_awaited name above ≡ true → Awaits name above) → cond g true (cond l false (is_awaited name above)) ≡ true → Awaits name (r ∷ above)
    by true l e f go h = record { nearer = []; leaving = r; farther = above; is_present = refl; goto = named_so name r.goto e; next = refl }
    by false true e f go h = absurd (false≢true h)
    by false false e f go h =
        let more = go h in
        record {
          nearer = r ∷ more.nearer;
          leaving = more.leaving;
          farther = more.farther;
          is_present = ap (λ rs. r ∷ rs) more.is_present;
          goto = more.goto;
          next = ap (λ b. b || has_label name more.nearer) f ∙ more.next;
        }

waits_over : (name : List ℕ) (nearer : List Names) (leaving : Names) (farther : List Names) → is_named name leaving.goto ≡ true → has_label name nearer ≡ false → is_awaited name (nearer ++ leaving ∷ farther) ≡ true
waits_over name [] leaving farther e h = ap (λ b. cond b true (cond (is_named name leaving.label) false (is_awaited name farther))) e
waits_over name (r ∷ nearer) leaving farther e h =
    let both = neither (is_named name r.label) (has_label name nearer) h in
    ap (λ b. cond (is_named name r.goto) true (cond b false (is_awaited name (nearer ++ leaving ∷ farther)))) both.0
    ∙ ap (λ b. cond (is_named name r.goto) true b) (waits_over name nearer leaving farther e both.1)
    ∙ ends (is_named name r.goto)
  where
    ends : (b : Bool) → cond b true true ≡ true
    ends true = refl
    ends false = refl

so_awaited : (name : List ℕ) (above : List Names) → Awaits name above → is_awaited name above ≡ true
so_awaited name above h = ap (is_awaited name) h.is_present ∙ waits_over name h.nearer h.leaving h.farther (so_named name h.leaving.goto h.goto) h.next

-- a rule in the midst of rules, from the other end
reversed : (farther : List Names) (r : Names) (between : List Names) → reverse (farther ++ r ∷ between) ≡ reverse between ++ r ∷ reverse farther
reversed farther r between =
    reverse-append farther (r ∷ between)
    ∙ ap (λ rs. rs ++ reverse farther) (reverse-append (r ∷ []) between)
    ∙ append_assoc (reverse between) (r ∷ []) (reverse farther)

-- from the rules before, in order, to those above, from the nearest on, and back
reached_so : (before : List Names) (rule : Names) (name : List ℕ) → rule.label ≡ Some name → Awaits name (reverse before) → IsReached before rule
reached_so before rule name e h = record {
  farther = reverse h.farther;
  leaving = h.leaving;
  between = reverse h.nearer;
  is_present = sym (reverse-reverse before) ∙ ap reverse h.is_present ∙ reversed h.nearer h.leaving h.farther;
  jumps = record { name = name; goto = h.goto; label = e; next = none_in_place name (reverse h.nearer) (label-reverse name h.nearer ∙ h.next) };
}

some_same : (o : Option (List ℕ)) (a b : List ℕ) → o ≡ Some a → o ≡ Some b → a ≡ b
some_same o a b e f = cc

so_reached : (before : List Names) (rule : Names) (name : List ℕ) → rule.label ≡ Some name → IsReached before rule → Awaits name (reverse before)
so_reached before rule name e h =
    let same : h.jumps.name ≡ name = some_same rule.label h.jumps.name name h.jumps.label e in
    record {
      nearer = reverse h.between;
      leaving = h.leaving;
      farther = reverse h.farther;
      is_present = ap reverse h.is_present ∙ reversed h.farther h.leaving h.between;
      goto = h.jumps.goto ∙ ap (λ n. Some n) same;
      next = label-reverse name h.between ∙ ap (λ n. has_label n h.between) (sym same) ∙ none_found h.jumps.name h.between h.jumps.next;
    }

-- unused, as a test and as a relation
pub unused_so : (before : List Names) (rule : Names) → is_unused rule.label (reverse before) ≡ true → IsUnused before rule
unused_so before rule h = by rule.label refl h
  where
    by : (label : Option (List ℕ)) → rule.label ≡ label → is_unused label (reverse before) ≡ true → IsUnused before rule
    by None e h = absurd (false≢true h)
    by (Some name) e h = record { name = name; label = e; none = λ there. clash (is_awaited name (reverse before)) h (so_awaited name (reverse before) (so_reached before rule name e there)) }
      where
        clash : (b : Bool) → not b ≡ true → b ≡ true → ⊥
        clash true h e = false≢true h
        clash false h e = false≢true e

pub so_unused : (before : List Names) (rule : Names) → IsUnused before rule → is_unused rule.label (reverse before) ≡ true
so_unused before rule h = ap (λ l. is_unused l (reverse before)) h.label ∙ by (is_awaited h.name (reverse before)) refl
  where
    by : (b : Bool) → is_awaited h.name (reverse before) ≡ b → not b ≡ true
    by true e = absurd (h.none (reached_so before rule h.name h.label (awaited_so h.name (reverse before) e)))
    by false e = refl
