-- For udev no value of OWNER, GROUP or MODE that is rendered for each event comes after one that is known.
use Rattle.std.proofs.Common.{◌≡◌, ◌≤◌, ◌⊎◌, inl, inr, ℕ, ◌+◌, ◌==◌, ◌||◌, Bool, true, false, cond, List, [], ◌∷◌, ◌++◌, filter_map, All, refl, ap, sym, subst, ◌∙◌, arith}
use Rattle.std.proofs.lemmas.Bool.{eqb-true, false≢true}
use Rattle.std.proofs.lemmas.List.Elements.{All-nil, All-cons}
use Rattle.text_bytes.specs.Names.{dollar, open_bracket, percent}
use Rattle.text_bytes.specs.Texts.{begins_with}
use Rattle.text_bytes.specs.declared.profile.Profile.TheVariants.{Udev}
use Rattle.rule_tokens.specs.Substituted.{has_sign, is_substituted}
use Rattle.rule_types.specs.declared.part.Assignment.{Assignment}
use Rattle.rule_types.specs.declared.part.Change.{Change}
use Rattle.rule_types.specs.declared.part.Change.TheVariants as change
use Rattle.rule_types.specs.declared.part.Part.{Part}
use Rattle.rule_types.specs.declared.roles.Target.{Target}
use Rattle.rule_types.specs.declared.roles.Target.TheVariants as target
use Rattle.rule_core.specs.Drafts.{assignment_in, sets_of}
use Rattle.rule_core.specs.Laws.{RisesFrom}
use Rattle.rule_core.specs.Turns.{assignment_turns, is_rendered_late, turn_of_assignment, turn_of_change, turn_of_target, turn_of_text}
use Rattle.rule_core.proofs.Bounds.{assignment_below}
use Rattle.rule_core.proofs.Sorting.{are_in_order}
use Rattle.rule_laws.specs.Turns.{HasByte, HasSubstitution, IsKnown, IsRendered, KnownComeLast}
use Rattle.rule_laws.proofs.OctalTexts.{mode_is_read, no_mode_is_read}

-- a sign is found where one is
sign_found : (before : List ℕ) (byte : ℕ) (following : List ℕ) → (byte == dollar || byte == percent) ≡ true → has_sign (before ++ byte ∷ following) ≡ true
sign_found [] byte following e = ap (λ (b : Bool). b || has_sign following) e
sign_found (c ∷ before) byte following e = ap (λ (b : Bool). (c == dollar || c == percent) || b) (sign_found before byte following e) ∙ or_true (c == dollar || c == percent)
  where
    or_true : (b : Bool) → (b || true) ≡ true
    or_true true = refl
    or_true false = refl

substituted : (text : List ℕ) → HasSubstitution text → is_substituted text ≡ true
substituted text (inl h) = ap (λ (b : Bool). b || begins_with open_bracket text) (ap has_sign h.cut ∙ sign_found h.before dollar h.following refl)
substituted text (inr (inl h)) = ap (λ (b : Bool). b || begins_with open_bracket text) (ap has_sign h.cut ∙ sign_found h.before percent h.following refl)
substituted text (inr (inr h)) = ap is_substituted h.1 ∙ or_true (has_sign (open_bracket ∷ h.0))
  where
    or_true : (b : Bool) → (b || true) ≡ true
    or_true true = refl
    or_true false = refl

-- where a sign is found, one is
later : (byte c : ℕ) (text : List ℕ) → HasByte byte text → HasByte byte (c ∷ text)
later byte c text h = record { before = c ∷ h.before; following = h.following; cut = ap (λ (xs : List ℕ). c ∷ xs) h.cut }

sign_there : (text : List ℕ) → has_sign text ≡ true → HasByte dollar text ⊎ HasByte percent text
sign_there [] e = absurd (false≢true e)
sign_there (c ∷ text) e = by (λ h. sign_there text h) (c == dollar) refl (c == percent) refl
  where
    more : HasByte dollar text ⊎ HasByte percent text → HasByte dollar (c ∷ text) ⊎ HasByte percent (c ∷ text)
    more (inl h) = inl (later dollar c text h)
    more (inr h) = inr (later percent c text h)

    by : (has_sign text ≡ true → HasByte dollar text ⊎ HasByte percent text) → (b : Bool) → (c == dollar) ≡ b → (d : Bool) → (c == percent) ≡ d → HasByte dollar (c ∷ text) ⊎ HasByte percent (c ∷ text)
    by next true f d k = inl (record { before = []; following = text; cut = ap (λ (x : ℕ). x ∷ text) (eqb-true c dollar f) })
    by next false f true k = inr (record { before = []; following = text; cut = ap (λ (x : ℕ). x ∷ text) (eqb-true c percent k) })
    by next false f false k = more (next (sym (ap (λ (b : Bool). (b || (c == percent)) || has_sign text) f ∙ ap (λ (b : Bool). b || has_sign text) k) ∙ e))

bracket_there : (text : List ℕ) → begins_with open_bracket text ≡ true → (rest : List ℕ) × (text ≡ open_bracket ∷ rest)
bracket_there [] e = absurd (false≢true e)
bracket_there (c ∷ text) e = (text, ap (λ (x : ℕ). x ∷ text) (eqb-true c open_bracket e))

plain : (text : List ℕ) → ¬ HasSubstitution text → is_substituted text ≡ false
plain text none = by (has_sign text) refl (begins_with open_bracket text) refl
  where
    one : HasByte dollar text ⊎ HasByte percent text → ⊥
    one (inl h) = none (inl h)
    one (inr h) = none (inr (inl h))

    by : (b : Bool) → has_sign text ≡ b → (c : Bool) → begins_with open_bracket text ≡ c → (has_sign text || begins_with open_bracket text) ≡ false
    by true e c f = absurd (one (sign_there text e))
    by false e true f = absurd (none (inr (inr (bracket_there text f))))
    by false e false f = ap (λ (b : Bool). b || begins_with open_bracket text) e ∙ f

-- the turn of a text by whether it is rendered
turn_at : (to : Target) (text : List ℕ) (b : Bool) → is_rendered_late to text ≡ b → 5 + turn_of_text to text ≡ 5 + cond b (turn_of_target to) (3 + turn_of_target to)
turn_at to text b e = ap (λ (c : Bool). 5 + cond c (turn_of_target to) (3 + turn_of_target to)) e

early : (c : Change) → IsRendered c → turn_of_change Udev c ≤ 8
early (change.Text target.Owner t) h = let at = turn_at target.Owner t.written true (substituted t.written h) in omega (arith, at)
early (change.Text target.Group t) h = let at = turn_at target.Group t.written true (substituted t.written h) in omega (arith, at)
early (change.Text target.Mode t) h = let at = turn_at target.Mode t.written true (no_mode_is_read t.written h) in omega (arith, at)
early (change.Text target.Tag t) h = absurd h
early (change.Text (target.Seclabel name) t) h = absurd h
early (change.Text (target.Env name) t) h = absurd h
early (change.Text target.Name t) h = absurd h
early (change.Text target.Symlink t) h = absurd h
early (change.Text (target.Attr name) t) h = absurd h
early (change.Text (target.Sysctl name) t) h = absurd h
early (change.Option known) h = absurd h
early (change.Run type text) h = absurd h

late : (c : Change) → IsKnown c → 9 ≤ turn_of_change Udev c
late (change.Text target.Owner t) h = let at = turn_at target.Owner t.written false (plain t.written h) in omega (arith, at)
late (change.Text target.Group t) h = let at = turn_at target.Group t.written false (plain t.written h) in omega (arith, at)
late (change.Text target.Mode t) h = let at = turn_at target.Mode t.written false (mode_is_read t.written h) in omega (arith, at)
late (change.Text target.Tag t) h = absurd h
late (change.Text (target.Seclabel name) t) h = absurd h
late (change.Text (target.Env name) t) h = absurd h
late (change.Text target.Name t) h = absurd h
late (change.Text target.Symlink t) h = absurd h
late (change.Text (target.Attr name) t) h = absurd h
late (change.Text (target.Sysctl name) t) h = absurd h
late (change.Option known) h = absurd h
late (change.Run type text) h = absurd h

-- none is rendered where all have a turn of one that is known
none_rendered : (t : ℕ) (sets : List Assignment) → 9 ≤ t → RisesFrom (turn_of_assignment Udev) t sets → All (λ other. ¬ IsRendered other.change) sets
none_rendered t [] high rises = All-nil (λ other. ¬ IsRendered other.change)
none_rendered t (a ∷ sets) high rises =
    let here : t ≤ turn_of_assignment Udev a = rises.0 in
    let next : 9 ≤ turn_of_assignment Udev a = omega (arith, here, high) in
    All-cons (λ other. ¬ IsRendered other.change) a sets (apart next) (none_rendered (turn_of_assignment Udev a) sets next rises.1)
  where
    apart : 9 ≤ turn_of_assignment Udev a → IsRendered a.change → ⊥
    apart next h = let low = early a.change h in omega (arith, low, next)

after : (t : ℕ) (before : List Assignment) (known : Assignment) (following : List Assignment) → RisesFrom (turn_of_assignment Udev) t (before ++ known ∷ following) → RisesFrom (turn_of_assignment Udev) (turn_of_assignment Udev known) following
after t [] known following rises = rises.1
after t (a ∷ before) known following rises = after (turn_of_assignment Udev a) before known following rises.1

pub known_last : (parts : List Part) → KnownComeLast (sets_of Udev parts)
known_last parts before known following cut is_known =
    let order = are_in_order (turn_of_assignment Udev) (assignment_turns Udev) (assignment_below Udev) (filter_map assignment_in parts) in
    none_rendered (turn_of_assignment Udev known) following (late known.change is_known) (after 0 before known following (subst (RisesFrom (turn_of_assignment Udev) 0) cut order.rises))
