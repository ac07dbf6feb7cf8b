-- By the manual the assignments of each key are in written order.
use Rattle.std.proofs.Common.{◌≡◌, ℕ, ◌==◌, Bool, true, false, cond, List, [], ◌∷◌, filter, filter_map, refl, ap, sym, ◌∙◌}
use Rattle.std.proofs.lemmas.Bool.{eq-eqb, false≢true}
use Rattle.text_bytes.specs.declared.profile.Profile.TheVariants.{Manual}
use Rattle.rule_types.specs.WrittenParts.{key_of_change}
use Rattle.rule_types.specs.declared.keys.Key.{Key}
use Rattle.rule_types.specs.declared.keys.Key.TheVariants as key
use Rattle.rule_types.specs.declared.part.Assignment.{Assignment}
use Rattle.rule_types.specs.declared.part.Change.{Change}
use Rattle.rule_types.specs.declared.part.Change.TheVariants as change
use Rattle.rule_types.specs.declared.part.Part.{Part}
use Rattle.rule_types.specs.declared.roles.Target.TheVariants as target
use Rattle.rule_core.specs.Drafts.{assignment_in, sets_of}
use Rattle.rule_core.specs.Turns.{assignment_turns, turn_of_assignment, turn_of_change}
use Rattle.rule_core.proofs.Bounds.{assignment_below}
use Rattle.rule_core.proofs.Sorting.{are_in_order}
use Rattle.rule_laws.specs.Turns.{EachKeyAsWritten}

-- the turn of the assignments of a key
turn_of_key : Key → ℕ
turn_of_key key.Owner = 1
turn_of_key key.Group = 2
turn_of_key key.Mode = 3
turn_of_key key.Tag = 4
turn_of_key key.Seclabel = 5
turn_of_key key.Env = 6
turn_of_key key.Name = 7
turn_of_key key.Symlink = 8
turn_of_key key.Attr = 9
turn_of_key key.Sysctl = 10
turn_of_key key.Run = 11
turn_of_key _ = 0

by_key : (c : Change) → turn_of_change Manual c ≡ turn_of_key (key_of_change c)
unfolding turn_of_key
by_key (change.Option known) = refl
by_key (change.Run type text) = refl
by_key (change.Text target.Owner t) = refl
by_key (change.Text target.Group t) = refl
by_key (change.Text target.Mode t) = refl
by_key (change.Text target.Tag t) = refl
by_key (change.Text (target.Seclabel name) t) = refl
by_key (change.Text (target.Env name) t) = refl
by_key (change.Text target.Name t) = refl
by_key (change.Text target.Symlink t) = refl
by_key (change.Text (target.Attr name) t) = refl
by_key (change.Text (target.Sysctl name) t) = refl

-- a test that implies another finds the same among those that pass the other
narrower : {X : Type 0} (p q : X → Bool) → ((x : X) → p x ≡ true → q x ≡ true) → (xs : List X) → filter p (filter q xs) ≡ filter p xs
narrower p q h [] = refl
narrower p q h (x ∷ xs) = by (q x) refl (p x) refl (narrower p q h xs)
  where
    by : (b : Bool) → q x ≡ b → (c : Bool) → p x ≡ c → filter p (filter q xs) ≡ filter p xs → filter p (cond b (x ∷ filter q xs) (filter q xs)) ≡ cond c (x ∷ filter p xs) (filter p xs)
    by true e true k rest = ap (λ (b : Bool). cond b (x ∷ filter p (filter q xs)) (filter p (filter q xs))) k ∙ ap (λ ys. x ∷ ys) rest
    by true e false k rest = ap (λ (b : Bool). cond b (x ∷ filter p (filter q xs)) (filter p (filter q xs))) k ∙ rest
    by false e true k rest = absurd (false≢true (sym e ∙ h x k))
    by false e false k rest = rest

pub as_written : (parts : List Part) → EachKeyAsWritten (filter_map assignment_in parts) (sets_of Manual parts)
as_written parts k is_of of_key =
    let written = filter_map assignment_in parts in
    let sets = sets_of Manual parts in
    let order = are_in_order (turn_of_assignment Manual) (assignment_turns Manual) (assignment_below Manual) written in
    let at : (a : Assignment) → is_of a ≡ true → (turn_of_assignment Manual a == turn_of_key k) ≡ true = λ a h. eq-eqb (turn_of_assignment Manual a) (turn_of_key k) (by_key a.change ∙ ap turn_of_key ((of_key a).0 h)) in
    sym (narrower is_of (λ a. turn_of_assignment Manual a == turn_of_key k) at sets)
    ∙ ap (filter is_of) (order.each (turn_of_key k))
    ∙ narrower is_of (λ a. turn_of_assignment Manual a == turn_of_key k) at written
