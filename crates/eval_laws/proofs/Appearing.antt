-- What appears and disappears is among what is said of a change.
use Rattle.std.proofs.Common.{◌≡◌, ℕ, zero, suc, ◌<◌, Bool, false, cond, List, [], ◌∷◌, ◌++◌, Contains, flat_map, get_or, length, codes, is_some, arith, refl, sym, subst}
use Rattle.std.proofs.lemmas.List.Elements.{Contains-append_left, Contains-append_right}
use Rattle.text_tables.specs.Pairs.{Pair, value_of}
use Rattle.text_bytes.specs.Text.{Text}
use Rattle.eval_state.specs.Runs.{RunValue}
use Rattle.eval_effects.specs.Changes.{Snapshot, added_run, changes, is_kept, item_changes, made_changes, removed_item, removed_runs, removed_text, run_changes, run_text, set_item, set_text}
use Rattle.eval_effects.specs.Items.{is_present}

-- what one of these gives is among what all give
from_one : {X Y : Type 0} (f : X → List Y) (xs : List X) (x : X) (y : Y) (k : ℕ) → k < length xs → get_or xs k x ≡ x → Contains (f x) y → Contains (flat_map f xs) y
from_one f [] x y k l e h = absurd (omega (arith, l))
from_one f (z ∷ xs) x y zero l e h = Contains-append_left (f z) (flat_map f xs) y (subst (λ w. Contains (f w) y) (sym e) h)
from_one f (z ∷ xs) x y (suc k) l e h = Contains-append_right (f z) (flat_map f xs) y (from_one f xs x y k (omega (arith, l)) e h)

alone : {Y : Type 0} (y : Y) → Contains (y ∷ []) y
alone y = (0, omega arith, refl)

-- what is given unless a test passes
unless : {Y : Type 0} (b : Bool) (y : Y) → b ≡ false → Contains (cond b [] (y ∷ [])) y
unless b y e = subst (λ c. Contains (cond c [] (y ∷ [])) y) (sym e) (alone y)

of_items : (was now : Snapshot) (text : Text) → Contains (item_changes was.items now.items) text → Contains (changes was now) text
of_items was now text h =
    Contains-append_left (item_changes was.items now.items ++ run_changes was.runs now.runs) (made_changes was.made now.made) text
    (Contains-append_left (item_changes was.items now.items) (run_changes was.runs now.runs) text h)

pub set_is_said : (was now : Snapshot) (item : Pair) → Contains now.items item → is_present item was.items ≡ false → Contains (changes was now) (set_text item)
set_is_said was now item among new =
    of_items was now (set_text item)
    (Contains-append_right (flat_map (removed_item now.items) was.items) (flat_map (set_item was.items) now.items) (set_text item)
    (from_one (set_item was.items) now.items item (set_text item) among.0 among.1 among.2 (unless (is_present item was.items) (set_text item) new)))

pub removed_is_said : (was now : Snapshot) (item : Pair) → Contains was.items item → is_some (value_of now.items item.0) ≡ false → Contains (changes was now) (removed_text item.0)
removed_is_said was now item among gone =
    of_items was now (removed_text item.0)
    (Contains-append_left (flat_map (removed_item now.items) was.items) (flat_map (set_item was.items) now.items) (removed_text item.0)
    (from_one (removed_item now.items) was.items item (removed_text item.0) among.0 among.1 among.2 (unless (is_some (value_of now.items item.0)) (removed_text item.0) gone)))

pub added_is_said : (was now : Snapshot) (run : RunValue) → Contains now.runs run → is_kept was.runs run ≡ false → Contains (changes was now) (run_text run ++ codes " added")
added_is_said was now run among new =
    let text : Text = run_text run ++ codes " added" in
    Contains-append_left (item_changes was.items now.items ++ run_changes was.runs now.runs) (made_changes was.made now.made) text
    (Contains-append_right (item_changes was.items now.items) (run_changes was.runs now.runs) text
    (Contains-append_right (removed_runs was.runs now.runs) (flat_map (added_run was.runs) now.runs) text
    (from_one (added_run was.runs) now.runs run text among.0 among.1 among.2 (unless (is_kept was.runs run) text new))))
