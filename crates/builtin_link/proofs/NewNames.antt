-- The name of an interface may be the name of one, or it is the one that it has.
use Rattle.std.proofs.Common.{◌≡◌, ◌⊎◌, Bool, true, false, ℕ, List, [], ◌∷◌, fold, inl, inr, refl, subst}
use Rattle.std.specs.Prelude.{codes, Option, Some, None, not, option_and_then, if◌then◌else◌}
use Rattle.std.specs.Bool.{then_some}
use Rattle.std.specs.Option.{option_or}
use Rattle.text_bytes.specs.Texts.{is_empty}
use Rattle.text_bytes.specs.Text.{Text}
use Rattle.text_tables.specs.Texts.{same_text}
use Rattle.text_tables.specs.Pairs.{Pair, value_of}
use Rattle.device_core.specs.Values.{EventValue}
use Rattle.link_files.specs.Lists.{is_of, link_section}
use Rattle.link_files.specs.Names.{is_interface_name}
use Rattle.builtin_link.specs.Numbers.{own_number}
use Rattle.builtin_link.specs.Policies.{given_name, keeps_name, name_by, name_by_policies, name_left, name_of, new_name}
use Rattle.builtin_link.specs.Policies.{policies_count, policies_of, present_name, property_of, with_name}
use Rattle.link_files.specs.declared.settings.Setting.{Setting}

-- a name, if there is one, may be the name of an interface, or is the present one
pub record IsFine (present name : Option Text) : Type 0 where
  pub fine : (text : Text) → name ≡ Some text → (is_interface_name text ≡ true) ⊎ (present ≡ Some text)

pub none_fine : (present : Option Text) → IsFine present None
none_fine present = record { fine = λ text h. cc }

pub kept_fine : (present : Option Text) → IsFine present present
kept_fine present = record { fine = λ text h. inr h }

pub valid_fine : (present held : Option Text) (name : Text) (valid : Bool) → is_interface_name name ≡ valid → IsFine present held
    → IsFine present (if valid then Some name else held)
valid_fine present held name true e f =
    record { fine = λ text h. let same : name ≡ text = cc in let P : Text → Type 0 = λ t. is_interface_name t ≡ true in inl (subst P same e) }
valid_fine present held name false e f = f

pub either_fine : (present first second : Option Text) → IsFine present first → IsFine present second → IsFine present (option_or first second)
either_fine present None second f g = g
either_fine present (Some text) second f g = f

pub choice_fine : (present chosen other : Option Text) (choice : Bool) → IsFine present chosen → IsFine present other → IsFine present (if choice then chosen else other)
choice_fine present chosen other true f g = f
choice_fine present chosen other false f g = g

pub held_fine : (present : Option Text) (name : Text) (valid : Bool) → is_interface_name name ≡ valid → IsFine present (then_some valid name)
held_fine present name true e =
    record { fine = λ text h. let same : name ≡ text = cc in let P : Text → Type 0 = λ t. is_interface_name t ≡ true in inl (subst P same e) }
held_fine present name false e = none_fine present

pub checked_fine : (present name : Option Text) → IsFine present (option_and_then (λ text. then_some (is_interface_name text) text) name)
checked_fine present None = none_fine present
checked_fine present (Some text) = held_fine present text (is_interface_name text) refl

pub policies_fine : (source : Option ℕ) (env : List Pair) (left : Option Text) (policies : List Text) → IsFine (present_name env) left
    → IsFine (present_name env) (name_by_policies source env (present_name env) left policies)
policies_fine source env left [] f = f
policies_fine source env left (policy ∷ policies) f =
    let following = name_by_policies source env (present_name env) left policies in
    choice_fine (present_name env) (present_name env) (option_or (name_by env policy) following) (keeps_name source policy)
    (kept_fine (present_name env))
    (either_fine (present_name env) (name_by env policy) following (checked_fine (present_name env) (option_and_then (value_of env) (property_of policy)))
    (policies_fine source env left policies f))

pub setting_fine : (present held : Option Text) (setting : Setting) → IsFine present held → IsFine present (with_name held setting)
setting_fine present held setting f =
    let valid = if is_interface_name setting.value then Some setting.value else held in
    choice_fine present held (if is_empty setting.value then None else valid) (not (is_of link_section (codes "Name") setting)) f
    (choice_fine present None valid (is_empty setting.value) (none_fine present) (valid_fine present held setting.value (is_interface_name setting.value) refl f))

pub settings_fine : (present held : Option Text) (settings : List Setting) → IsFine present held → IsFine present (fold with_name held settings)
settings_fine present held [] f = f
settings_fine present held (setting ∷ settings) f = settings_fine present (with_name held setting) settings (setting_fine present held setting f)

pub left_fine : (env : List Pair) (settings : List Setting) → IsFine (present_name env) (name_left env settings)
unfolding given_name
left_fine env settings =
    either_fine (present_name env) (given_name settings) (present_name env) (settings_fine (present_name env) None settings (none_fine (present_name env)))
    (kept_fine (present_name env))

pub new_fine : (event : EventValue) (env : List Pair) (settings : List Setting) → IsFine (present_name env) (new_name event env settings)
unfolding new_name
new_fine event env settings =
    let source = own_number event (codes "name_assign_type") in
    choice_fine (present_name env) (name_by_policies source env (present_name env) (name_left env settings) (policies_of settings)) (name_left env settings)
    (policies_count event) (policies_fine source env (name_left env settings) (policies_of settings) (left_fine env settings)) (left_fine env settings)

pub all_fine : (event : EventValue) (env : List Pair) (settings : List Setting) → IsFine (present_name env) (name_of event env settings)
unfolding name_of
all_fine event env settings =
    choice_fine (present_name env) (new_name event env settings) (present_name env) (same_text event.action (codes "add")) (new_fine event env settings)
    (kept_fine (present_name env))
