-- A part has the attribute of its token, or that as which udev reads it.
use Rattle.std.proofs.Common.{◌≡◌, ℕ, Bool, true, false, if◌then◌else◌, List, [], ◌∷◌, Option, Some, None, is_some, ◌⊎◌, inl, inr, refl, ap, sym, ◌∙◌}
use Rattle.text_bytes.specs.declared.profile.Profile.{Profile}
use Rattle.text_bytes.specs.declared.profile.Profile.TheVariants as profile
use Rattle.rule_types.specs.declared.keys.Key.{Key}
use Rattle.rule_types.specs.declared.keys.Key.TheVariants as key
use Rattle.rule_types.specs.declared.types.ImportType.{ImportType}
use Rattle.rule_types.specs.declared.types.ImportType.TheVariants as import_of
use Rattle.rule_types.specs.declared.roles.PlainKey.{PlainKey}
use Rattle.rule_types.specs.declared.roles.PlainKey.TheVariants as plain
use Rattle.rule_types.specs.declared.roles.UpKey.{UpKey}
use Rattle.rule_types.specs.declared.roles.UpKey.TheVariants as up
use Rattle.rule_types.specs.declared.roles.Target.{Target}
use Rattle.rule_types.specs.declared.roles.Target.TheVariants as target
use Rattle.rule_types.specs.declared.roles.Role.{Role}
use Rattle.rule_types.specs.declared.roles.Role.TheVariants as role
use Rattle.rule_types.specs.declared.part.Part.{Part}
use Rattle.rule_types.specs.declared.topics.Topic.{Topic}
use Rattle.rule_types.specs.Names.{import_name, key_of}
use Rattle.rule_types.specs.Topics.{attribute_as}
use Rattle.rule_types.specs.Written.{attribute_of_role, attribute_of_topic, key_of_plain, key_of_role, key_of_target, key_of_topic, key_of_up}
use Rattle.rule_types.specs.WrittenParts.{attribute_of_part, key_of_part}
use Rattle.rule_types.specs.Builtins.{builtin_of}
use Rattle.rule_parts.specs.Parts.{IsReadAs, IsWritten, role_as, type_as, udev_role}

-- by the manual an attribute is taken as it is written
manual_attribute : (k : Key) (a : Option (List ℕ)) → attribute_as profile.Manual k a ≡ a
manual_attribute key.Test a = refl
manual_attribute _ a = refl

-- so are by udev those of all keys but TEST
plain_attribute : (k : PlainKey) (a : Option (List ℕ)) → attribute_as profile.Udev (key_of_plain k) a ≡ a
plain_attribute plain.Action a = refl
plain_attribute _ a = refl

up_attribute : (k : UpKey) (a : Option (List ℕ)) → attribute_as profile.Udev (key_of_up k) a ≡ a
up_attribute up.Kernels a = refl
up_attribute _ a = refl

target_attribute : (t : Target) (a : Option (List ℕ)) → attribute_as profile.Udev (key_of_target t) a ≡ a
target_attribute target.Owner a = refl
target_attribute _ a = refl

-- the attribute of a role, as udev reads it, is the one that is written, or another one
abbrev Either : Key → Option (List ℕ) → Option (List ℕ) → Type 0
Either k written read = (read ≡ written) ⊎ IsReadAs k written read

by_builtin : (a : Option (List ℕ)) (b : Bool) → Some (import_name import_of.Program) ≡ a → Either key.Import a (Some (import_name (if b then import_of.Builtin else import_of.Program)))
by_builtin a true e = inr (sym e, refl)
by_builtin a false e = inl e

import_read : (type : ImportType) (a : Option (List ℕ)) (text : List ℕ) → Some (import_name type) ≡ a → Either key.Import a (Some (import_name (type_as type text)))
import_read import_of.Program a text e = by_builtin a (is_some (builtin_of text)) e
import_read _ a text e = inl e

test_read : (mask a : Option (List ℕ)) → mask ≡ attribute_as profile.Udev key.Test a → Either key.Test a mask
test_read mask None e = inl e
test_read mask (Some []) e = inr (refl, e)
test_read mask (Some (b ∷ text)) e = inl e

role_read : (r : Role) (a : Option (List ℕ)) (text : List ℕ) → attribute_of_role r ≡ attribute_as profile.Udev (key_of_role r) a → Either (key_of_role r) a (attribute_of_role (udev_role r text))
role_read (role.Import type o) a text e = import_read type a text e
role_read (role.Test mask o) a text e = test_read mask a e
role_read (role.Plain k o) a text e = inl (e ∙ plain_attribute k a)
role_read (role.Up k o) a text e = inl (e ∙ up_attribute k a)
role_read (role.Set t o) a text e = inl (e ∙ target_attribute t a)
role_read _ a text e = inl e

-- so it is of the part of the role
is_written : (by : Profile) (a : Option (List ℕ)) (r : Role) (text : List ℕ) (p : Part) → key_of_part p ≡ key_of_role r → attribute_of_part p ≡ attribute_of_role (role_as by r text) → attribute_of_role r ≡ attribute_as by (key_of_role r) a → IsWritten by a p
is_written profile.Manual a r text p k e f = e ∙ (f ∙ manual_attribute (key_of_role r) a)
is_written profile.Udev a r text p k e f = rw (e, k) (role_read r a text f)

-- and its key
pub written_as : (by : Profile) (name : List ℕ) (k : Key) (a : Option (List ℕ)) (about : Topic) (r : Role) (text : List ℕ) (p : Part)
    → key_of name ≡ Some k → (key_of_topic about ≡ k) × (attribute_of_topic about ≡ attribute_as by k a) → (key_of_role r ≡ key_of_topic about) × (attribute_of_role r ≡ attribute_of_topic about)
    → (key_of_part p ≡ key_of_role r) × (attribute_of_part p ≡ attribute_of_role (role_as by r text)) → (key_of name ≡ Some (key_of_part p)) × IsWritten by a p
written_as by name k a about r text p e t s h =
    let same : key_of_role r ≡ k = s.0 ∙ t.0 in
    (e ∙ ap Some (sym (h.0 ∙ same)), is_written by a r text p h.0 h.1 (s.1 ∙ (t.1 ∙ ap (λ key. attribute_as by key a) (sym same))))
