-- The name of a network device, the names of links and the value of a property are as long as their text, however bytes are treated.
use Rattle.std.proofs.Common.{◌≡◌, [], ◌∷◌, length, refl, arith, ◌∙◌}
use Rattle.std.proofs.lemmas.List.{length-map}
use Rattle.text_bytes.specs.declared.profile.Profile.{Profile}
use Rattle.text_bytes.specs.declared.profile.Profile.TheVariants.{Manual, Udev}
use Rattle.text_bytes.specs.Text.{Text}
use Rattle.text_bytes.specs.Safe.{link_marks, safe}
use Rattle.text_bytes.proofs.LinkPlaces.{length-safe}
use Rattle.eval_assignments.specs.declared.escapes.Escape.{Escape}
use Rattle.eval_assignments.specs.declared.escapes.Escape.TheVariants as escape
use Rattle.eval_assignments.specs.Assigning.{link_text}
use Rattle.eval_assignments.specs.Escapes.{with_underscores}
use Rattle.eval_assignments.specs.Names.{name_byte, name_text}
use Rattle.eval_assignments.specs.Properties.{env_text, unslashed_byte}

reversed_same : (t : Text) → length (with_underscores t) ≡ length t
reversed_same [] = omega arith
reversed_same (b ∷ t) = let a = reversed_same t in omega (arith, a)

pub name_same : (profile : Profile) (e : Escape) (t : Text) → length (name_text profile e t) ≡ length t
name_same Manual escape.Keep t = refl
name_same Udev escape.Keep t = refl
name_same Manual escape.Usual t = reversed_same t
name_same Manual escape.Replace t = reversed_same t
name_same Udev escape.Usual t = length-map t name_byte
name_same Udev escape.Replace t = length-map t name_byte

pub link_same : (e : Escape) (t : Text) → length (link_text e t) ≡ length t
link_same escape.Keep t = refl
link_same escape.Usual t = refl
link_same escape.Replace t = reversed_same t

pub env_same : (e : Escape) (t : Text) → length (env_text e t) ≡ length t
env_same escape.Keep t = refl
env_same escape.Usual t = refl
env_same escape.Replace t = length-map (with_underscores (safe link_marks t)) unslashed_byte ∙ reversed_same (safe link_marks t) ∙ length-safe link_marks t
