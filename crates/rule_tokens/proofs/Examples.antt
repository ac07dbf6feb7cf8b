-- What udev takes of some texts.
use Rattle.std.proofs.Common.{◌≡◌, ◌≢◌, inl, inr, ℕ, Bool, true, false, cond, List, [], ◌∷◌, ◌++◌, length, drop, Option, Some, None, nat_eq, codes, refl, ap}
use Rattle.std.specs.List.{starts_with}
use Rattle.text_bytes.specs.Names.{dollar, percent}
use Rattle.text_bytes.specs.Texts.{split_once}
use Rattle.text_bytes.specs.declared.profile.Profile.TheVariants.{Udev}
use Rattle.rule_tokens.specs.Braces.{braced}
use Rattle.rule_tokens.specs.TemplateGrammar.{HasName}
use Rattle.rule_tokens.specs.Integers.{marked, natural_of, signed, signed_size, size_in}
use Rattle.rule_tokens.specs.Names.{long_names_as, named, short_names_as}
use Rattle.rule_tokens.specs.Number.{udev_word_of}
use Rattle.rule_tokens.specs.TemplateReading.{argument_of, asked_with, kept, left_of, substituted_by, udev_asked, udev_first}
use Rattle.rule_tokens.specs.declared.names.Substitution.{Substitution}
use Rattle.rule_tokens.specs.declared.piece.Piece.TheVariants as piece
use Rattle.rule_tokens.proofs.Left.{left_first}
use Rattle.rule_tokens.proofs.Signs.{Rows, begins}

none_named : (rows : Rows) (t : List ℕ) → ((n : List ℕ) (s : Substitution) (rest : List ℕ) → HasName rows n s → t ≢ n ++ rest) → named rows t ≡ None
none_named [] t none = refl
none_named (row ∷ rows) t none = by_test (starts_with nat_eq t row.0) refl (none_named rows t (λ n s rest has. none n s rest (inr has))) where
  by_test : (v : Bool) → starts_with nat_eq t row.0 ≡ v → named rows t ≡ None → cond v (Some (row.1, drop (length row.0) t)) (named rows t) ≡ None
  by_test true e h = absurd (none row.0 row.1 (drop (length row.0) t) (inl (refl, refl)) (begins t row.0 e))
  by_test false e h = h

-- a sign that no name follows is a byte
pub unknown_dollar : (t : List ℕ) → ((n : List ℕ) (s : Substitution) (rest : List ℕ) → HasName (long_names_as Udev) n s → t ≢ n ++ rest)
    → left_of (dollar ∷ t) ≡ piece.Plain (dollar ∷ []) ∷ left_of t
unfolding udev_first
unknown_dollar t none = rw (left_first dollar t (dollar ∷ t) (piece.Plain (dollar ∷ [])) t refl (ap (λ (o : Option (Substitution × List ℕ)). kept dollar t (substituted_by udev_asked o)) (none_named (long_names_as Udev) t none))) refl

pub unknown_percent : (t : List ℕ) → ((n : List ℕ) (s : Substitution) (rest : List ℕ) → HasName (short_names_as Udev) n s → t ≢ n ++ rest)
    → left_of (percent ∷ t) ≡ piece.Plain (percent ∷ []) ∷ left_of t
unfolding udev_first
unknown_percent t none = rw (left_first percent t (percent ∷ t) (piece.Plain (percent ∷ [])) t refl (ap (λ (o : Option (Substitution × List ℕ)). kept percent t (substituted_by udev_asked o)) (none_named (short_names_as Udev) t none))) refl

pub braces_passed : left_of (codes "x$kernel{foo}y") ≡ piece.Plain (codes "x") ∷ piece.Kernel ∷ piece.Plain (codes "y") ∷ []
unfolding left_of udev_first udev_asked argument_of asked_with braced split_once
braces_passed = refl

pub end_at_fault : left_of (codes "q$attr r") ≡ piece.Plain (codes "q") ∷ []
unfolding left_of udev_first udev_asked argument_of asked_with braced split_once
end_at_fault = refl

pub old_names_read : left_of (codes "$tempnode %D $sysfs{model}") ≡ piece.Devnode ∷ piece.Plain (codes " ") ∷ piece.Name ∷ piece.Plain (codes " ") ∷ piece.Attr (codes "model") ∷ []
unfolding left_of udev_first udev_asked argument_of asked_with braced split_once
old_names_read = refl

pub octal_word : udev_word_of (codes "010") ≡ Some (piece.Word 8)
unfolding udev_word_of natural_of signed_size marked signed size_in
octal_word = refl

pub hexadecimal_from : udev_word_of (codes "0x10+") ≡ Some (piece.From 16)
unfolding udev_word_of natural_of signed_size marked signed size_in
hexadecimal_from = refl

pub whole_result : udev_word_of (codes "-0+") ≡ Some piece.Result
unfolding udev_word_of natural_of signed_size marked signed size_in
whole_result = refl

pub too_great : udev_word_of (codes "4294967296") ≡ None
unfolding udev_word_of natural_of signed_size marked signed size_in
too_great = refl
