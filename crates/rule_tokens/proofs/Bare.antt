-- What udev takes of a text in which no brace closes: no attribute.
use Rattle.std.proofs.Common.{◌≡◌, ℕ, zero, suc, ◌+◌, ◌<◌, Bool, true, false, cond, not, ◌&&◌, ◌||◌, ◌==◌, nat_eq, List, [], ◌∷◌, length, take, drop, get_or, Option, Some, None, Result, Ok, Err, option_map, position, refl, ap, subst, sym, ◌∙◌, arith}
use Rattle.std.proofs.lemmas.Bool.{true≢false}
use Rattle.std.proofs.lemmas.List.Quantifiers.{position-Some}
use Rattle.std.specs.List.{list_any, prefix_len, starts_with}
use Rattle.text_bytes.specs.Names.{dollar, percent, open_brace, close_brace}
use Rattle.text_bytes.specs.Texts.{begins_with, split_once}
use Rattle.text_bytes.specs.declared.profile.Profile.TheVariants.{Udev}
use Rattle.rule_tokens.specs.Bare.{has_close, is_attribute}
use Rattle.rule_tokens.specs.Braces.{braced, closed}
use Rattle.rule_tokens.specs.Names.{long_names_as, named, short_names_as}
use Rattle.rule_tokens.specs.TemplateReading.{FirstPiece, argument_of, bracketed, is_no_sign, is_twice, kept, left_of, left_within, plain_first, result_piece, substituted_by, udev_asked, udev_first, with_braces, with_kept, with_name}
use Rattle.rule_tokens.specs.declared.fault.TemplateFault.{TemplateFault}
use Rattle.rule_tokens.specs.declared.fault.TemplateFault.TheVariants as fault
use Rattle.rule_tokens.specs.declared.names.Substitution.{Substitution}
use Rattle.rule_tokens.specs.declared.names.Substitution.TheVariants as name
use Rattle.rule_tokens.specs.declared.piece.Piece.{Piece}
use Rattle.rule_tokens.specs.declared.piece.Piece.TheVariants as piece
use Rattle.rule_tokens.proofs.Signs.{Rows}

-- no brace closes
abbrev Bare : List ℕ → Type 0
Bare t = has_close t ≡ false

rest_bare : (b : ℕ) (t : List ℕ) → Bare (b ∷ t) → Bare t
rest_bare b t h = by (b == close_brace) h
  where
    by : (c : Bool) → (c || has_close t) ≡ false → Bare t
    by true h = absurd (true≢false h)
    by false h = h

drop_bare : (n : ℕ) (t : List ℕ) → Bare t → Bare (drop n t)
drop_bare zero t h = h
drop_bare (suc n) [] h = h
drop_bare (suc n) (b ∷ t) h = drop_bare n t (rest_bare b t h)

none_at : (t : List ℕ) (k : ℕ) → Bare t → k < length t → (get_or t k 0 == close_brace) ≡ false
none_at [] k h within = absurd (omega (arith, within))
none_at (b ∷ t) zero h within = by (b == close_brace) h
  where
    by : (c : Bool) → (c || has_close t) ≡ false → c ≡ false
    by true h = h
    by false h = refl
none_at (b ∷ t) (suc k) h within = none_at t k (rest_bare b t h) (omega (arith, within))

no_split : (t : List ℕ) → Bare t → split_once close_brace t ≡ None
unfolding split_once
no_split t h = by (position (λ b. b == close_brace) t) refl
  where
    by : (o : Option ℕ) → position (λ b. b == close_brace) t ≡ o → option_map {U = List ℕ × List ℕ} (λ n. (take n t, drop (n + 1) t)) o ≡ None
    by None e = refl
    by (Some k) e = let at = position-Some (λ b. b == close_brace) t k 0 e in absurd (true≢false (sym at.1 ∙ none_at t k h at.0))

no_braces : (t : List ℕ) → Bare t → braced t ≡ Err fault.Brace
unfolding braced
no_braces [] h = refl
no_braces (b ∷ t) h = by (b == open_brace)
  where
    by : (c : Bool) → cond c (closed (split_once close_brace t)) (Err fault.Brace) ≡ Err fault.Brace
    by true = ap closed (no_split t (rest_bare b t h))
    by false = refl

-- a piece that is not an attribute, and no brace closes in what is left; or a fault
abbrev IsBare : FirstPiece → Type 0
IsBare (Ok x) = (is_attribute x.0 ≡ false) × Bare x.1
IsBare (Err e) = Unit {0}

at_fault : (make : List ℕ → Piece) (t : List ℕ) → Bare t → IsBare (with_name make (braced t))
at_fault make t h = subst (λ r. IsBare (with_name make r)) (sym (no_braces t h)) tt

result_bare : (t : List ℕ) → Bare t → IsBare (result_piece t)
unfolding result_piece
result_bare [] h = (refl, h)
result_bare (b ∷ t) h = by (b == open_brace)
  where
    by : (c : Bool) → IsBare (cond c (bracketed (split_once close_brace t)) (Ok (piece.Result, b ∷ t)))
    by true = subst (λ o. IsBare (bracketed o)) (sym (no_split t (rest_bare b t h))) tt
    by false = (refl, h)

asked_bare : (s : Substitution) (t : List ℕ) → Bare t → IsBare (argument_of s t)
unfolding argument_of
asked_bare name.Kernel t h = (refl, h)
asked_bare name.Number t h = (refl, h)
asked_bare name.Devpath t h = (refl, h)
asked_bare name.Id t h = (refl, h)
asked_bare name.Driver t h = (refl, h)
asked_bare name.Attr t h = at_fault (λ n. piece.Attr n) t h
asked_bare name.Env t h = at_fault (λ n. piece.Env n) t h
asked_bare name.Major t h = (refl, h)
asked_bare name.Minor t h = (refl, h)
asked_bare name.Result t h = result_bare t h
asked_bare name.Parent t h = (refl, h)
asked_bare name.Name t h = (refl, h)
asked_bare name.Links t h = (refl, h)
asked_bare name.Root t h = (refl, h)
asked_bare name.Sys t h = (refl, h)
asked_bare name.Devnode t h = (refl, h)
asked_bare name.Dollar t h = (refl, h)
asked_bare name.Percent t h = (refl, h)
asked_bare name.Refused t h = tt

udev_asked_bare : (s : Substitution) (t : List ℕ) → Bare t → IsBare (udev_asked s t)
unfolding udev_asked
udev_asked_bare s t h = by (not (is_twice s) && begins_with open_brace t)
  where
    by : (c : Bool) → IsBare (cond c (with_braces s (braced t)) (argument_of s t))
    by true = subst (λ r. IsBare (with_braces s r)) (sym (no_braces t h)) tt
    by false = asked_bare s t h

named_bare : (rows : Rows) (t : List ℕ) → Bare t → IsBare (substituted_by udev_asked (named rows t))
named_bare [] t h = tt
named_bare (row ∷ rows) t h = by (starts_with nat_eq t row.0) (named_bare rows t h)
  where
    by : (c : Bool) → IsBare (substituted_by udev_asked (named rows t)) → IsBare (substituted_by udev_asked (cond c (Some (row.1, drop (length row.0) t)) (named rows t)))
    by true more = udev_asked_bare row.1 (drop (length row.0) t) (drop_bare (length row.0) t h)
    by false more = more

prefix_bare : (b : ℕ) (t : List ℕ) → Bare t → IsBare (udev_first b t)
unfolding udev_first
prefix_bare b t h = by (b == dollar) (b == percent)
  where
    by : (c d : Bool) → IsBare (cond c (substituted_by udev_asked (named (long_names_as Udev) t)) (cond d (substituted_by udev_asked (named (short_names_as Udev) t)) (plain_first b t)))
    by true d = named_bare (long_names_as Udev) t h
    by false true = named_bare (short_names_as Udev) t h
    by false false = (refl, drop_bare (prefix_len is_no_sign t) t h)

-- the same of what udev takes
abbrev IsKeptBare : Option (Piece × List ℕ) → Type 0
IsKeptBare (Some x) = (is_attribute x.0 ≡ false) × Bare x.1
IsKeptBare None = Unit {0}

kept_bare : (b : ℕ) (t : List ℕ) (r : FirstPiece) → Bare t → IsBare r → IsKeptBare (kept b t r)
kept_bare b t (Ok x) h bare = bare
kept_bare b t (Err fault.Unknown) h bare = (refl, h)
kept_bare b t (Err fault.Brace) h bare = tt
kept_bare b t (Err fault.Number) h bare = tt
kept_bare b t (Err fault.Memory) h bare = tt

within_bare : (n : ℕ) (t : List ℕ) → Bare t → list_any is_attribute (left_within n t) ≡ false
within_bare zero t h = refl
within_bare (suc n) [] h = refl
within_bare (suc n) (b ∷ t) h = by (kept b t (udev_first b t)) (kept_bare b t (udev_first b t) (rest_bare b t h) (prefix_bare b t (rest_bare b t h))) (λ l bare. within_bare n l bare)
  where
    by : (o : Option (Piece × List ℕ)) → IsKeptBare o → ((l : List ℕ) → Bare l → list_any is_attribute (left_within n l) ≡ false) → list_any is_attribute (with_kept (left_within n) o) ≡ false
    by None is more = refl
    by (Some x) is more = ap (λ c. c || list_any is_attribute (left_within n x.1)) is.0 ∙ more x.1 is.1

pub no_attribute : (text : List ℕ) → has_close text ≡ false → list_any is_attribute (left_of text) ≡ false
unfolding left_of
no_attribute text h = within_bare (length text) text h
