-- What is left after the piece at the front of a text is no longer than what follows the first byte.
use Rattle.std.proofs.Common.{◌≡◌, ℕ, ◌+◌, ◌≤◌, Bool, true, false, cond, not, ◌&&◌, ◌==◌, List, [], ◌∷◌, ◌++◌, length, take, drop, Option, Some, None, Result, Ok, Err, IfOk, position, option_map, nat_eq, nat_lt, refl, subst, sym, arith, length-drop}
use Rattle.std.specs.List.{prefix_len, starts_with}
use Rattle.text_bytes.specs.Names.{dollar, percent, open_brace, close_brace}
use Rattle.text_bytes.specs.Texts.{begins_with, is_empty, split_once}
use Rattle.text_bytes.specs.declared.profile.Profile.{Profile}
use Rattle.text_bytes.specs.declared.profile.Profile.TheVariants.{Manual, Udev}
use Rattle.rule_tokens.specs.Braces.{braced, closed}
use Rattle.rule_tokens.specs.Faults.{GivesJust}
use Rattle.rule_tokens.specs.Names.{long_names_as, named, short_names_as}
use Rattle.rule_tokens.specs.Number.{udev_word_of, word_of}
use Rattle.rule_tokens.specs.TemplateReading.{FirstPiece, argument_of, asked_as, asked_with, bracketed, first_as, first_at, is_no_sign, is_twice, numbered, plain_first, result_piece, substituted_by, udev_asked, udev_first, with_braces, with_name}
use Rattle.rule_tokens.specs.declared.fault.TemplateFault.{TemplateFault}
use Rattle.rule_tokens.specs.declared.fault.TemplateFault.TheVariants as fault
use Rattle.rule_tokens.specs.declared.names.Substitution.{Substitution}
use Rattle.rule_tokens.specs.declared.names.Substitution.TheVariants as name
use Rattle.rule_tokens.specs.declared.piece.Piece.{Piece}
use Rattle.rule_tokens.specs.declared.piece.Piece.TheVariants as piece
use Rattle.rule_tokens.proofs.Signs.{Rows}

-- a name is found in the first of two tables, or else in the second
pub named_first : (rows more : Rows) (t : List ℕ) (x : Substitution × List ℕ) → named rows t ≡ Some x → named (rows ++ more) t ≡ Some x
named_first [] more t x e = cc
named_first (row ∷ rows) more t x e = by_test (starts_with nat_eq t row.0) e (λ h. named_first rows more t x h) where
  by_test : (v : Bool) → cond v (Some (row.1, drop (length row.0) t)) (named rows t) ≡ Some x → (named rows t ≡ Some x → named (rows ++ more) t ≡ Some x)
      → cond v (Some (row.1, drop (length row.0) t)) (named (rows ++ more) t) ≡ Some x
  by_test true h later = h
  by_test false h later = later h

pub named_then : (rows more : Rows) (t : List ℕ) → named rows t ≡ None → named (rows ++ more) t ≡ named more t
named_then [] more t e = refl
named_then (row ∷ rows) more t e = by_test (starts_with nat_eq t row.0) e (λ h. named_then rows more t h) where
  by_test : (v : Bool) → cond v (Some (row.1, drop (length row.0) t)) (named rows t) ≡ None → (named rows t ≡ None → named (rows ++ more) t ≡ named more t)
      → cond v (Some (row.1, drop (length row.0) t)) (named (rows ++ more) t) ≡ named more t
  by_test true h later = cc
  by_test false h later = later h

drop_shorter : (n : ℕ) (t : List ℕ) → length (drop n t) ≤ length t
drop_shorter n t = omega (arith, length-drop n t)

-- what is left is no longer than this
abbrev pub Leaves : {X : Type 0} → List ℕ → Result (X × List ℕ) TemplateFault → Type 0
Leaves t (Ok x) = length x.1 ≤ length t
Leaves t (Err e) = Unit {0}

abbrev LeavesSome : {X : Type 0} → List ℕ → Option (X × List ℕ) → Type 0
LeavesSome t (Some x) = length x.1 ≤ length t
LeavesSome t None = Unit {0}

named_leaves : (rows : Rows) (t : List ℕ) → LeavesSome t (named rows t)
named_leaves [] t = tt
named_leaves (row ∷ rows) t = by_test (starts_with nat_eq t row.0) (named_leaves rows t) where
  by_test : (v : Bool) → LeavesSome t (named rows t) → LeavesSome t (cond v (Some (row.1, drop (length row.0) t)) (named rows t))
  by_test true h = drop_shorter (length row.0) t
  by_test false h = h

split_leaves : (byte : ℕ) (t : List ℕ) → LeavesSome t (split_once byte t)
unfolding split_once
split_leaves byte t = by_place (position (λ b. b == byte) t) where
  by_place : (o : Option ℕ) → LeavesSome t (option_map (λ n. (take n t, drop (n + 1) t)) o)
  by_place None = tt
  by_place (Some n) = drop_shorter (n + 1) t

longer : {X : Type 0} (b : ℕ) (t : List ℕ) (r : Result (X × List ℕ) TemplateFault) → Leaves t r → Leaves (b ∷ t) r
longer b t (Ok x) h = omega arith
longer b t (Err e) h = tt

closed_leaves : (t : List ℕ) (o : Option (List ℕ × List ℕ)) → LeavesSome t o → Leaves t (closed o)
closed_leaves t None h = tt
closed_leaves t (Some x) h = by_test (is_empty x.0) where
  by_test : (v : Bool) → Leaves t (cond v (Err fault.Brace) (Ok x))
  by_test true = tt
  by_test false = h

braced_leaves : (t : List ℕ) → Leaves t (braced t)
unfolding braced
braced_leaves [] = tt
braced_leaves (b ∷ t) = by_test (b == open_brace) where
  by_test : (v : Bool) → Leaves (b ∷ t) (cond v (closed (split_once close_brace t)) (Err fault.Brace))
  by_test true = longer b t (closed (split_once close_brace t)) (closed_leaves t (split_once close_brace t) (split_leaves close_brace t))
  by_test false = tt

numbered_leaves : (o : Option Piece) (t : List ℕ) → Leaves t (numbered o t)
numbered_leaves None t = tt
numbered_leaves (Some p) t = omega arith

bracketed_leaves : (t : List ℕ) (o : Option (List ℕ × List ℕ)) → LeavesSome t o → Leaves t (bracketed o)
bracketed_leaves t None h = tt
bracketed_leaves t (Some x) h = by_word (word_of x.0) where
  by_word : (o : Option Piece) → Leaves t (numbered o x.1)
  by_word None = tt
  by_word (Some p) = h

result_leaves : (t : List ℕ) → Leaves t (result_piece t)
unfolding result_piece
result_leaves [] = omega arith
result_leaves (b ∷ t) = by_test (b == open_brace) where
  by_test : (v : Bool) → Leaves (b ∷ t) (cond v (bracketed (split_once close_brace t)) (Ok (piece.Result, b ∷ t)))
  by_test true = longer b t (bracketed (split_once close_brace t)) (bracketed_leaves t (split_once close_brace t) (split_leaves close_brace t))
  by_test false = omega arith

with_name_leaves : (make : List ℕ → Piece) (t : List ℕ) (r : Result (List ℕ × List ℕ) TemplateFault) → Leaves t r → Leaves t (with_name make r)
with_name_leaves make t (Ok x) h = h
with_name_leaves make t (Err e) h = tt

asked_leaves : (s : Substitution) (t : List ℕ) → Leaves t (argument_of s t)
unfolding argument_of
asked_leaves name.Attr t = with_name_leaves (λ n. piece.Attr n) t (braced t) (braced_leaves t)
asked_leaves name.Env t = with_name_leaves (λ n. piece.Env n) t (braced t) (braced_leaves t)
asked_leaves name.Result t = result_leaves t
asked_leaves name.Refused t = tt
asked_leaves s t = omega arith

asked_with_leaves : (s : Substitution) (content t : List ℕ) → Leaves t (asked_with s content t)
unfolding asked_with
asked_with_leaves name.Attr content t = omega arith
asked_with_leaves name.Env content t = omega arith
asked_with_leaves name.Result content t = numbered_leaves (udev_word_of content) t
asked_with_leaves s content t = asked_leaves s t

leaves_less : (s t : List ℕ) (r : FirstPiece) → length s ≤ length t → Leaves s r → Leaves t r
leaves_less s t (Ok x) h k = omega arith
leaves_less s t (Err e) h k = tt

with_braces_leaves : (s : Substitution) (t : List ℕ) (r : Result (List ℕ × List ℕ) TemplateFault) → Leaves t r → Leaves t (with_braces s r)
with_braces_leaves s t (Ok x) h = by_test (nat_lt 1023 (length x.0)) where
  by_test : (v : Bool) → Leaves t (cond v (Err fault.Brace) (asked_with s x.0 x.1))
  by_test true = tt
  by_test false = leaves_less x.1 t (asked_with s x.0 x.1) h (asked_with_leaves s x.0 x.1)
with_braces_leaves s t (Err e) h = tt

udev_asked_leaves : (s : Substitution) (t : List ℕ) → Leaves t (udev_asked s t)
unfolding udev_asked
udev_asked_leaves s t = by_test (not (is_twice s) && begins_with open_brace t) where
  by_test : (v : Bool) → Leaves t (cond v (with_braces s (braced t)) (argument_of s t))
  by_test true = with_braces_leaves s t (braced t) (braced_leaves t)
  by_test false = asked_leaves s t

asked_as_leaves : (profile : Profile) (s : Substitution) (t : List ℕ) → Leaves t (asked_as profile s t)
asked_as_leaves Manual s t = asked_leaves s t
asked_as_leaves Udev s t = udev_asked_leaves s t

substituted_leaves : (profile : Profile) (t : List ℕ) (o : Option (Substitution × List ℕ)) → LeavesSome t o → Leaves t (substituted_by (asked_as profile) o)
substituted_leaves profile t None h = tt
substituted_leaves profile t (Some x) h = leaves_less x.1 t (asked_as profile x.0 x.1) h (asked_as_leaves profile x.0 x.1)

pub prefix_leaves : (profile : Profile) (b : ℕ) (t : List ℕ) → Leaves t (first_as profile b t)
prefix_leaves profile b t = by_test (b == dollar) (b == percent) where
  by_test : (v w : Bool) → Leaves t (cond v (substituted_by (asked_as profile) (named (long_names_as profile) t)) (cond w (substituted_by (asked_as profile) (named (short_names_as profile) t)) (plain_first b t)))
  by_test true w = substituted_leaves profile t (named (long_names_as profile) t) (named_leaves (long_names_as profile) t)
  by_test false true = substituted_leaves profile t (named (short_names_as profile) t) (named_leaves (short_names_as profile) t)
  by_test false false = drop_shorter (prefix_len is_no_sign t) t

-- how the piece at the front is read, if what is left is no longer
abbrev pub Shrinks : (ℕ → List ℕ → FirstPiece) → Type 0
Shrinks prefix = (b : ℕ) (t : List ℕ) → Leaves t (prefix b t)

pub manual_shrinks : Shrinks first_at
unfolding first_at
manual_shrinks b t = prefix_leaves Manual b t

pub udev_shrinks : Shrinks udev_first
unfolding udev_first
udev_shrinks b t = prefix_leaves Udev b t

pub is_shorter : (t : List ℕ) (x : Piece × List ℕ) (r : FirstPiece) → Leaves t r → r ≡ Ok x → length x.1 ≤ length t
is_shorter t x r h e = subst (λ (q : FirstPiece). Leaves t q) e h

pub prefix_shorter : (profile : Profile) (b : ℕ) (t : List ℕ) (x : Piece × List ℕ) → first_as profile b t ≡ Ok x → length x.1 ≤ length t
prefix_shorter profile b t x e = is_shorter t x (first_as profile b t) (prefix_leaves profile b t) e

-- the same of what a name asks for, and of what a function returned
pub found_leaves : (profile : Profile) (rows : Rows) (t : List ℕ) (o : Option (Substitution × List ℕ)) → o ≡ named rows t → Leaves t (substituted_by (asked_as profile) o)
found_leaves profile rows t o e = substituted_leaves profile t o (subst (λ (p : Option (Substitution × List ℕ)). LeavesSome t p) (sym e) (named_leaves rows t))

pub seen_shorter : {A : Type 0} (seen : A → Piece × List ℕ) (t : List ℕ) (result : Result A TemplateFault) (read : FirstPiece) → GivesJust seen result read → Leaves t read
    → IfOk result (λ x. length (seen x).1 ≤ length t)
seen_shorter seen t (Ok x) read g h = subst (λ (r : FirstPiece). Leaves t r) g h
seen_shorter seen t (Err e) read g h = tt
