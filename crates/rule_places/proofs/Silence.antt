-- A line is well spaced if and only if nothing is said about its commas and blanks.
use Rattle.std.proofs.Common.{◌≡◌, ℕ, Bool, true, false, cond, ◌&&◌, not, ◌==◌, List, ◌∷◌, [], ◌++◌, drop, length, Result, Ok, Err, refl, sym, ◌∙◌, ap}
use Rattle.std.specs.List.{AllByRecursion, list_all}
use Rattle.text_bytes.specs.Names.{comma}
use Rattle.text_bytes.specs.Texts.{ends_in}
use Rattle.text_bytes.specs.declared.profile.Profile.TheVariants.{Udev}
use Rattle.file_messages.specs.declared.message.MessageKind.{MessageKind}
use Rattle.file_messages.specs.declared.message.MessageKind.TheVariants.{CommaExpected, BlankExpected, LeadingComma, BlankBeforeComma, AssignExpected}
use Rattle.rule_tokens.specs.Grammar.{Placed}
use Rattle.rule_parts.specs.Parts.{is_read_as_assign}
use Rattle.rule_core.specs.Drafts.{Draft}
use Rattle.rule_types.specs.Spots.{spot}
use Rattle.rule_core.specs.Spots.{key_spot}
use Rattle.rule_core.specs.Style.{between, commas, gap_findings, has_blank_before_comma, leading_findings, operator_findings, style_after}
use Rattle.rule_types.specs.Tokens.{tokens_in}
use Rattle.rule_types.specs.declared.spot.Spot.{Spot}
use Rattle.rule_types.specs.declared.jumps.Landing.{Landing}
use Rattle.rule_places.specs.Faults.{is_badly_spaced, is_faultless}
use Rattle.rule_places.specs.Gaps.{is_good_after, is_good_gap, is_well_spaced}
use Rattle.rule_places.specs.FormatLaws.{IsMended, IsSilent, is_about_spacing, is_silent}
use Rattle.rule_places.specs.Mended.{mended}
use Rattle.rule_places.specs.Proposed.{Landed, landed_in}
use Rattle.rule_places.proofs.Staying.{files_stay}

-- whether nothing among findings is about commas and blanks
abbrev silent_in : List (Spot MessageKind) → Bool
silent_in found = list_all (λ s. not (is_about_spacing s.kind)) found

both : (found more : List (Spot MessageKind)) → silent_in (found ++ more) ≡ (silent_in found && silent_in more)
both [] more = refl
both (s ∷ found) more =
    elim (not (is_about_spacing s.kind)) as (λ v. (v && silent_in (found ++ more)) ≡ ((v && silent_in found) && silent_in more)) [
      | true ↦ both found more
      | false ↦ refl
    ]

gap_by : (t : Placed) (a b c : Bool)
    → silent_in ((cond a [] (key_spot CommaExpected t ∷ []) ++ cond b (key_spot BlankExpected t ∷ []) []) ++ cond c (key_spot BlankBeforeComma t ∷ []) []) ≡ (a && (not b && not c))
gap_by t true true true = refl
gap_by t true true false = refl
gap_by t true false true = refl
gap_by t true false false = refl
gap_by t false true true = refl
gap_by t false true false = refl
gap_by t false false true = refl
gap_by t false false false = refl

gap : (g : List ℕ) (t : Placed) → silent_in (gap_findings Udev g t) ≡ is_good_gap g
gap g t = gap_by t (commas g == 1) (ends_in comma g) (has_blank_before_comma g)

end_by : (a : Bool) (place : ℕ) (g : List ℕ) → silent_in (cond a [] (spot CommaExpected [] place (length g) ∷ [])) ≡ a
end_by true place g = refl
end_by false place g = refl

leading_by : (a : Bool) (g : List ℕ) → silent_in (cond a [] (spot LeadingComma [] 0 (length g) ∷ [])) ≡ true
leading_by true g = refl
leading_by false g = refl

operator_by : (a : Bool) (t : Placed) → silent_in (cond a (key_spot AssignExpected t ∷ []) []) ≡ true
operator_by true t = refl
operator_by false t = refl

-- findings that are silent say nothing before others
passed : (found more : List (Spot MessageKind)) → silent_in found ≡ true → silent_in (found ++ more) ≡ silent_in more
passed found more e = both found more ∙ ap (λ (v : Bool). v && silent_in more) e

silent_after : (line : List ℕ) (place : ℕ) (tokens : List Placed) → silent_in (style_after Udev line place tokens) ≡ is_good_after line place tokens
silent_after line place [] = end_by (commas (drop place line) == 0) place (drop place line)
silent_after line place (t ∷ tokens) =
    let g : List ℕ = between place t.span.start line in
    let rest : List (Spot MessageKind) = style_after Udev line t.span.end tokens in
    both (gap_findings Udev g t) (operator_findings Udev t ++ rest)
    ∙ ap (λ (v : Bool). v && silent_in (operator_findings Udev t ++ rest)) (gap g t)
    ∙ ap (λ (v : Bool). is_good_gap g && v) (passed (operator_findings Udev t) rest (operator_by (is_read_as_assign t) t) ∙ silent_after line t.span.end tokens)

pub silent : (text : List ℕ) (tokens : List Placed) → is_silent text tokens ≡ is_well_spaced text tokens
silent text [] = refl
silent text (t ∷ tokens) =
    let g : List ℕ = between 0 t.span.start text in
    let rest : List (Spot MessageKind) = style_after Udev text t.span.end tokens in
    passed (leading_findings Udev g) (operator_findings Udev t ++ rest) (leading_by (commas g == 0) g)
    ∙ passed (operator_findings Udev t) rest (operator_by (is_read_as_assign t) t)
    ∙ silent_after text t.span.end tokens

mended_by : (f v : Bool) → v ≡ true → (f && not v) ≡ false
mended_by true true e = refl
mended_by true false e = cc
mended_by false v e = refl

silent_line : (text : List ℕ) (read : Result Draft (Spot MessageKind)) (l : Landing) → IsSilent text read → is_badly_spaced text read l ≡ false
silent_line text (Err wrong) l h = refl
silent_line text (Ok d) l h = mended_by (is_faultless d l) (is_well_spaced text (tokens_in d.parts)) (sym (silent text (tokens_in d.parts)) ∙ h)

silent_lines : (xs : List Landed) → AllByRecursion (λ x. IsSilent x.0.text x.0.read) xs → AllByRecursion IsMended xs
silent_lines [] h = tt
silent_lines (x ∷ xs) h = (silent_line x.0.text x.0.read x.1 h.0, silent_lines xs h.1)

pub silent_files_stay : (bytes : List ℕ) → AllByRecursion (λ x. IsSilent x.0.text x.0.read) (landed_in bytes) → mended bytes ≡ bytes
silent_files_stay bytes h = files_stay bytes (silent_lines (landed_in bytes) h)
