-- What is reported for a file is reported for its rules.
use Rattle.std.proofs.Common.{◌≡◌, ℕ, ◌+◌, true, inl, inr, List, [], ◌∷◌, ◌++◌, length, map, zip, is_ok, Option, Some, None, Result, Ok, Err, refl, ap}
use Rattle.std.specs.List.{AllByRecursion}
use Rattle.text_bytes.specs.Lines.{NumberedLine}
use Rattle.text_bytes.specs.declared.profile.Profile.TheVariants.{Udev}
use Rattle.file_messages.specs.declared.message.MessageKind.{MessageKind}
use Rattle.rule_types.specs.Jumps.{landings}
use Rattle.rule_types.specs.declared.jumps.Landing.{Landing}
use Rattle.rule_core.specs.Drafts.{Draft, draft_of}
use Rattle.rule_core.specs.Ends.{abandoned}
use Rattle.rule_core.specs.Lines.{joined_lines}
use Rattle.rule_core.specs.Rules.{names_of, reading_of}
use Rattle.rule_types.specs.Tokens.{tokens_in}
use Rattle.rule_types.specs.declared.spot.Spot.{Spot}
use Rattle.rule_remarks.specs.Accounts.{Accounts}
use Rattle.rule_places.specs.Kept.{kept_lines}
use Rattle.rule_places.specs.Placed.{placed}
use Rattle.rule_places.specs.Shown.{IsAmong}
use Rattle.rule_places.specs.declared.kept.KeptLine.{KeptLine}
use Rattle.rule_places.specs.declared.placed_finding.PlacedFinding.{PlacedFinding}
use Rattle.rule_remarks.specs.Laws.{IsOfRule}
use Rattle.rule_remarks.specs.Remarks.{rule_remarks}
use Rattle.rule_remarks.specs.Rules.{file_remarks, line_remarks, remarks_from, remarks_unless}

both : (all : List NumberedLine) (xs ys : List (PlacedFinding MessageKind)) → AllByRecursion (IsOfRule all) xs → AllByRecursion (IsOfRule all) ys → AllByRecursion (IsOfRule all) (xs ++ ys)
both all [] ys h g = g
both all (x ∷ xs) ys h g = (h.0, both all xs ys h.1 g)

module _ (accounts : Accounts) (kept : List KeptLine) (all : List NumberedLine) where
  spots_of_rule : (l : NumberedLine) (start : ℕ) (spots : List (Spot MessageKind)) → IsAmong l all → is_ok (draft_of Udev l.text) ≡ true → AllByRecursion (IsOfRule all) (map (placed kept l.number start) spots)
  spots_of_rule l start [] a r = tt
  spots_of_rule l start (s ∷ spots) a r = (record { line = l; among = a; read = r; number = refl }, spots_of_rule l start spots a r)

  of_line : (l : NumberedLine) (start : ℕ) (read : Result Draft (Spot MessageKind)) → draft_of Udev l.text ≡ read → IsAmong l all → AllByRecursion (IsOfRule all) (map (placed kept l.number start) (line_remarks accounts read))
  of_line l start (Ok d) e a = spots_of_rule l start (rule_remarks accounts (tokens_in d.parts)) a (ap is_ok e)
  of_line l start (Err wrong) e a = tt

  of_lines : (start : ℕ) (ls : List NumberedLine) (found : List Landing) → ((l : NumberedLine) → IsAmong l ls → IsAmong l all) → AllByRecursion (IsOfRule all) (remarks_from accounts kept start (zip (map (reading_of Udev) ls) found))
  of_lines start [] found f = tt
  of_lines start (l ∷ ls) [] f = tt
  of_lines start (l ∷ ls) (x ∷ found) f =
      both all (map (placed kept l.number start) (line_remarks accounts (draft_of Udev l.text))) (remarks_from accounts kept (start + length l.text) (zip (map (reading_of Udev) ls) found))
      (of_line l start (draft_of Udev l.text) refl (f l (inl refl)))
      (of_lines (start + length l.text) ls found (λ x a. f x (inr a)))

pub of_rules : (accounts : Accounts) (bytes : List ℕ) → AllByRecursion (IsOfRule (joined_lines Udev bytes).lines) (file_remarks accounts bytes)
unfolding file_remarks
of_rules accounts bytes = by (abandoned Udev bytes)
  where
    lines : List NumberedLine
    lines = (joined_lines Udev bytes).lines

    by : (o : Option ℕ) → AllByRecursion (IsOfRule lines) (remarks_unless accounts bytes o)
    by None = of_lines accounts (kept_lines bytes) lines 0 lines (landings (map (λ r. names_of r.read) (map (reading_of Udev) lines))) (λ l a. a)
    by (Some n) = tt
