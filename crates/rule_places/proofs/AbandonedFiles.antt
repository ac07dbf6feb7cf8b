-- What is found of a file that is given up is the first line that is too long.
use Rattle.std.proofs.Common.{◌≡◌, ℕ, ◌+◌, ◌-◌, ◌<◌, ◌^◌, Bool, true, false, cond, List, [], ◌∷◌, ◌++◌, length, Option, Some, refl, ap, sym, ◌∙◌, subst, arith}
use Rattle.std.specs.List.{AllByRecursion}
use Rattle.text_bytes.specs.Lines.{NumberedLine, numbered_lines}
use Rattle.text_bytes.specs.Numbers.{capped}
use Rattle.file_messages.specs.declared.message.MessageKind.TheVariants.{FileAbandoned}
use Rattle.text_bytes.specs.declared.profile.Profile.{Profile}
use Rattle.text_bytes.specs.declared.profile.Profile.TheVariants as profile
use Rattle.text_bytes.specs.declared.source_file.SourceFile.{SourceFile}
use Rattle.rule_core.specs.Ends.{abandoned, first_too_long, is_too_long}
use Rattle.rule_places.specs.Files.{findings_unless, placed_findings}
use Rattle.rule_places.specs.Abandoned.{abandoned_findings, long_place, whole_line}
use Rattle.rule_places.specs.Laws.{IsReportedForOneLine}
use Rattle.rule_places.specs.Placed.{found_at}
use Rattle.rule_places.specs.Shown.{IsAmong}
use Rattle.rule_places.specs.declared.kept.Place.{Place}
use Rattle.rule_places.proofs.Placing.{among_others, capped_end, capped_is, line_bounds}

-- the first of these lines that is too long has this number, and is this place as a whole
record FirstLong (number : ℕ) (place : Place) (ls : List NumberedLine) : Type 0 where
  before : List NumberedLine
  line : NumberedLine
  following : List NumberedLine
  lines : ls ≡ before ++ line ∷ following
  short : AllByRecursion (λ l. is_too_long l.text ≡ false) before
  long : is_too_long line.text ≡ true
  number_is : number ≡ capped line.number
  place_is : place ≡ whole_line line

some_is : (n m : ℕ) → Some n ≡ Some m → m ≡ n
some_is n m e = cc

first_long : (ls : List NumberedLine) (number : ℕ) → first_too_long ls ≡ Some number → FirstLong number (long_place ls) ls
first_long [] number e = cc
first_long (l ∷ ls) number e = by (is_too_long l.text) refl e (λ f. first_long ls number f)
  where
    by : (c : Bool) → is_too_long l.text ≡ c → cond c (Some (capped l.number)) (first_too_long ls) ≡ Some number → (first_too_long ls ≡ Some number → FirstLong number (long_place ls) ls)
        → FirstLong number (cond c (whole_line l) (long_place ls)) (l ∷ ls)
    by true f e next = record { before = []; line = l; following = ls; lines = refl; short = tt; long = f; number_is = some_is (capped l.number) number e; place_is = refl }
    by false f e next =
        let r = next e in
        record { before = l ∷ r.before; line = r.line; following = r.following; lines = ap (λ (x : List NumberedLine). l ∷ x) r.lines; short = (f, r.short); long = r.long; number_is = r.number_is; place_is = r.place_is }

long_is_reported : (bytes : List ℕ) (number : ℕ) → length bytes < 2 ^ 32 - 1 → first_too_long (numbered_lines bytes) ≡ Some number → IsReportedForOneLine bytes (abandoned_findings bytes number)
long_is_reported bytes number few e =
    let r = first_long (numbered_lines bytes) number e in
    let bounds = line_bounds bytes r.line (subst (IsAmong r.line) (sym r.lines) (among_others r.before r.line r.following)) in
    record {
      reported = found_at number (long_place (numbered_lines bytes)) FileAbandoned [];
      only = refl;
      kind = refl;
      before = r.before;
      line = r.line;
      following = r.following;
      lines = r.lines;
      short = r.short;
      long = r.long;
      begins = r.number_is ∙ capped_is r.line.number (length bytes) bounds.0 few;
      number = ap (λ (p : Place). p.line) r.place_is ∙ capped_is r.line.number (length bytes) bounds.0 few;
      column = ap (λ (p : Place). p.column) r.place_is;
      end = ap (λ (p : Place). p.end) r.place_is ∙ capped_end (length r.line.text + 1) (length bytes) (let b = bounds.1 in omega (arith, b)) few;
    }

pub all_reported : (by : Profile) (file : SourceFile) (number : ℕ) → length file.bytes < 2 ^ 32 - 1 → abandoned by file.bytes ≡ Some number → IsReportedForOneLine file.bytes (placed_findings by file)
unfolding placed_findings
all_reported profile.Manual file number few e = cc
all_reported profile.Udev file number few e =
    subst (λ (o : Option ℕ). IsReportedForOneLine file.bytes (findings_unless profile.Udev file.bytes o)) (sym e) (long_is_reported file.bytes number few e)
