-- A line by its length.
use Rattle.std.proofs.Common.{◌≡◌, ℕ, ◌<◌, true, nat_lt, List, [], ◌∷◌, length, Result, Err, refl, ap, lt-ltb}
use Rattle.file_messages.specs.declared.message.MessageKind.TheVariants.{LineTooLong}
use Rattle.text_bytes.specs.declared.profile.Profile.{Profile}
use Rattle.file_messages.specs.declared.message.MessageKind.{MessageKind}
use Rattle.rule_types.specs.declared.jumps.Landing.{Landing}
use Rattle.rule_core.specs.Drafts.{Draft, draft_of, most_bytes}
use Rattle.rule_core.specs.Rules.{line_findings}
use Rattle.rule_types.specs.Spots.{spot}
use Rattle.rule_core.specs.Spots.{whole_spot}
use Rattle.rule_types.specs.declared.spot.Spot.{Spot}

-- a line that is too long
too_long : (by : Profile) (line : List ℕ) → most_bytes by < length line → draft_of by line ≡ Err (whole_spot LineTooLong line)
unfolding draft_of
too_long by line h =
    let long : nat_lt (most_bytes by) (length line) ≡ true = lt-ltb (most_bytes by) (length line) h in
    rw long refl

-- nothing but its length is said of a line that is too long
pub reported_whole : (by : Profile) (line : List ℕ) (landing : Landing) → most_bytes by < length line → line_findings (draft_of by line) landing ≡ spot LineTooLong [] 0 (length line) ∷ []
reported_whole by line landing h = ap (λ (read : Result Draft (Spot MessageKind)). line_findings read landing) (too_long by line h)
