-- The result of calls of `take` in a row.
use Rattle.std.proofs.Common.{◌≡◌, ◌≢◌, ◌<◌, ◌≤◌, ℕ, Bool, true, false, cond, IsTrue, List, [], ◌∷◌, ◌++◌, length, take, refl, append_assoc, ap, sym, ◌∙◌, subst, arith}
use Rattle.std.proofs.lemmas.Bool.Decides.{nat_tests}
use Rattle.std.proofs.lemmas.List.{append-nil}
use Rattle.device_core.specs.Runs.{complete_runs, rest_of, runs, not_empty}
use Rattle.device_core.specs.RunBlocks.{blocks_of, up_to_faulty, is_too_long, most_bytes}
use Rattle.device_core.specs.Splits.{Split, opened, completed, SplitEnds, BeginsTooLong}
use Rattle.eval_laws.specs.Calls.{Call, TakesAll, used_by, given_by, GiveRuns, GiveAll, EndsTooLong}
use Rattle.device_core.proofs.Law.{complete_runs-append, rest_of-append, runs-append}
use Rattle.device_core.proofs.BlockLemmas.{NoneFaulty, none, one_more, past_good, all_good, fits_is_good}

-- of a text so far and the bytes used, the runs given are the further complete ones, and the rest is pending
proceeds : (calls : List Call) (old now : Split) (text : List ℕ) → rest_of text ≡ old.pending → TakesAll old calls now
    → (complete_runs (text ++ used_by calls) ≡ complete_runs text ++ given_by calls) × (rest_of (text ++ used_by calls) ≡ now.pending)
proceeds [] old now text e h = (
  ap complete_runs (append-nil text) ∙ sym (append-nil (complete_runs text)),
  ap rest_of (append-nil text) ∙ e ∙ ap (λ s. s.pending) h,
)
proceeds (call ∷ calls) old now text e h =
    let used : List ℕ = take call.taken.used call.piece in
    let blocks : List (List ℕ) = completed call.taken.whole call.after.block in
    let rest : rest_of (text ++ used) ≡ call.after.pending = rest_of-append text used ∙ ap (λ r. rest_of (r ++ used)) e ∙ h.0.pending in
    let found : complete_runs (text ++ used) ≡ complete_runs text ++ blocks = complete_runs-append text used ∙ ap (λ r. complete_runs text ++ complete_runs (r ++ used)) e ∙ ap (λ l. complete_runs text ++ l) h.0.complete in
    let later = proceeds calls call.after now (text ++ used) rest h.1 in
    let whole : text ++ (used ++ used_by calls) ≡ (text ++ used) ++ used_by calls = sym (append_assoc text used (used_by calls)) in (
      ap complete_runs whole ∙ later.0 ∙ ap (λ l. l ++ given_by calls) found ∙ append_assoc (complete_runs text) blocks (given_by calls),
      ap rest_of whole ∙ later.1,
    )

given_is : (calls : List Call) (now : Split) → TakesAll opened calls now → given_by calls ≡ complete_runs (used_by calls)
given_is calls now h = sym (proceeds calls opened now [] refl h).0

pending_is : (calls : List Call) (now : Split) → TakesAll opened calls now → now.pending ≡ rest_of (used_by calls)
pending_is calls now h = sym (proceeds calls opened now [] refl h).1

-- the pending bytes are the last run, if there are any
last_given : (some : Bool) (pending : List ℕ) → (IsTrue some → pending ≢ []) → (pending ≢ [] → IsTrue some) → completed some pending ≡ not_empty (pending ∷ [])
last_given true [] h k = absurd (h refl refl)
last_given true (byte ∷ pending) h k = refl
last_given false [] h k = refl
last_given false (byte ∷ pending) h k = let some : IsTrue false = k (λ e. absurd cc) in absurd cc

last_is : (now last : Split) (some : Bool) → SplitEnds now some last → completed some last.block ≡ not_empty (now.pending ∷ [])
last_is now last some h = ap (λ s. completed some s.block) h.gives ∙ last_given some now.pending h.answers.0 h.answers.1

end_is : (calls : List Call) (now last : Split) (some : Bool) → TakesAll opened calls now → SplitEnds now some last → given_by calls ++ completed some last.block ≡ runs (used_by calls)
end_is calls now last some h e =
    ap (λ l. l ++ completed some last.block) (given_is calls now h)
    ∙ ap (λ l. complete_runs (used_by calls) ++ l) (last_is now last some e)
    ∙ ap (λ r. complete_runs (used_by calls) ++ not_empty (r ∷ [])) (pending_is calls now h)

given_fits : (whole : Bool) (block : List ℕ) (later : List (List ℕ)) → length block ≤ most_bytes → NoneFaulty is_too_long later → NoneFaulty is_too_long (completed whole block ++ later)
given_fits true block later h rest = one_more is_too_long block later (fits_is_good block h) rest
given_fits false block later h rest = rest

all_fit : (calls : List Call) (old now : Split) (later : List (List ℕ)) → TakesAll old calls now → NoneFaulty is_too_long later → NoneFaulty is_too_long (given_by calls ++ later)
all_fit [] old now later h rest = rest
all_fit (call ∷ calls) old now later h rest =
    let blocks : List (List ℕ) = completed call.taken.whole call.after.block in
    subst (NoneFaulty is_too_long) (sym (append_assoc blocks (given_by calls) later))
    (given_fits call.taken.whole call.after.block (given_by calls ++ later) h.0.block_fits (all_fit calls call.after now later h.1 rest))

last_fits : (now last : Split) (some : Bool) → SplitEnds now some last → length last.block ≤ most_bytes
last_fits now last some e = subst (λ s. length s.block ≤ most_bytes) (sym e.gives) e.fits

blocks_are : (calls : List Call) (now last : Split) (some : Bool) → TakesAll opened calls now → SplitEnds now some last → given_by calls ++ completed some last.block ≡ blocks_of is_too_long (used_by calls)
blocks_are calls now last some h e =
    let last_good : NoneFaulty is_too_long (completed some last.block) = subst (NoneFaulty is_too_long) (append-nil (completed some last.block)) (given_fits some last.block [] (last_fits now last some e) (none is_too_long)) in
    let good : NoneFaulty is_too_long (given_by calls ++ completed some last.block) = all_fit calls opened now (completed some last.block) h last_good in
    sym (ap (up_to_faulty is_too_long) (sym (end_is calls now last some h e)) ∙ all_good is_too_long (given_by calls ++ completed some last.block) good)

pub give_runs : (calls : List Call) (now : Split) → TakesAll opened calls now → GiveRuns calls now
give_runs calls now h = record { given = given_is calls now h; pending = pending_is calls now h }

pub give_all : (calls : List Call) (now last : Split) (some : Bool) → TakesAll opened calls now → SplitEnds now some last → GiveAll calls (completed some last.block)
give_all calls now last some h e = record { runs_are = end_is calls now last some h e; blocks_are = blocks_are calls now last some h e }

too_long_is : (run : List ℕ) → most_bytes < length run → is_too_long run ≡ true
too_long_is run h = grind (arith, nat_tests)

pub ends_too_long : (calls : List Call) (now : Split) (piece later : List ℕ) (line : ℕ) → TakesAll opened calls now → BeginsTooLong (now.pending ++ piece ++ later) line → EndsTooLong (used_by calls ++ piece ++ later) (given_by calls) line
ends_too_long calls now piece later line h begins =
    let used : List ℕ = used_by calls in
    let good : NoneFaulty is_too_long (given_by calls) = subst (NoneFaulty is_too_long) (append-nil (given_by calls)) (all_fit calls opened now [] h (none is_too_long)) in
    let found : runs (used ++ piece ++ later) ≡ given_by calls ++ begins.run ∷ begins.others =
    ap runs (append_assoc used piece later) ∙ runs-append used (piece ++ later)
    ∙ ap (λ l. l ++ runs (rest_of used ++ (piece ++ later))) (sym (given_is calls now h))
    ∙ ap (λ r. given_by calls ++ runs (r ++ (piece ++ later))) (sym (pending_is calls now h))
    ∙ ap (λ t. given_by calls ++ runs t) (sym (append_assoc now.pending piece later))
    ∙ ap (λ l. given_by calls ++ l) begins.found in
    record {
      last = begins.run;
      are = ap (up_to_faulty is_too_long) found ∙ past_good is_too_long (given_by calls) (begins.run ∷ begins.others) good
          ∙ ap (λ b. given_by calls ++ begins.run ∷ cond b [] (up_to_faulty is_too_long begins.others)) (too_long_is begins.run begins.too_long);
      too_long = begins.too_long;
      counted = begins.counted;
    }
