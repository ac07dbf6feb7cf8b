-- What a listener was told, piece after piece.
use Rattle.std.proofs.Common.{◌≡◌, ◌≢◌, ◌↔◌, ℕ, ◌+◌, ◌≤◌, Bool, IsTrue, true, false, List, [], ◌∷◌, ◌++◌, length, take, drop, map, filter_map, Ok, append_assoc, append-nil, refl, ap, sym, ◌∙◌}
use Rattle.std.proofs.lemmas.List.{map-append, take_all}
use Rattle.std.proofs.lemmas.List.Elements.{filter_map-append}
use Rattle.text_bytes.specs.declared.profile.Profile.{Profile}
use Rattle.text_bytes.specs.Text.{Text}
use Rattle.device_core.specs.Runs.{complete_runs, not_empty, rest_of, runs}
use Rattle.device_core.specs.Faults.{block_gives}
use Rattle.device_core.specs.Splits.{Split, SplitTakes, completed}
use Rattle.device_core.specs.Values.{EventValue, by_profile}
use Rattle.device_core.specs.declared.splitter.Taken.{Taken}
use Rattle.device_core.proofs.Law.{runs-append}
use Rattle.engine_sessions.specs.Tallies.{IsTold, event_given, events_in, events_of}
use Rattle.engine_sessions.proofs.TurnLemmas.{part_more}

pub events_in-append : (profile : Profile) (first second : List Text) → events_in profile (first ++ second) ≡ events_in profile first ++ events_in profile second
events_in-append profile first second =
    ap (map (by_profile profile)) (filter_map-append (λ block. event_given (block_gives block)) first second)
    ∙ map-append (by_profile profile) (filter_map (λ block. event_given (block_gives block)) first) (filter_map (λ block. event_given (block_gives block)) second)

-- the event of a block is the only one of an input that is this block
pub events_given : (profile : Profile) (block : Text) (event : EventValue) → block_gives block ≡ Ok event → events_in profile (block ∷ []) ≡ by_profile profile event ∷ []
events_given profile block event e = ap (λ given. map (by_profile profile) (filter_map event_given (given ∷ []))) e

-- the events of an input, those of its first blocks first
pub events_of-append : (profile : Profile) (s t : Text) → events_of profile (s ++ t) ≡ events_in profile (complete_runs s) ++ events_of profile (rest_of s ++ t)
events_of-append profile s t = ap (events_in profile) (runs-append s t) ∙ events_in-append profile (complete_runs s) (runs (rest_of s ++ t))

-- a splitter took a part of a piece, and the block that it completed was told, if there is one
pub told_by : (profile : Profile) (old_says new_says : List EventValue → Text) (old new : Split) (piece : Text) (taken : Taken) (whole : Bool) (block : Text)
    → SplitTakes old piece taken new → taken.whole ≡ whole → block ≡ new.block
    → ((later : List EventValue) → new_says later ≡ old_says (events_in profile (completed whole block) ++ later))
    → IsTold (λ rest. old_says (events_of profile (old.pending ++ rest))) (λ rest. new_says (events_of profile (new.pending ++ rest))) (take taken.used piece)
told_by profile old_says new_says old new piece taken whole block t w b h rest =
    let part : Text = old.pending ++ take taken.used piece in
    h (events_of profile (new.pending ++ rest))
    ∙ ap old_says (ap (λ e. e ++ events_of profile (new.pending ++ rest)) (ap (events_in profile) (ap (λ x. completed x block) (sym w) ∙ ap (completed taken.whole) b ∙ sym t.complete))
    ∙ ap (λ r. events_in profile (complete_runs part) ++ events_of profile (r ++ rest)) (sym t.pending)
    ∙ sym (events_of-append profile part rest)
    ∙ ap (events_of profile) (append_assoc old.pending (take taken.used piece) rest))

-- nothing was told
pub told_none : (says : Text → Text) → IsTold says says []
told_none says rest = refl

-- one part was told after another
pub told_more : (old now next : Text → Text) (first second : Text) → IsTold old now first → IsTold now next second → IsTold old next (first ++ second)
told_more old now next first second h k rest = k rest ∙ h (second ++ rest) ∙ ap old (sym (append_assoc first second rest))

pub told_on : (old now next : Text → Text) (piece : Text) (done used : ℕ) → IsTold old now (take done piece) → IsTold now next (take used (drop done piece)) → IsTold old next (take (done + used) piece)
told_on old now next piece done used h k rest = told_more old now next (take done piece) (take used (drop done piece)) h k rest ∙ ap (λ part. old (part ++ rest)) (part_more piece done used)

pub told_all : (old now : Text → Text) (piece : Text) (done : ℕ) → length piece ≤ done → IsTold old now (take done piece) → IsTold old now piece
told_all old now piece done end h rest = h rest ∙ ap (λ part. old (part ++ rest)) (take_all done piece end)

-- a rest that ends is told as a block, if it is not empty
pub last_told : (profile : Profile) (pending : Text) (some : Bool) → complete_runs pending ≡ [] → rest_of pending ≡ pending → (IsTrue some ↔ (pending ≢ [])) → events_of profile (pending ++ []) ≡ events_in profile (completed some pending)
last_told profile pending some none rest is =
    ap (events_of profile) (append-nil pending)
    ∙ ap (λ r. events_in profile (r ++ not_empty (rest_of pending ∷ []))) none
    ∙ ap (λ r. events_in profile (not_empty (r ∷ []))) rest
    ∙ ap (events_in profile) (by pending some is)
  where
    by : (pending : Text) (some : Bool) → (IsTrue some ↔ (pending ≢ [])) → not_empty (pending ∷ []) ≡ completed some pending
    by [] true is = absurd (is.0 refl refl)
    by [] false is = refl
    by (byte ∷ pending) true is = refl
    by (byte ∷ pending) false is = let no : false ≡ true = is.1 (λ e. cc) in absurd cc
