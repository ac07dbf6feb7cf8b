-- A sink that breaks off in a later text breaks off in all of them.
use Rattle.std.proofs.Common.{◌≡◌, ℕ, ◌+◌, ◌<◌, ◌≤◌, List, ◌++◌, length, take, drop, suc, get_or, flat_map, ap, sym, ◌∙◌, arith}
use Rattle.std.proofs.Math.Seq.{drop-cons, take-append-add}
use Rattle.std.proofs.lemmas.List.{take-append-drop, take-append-le}
use Rattle.std.proofs.lemmas.Grind.{common_steps, flat_map-append}
use Rattle.engine_sessions.specs.Reported.{followed_by}
use Rattle.engine_sessions.specs.Sinks.{BreaksOff, SinkState, Takes}
use Rattle.engine_sessions.proofs.Reported.{followed_by-append}

-- the pieces of a list, with that of one place apart
flat_map-split : {X A : Type 0} (f : X → List A) (xs : List X) (i : ℕ) (d : X) → i < length xs → flat_map f xs ≡ flat_map f (take i xs) ++ (f (get_or xs i d) ++ flat_map f (drop (suc i) xs))
flat_map-split f xs i d h =
    ap (flat_map f) (sym (take-append-drop i xs)) ∙ flat_map-append f (take i xs) (drop i xs) ∙ ap (λ rest. flat_map f (take i xs) ++ flat_map f rest) (drop-cons xs i d h)

-- a first part of a text in the middle
take-middle : (first text rest : List ℕ) (n : ℕ) → n ≤ length text → take (length first + n) (first ++ (text ++ rest)) ≡ first ++ take n text
take-middle first text rest n h = take-append-add first (text ++ rest) n ∙ ap (λ part. first ++ part) (take-append-le n text rest h)

within-middle : (first text rest : List ℕ) (n : ℕ) → n ≤ length text → length first + n ≤ length (first ++ (text ++ rest))
within-middle first text rest n h = grind (arith, common_steps)

pub breaks-in-middle : (before mid now : SinkState) (first text rest : List ℕ) → Takes before first mid → BreaksOff mid text now → BreaksOff before (first ++ (text ++ rest)) now
breaks-in-middle before mid now first text rest takes breaks = record {
  taken = (
    length first + breaks.taken.0,
    within-middle first text rest breaks.taken.0 breaks.taken.1,
    breaks.taken.2
        ∙ ap (λ reported. followed_by reported (take breaks.taken.0 text)) takes.taken
        ∙ followed_by-append before.taken first (take breaks.taken.0 text)
        ∙ ap (followed_by before.taken) (sym (take-middle first text rest breaks.taken.0 breaks.taken.1)),
  );
  flushed = breaks.flushed ∙ takes.flushed;
  failed = rw (← takes.well) breaks.failed;
}

-- a sink that breaks off at one of several texts
pub breaks-at : {X : Type 0} (f : X → List ℕ) (xs : List X) (i : ℕ) (d : X) (before mid now : SinkState) → i < length xs → Takes before (flat_map f (take i xs)) mid → BreaksOff mid (f (get_or xs i d)) now → BreaksOff before (flat_map f xs) now
breaks-at f xs i d before mid now h takes breaks =
    rw (flat_map-split f xs i d h) (breaks-in-middle before mid now (flat_map f (take i xs)) (f (get_or xs i d)) (flat_map f (drop (suc i) xs)) takes breaks)
