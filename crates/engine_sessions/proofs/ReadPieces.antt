-- What is known of the pieces that were read so far, after one more and at the end.
use Rattle.std.proofs.Common.{◌≡◌, ℕ, zero, suc, ◌+◌, ◌-◌, ◌<◌, ◌≤◌, ◌⊎◌, inl, inr, length, take, Bool, true, false, Option, None, Some, List, [], ◌∷◌, ◌++◌, refl, append_assoc, length-append, ap, sym, ◌∙◌, subst, arith}
use Rattle.std.proofs.lemmas.Bool.{cases_lt}
use Rattle.std.proofs.lemmas.List.{append-nil, take-append-le}
use Rattle.std.proofs.lemmas.Grind.{common_steps, flat_map-append}
use Rattle.std.proofs.Math.Seq.{take-length}
use Rattle.text_bytes.specs.Text.{Text}
use Rattle.device_core.specs.Runs.{rest_of}
use Rattle.device_core.specs.RunBlocks.{most_bytes}
use Rattle.engine_sessions.specs.Reported.{followed_by, led_by, NoneLeft}
use Rattle.engine_sessions.specs.Counts.{Counts}
use Rattle.engine_sessions.specs.Sources.{Gives, SourceFails, SourceState}
use Rattle.engine_sessions.specs.Sinks.{SinkState}
use Rattle.engine_sessions.proofs.Counting.{counts-more}
use Rattle.engine_sessions.proofs.Reported.{followed_by-append}
use Rattle.engine_sessions.specs.Turns.{joined, Reads}
use Rattle.engine_sessions.specs.Inputs.{all_but_last, BeforeReads, GoesOn, Devices, HoldsFew, ReadsWell, ReadsToFault}

-- no more is held, neither before one of these pieces nor after them, than a block may have
abbrev pub HoldsUpTo : List Text → Type 0
HoldsUpTo read = (n : ℕ) → n ≤ length read → length (rest_of (joined (take n read))) ≤ most_bytes

pub led_by-nil : (shown : Option Text) → led_by [] shown ≡ shown
led_by-nil None = refl
led_by-nil (Some rest) = refl

led_by-append : (first second : Text) (shown : Option Text) → led_by first (led_by second shown) ≡ led_by (first ++ second) shown
led_by-append first second None = refl
led_by-append first second (Some rest) = ap Some (sym (append_assoc first second rest))

pub joined-push : (read : List Text) (piece : Text) → joined (read ++ piece ∷ []) ≡ joined read ++ piece
joined-push read piece = flat_map-append (λ text. text) read (piece ∷ []) ∙ ap (λ l. joined read ++ l) (append-nil piece)

pub all_but_last-push : (read : List Text) (piece : Text) → all_but_last (read ++ piece ∷ []) ≡ read
all_but_last-push read piece = grind (arith, common_steps)

pub one_more : (input now later : SourceState) (read : List Text) (piece : Text) → now.pieces ≡ followed_by input.pieces read → later.pieces ≡ followed_by now.pieces (piece ∷ []) → later.pieces ≡ followed_by input.pieces (read ++ piece ∷ [])
one_more input now later read piece p q = q ∙ ap (λ shown. followed_by shown (piece ∷ [])) p ∙ followed_by-append input.pieces read (piece ∷ [])

pub left_after : (input now later : SourceState) (read : List Text) (piece : Text) → input.left ≡ led_by (joined read) now.left → now.left ≡ led_by piece later.left → input.left ≡ led_by (joined (read ++ piece ∷ [])) later.left
left_after input now later read piece p q = p ∙ ap (led_by (joined read)) q ∙ led_by-append (joined read) piece later.left ∙ ap (λ text. led_by text later.left) (sym (joined-push read piece))

-- what was held before each piece, with one more piece after them
pub few_after : (read : List Text) (piece : Text) → HoldsUpTo read → HoldsFew (read ++ piece ∷ [])
few_after read piece fits n h =
    let within : n ≤ length read = omega (arith, h, length-append read (piece ∷ [])) in
    subst (λ pieces. length (rest_of (joined pieces)) ≤ most_bytes) (sym (take-append-le n read (piece ∷ []) within)) (fits n within)

pub few_of : (read : List Text) → HoldsUpTo read → HoldsFew read
few_of read fits n h = fits n (omega (arith, h))

-- and after it
pub up_to_after : (read : List Text) (piece : Text) → HoldsUpTo read → length (rest_of (joined (read ++ piece ∷ []))) ≤ most_bytes → HoldsUpTo (read ++ piece ∷ [])
up_to_after read piece fits last n h = by_case (cases_lt n (length (read ++ piece ∷ [])))
  where
    by_case : (n < length (read ++ piece ∷ [])) ⊎ (length (read ++ piece ∷ []) ≤ n) → length (rest_of (joined (take n (read ++ piece ∷ [])))) ≤ most_bytes
    by_case (inl l) = few_after read piece fits n l
    by_case (inr l) =
        let all : n ≡ length (read ++ piece ∷ []) = omega (arith, h, l) in
        subst (λ pieces. length (rest_of (joined pieces)) ≤ most_bytes) (sym (ap (λ k. take k (read ++ piece ∷ [])) all ∙ take-length (read ++ piece ∷ []))) last

pub none_at_start : HoldsUpTo []
none_at_start n h = let none : n ≡ 0 = omega (arith, h) in rw none (omega arith)

-- one read more was made
pub reads_more : (turns : ℕ) (input now later : SourceState) → ReadsWell turns input now → Counts 1 now.reads later.reads → later.faults ≡ now.faults → ReadsWell (turns + 1) input later
reads_more turns input now later w r e = record { reads = counts-more turns 1 input.reads now.reads later.reads w.reads r; well = e ∙ w.well }

-- one piece more was read
pub reads_after : (turns : ℕ) (input now later : SourceState) (read : List Text) (piece : Text) → length read ≡ turns → ReadsWell turns input now → Gives now piece later → ReadsWell (length (read ++ piece ∷ [])) input later
reads_after turns input now later read piece e w g =
    let size : turns + 1 ≡ length (read ++ piece ∷ []) = omega (arith, e, length-append read (piece ∷ [])) in
    subst (λ n. ReadsWell n input later) size (reads_more turns input now later w g.reads g.well)

-- one read more failed
pub to_fault : (turns made : ℕ) (input now later : SourceState) → made ≡ turns → ReadsWell turns input now → SourceFails now later → ReadsToFault made input later
to_fault turns made input now later e w f = record {
  reads = rw e (counts-more turns 1 input.reads now.reads later.reads w.reads f.reads);
  failed = subst (λ n. Counts 1 n later.faults) w.well f.failed;
}

-- a piece after which the input goes on has a byte
pub some_byte : (now later : SourceState) (piece : Text) → Reads true now piece later → 0 < length piece
some_byte now later [] r = let end : true ≡ false = r.ends.1 refl in absurd cc
some_byte now later (byte ∷ bytes) r = omega arith

-- one piece more was read, and the input goes on
pub goes_on-push : (read : List Text) (piece : Text) → GoesOn read → 0 < length piece → GoesOn (read ++ piece ∷ [])
goes_on-push [] piece all some = (some, tt)
goes_on-push (first ∷ others) piece all some = (all.0, goes_on-push others piece all.1 some)

-- the input went on before each read
pub went_on : (read : List Text) (piece : Text) (before now : SourceState) → GoesOn read → now.faults ≡ before.faults → BeforeReads GoesOn (read ++ piece ∷ []) before now
went_on read piece before now all well = (subst GoesOn (sym (all_but_last-push read piece)) all, λ f. absurd (f well))

-- and it went on after all pieces
pub goes_on-few : (read : List Text) → GoesOn read → GoesOn (all_but_last read)
goes_on-few read all = fewer (length read - 1) read all
  where
    fewer : (n : ℕ) (pieces : List Text) → GoesOn pieces → GoesOn (take n pieces)
    fewer zero pieces all = tt
    fewer (suc n) [] all = tt
    fewer (suc n) (first ∷ others) all = (all.0, fewer n others all.1)

-- what an input and an output show
abbrev pub shown : SourceState → SinkState → Devices
shown input output = record { input = input; output = output }

pub none_left_after : (now later : Option Text) (piece : Text) → piece ≡ [] → now ≡ led_by piece later → NoneLeft now → NoneLeft later
none_left_after now later piece e f h = subst NoneLeft (f ∙ ap (λ p. led_by p later) e ∙ led_by-nil later) h

-- no bytes are left if the input does not go on
pub later_none : (more : Bool) (now later : SourceState) (piece rest : Text) → Reads more now piece later → later.left ≡ Some rest → more ≡ false → rest ≡ []
later_none more now later piece rest r e f = rw e at (none_left_after now.left later.left piece (r.ends.0 f) r.gives.left (r.none_left f))
