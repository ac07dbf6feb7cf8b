-- What a sink took text by text, and a text that is written escaped, run by run.
use Rattle.std.proofs.Common.{◌≡◌, ℕ, ◌+◌, ◌-◌, ◌<◌, ◌≤◌, Bool, true, false, Some, List, [], ◌∷◌, ◌++◌, length, take, drop, get_or, append_assoc, length-drop, refl, ap, sym, ◌∙◌, arith}
use Rattle.std.specs.Bool.{then_some}
use Rattle.std.proofs.lemmas.List.{append-nil, get_or-drop, take-append-drop, take_more}
use Rattle.std.proofs.lemmas.Grind.{flat_map-append}
use Rattle.text_bytes.specs.Escapes.{escape_byte, escape_text, is_escaped}
use Rattle.text_bytes.proofs.Escaping.{escape_text-more}
use Rattle.engine_sessions.specs.Reported.{followed_by}
use Rattle.engine_sessions.specs.Sinks.{BreaksOff, SinkState, Takes}
use Rattle.engine_sessions.proofs.Breaks.{breaks-at, breaks-in-middle}
use Rattle.engine_sessions.proofs.Reported.{followed_by-append}

pub takes-both : (before mid now : SinkState) (first second : List ℕ) → Takes before first mid → Takes mid second now → Takes before (first ++ second) now
takes-both before mid now first second p q = record {
  taken = q.taken ∙ ap (λ reported. followed_by reported second) p.taken ∙ followed_by-append before.taken first second;
  flushed = q.flushed ∙ p.flushed;
  well = q.well ∙ p.well;
}

-- a sink that breaks off in the second of two texts
pub breaks-second : (before mid now : SinkState) (first second : List ℕ) → Takes before first mid → BreaksOff mid second now → BreaksOff before (first ++ second) now
breaks-second before mid now first second takes h =
    rw (← append-nil second) (breaks-in-middle before mid now first second [] takes h)

-- what is reported for a byte, by whether it is escaped
pub reported : (needed : Bool) (text shown : List ℕ) → then_some needed text ≡ Some shown → shown ≡ text
reported true text shown h = cc
reported false text shown h = absurd cc

pub unreported : (needed : Bool) (text : List ℕ) → ((shown : List ℕ) → then_some needed text ≡ Some shown → ⊥) → needed ≡ false
unreported true text h = absurd (h text refl)
unreported false text h = refl

-- the bytes between two places
abbrev run : List ℕ → ℕ → ℕ → List ℕ
run text from to = take (to - from) (drop from text)

run-more : (text : List ℕ) (from to : ℕ) → from ≤ to → to < length text → run text from (to + 1) ≡ run text from to ++ get_or text to 0 ∷ []
run-more text from to h l =
    let size : to + 1 - from ≡ to - from + 1 = omega arith in
    let place : from + (to - from) ≡ to = omega arith in
    let within : to - from < length (drop from text) = omega (arith, length-drop from text) in
    ap (λ n. take n (drop from text)) size ∙ take_more (drop from text) (to - from) 0 within
    ∙ ap (λ (b : ℕ). run text from to ++ b ∷ []) (get_or-drop from text (to - from) 0 ∙ ap (λ n. get_or text n 0) place)

-- one more byte that stands for itself
pub plain-more : (text first : List ℕ) (from to : ℕ) → from ≤ to → to < length text → is_escaped (get_or text to 0) ≡ false
    → escape_text (take to text) ≡ first ++ take (to - from) (drop from text)
    → escape_text (take (to + 1) text) ≡ first ++ take (to + 1 - from) (drop from text)
plain-more text first from to h l e so_far =
    let b : ℕ = get_or text to 0 in
    let itself : escape_byte b ≡ b ∷ [] = rw e refl in
    sym (escape_text-more text to l) ∙ ap (λ (bs : List ℕ). bs ++ escape_byte b) so_far
    ∙ ap (λ (bs : List ℕ). (first ++ run text from to) ++ bs) itself
    ∙ append_assoc first (run text from to) (b ∷ [])
    ∙ ap (λ (bs : List ℕ). first ++ bs) (sym (run-more text from to h l))

-- a run was written, and after it a byte that does not stand for itself
pub takes-more : (before mid later now : SinkState) (text first : List ℕ) (from to : ℕ) → to < length text
    → escape_text (take to text) ≡ first ++ take (to - from) (drop from text)
    → Takes before first mid → Takes mid (take (to - from) (drop from text)) later → Takes later (escape_byte (get_or text to 0)) now
    → Takes before (escape_text (take (to + 1) text)) now
takes-more before mid later now text first from to l so_far p q r =
    rw (← escape_text-more text to l, so_far)
    (takes-both before later now (first ++ run text from to) (escape_byte (get_or text to 0)) (takes-both before mid later first (run text from to) p q) r)

-- a sink that breaks off in a run
pub breaks-in-run : (before mid now : SinkState) (text first : List ℕ) (from to : ℕ)
    → escape_text (take to text) ≡ first ++ take (to - from) (drop from text)
    → Takes before first mid → BreaksOff mid (take (to - from) (drop from text)) now → BreaksOff before (escape_text text) now
breaks-in-run before mid now text first from to so_far p h =
    let rest : List ℕ = escape_text (drop to text) in
    let whole : escape_text text ≡ first ++ (run text from to ++ rest) =
    ap escape_text (sym (take-append-drop to text)) ∙ flat_map-append escape_byte (take to text) (drop to text)
    ∙ ap (λ (bs : List ℕ). bs ++ rest) so_far ∙ append_assoc first (run text from to) rest in
    rw whole (breaks-in-middle before mid now first (run text from to) rest p h)

-- and one that breaks off in the byte after it
pub breaks-in-escape : (before mid later now : SinkState) (text first : List ℕ) (from to : ℕ) → to < length text
    → escape_text (take to text) ≡ first ++ take (to - from) (drop from text)
    → Takes before first mid → Takes mid (take (to - from) (drop from text)) later → BreaksOff later (escape_byte (get_or text to 0)) now
    → BreaksOff before (escape_text text) now
breaks-in-escape before mid later now text first from to l so_far p q h =
    let takes : Takes before (escape_text (take to text)) later = rw so_far (takes-both before mid later first (run text from to) p q) in
    breaks-at escape_byte text to 0 before later now l takes h
