-- Lines taken byte by byte, and the place where that stops.
use Rattle.std.proofs.Common.{◌≡◌, ℕ, ◌+◌, ◌<◌, ◌≤◌, ◌==◌, Bool, true, false, List, [], ◌∷◌, ◌++◌, Result, Ok, Err, OnOk, IfErr, length, take, drop, get_or, flat_map, refl, ap, sym, ◌∙◌, subst, append_assoc, length-append, length-take, add-zero, arith}
use Rattle.std.proofs.lemmas.List.{append-nil, take_more, take-append-drop}
use Rattle.std.proofs.lemmas.Grind.{flat_map-append}
use Rattle.text_bytes.specs.Names.{newline}
use Rattle.text_bytes.specs.Lines.{lines}
use Rattle.text_bytes.specs.Text.{Text}
use Rattle.device_core.specs.RunBlocks.{newline_count}
use Rattle.engine_sessions.specs.Sinks.{HandsOn, SinkState}
use Rattle.engine_sessions.specs.Serves.{WritesOut}
use Rattle.engine_reports.specs.LookupOutcomes.{is_too_long, most_bytes}
use Rattle.engine_reports.specs.Taking.{Answers, Cut, HeldLine, IsFull, IsOpen, Leads, StopsAt, StopsBy, StopsIn, StopsInLine}
use Rattle.engine_reports.specs.declared.held.LookupFault.{LookupFault}
use Rattle.engine_reports.specs.declared.held.LookupFault.TheVariants.{Read, Write, TooLong, Memory}
use Rattle.engine_reports.proofs.LineLemmas.{count-append, count-le, cut-after, cut-byte, cut-line, cut-none, first_ended, first_longer, last_line, none-push}
use Rattle.engine_sessions.proofs.WriteLemmas.{writes-after, writes-none, writes-one}
use Rattle.engine_reports.proofs.AnswerLemmas.{leads-after, leads-none, leads-one, long_is, short_is}

-- what follows if a call went well, or failed
pub ok_so : (r : Result (Unit {0}) LookupFault) (P Q : Type 0) → (P → Q) → OnOk r P → OnOk r Q
ok_so (Ok done) P Q f p = f p
ok_so (Err fault) P Q f p = tt

pub ok_both : (r : Result (Unit {0}) LookupFault) (P Q R : Type 0) → (P → Q → R) → OnOk r P → OnOk r Q → OnOk r R
ok_both (Ok done) P Q R f p q = f p q
ok_both (Err fault) P Q R f p q = tt

pub err_so : (r : Result (Unit {0}) LookupFault) (P Q : LookupFault → Type 0) → ((fault : LookupFault) → P fault → Q fault) → IfErr r P → IfErr r Q
err_so (Ok done) P Q f p = tt
err_so (Err fault) P Q f p = f fault p

pub open_is : (answer : Text → Text) (old : HeldLine) (part : Text) (now : HeldLine) (before sink : SinkState) → Answers answer old part now before sink → IsOpen now
open_is answer old part now before sink a = record { none = a.cut.none; fits = a.fits }

-- no more lines end than bytes were taken
pub few_ended : (answer : Text → Text) (old : HeldLine) (part : Text) (now : HeldLine) (before sink : SinkState) → IsOpen old → Answers answer old part now before sink → now.number ≤ old.number + length part
few_ended answer old part now before sink o a = omega (arith, a.number, sym a.cut.count, count-append old.bytes part, o.none, count-le part)

pub answers-none : (answer : Text → Text) (held : HeldLine) (sink : SinkState) → IsOpen held → Answers answer held [] held sink sink
answers-none answer held sink o = record {
  ended = [];
  cut = subst (λ text. Cut text [] held.bytes) (sym (append-nil held.bytes)) (cut-none held.bytes o.none);
  leads = leads-none answer;
  writes = writes-none sink;
  number = sym (add-zero held.number);
  fits = o.fits;
}

-- the byte ends the line
pub answers-line : (answer : Text → Text) (old new : HeldLine) (before sink : SinkState) → IsOpen old → new ≡ record { number = old.number + 1; bytes = [] } → HandsOn before (answer old.bytes) sink → Answers answer old (newline ∷ []) new before sink
answers-line answer old new before sink o e h = rw e (record {
  ended = old.bytes ∷ [];
  cut = cut-line old.bytes o.none;
  leads = leads-one answer old.bytes (short_is old.bytes o.fits);
  writes = writes-one before sink (answer old.bytes) h;
  number = refl;
  fits = omega arith;
})

-- the byte is one more of the line
pub answers-byte : (answer : Text → Text) (old new : HeldLine) (byte : ℕ) (sink : SinkState) → IsOpen old → (byte == newline) ≡ false → length old.bytes < most_bytes → new ≡ record { number = old.number; bytes = old.bytes ++ byte ∷ [] } → Answers answer old (byte ∷ []) new sink sink
answers-byte answer old new byte sink o n l e = rw e (record {
  ended = [];
  cut = cut-byte old.bytes byte o.none n;
  leads = leads-none answer;
  writes = writes-none sink;
  number = sym (add-zero old.number);
  fits = omega (arith, l, length-append old.bytes (byte ∷ []));
})

-- more bytes are taken after some
pub answers-after : (answer : Text → Text) (old middle now : HeldLine) (part more : Text) (before after sink : SinkState) → Answers answer old part middle before after → Answers answer middle more now after sink → Answers answer old (part ++ more) now before sink
answers-after answer old middle now part more before after sink a b = record {
  ended = a.ended ++ b.ended;
  cut = subst (λ text. Cut text (a.ended ++ b.ended) now.bytes) (append_assoc old.bytes part more) (cut-after (old.bytes ++ part) more a.ended b.ended middle.bytes now.bytes a.cut b.cut);
  leads = leads-after answer a.ended b.ended a.leads b.leads;
  writes = subst (λ text. WritesOut before text sink) (sym (flat_map-append answer a.ended b.ended)) (writes-after before after sink (flat_map answer a.ended) (flat_map answer b.ended) a.writes b.writes);
  number = omega (arith, a.number, b.number, length-append a.ended b.ended);
  fits = b.fits;
}

-- it stops at the line that ends
line_stops : (answer : Text → Text) (fault : LookupFault) (number : ℕ) (line : Text) (others : List Text) (before now : SinkState) → length line ≤ most_bytes → StopsInLine fault (answer line) before now → StopsBy answer fault number (line ∷ others) before now
line_stops answer Read number line others before now l s = absurd s
line_stops answer Write number line others before now l s = record { next = line; others = others; lines_are = refl; short = short_is line l; breaks = s }
line_stops answer (TooLong counted) number line others before now l s = absurd s
line_stops answer Memory number line others before now l s = s

pub stops-line : (answer : Text → Text) (fault : LookupFault) (old : HeldLine) (before now : SinkState) → IsOpen old → StopsInLine fault (answer old.bytes) before now → StopsIn answer fault true old.number (old.bytes ++ newline ∷ []) before now
stops-line answer fault old before now o s = record {
  ended = [];
  leads = leads-none answer;
  after = before;
  writes = writes-none before;
  at = λ later e. record {
    others = old.bytes ∷ lines later;
    lines_are = ap lines (append_assoc old.bytes (newline ∷ []) later) ∙ first_ended old.bytes later o.none;
    stops = subst (λ n. StopsBy answer fault n (old.bytes ∷ lines later) before now) (sym (add-zero old.number)) (line_stops answer fault old.number old.bytes (lines later) before now o.fits s);
  };
}

-- it stops at a byte that the line has no room for
byte_stops : (answer : Text → Text) (fault : LookupFault) (old : HeldLine) (others : List Text) (line : Text) (more : List Text) (sink : SinkState) → others ≡ line ∷ more → (most_bytes ≤ length old.bytes → most_bytes < length line) → IsFull fault old → StopsBy answer fault old.number others sink sink
byte_stops answer Read old others line more sink first long s = absurd s
byte_stops answer Write old others line more sink first long s = absurd s
byte_stops answer (TooLong counted) old others line more sink first long s = record {
  numbered = s.0;
  line = line;
  others = more;
  lines_are = first;
  long = long_is line (long s.1);
  untouched = refl;
}
byte_stops answer Memory old others line more sink first long s = refl

pub stops-byte : (answer : Text → Text) (fault : LookupFault) (old : HeldLine) (byte : ℕ) (sink : SinkState) → IsOpen old → (byte == newline) ≡ false → IsFull fault old → StopsIn answer fault true old.number (old.bytes ++ byte ∷ []) sink sink
stops-byte answer fault old byte sink o n s = record {
  ended = [];
  leads = leads-none answer;
  after = sink;
  writes = writes-none sink;
  at = λ later e.
      let text : Text = old.bytes ++ byte ∷ [] in
      let r = first_longer text later (none-push old.bytes byte o.none n) (omega (arith, length-append old.bytes (byte ∷ []))) in
      record {
        others = lines (text ++ later);
        lines_are = refl;
        stops = subst (λ n. StopsBy answer fault n (lines (text ++ later)) sink sink) (sym (add-zero old.number))
            (byte_stops answer fault old (lines (text ++ later)) (text ++ r.0) r.1 sink r.2 (λ h. omega (arith, h, length-append old.bytes (byte ∷ []), length-append text r.0)) s);
      };
}

-- it stops in whatever goes on
pub stops-more : (answer : Text → Text) (fault : LookupFault) (number : ℕ) (text more : Text) (before now : SinkState) → StopsIn answer fault true number text before now → StopsIn answer fault true number (text ++ more) before now
stops-more answer fault number text more before now s = record {
  ended = s.ended;
  leads = s.leads;
  after = s.after;
  writes = s.writes;
  at = λ later e. subst (λ all. StopsAt answer fault number s.ended all s.after now) (sym (append_assoc text more later)) (s.at (more ++ later) (λ both. absurd cc));
}

-- it stops after lines that are answered
pub stops-after : (answer : Text → Text) (fault : LookupFault) (more : Bool) (old middle : HeldLine) (part next : Text) (before after now : SinkState) → Answers answer old part middle before after → StopsIn answer fault more middle.number (middle.bytes ++ next) after now → StopsIn answer fault more old.number (old.bytes ++ (part ++ next)) before now
stops-after answer fault more old middle part next before after now a s = record {
  ended = a.ended ++ s.ended;
  leads = leads-after answer a.ended s.ended a.leads s.leads;
  after = s.after;
  writes = subst (λ text. WritesOut before text s.after) (sym (flat_map-append answer a.ended s.ended)) (writes-after before after s.after (flat_map answer a.ended) (flat_map answer s.ended) a.writes s.writes);
  at = λ later e.
      let there = s.at later e in
      record {
        others = there.others;
        lines_are = ap lines (texts_are later) ∙ a.cut.lines_are (next ++ later)
            ∙ ap (λ ls. a.ended ++ ls) (ap lines (sym (append_assoc middle.bytes next later)) ∙ there.lines_are)
            ∙ sym (append_assoc a.ended s.ended there.others);
        stops = subst (λ n. StopsBy answer fault n there.others s.after now) number_is there.stops;
      };
}
  where
    texts_are : (later : Text) → (old.bytes ++ (part ++ next)) ++ later ≡ (old.bytes ++ part) ++ (next ++ later)
    texts_are later = ap (λ text. text ++ later) (sym (append_assoc old.bytes part next)) ∙ append_assoc (old.bytes ++ part) next later

    number_is : middle.number + length s.ended ≡ old.number + length (a.ended ++ s.ended)
    number_is = omega (arith, a.number, length-append a.ended s.ended)

-- the input's last line, if there is one
pub end_leads : (answer : Text → Text) (held : HeldLine) → IsOpen held → Leads answer (lines held.bytes)
end_leads answer held o = by_bytes held.bytes o.none o.fits
  where
    by_bytes : (bytes : Text) → newline_count bytes ≡ 0 → length bytes ≤ most_bytes → Leads answer (lines bytes)
    by_bytes [] n f = leads-none answer
    by_bytes (byte ∷ bytes) n f = subst (Leads answer) (sym (last_line (byte ∷ bytes) n (omega arith))) (leads-one answer (byte ∷ bytes) (short_is (byte ∷ bytes) f))

pub end-none : (answer : Text → Text) (held : HeldLine) (sink : SinkState) → length held.bytes ≡ 0 → WritesOut sink (flat_map answer (lines held.bytes)) sink
end-none answer held sink e = by_bytes held.bytes e
  where
    by_bytes : (bytes : Text) → length bytes ≡ 0 → WritesOut sink (flat_map answer (lines bytes)) sink
    by_bytes [] n = writes-none sink
    by_bytes (byte ∷ bytes) n = absurd (omega (arith, n))

pub end-line : (answer : Text → Text) (held : HeldLine) (before now : SinkState) → IsOpen held → 0 < length held.bytes → HandsOn before (answer held.bytes) now → WritesOut before (flat_map answer (lines held.bytes)) now
end-line answer held before now o l h = subst (λ ls. WritesOut before (flat_map answer ls) now) (sym (last_line held.bytes o.none l)) (writes-one before now (answer held.bytes) h)

pub end-stops : (answer : Text → Text) (fault : LookupFault) (held : HeldLine) (before now : SinkState) → IsOpen held → 0 < length held.bytes → StopsInLine fault (answer held.bytes) before now → StopsIn answer fault false held.number held.bytes before now
end-stops answer fault held before now o l s = record {
  ended = [];
  leads = leads-none answer;
  after = before;
  writes = writes-none before;
  at = λ later e. record {
    others = held.bytes ∷ [];
    lines_are = ap (λ rest. lines (held.bytes ++ rest)) (e refl) ∙ ap lines (append-nil held.bytes) ∙ last_line held.bytes o.none l;
    stops = subst (λ n. StopsBy answer fault n (held.bytes ∷ []) before now) (sym (add-zero held.number)) (line_stops answer fault held.number held.bytes [] before now o.fits s);
  };
}

-- there is a number for the line after the next byte
pub few_taken : (answer : Text → Text) (old middle : HeldLine) (piece : Text) (at top : ℕ) (before after : SinkState) → IsOpen old → at < length piece → old.number + length piece < top → Answers answer old (take at piece) middle before after → middle.number + 1 < top
few_taken answer old middle piece at top before after o h k a = omega (arith, few_ended answer old (take at piece) middle before after o a, length-take at piece, h, k)

-- one byte more of a piece
pub piece_more : (answer : Text → Text) (old middle now : HeldLine) (piece : Text) (at : ℕ) (before after sink : SinkState) → at < length piece → Answers answer old (take at piece) middle before after → Answers answer middle (get_or piece at 0 ∷ []) now after sink → Answers answer old (take (at + 1) piece) now before sink
piece_more answer old middle now piece at before after sink h a b =
    subst (λ part. Answers answer old part now before sink) (sym (take_more piece at 0 h)) (answers-after answer old middle now (take at piece) (get_or piece at 0 ∷ []) before after sink a b)

-- it stops at a byte of a piece
pub piece_stops : (answer : Text → Text) (fault : LookupFault) (old middle : HeldLine) (piece : Text) (at : ℕ) (before after now : SinkState) → at < length piece → Answers answer old (take at piece) middle before after → StopsIn answer fault true middle.number (middle.bytes ++ get_or piece at 0 ∷ []) after now → StopsIn answer fault true old.number (old.bytes ++ piece) before now
piece_stops answer fault old middle piece at before after now h a s =
    let first : StopsIn answer fault true old.number (old.bytes ++ (take at piece ++ get_or piece at 0 ∷ [])) before now = stops-after answer fault true old middle (take at piece) (get_or piece at 0 ∷ []) before after now a s in
    let all : StopsIn answer fault true old.number ((old.bytes ++ (take at piece ++ get_or piece at 0 ∷ [])) ++ drop (at + 1) piece) before now = stops-more answer fault old.number (old.bytes ++ (take at piece ++ get_or piece at 0 ∷ [])) (drop (at + 1) piece) before now first in
    subst (λ text. StopsIn answer fault true old.number text before now) texts_are all
  where
    texts_are : (old.bytes ++ (take at piece ++ get_or piece at 0 ∷ [])) ++ drop (at + 1) piece ≡ old.bytes ++ piece
    texts_are =
        append_assoc old.bytes (take at piece ++ get_or piece at 0 ∷ []) (drop (at + 1) piece)
        ∙ ap (λ part. old.bytes ++ (part ++ drop (at + 1) piece)) (sym (take_more piece at 0 h))
        ∙ ap (λ text. old.bytes ++ text) (take-append-drop (at + 1) piece)
