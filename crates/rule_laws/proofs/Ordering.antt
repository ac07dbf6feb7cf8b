-- The messages about a file are in order.
use Rattle.std.proofs.Common.{◌≡◌, ℕ, ◌≤◌, ◌==◌, Bool, true, false, cond, nat_lt, List, [], ◌∷◌, ◌++◌, length, map, drop, Option, Some, None, Result, Ok, Err, refl, ap, sym, subst, arith, append_assoc}
use Rattle.std.specs.List.{filter_map}
use Rattle.text_bytes.specs.Names.{comma}
use Rattle.file_messages.specs.declared.message.Message.{Message}
use Rattle.file_messages.specs.declared.message.MessageKind.{MessageKind}
use Rattle.file_messages.specs.declared.message.MessageKind.TheVariants.{BlankExpected, CommaExpected, LabelUnused, LineTooLong, NoLaterLabel, ReadAsAssign}
use Rattle.text_bytes.specs.declared.source_file.SourceFile.{SourceFile}
use Rattle.rule_tokens.specs.Grammar.{Placed}
use Rattle.rule_tokens.specs.Lines.{items_of}
use Rattle.rule_tokens.specs.Values.{ends_in}
use Rattle.text_bytes.specs.declared.profile.Profile.TheVariants.{Manual}
use Rattle.rule_core.specs.Lines.{NumberedLine, joined_lines}
use Rattle.rule_parts.specs.Parts.{is_read_as_assign}
use Rattle.rule_types.specs.declared.part.Part.{Part}
use Rattle.rule_types.specs.declared.part.Part.TheVariants as part
use Rattle.rule_types.specs.Spots.{spot}
use Rattle.rule_core.specs.Spots.{key_spot, whole_spot}
use Rattle.rule_types.specs.Tokens.{WrittenPart}
use Rattle.rule_core.specs.declared.names.NamePlace.{NamePlace}
use Rattle.rule_types.specs.declared.spot.Spot.{Spot}
use Rattle.rule_core.specs.Drafts.{Draft, again_in, draft, draft_of, draft_with, given_again, given_again_after, goto_at, label_at, name_place, part_again, parts_of}
use Rattle.rule_core.specs.Style.{between, commas, gap_findings, operator_findings, style_after, style_findings}
use Rattle.rule_types.specs.Jumps.{Names, landings}
use Rattle.rule_types.specs.declared.jumps.Landing.{Landing}
use Rattle.rule_laws.specs.Order.{AreInOrder, ComesBeforeAny, rank}
use Rattle.rule_core.specs.Rules.{file_messages, findings_of, line_messages, message_at, name_spot, open_messages}
use Rattle.rule_laws.proofs.Landed.{landing_at, names_at, reported_below}
use Rattle.rule_laws.proofs.Numbering.{IsAfter, Rise, numbers_reported, numbers_rise}

-- ---- findings about one line

-- the ranks of findings don't fall, none is less than the first number or greater than the second
abbrev Within : ℕ → ℕ → List (Spot MessageKind) → Type 0
Within low high [] = low ≤ high
Within low high (f ∷ fs) = (low ≤ rank f.kind) × Within (rank f.kind) high fs

within_less : (n low high : ℕ) (fs : List (Spot MessageKind)) → n ≤ low → Within low high fs → Within n high fs
within_less n low high [] h w = omega arith
within_less n low high (f ∷ fs) h w =
    let first : low ≤ rank f.kind = w.0 in
    (omega arith, w.1)

within_both : (low mid high : ℕ) (fs gs : List (Spot MessageKind)) → Within low mid fs → Within mid high gs → Within low high (fs ++ gs)
within_both low mid high [] gs w v = within_less low mid high gs w v
within_both low mid high (f ∷ fs) gs w v = (w.0, within_both (rank f.kind) mid high fs gs w.1 v)

-- a finding of one rank, if it is there
maybe : (n : ℕ) (f : Spot MessageKind) (b : Bool) → rank f.kind ≡ n → Within n n (cond b (f ∷ []) [])
maybe n f true e = (omega arith, omega arith)
maybe n f false e = omega arith

unless : (n : ℕ) (f : Spot MessageKind) (b : Bool) → rank f.kind ≡ n → Within n n (cond b [] (f ∷ []))
unless n f true e = omega arith
unless n f false e = (omega arith, omega arith)

-- names that are given again
again_within : (names : List NamePlace) (name : NamePlace) → Within 8 8 (given_again names name)
again_within [] name = omega arith
again_within (other ∷ names) name = (omega arith, omega arith)

part_within : (before : List WrittenPart) (t : Placed) (p : Part) → Within 8 8 (part_again Manual before t p)
part_within before t (part.Label name) = again_within (filter_map label_at before) (name_place t name)
part_within before t (part.Goto name) = again_within (filter_map goto_at before) (name_place t name)
part_within before t (part.Plain m) = omega arith
part_within before t (part.Up m) = omega arith
part_within before t (part.Act a) = omega arith
part_within before t (part.Result c) = omega arith
part_within before t (part.Set a) = omega arith

given_within : (before parts : List WrittenPart) → Within 8 8 (given_again_after Manual before parts)
given_within before [] = omega arith
given_within before (w ∷ parts) =
    within_both 8 8 8 (again_in Manual before w) (given_again_after Manual (before ++ w ∷ []) parts) (part_within before w.token w.part) (given_within (before ++ w ∷ []) parts)

-- how a line is written
gap_within : (gap : List ℕ) (t : Placed) → Within 13 13 (gap_findings Manual gap t)
gap_within gap t =
    within_both 13 13 13 (cond (commas gap == 1) [] (key_spot CommaExpected t ∷ [])) (cond (ends_in comma gap) (key_spot BlankExpected t ∷ []) [])
    (unless 13 (key_spot CommaExpected t) (commas gap == 1) refl) (maybe 13 (key_spot BlankExpected t) (ends_in comma gap) refl)

style_within : (line : List ℕ) (place : ℕ) (tokens : List Placed) → Within 13 13 (style_after Manual line place tokens)
style_within line place [] = unless 13 (spot CommaExpected [] place (length (drop place line))) (commas (drop place line) == 0) refl
style_within line place (t ∷ tokens) =
    within_both 13 13 13 (gap_findings Manual (between place t.span.start line) t) (operator_findings Manual t ++ style_after Manual line t.span.end tokens) (gap_within (between place t.span.start line) t)
    (within_both 13 13 13 (operator_findings Manual t) (style_after Manual line t.span.end tokens) (maybe 13 (key_spot ReadAsAssign t) (is_read_as_assign t) refl) (style_within line t.span.end tokens))

line_within : (line : List ℕ) (tokens : List Placed) → Within 13 13 (style_findings Manual line tokens)
line_within line [] = omega arith
line_within line (t ∷ tokens) =
    within_both 13 13 13 (operator_findings Manual t) (style_after Manual line t.span.end tokens) (maybe 13 (key_spot ReadAsAssign t) (is_read_as_assign t) refl) (style_within line t.span.end tokens)

-- what is to be said of a draft
draft_within : (line : List ℕ) (parts : List WrittenPart) → Within 8 13 (draft Manual line parts).findings
draft_within line parts =
    within_both 8 8 13 (given_again_after Manual [] parts) _ (given_within [] parts) (within_less 8 13 13 _ (omega arith) (line_within line _))

abbrev as_read : Draft → Result Draft (Spot MessageKind)
as_read d = Ok d

same_draft : (c d : Draft) → as_read c ≡ as_read d → c ≡ d
same_draft c d e = cc

read_within : (line : List ℕ) (d : Draft) → draft_of Manual line ≡ Ok d → Within 8 13 d.findings
unfolding draft_of
read_within line d e = by_length (nat_lt 16384 (length line)) e
  where
    by_parts : (read : Result (List WrittenPart) (Spot MessageKind)) → draft_with Manual line read ≡ Ok d → Within 8 13 d.findings
    by_parts (Ok parts) e = subst (λ (c : Draft). Within 8 13 c.findings) (same_draft (draft Manual line parts) d e) (draft_within line parts)
    by_parts (Err wrong) e = cc

    by_length : (b : Bool) → cond b (Err (whole_spot LineTooLong line)) (draft_with Manual line (parts_of Manual line (items_of line))) ≡ Ok d → Within 8 13 d.findings
    by_length true e = cc
    by_length false e = by_parts (parts_of Manual line (items_of line)) e

name_kind : (kind : MessageKind) (o : Option NamePlace) → (name_spot kind o).kind ≡ kind
name_kind kind None = refl
name_kind kind (Some n) = refl

rule_within : (d : Draft) (k : Landing) → Within 8 13 d.findings → Within 7 14 (findings_of d k)
rule_within d k w =
    let lost : List (Spot MessageKind) = cond k.lost (name_spot NoLaterLabel d.goto ∷ []) [] in
    let unused : List (Spot MessageKind) = cond k.unused (name_spot LabelUnused d.label ∷ []) [] in
    within_both 7 7 14 lost (d.findings ++ unused) (maybe 7 (name_spot NoLaterLabel d.goto) k.lost (ap rank (name_kind NoLaterLabel d.goto)))
    (within_less 7 8 14 (d.findings ++ unused) (omega arith)
    (within_both 8 13 14 d.findings unused w (within_less 13 14 14 unused (omega arith) (maybe 14 (name_spot LabelUnused d.label) k.unused (ap rank (name_kind LabelUnused d.label))))))

-- ---- messages

-- messages about one line, of which the kinds don't fall
abbrev AboutLine : ℕ → ℕ → List Message → Type 0
AboutLine line low [] = Unit {0}
AboutLine line low (m ∷ ms) = (m.line ≡ line) × (low ≤ rank m.kind) × AboutLine line (rank m.kind) ms

about_line : (file : List ℕ) (line low high : ℕ) (fs : List (Spot MessageKind)) → Within low high fs → AboutLine line low (map (message_at file line) fs)
about_line file line low high [] w = tt
about_line file line low high (f ∷ fs) w = (refl, w.0, about_line file line (rank f.kind) high fs w.1)

line_about : (file : List ℕ) (l : NumberedLine) (k : Landing) (read : Result Draft (Spot MessageKind)) → draft_of Manual l.text ≡ read → AboutLine l.number 0 (line_messages file l.number read k)
line_about file l k (Err wrong) e = (refl, omega arith, tt)
line_about file l k (Ok d) e = about_line file l.number 0 14 (findings_of d k) (within_less 0 7 14 (findings_of d k) (omega arith) (rule_within d k (read_within l.text d e)))

-- the first of these messages, if there is one, is about a line after this
abbrev StartsAfter : ℕ → List Message → Type 0
StartsAfter line [] = Unit {0}
StartsAfter line (m ∷ ms) = IsAfter line m.line

-- messages in order, all about lines after this
abbrev OrderedAfter : ℕ → List Message → Type 0
OrderedAfter line ms = AreInOrder ms × StartsAfter line ms

starts_less : (a b : ℕ) (ms : List Message) → a ≤ b → StartsAfter b ms → StartsAfter a ms
starts_less a b [] h s = tt
starts_less a b (m ∷ ms) h s =
    let first : IsAfter b m.line = s in
    record { order = omega arith; same = λ e. omega arith }

-- messages about a line, and then those about lines after it
line_first : (line low : ℕ) (ms others : List Message) → AboutLine line low ms → OrderedAfter line others → AreInOrder (ms ++ others)
line_first line low [] others a o = o.0
line_first line low (m ∷ []) others a o = (before others o.1, o.0)
  where
    before : (others : List Message) → StartsAfter line others → ComesBeforeAny m others
    before [] s = tt
    before (n ∷ others) s =
        let first : IsAfter line n.line = s in
        let here : m.line ≡ line = a.0 in
        record { line = omega arith; rank = λ e h. absurd (omega arith) }
line_first line low (m ∷ n ∷ ms) others a o =
    let here : m.line ≡ line = a.0 in
    let next : n.line ≡ line = a.2.0 in
    (record { line = omega arith; rank = λ e h. a.2.1 }, line_first line (rank m.kind) (n ∷ ms) others a.2 o)

line_starts : (before line low : ℕ) (ms others : List Message) → IsAfter before line → AboutLine line low ms → OrderedAfter line others → StartsAfter before (ms ++ others)
line_starts before line low [] others b a o = starts_less before line others b.order o.1
line_starts before line low (m ∷ ms) others b a o = subst (IsAfter before) (sym a.0) b

all_ordered : (file : List ℕ) (above : List Names) (ls : List NumberedLine) (at : Option ℕ) (before : ℕ) → Rise before (numbers_reported ls at) → OrderedAfter before (reported_below Manual file above ls ++ open_messages file at)
all_ordered file above [] None before r = (tt, tt)
all_ordered file above [] (Some n) before r = ((tt, tt), r.0)
all_ordered file above (l ∷ ls) at before r =
    let here : List Message = line_messages file l.number (draft_of Manual l.text) (landing_at Manual above l ls) in
    let others : List Message = reported_below Manual file (names_at Manual l ∷ above) ls ++ open_messages file at in
    let rest : OrderedAfter l.number others = all_ordered file (names_at Manual l ∷ above) ls at l.number r.1 in
    let about : AboutLine l.number 0 here = line_about file l (landing_at Manual above l ls) (draft_of Manual l.text) refl in
    subst (OrderedAfter before) (sym (append_assoc here (reported_below Manual file (names_at Manual l ∷ above) ls) (open_messages file at)))
    (line_first l.number 0 here others about rest, line_starts before l.number 0 here others r.0 about rest)

pub messages_ordered : (f : SourceFile) → AreInOrder (file_messages Manual f)
unfolding landings
messages_ordered f = (all_ordered f.name [] (joined_lines Manual f.bytes).lines (joined_lines Manual f.bytes).open_at 0 (numbers_rise f.bytes)).0
