-- A file that was mended has the same rules, and the same messages but those on style.
use Rattle.std.proofs.Common.{◌≡◌, ℕ, Bool, true, false, cond, ◌&&◌, not, nat_lt, List, ◌∷◌, [], ◌++◌, length, map, Option, Some, None, Result, Ok, Err, refl, sym, ◌∙◌, ap, subst, option_map}
use Rattle.std.proofs.lemmas.List.Elements.{filter-append}
use Rattle.std.specs.List.{AllByRecursion, cons_option, filter_map, flat_map, list_all, zip}
use Rattle.file_messages.specs.declared.message.Message.{Message}
use Rattle.file_messages.specs.declared.message.MessageKind.{MessageKind}
use Rattle.file_messages.specs.declared.message.MessageKind.TheVariants.{LineTooLong, LabelUnused, NoLaterLabel}
use Rattle.text_bytes.specs.Texts.{first}
use Rattle.text_bytes.specs.declared.profile.Profile.TheVariants.{Manual}
use Rattle.text_bytes.specs.declared.source_file.SourceFile.{SourceFile}
use Rattle.file_messages.specs.Messages.{is_style}
use Rattle.rule_tokens.specs.Grammar.{Item, Placed}
use Rattle.rule_types.specs.Rules.{Rule}
use Rattle.rule_types.specs.declared.part.Part.{Part}
use Rattle.rule_types.specs.Jumps.{landings}
use Rattle.rule_types.specs.declared.jumps.Landing.{Landing}
use Rattle.rule_parts.specs.Parts.{part_of}
use Rattle.rule_parts.specs.declared.finding.Finding.{Finding}
use Rattle.rule_core.specs.Drafts.{Draft, acts_of, draft, draft_of, draft_with, goto_at, goto_in, items_as, label_at, label_in, name_place, part_of_item, parts_of, plain_in, result_in, sets_of, up_in, with_part, written_part}
use Rattle.rule_core.specs.Lines.{NumberedLine, joined_lines}
use Rattle.rule_core.specs.Rules.{Reading, file_messages, file_rules, findings_of, line_messages, line_rules, message_at, name_of, name_spot, names_of, open_messages, reading_of, rule_at}
use Rattle.rule_core.specs.Spots.{whole_spot}
use Rattle.rule_types.specs.Tokens.{WrittenPart, parts_in}
use Rattle.rule_core.specs.declared.names.NamePlace.{NamePlace}
use Rattle.rule_types.specs.declared.spot.Spot.{Spot}
use Rattle.rule_places.specs.Faults.{is_badly_spaced, is_sound, is_to_mend, parts_read}
use Rattle.rule_places.specs.FormatLaws.{Correspond, IsAsItWas, but_style, said, with_bytes}
use Rattle.rule_places.specs.Mended.{mended}
use Rattle.rule_places.specs.Proposed.{Landed, landed_in}
use Rattle.rule_places.proofs.Twice.{lines_stay, open_stays, sound_to_mend}

-- a joined line has what its text is read as
abbrev Reads : Landed → Type 0
Reads x = x.0.read ≡ draft_of Manual x.0.text

read_beside : (rs : List Reading) (ls : List Landing) → AllByRecursion (λ r. r.read ≡ draft_of Manual r.text) rs → AllByRecursion Reads (zip rs ls)
read_beside [] ls h = tt
read_beside (r ∷ rs) [] h = tt
read_beside (r ∷ rs) (l ∷ ls) h = (h.0, read_beside rs ls h.1)

read_alone : (ns : List NumberedLine) → AllByRecursion (λ r. r.read ≡ draft_of Manual r.text) (map (reading_of Manual) ns)
read_alone [] = tt
read_alone (n ∷ ns) = (refl, read_alone ns)

all_read : (bytes : List ℕ) → AllByRecursion Reads (landed_in bytes)
all_read bytes =
    let readings : List Reading = map (reading_of Manual) (joined_lines Manual bytes).lines in
    read_beside readings (landings (map (λ r. names_of r.read) readings)) (read_alone (joined_lines Manual bytes).lines)

-- a part is what its token says
abbrev Fits : WrittenPart → Type 0
Fits w = part_of Manual w.token ≡ Ok w.part

part_fits : (line : List ℕ) (i : Item) (w : WrittenPart) → part_of_item Manual line i ≡ Ok w → Fits w
part_fits line (Err fault) w h = cc
part_fits line (Ok t) w h = by_read (part_of Manual t) refl h where
  by_read : (r : Result Part Finding) → part_of Manual t ≡ r → written_part t r ≡ Ok w → Fits w
  by_read (Err found) e g = cc
  by_read (Ok p) e g = let is : record { token = t; part = p } ≡ w = cc in subst Fits is e

parts_fit : (line : List ℕ) (items : List Item) (ws : List WrittenPart) → parts_of Manual line items ≡ Ok ws → AllByRecursion Fits ws
parts_fit line [] ws h = let is : [] ≡ ws = cc in subst (AllByRecursion Fits) is tt
parts_fit line (i ∷ items) ws h = by_both (λ more f. parts_fit line items more f) (part_of_item Manual line i) (parts_of Manual line items) refl refl h where
  by_both : ((more : List WrittenPart) → parts_of Manual line items ≡ Ok more → AllByRecursion Fits more) → (a : Result WrittenPart (Spot MessageKind)) (b : Result (List WrittenPart) (Spot MessageKind)) → part_of_item Manual line i ≡ a → parts_of Manual line items ≡ b → with_part a b ≡ Ok ws → AllByRecursion Fits ws
  by_both others (Ok w) (Ok more) e f g = let is : w ∷ more ≡ ws = cc in subst (AllByRecursion Fits) is (part_fits line i w e, others more f)
  by_both others (Ok w) (Err wrong) e f g = cc
  by_both others (Err wrong) b e f g = cc

-- a draft is that of its parts, each of which is what its token says
abbrev IsDraft : List ℕ → Draft → Type 0
IsDraft line d = (d ≡ draft Manual line d.parts) × AllByRecursion Fits d.parts

is_draft : (line : List ℕ) (d : Draft) → draft_of Manual line ≡ Ok d → IsDraft line d
unfolding draft_of
is_draft line d h = by_length (nat_lt 16384 (length line)) h where
  by_parts : (r : Result (List WrittenPart) (Spot MessageKind)) → parts_of Manual line (items_as Manual line) ≡ r → draft_with Manual line r ≡ Ok d → IsDraft line d
  by_parts (Err wrong) e g = cc
  by_parts (Ok parts) e g = let is : draft Manual line parts ≡ d = cc in subst (IsDraft line) is (refl, parts_fit line (items_as Manual line) parts e)

  by_length : (v : Bool) → cond v (Err (whole_spot LineTooLong line)) (draft_with Manual line (parts_of Manual line (items_as Manual line))) ≡ Ok d → IsDraft line d
  by_length true g = cc
  by_length false g = by_parts (parts_of Manual line (items_as Manual line)) refl g

-- a token's part depends on what it says alone
same_part_of : (s t : Placed) → s.parts ≡ t.parts → part_of Manual s ≡ part_of Manual t
unfolding part_of
same_part_of s t e = rw e refl

parts_same : (vs ws : List WrittenPart) → AllByRecursion Fits vs → AllByRecursion Fits ws → map said vs ≡ map said ws → parts_in vs ≡ parts_in ws
parts_same [] [] f g e = refl
parts_same [] (w ∷ ws) f g e = cc
parts_same (v ∷ vs) [] f g e = cc
parts_same (v ∷ vs) (w ∷ ws) f g e =
    let here : said v ≡ said w = cc in
    let others : map said vs ≡ map said ws = cc in
    let read : Ok v.part ≡ Ok w.part = sym f.0 ∙ same_part_of v.token w.token here ∙ g.0 in
    let part : v.part ≡ w.part = cc in
    ap (λ (p : Part). p ∷ parts_in vs) part ∙ ap (λ (ps : List Part). w.part ∷ ps) (parts_same vs ws f.1 g.1 others)

label_named : (ws : List WrittenPart) → name_of (first (filter_map label_at ws)) ≡ first (filter_map label_in (parts_in ws))
label_named [] = refl
label_named (w ∷ ws) =
    elim (label_in w.part) as (λ o. name_of (first (cons_option (option_map (name_place w.token) o) (filter_map label_at ws))) ≡ first (cons_option o (filter_map label_in (parts_in ws)))) [
      | None ↦ label_named ws
      | Some name ↦ refl
    ]

goto_named : (ws : List WrittenPart) → name_of (first (filter_map goto_at ws)) ≡ first (filter_map goto_in (parts_in ws))
goto_named [] = refl
goto_named (w ∷ ws) =
    elim (goto_in w.part) as (λ o. name_of (first (cons_option (option_map (name_place w.token) o) (filter_map goto_at ws))) ≡ first (cons_option o (filter_map goto_in (parts_in ws)))) [
      | None ↦ goto_named ws
      | Some name ↦ refl
    ]

-- the rule of a line by its parts
abbrev rule_of : List ℕ → ℕ → Landing → List Part → Rule
rule_of name line l parts = record {
  file = name;
  line = line;
  label = first (filter_map label_in parts);
  goto = cond l.lost None (first (filter_map goto_in parts));
  plain = filter_map plain_in parts;
  up = filter_map up_in parts;
  acts = acts_of parts;
  results = filter_map result_in parts;
  sets = sets_of Manual parts;
}

rule_of_parts : (name text : List ℕ) (line : ℕ) (l : Landing) (d : Draft) → IsDraft text d → rule_at Manual name line d l ≡ rule_of name line l (parts_in d.parts)
rule_of_parts name text line l d h =
    let label : name_of d.label ≡ first (filter_map label_in (parts_in d.parts)) = ap (λ (x : Draft). name_of x.label) h.0 ∙ label_named d.parts in
    let goto : name_of d.goto ≡ first (filter_map goto_in (parts_in d.parts)) = ap (λ (x : Draft). name_of x.goto) h.0 ∙ goto_named d.parts in
    ap (λ (o : Option (List ℕ)). made o (name_of d.goto)) label ∙ ap (λ (o : Option (List ℕ)). made (first (filter_map label_in (parts_in d.parts))) o) goto
  where
    made : Option (List ℕ) → Option (List ℕ) → Rule
    made a b = record {
      file = name;
      line = line;
      label = a;
      goto = cond l.lost None b;
      plain = filter_map plain_in (parts_in d.parts);
      up = filter_map up_in (parts_in d.parts);
      acts = acts_of (parts_in d.parts);
      results = filter_map result_in (parts_in d.parts);
      sets = sets_of Manual (parts_in d.parts);
    }

-- what is read of a line whose bytes stayed
same_read : (x y : Landed) → Reads x → Reads y → y.0.text ≡ x.0.text → y.0.read ≡ x.0.read
same_read x y f g e = g ∙ ap (draft_of Manual) e ∙ sym f

abbrev rules_in : List ℕ → Landed → List Rule
rules_in name x = line_rules Manual name x.0.line x.0.read x.1

line_kept : (name : List ℕ) (x y : Landed) → Reads x → Reads y → IsAsItWas x y → y.0.text ≡ x.0.text → rules_in name y ≡ rules_in name x
line_kept name x y f g w e =
    ap (λ (n : ℕ). line_rules Manual name n y.0.read y.1) w.number
    ∙ ap (λ (r : Result Draft (Spot MessageKind)). line_rules Manual name x.0.line r y.1) (same_read x y f g e)
    ∙ ap (λ (l : Landing). line_rules Manual name x.0.line x.0.read l) w.landing

line_mended : (name : List ℕ) (x y : Landed) → Reads x → Reads y → IsAsItWas x y → is_to_mend x ≡ true → rules_in name y ≡ rules_in name x
line_mended name x y f g w m = by_reads x.0.read y.0.read refl refl where
  by_reads : (p q : Result Draft (Spot MessageKind)) → x.0.read ≡ p → y.0.read ≡ q → line_rules Manual name y.0.line q y.1 ≡ line_rules Manual name x.0.line p x.1
  by_reads (Err wrong) q e h = let bad : is_badly_spaced x.0.text (Err wrong) x.1 ≡ true = ap (λ (r : Result Draft (Spot MessageKind)). is_badly_spaced x.0.text r x.1) (sym e) ∙ m in cc
  by_reads (Ok d) (Err wrong) e h = let bad : is_sound (Err wrong) y.1 ≡ true = ap (λ (r : Result Draft (Spot MessageKind)). is_sound r y.1) (sym h) ∙ w.sound m in cc
  by_reads (Ok d) (Ok c) e h =
      let own : IsDraft y.0.text c = is_draft y.0.text c (sym g ∙ h) in
      let old : IsDraft x.0.text d = is_draft x.0.text d (sym f ∙ e) in
      let says : map said c.parts ≡ map said d.parts =
      ap (λ (r : Result Draft (Spot MessageKind)). map said (parts_read r)) (sym h) ∙ w.tokens m ∙ ap (λ (r : Result Draft (Spot MessageKind)). map said (parts_read r)) e
      in
      let parts : parts_in c.parts ≡ parts_in d.parts = parts_same c.parts d.parts own.1 old.1 says in
      ap (λ (r : Rule). r ∷ [])
      (rule_of_parts name y.0.text y.0.line y.1 c own
      ∙ ap (λ (n : ℕ). rule_of name n y.1 (parts_in c.parts)) w.number
      ∙ ap (λ (l : Landing). rule_of name x.0.line l (parts_in c.parts)) w.landing
      ∙ ap (rule_of name x.0.line x.1) parts
      ∙ sym (rule_of_parts name x.0.text x.0.line x.1 d old))

line_same : (name : List ℕ) (x y : Landed) → Reads x → Reads y → IsAsItWas x y → rules_in name y ≡ rules_in name x
line_same name x y f g w = by_mend (is_to_mend x) refl where
  by_mend : (v : Bool) → is_to_mend x ≡ v → rules_in name y ≡ rules_in name x
  by_mend true m = line_mended name x y f g w m
  by_mend false m = line_kept name x y f g w (w.bytes m)

all_same : {Z : Type 0} (of : Landed → List Z) → ((x y : Landed) → Reads x → Reads y → IsAsItWas x y → of y ≡ of x) → (xs ys : List Landed)
    → AllByRecursion Reads xs → AllByRecursion Reads ys → Correspond IsAsItWas xs ys → flat_map of ys ≡ flat_map of xs
all_same of same [] [] f g w = refl
all_same of same [] (y ∷ ys) f g w = absurd w
all_same of same (x ∷ xs) [] f g w = absurd w
all_same {Z} of same (x ∷ xs) (y ∷ ys) f g w =
    ap (λ (zs : List Z). zs ++ flat_map of ys) (same x y f.0 g.0 w.0) ∙ ap (λ (zs : List Z). of x ++ zs) (all_same of same xs ys f.1 g.1 w.1)

-- the rules of a file stay the same
pub rules_stay : (f : SourceFile) → file_rules Manual (with_bytes f (mended f.bytes)) ≡ file_rules Manual f
rules_stay f =
    all_same (rules_in f.name) (line_same f.name) (landed_in f.bytes) (landed_in (mended f.bytes)) (all_read f.bytes) (all_read (mended f.bytes)) (lines_stay f.bytes)

-- findings of style alone are no messages but those on style
none_said : (name : List ℕ) (line : ℕ) (found : List (Spot MessageKind)) → list_all (λ s. is_style s.kind) found ≡ true → but_style (map (message_at name line) found) ≡ []
none_said name line [] h = refl
none_said name line (s ∷ found) h = by_kind (none_said name line found) (is_style s.kind) h where
  by_kind : (list_all (λ s. is_style s.kind) found ≡ true → but_style (map (message_at name line) found) ≡ []) → (v : Bool) → (v && list_all (λ s. is_style s.kind) found) ≡ true
      → cond (not v) (message_at name line s ∷ but_style (map (message_at name line) found)) (but_style (map (message_at name line) found)) ≡ []
  by_kind others true g = others g
  by_kind others false g = cc

style_then : (found more : List (Spot MessageKind)) → list_all (λ s. is_style s.kind) found ≡ true → list_all (λ s. is_style s.kind) more ≡ true → list_all (λ s. is_style s.kind) (found ++ more) ≡ true
style_then [] more f g = g
style_then (s ∷ found) more f g = by_kind (style_then found more) (is_style s.kind) f where
  by_kind : (list_all (λ s. is_style s.kind) found ≡ true → list_all (λ s. is_style s.kind) more ≡ true → list_all (λ s. is_style s.kind) (found ++ more) ≡ true) → (v : Bool)
      → (v && list_all (λ s. is_style s.kind) found) ≡ true → (v && list_all (λ s. is_style s.kind) (found ++ more)) ≡ true
  by_kind others true h = others h g
  by_kind others false h = cc

unused_style : (v : Bool) (n : Option NamePlace) → list_all (λ s. is_style s.kind) (cond v (name_spot LabelUnused n ∷ []) []) ≡ true
unused_style true None = refl
unused_style true (Some n) = refl
unused_style false n = refl

-- a line without a fault has messages on style alone
sound_said : (name : List ℕ) (line : ℕ) (read : Result Draft (Spot MessageKind)) (l : Landing) → is_sound read l ≡ true → but_style (line_messages name line read l) ≡ []
sound_said name line (Err wrong) l h = cc
sound_said name line (Ok d) l h = none_said name line (findings_of d l) (by_lost l.lost h) where
  by_lost : (v : Bool) → (not v && list_all (λ s. is_style s.kind) d.findings) ≡ true
      → list_all (λ s. is_style s.kind) (cond v (name_spot NoLaterLabel d.goto ∷ []) [] ++ (d.findings ++ cond l.unused (name_spot LabelUnused d.label ∷ []) [])) ≡ true
  by_lost true g = cc
  by_lost false g = style_then d.findings (cond l.unused (name_spot LabelUnused d.label ∷ []) []) g (unused_style l.unused d.label)

abbrev messages_in : List ℕ → Landed → List Message
messages_in name x = line_messages name x.0.line x.0.read x.1

said_same : (name : List ℕ) (x y : Landed) → Reads x → Reads y → IsAsItWas x y → but_style (messages_in name y) ≡ but_style (messages_in name x)
said_same name x y f g w = by_mend (is_to_mend x) refl where
  by_mend : (v : Bool) → is_to_mend x ≡ v → but_style (messages_in name y) ≡ but_style (messages_in name x)
  by_mend true m = sound_said name y.0.line y.0.read y.1 (w.sound m) ∙ sym (sound_said name x.0.line x.0.read x.1 (sound_to_mend x.0.text x.0.read x.1 m))
  by_mend false m =
      ap (λ (n : ℕ). but_style (line_messages name n y.0.read y.1)) w.number
      ∙ ap (λ (r : Result Draft (Spot MessageKind)). but_style (line_messages name x.0.line r y.1)) (same_read x y f g (w.bytes m))
      ∙ ap (λ (l : Landing). but_style (line_messages name x.0.line x.0.read l)) w.landing

-- messages but those on style line by line
line_by_line : (name : List ℕ) (xs : List Landed) → but_style (flat_map (messages_in name) xs) ≡ flat_map (λ x. but_style (messages_in name x)) xs
line_by_line name [] = refl
line_by_line name (x ∷ xs) =
    filter-append (λ (m : Message). not (is_style m.kind)) (messages_in name x) (flat_map (messages_in name) xs)
    ∙ ap (λ (ms : List Message). but_style (messages_in name x) ++ ms) (line_by_line name xs)

-- the messages about a file stay the same but those on style
pub messages_stay : (f : SourceFile) → but_style (file_messages Manual (with_bytes f (mended f.bytes))) ≡ but_style (file_messages Manual f)
messages_stay f =
    let old : List Landed = landed_in f.bytes in
    let new : List Landed = landed_in (mended f.bytes) in
    let opened : List Message = open_messages f.name (joined_lines Manual f.bytes).open_at in
    filter-append (λ (m : Message). not (is_style m.kind)) (flat_map (messages_in f.name) new) (open_messages f.name (joined_lines Manual (mended f.bytes)).open_at)
    ∙ ap (λ (o : Option ℕ). but_style (flat_map (messages_in f.name) new) ++ but_style (open_messages f.name o)) (open_stays f.bytes)
    ∙ ap (λ (ms : List Message). ms ++ but_style opened)
    (line_by_line f.name new
    ∙ all_same (λ x. but_style (messages_in f.name x)) (said_same f.name) old new (all_read f.bytes) (all_read (mended f.bytes)) (lines_stay f.bytes)
    ∙ sym (line_by_line f.name old))
    ∙ sym (filter-append (λ (m : Message). not (is_style m.kind)) (flat_map (messages_in f.name) old) opened)
