-- The messages about a file rise, by line and by code.
use Rattle.std.proofs.Common.{◌≡◌, ℕ, suc, ◌+◌, ◌-◌, ◌*◌, ◌^◌, ◌<◌, ◌≤◌, ◌⊎◌, inl, inr, Bool, true, false, cond, not, ◌==◌, List, ◌∷◌, [], ◌++◌, length, map, take, Option, Some, None, Result, Ok, Err, refl, sym, subst, arith, append-nil, append_assoc}
use Rattle.std.specs.List.{All, AllPairs, filter, flat_map, onto_first, position, slice_split}
use Rattle.std.proofs.lemmas.Grind.{flat_map-append}
use Rattle.std.proofs.lemmas.List.Concat.{flat_map_single}
use Rattle.std.proofs.lemmas.List.Elements.{All-append, All-cons, All-nil}
use Rattle.std.proofs.lemmas.List.Kept.{AllPairs-cons}
use Rattle.std.proofs.lemmas.Bool.{cases_lt}
use Rattle.text_bytes.specs.Names.{equals, hash, newline}
use Rattle.text_bytes.specs.Lines.{NumberedLine, lines, numbered_from}
use Rattle.text_bytes.specs.Numbers.{capped}
use Rattle.text_bytes.specs.Texts.{begins_with}
use Rattle.file_messages.specs.Messages.{message}
use Rattle.file_messages.specs.declared.message.Message.{Message}
use Rattle.file_messages.specs.declared.message.MessageKind.{MessageKind}
use Rattle.file_messages.specs.declared.message.MessageKind.TheVariants.{MatchWithoutProperty, PatternNotSupported, UnindentedLine, EmptyKey}
use Rattle.text_bytes.specs.declared.SourceFile.{SourceFile}
use Rattle.text_core.specs.Spell.{spell}
use Rattle.text_core.specs.declared.glob_fault.GlobFault.{GlobFault}
use Rattle.text_core.specs.declared.item.Item.{Item}
use Rattle.hwdb_core.specs.Lines.{clean_lines, cleaned, lines_of}
use Rattle.rule_laws.specs.MessageLaws.{ComesBefore, code_number}
use Rattle.hwdb_core.specs.Paragraphs.{Cut, cut, has_lines, is_empty_line, paragraphs}
use Rattle.hwdb_core.specs.Properties.{Pair, pair_at, pair_of, property_text}
use Rattle.hwdb_core.specs.Messages.{about_bare, about_early, about_match, about_pair, about_property, about_rest, about_spelled, cut_messages}
use Rattle.hwdb_core.specs.Sources.{cuts_of, messages_of}
use Rattle.rule_laws.proofs.Cuts.{is_cut}

-- the place of a message: eight places for each line, one of which is that of its code
abbrev place : Message → ℕ
place m = 8 * m.line + code_number m.kind

-- messages rise from a place on, and stay below another
abbrev Rise : ℕ → List Message → ℕ → Type 0
Rise low [] high = low ≤ high
Rise low (m ∷ ms) high = (code_number m.kind < 8) × (low ≤ place m) × Rise (place m + 1) ms high

rise_lower : (low under : ℕ) (ms : List Message) (high : ℕ) → under ≤ low → Rise low ms high → Rise under ms high
rise_lower low under [] high h r = omega (arith, r)
rise_lower low under (m ∷ ms) high h r = (r.0, omega (arith, r.1), r.2)

rise_on : (low : ℕ) (ms : List Message) (mid : ℕ) (ns : List Message) (high : ℕ) → Rise low ms mid → Rise mid ns high → Rise low (ms ++ ns) high
rise_on low [] mid ns high r s = rise_lower mid low ns high r s
rise_on low (m ∷ ms) mid ns high r s = (r.0, r.1, rise_on (place m + 1) ms mid ns high r.2 s)

-- lines whose numbers rise from one on, and stay below another
abbrev LinesRise : ℕ → List NumberedLine → ℕ → Type 0
LinesRise low [] high = low ≤ high
LinesRise low (l ∷ ls) high = (low ≤ l.number) × LinesRise (l.number + 1) ls high

lines_up : (low : ℕ) (ls : List NumberedLine) (high : ℕ) → LinesRise low ls high → low ≤ high
lines_up low [] high r = r
lines_up low (l ∷ ls) high r = let rest : l.number + 1 ≤ high = lines_up (l.number + 1) ls high r.1 in omega (arith, r.0)

lines_lower : (low under : ℕ) (ls : List NumberedLine) (high : ℕ) → under ≤ low → LinesRise low ls high → LinesRise under ls high
lines_lower low under [] high h r = omega (arith, r)
lines_lower low under (l ∷ ls) high h r = (omega (arith, r.0), r.1)

lines_parted : (low : ℕ) (xs ys : List NumberedLine) (high : ℕ) → LinesRise low (xs ++ ys) high → (mid : ℕ) × LinesRise low xs mid × LinesRise mid ys high
lines_parted low [] ys high r = (low, omega arith, r)
lines_parted low (l ∷ xs) ys high r = let rest = lines_parted (l.number + 1) xs ys high r.1 in (rest.0, (r.0, rest.1), rest.2)

-- the greatest number that is reported
abbrev top : ℕ
top = 2 ^ 32 - 1

reported_number : (n : ℕ) → n ≤ top → capped n ≡ n
reported_number n h = omega arith

-- what is reported for each line is reported at its own places
each_line : (f : NumberedLine → List Message) → ((l : NumberedLine) → l.number ≤ top → Rise (8 * l.number) (f l) (8 * (l.number + 1))) → (low : ℕ) (ls : List NumberedLine) (high : ℕ)
    → LinesRise low ls high → high ≤ top → Rise (8 * low) (flat_map f ls) (8 * high)
each_line f reported low [] high r h = omega (arith, r)
each_line f reported low (l ∷ ls) high r h =
    let up : l.number + 1 ≤ high = lines_up (l.number + 1) ls high r.1 in
    let here : Rise (8 * l.number) (f l) (8 * (l.number + 1)) = reported l (omega arith) in
    let lower : 8 * low ≤ 8 * l.number = omega (arith, r.0) in
    rise_lower (8 * l.number) (8 * low) (f l ++ flat_map f ls) (8 * high) lower
    (rise_on (8 * l.number) (f l) (8 * (l.number + 1)) (flat_map f ls) (8 * high) here (each_line f reported (l.number + 1) ls high r.1 h))

early_reported : (file : List ℕ) (l : NumberedLine) → l.number ≤ top → Rise (8 * l.number) (about_early file l ∷ []) (8 * (l.number + 1))
early_reported file l h = let same = reported_number l.number h in (omega arith, omega (arith, same), omega (arith, same))

-- a match is reported for after what is reported for its paragraph at the same line
spelled_reported : (file : List ℕ) (l : NumberedLine) (r : Result (List Item) GlobFault) → l.number ≤ top → Rise (8 * l.number + 3) (about_spelled file l r) (8 * (l.number + 1))
spelled_reported file l (Ok pattern) h = omega arith
spelled_reported file l (Err fault) h = let same = reported_number l.number h in (omega arith, omega (arith, same), omega (arith, same))

match_reported : (file : List ℕ) (l : NumberedLine) → l.number ≤ top → Rise (8 * l.number) (about_match file l) (8 * (l.number + 1))
match_reported file l h = rise_lower (8 * l.number + 3) (8 * l.number) (about_match file l) (8 * (l.number + 1)) (omega arith) (spelled_reported file l (spell l.text) h)

property_reported : (file : List ℕ) (l : NumberedLine) → l.number ≤ top → Rise (8 * l.number) (about_property file l) (8 * (l.number + 1))
property_reported file l h = by_place (position (λ b. b == equals) (property_text l)) where
  by_first : (at : ℕ) (first : Bool) (pair : Pair) → Rise (8 * l.number) (about_pair file l (cond first (Err EmptyKey) (Ok pair))) (8 * (l.number + 1))
  by_first at true pair = let same = reported_number l.number h in (omega arith, omega (arith, same), omega (arith, same))
  by_first at false pair = omega arith

  by_place : (o : Option ℕ) → Rise (8 * l.number) (about_pair file l (pair_at (property_text l) o)) (8 * (l.number + 1))
  by_place None = let same = reported_number l.number h in (omega arith, omega (arith, same), omega (arith, same))
  by_place (Some at) = by_first at (at == 0) _

-- what is reported for the matches, of the paragraph at the first of them among it
matches_reported : (file : List ℕ) (low : ℕ) (matches properties : List NumberedLine) (high : ℕ) → LinesRise low matches high → high ≤ top
    → Rise (8 * low) (about_bare file matches properties ++ flat_map (about_match file) matches) (8 * high)
matches_reported file low [] properties high r h = by_test (length properties == 0) where
  by_test : (bare : Bool) → Rise (8 * low) (cond bare [] [] ++ []) (8 * high)
  by_test true = omega (arith, r)
  by_test false = omega (arith, r)
matches_reported file low (l ∷ ls) properties high r h = by_test (length properties == 0) where
  up : l.number + 1 ≤ high
  up = lines_up (l.number + 1) ls high r.1

  others : Rise (8 * (l.number + 1)) (flat_map (about_match file) ls) (8 * high)
  others = each_line (about_match file) (match_reported file) (l.number + 1) ls high r.1 h

  all : Rise (8 * l.number + 3) (about_match file l ++ flat_map (about_match file) ls) (8 * high)
  all = rise_on (8 * l.number + 3) (about_match file l) (8 * (l.number + 1)) (flat_map (about_match file) ls) (8 * high) (spelled_reported file l (spell l.text) (omega (arith, up, h))) others

  by_test : (bare : Bool) → Rise (8 * low) (cond bare (message file l.number MatchWithoutProperty l.text ∷ []) [] ++ (about_match file l ++ flat_map (about_match file) ls)) (8 * high)
  by_test true =
      let same : capped l.number ≡ l.number = reported_number l.number (omega (arith, up, h)) in
      let next : 8 * capped l.number + 2 + 1 ≤ 8 * l.number + 3 = omega arith in
      (omega arith, omega (arith, same, r.0), rise_lower (8 * l.number + 3) (8 * capped l.number + 2 + 1) (about_match file l ++ flat_map (about_match file) ls) (8 * high) next all)
  by_test false =
      let lower : 8 * low ≤ 8 * l.number + 3 = omega (arith, r.0) in
      rise_lower (8 * l.number + 3) (8 * low) (about_match file l ++ flat_map (about_match file) ls) (8 * high) lower all

rest_reported : (file : List ℕ) (low : ℕ) (rest : List NumberedLine) (high : ℕ) → LinesRise low rest high → high ≤ top → Rise (8 * low) (about_rest file rest) (8 * high)
rest_reported file low [] high r h = omega (arith, r)
rest_reported file low (l ∷ ls) high r h =
    let up : l.number + 1 ≤ high = lines_up (l.number + 1) ls high r.1 in
    let same : capped l.number ≡ l.number = reported_number l.number (omega arith) in
    (omega arith, omega (arith, same, r.0), omega (arith, same))

cut_reported : (file : List ℕ) (low : ℕ) (p : List NumberedLine) (high : ℕ) → LinesRise low p high → high ≤ top → Rise (8 * low) (cut_messages file (cut p)) (8 * high)
cut_reported file low p high r h =
    let c : Cut = cut p in
    let whole : LinesRise low (c.early ++ (c.matches ++ (c.properties ++ c.rest))) high = subst (λ (xs : List NumberedLine). LinesRise low xs high) (is_cut p).whole r in
    let one = lines_parted low c.early (c.matches ++ (c.properties ++ c.rest)) high whole in
    let two = lines_parted one.0 c.matches (c.properties ++ c.rest) high one.2 in
    let three = lines_parted two.0 c.properties c.rest high two.2 in
    let to_three : three.0 ≤ high = lines_up three.0 c.rest high three.2 in
    let to_two : two.0 ≤ three.0 = lines_up two.0 c.properties three.0 three.1 in
    let to_one : one.0 ≤ two.0 = lines_up one.0 c.matches two.0 two.1 in
    let first : Rise (8 * low) (map (about_early file) c.early) (8 * one.0) =
    subst (λ (ms : List Message). Rise (8 * low) ms (8 * one.0)) (flat_map_single (about_early file) c.early) (each_line (λ l. about_early file l ∷ []) (early_reported file) low c.early one.0 one.1 (omega arith)) in
    let last : Rise (8 * two.0) (flat_map (about_property file) c.properties ++ about_rest file c.rest) (8 * high) =
    rise_on (8 * two.0) (flat_map (about_property file) c.properties) (8 * three.0) (about_rest file c.rest) (8 * high)
    (each_line (about_property file) (property_reported file) two.0 c.properties three.0 three.1 (omega arith)) (rest_reported file three.0 c.rest high three.2 h) in
    rise_on (8 * low) (map (about_early file) c.early) (8 * one.0) _ (8 * high) first
    (subst (λ (ms : List Message). Rise (8 * one.0) ms (8 * high)) (append_assoc (about_bare file c.matches c.properties) (flat_map (about_match file) c.matches) (flat_map (about_property file) c.properties ++ about_rest file c.rest))
    (rise_on (8 * one.0) (about_bare file c.matches c.properties ++ flat_map (about_match file) c.matches) (8 * two.0) _ (8 * high) (matches_reported file one.0 c.matches c.properties two.0 two.1 (omega arith)) last))

-- paragraphs, one after another
abbrev ParagraphsRise : ℕ → List (List NumberedLine) → ℕ → Type 0
ParagraphsRise low [] high = low ≤ high
ParagraphsRise low (p ∷ ps) high = (mid : ℕ) × LinesRise low p mid × ParagraphsRise mid ps high

paragraphs_up : (low : ℕ) (ps : List (List NumberedLine)) (high : ℕ) → ParagraphsRise low ps high → low ≤ high
paragraphs_up low [] high r = r
paragraphs_up low (p ∷ ps) high r =
    let here : low ≤ r.0 = lines_up low p r.0 r.1 in
    let rest : r.0 ≤ high = paragraphs_up r.0 ps high r.2 in
    omega arith

paragraphs_lower : (low under : ℕ) (ps : List (List NumberedLine)) (high : ℕ) → under ≤ low → ParagraphsRise low ps high → ParagraphsRise under ps high
paragraphs_lower low under [] high h r = omega (arith, r)
paragraphs_lower low under (p ∷ ps) high h r = (r.0, lines_lower low under p r.0 h r.1, r.2)

split_rises : (low : ℕ) (ls : List NumberedLine) (high : ℕ) → LinesRise low ls high → ParagraphsRise low (slice_split is_empty_line ls) high
split_rises low [] high r = (high, r, omega arith)
split_rises low (l ∷ ls) high r = by_test (is_empty_line l) (slice_split is_empty_line ls) (split_rises (l.number + 1) ls high r.1) where
  by_test : (b : Bool) (ps : List (List NumberedLine)) → ParagraphsRise (l.number + 1) ps high → ParagraphsRise low (cond b ([] ∷ ps) (onto_first l ps)) high
  by_test true ps rest = (l.number + 1, omega (arith, r.0), rest)
  by_test false [] rest = (l.number + 1, (r.0, omega arith), rest)
  by_test false (p ∷ ps) rest = (rest.0, (r.0, rest.1), rest.2)

kept_rise : (low : ℕ) (ps : List (List NumberedLine)) (high : ℕ) → ParagraphsRise low ps high → ParagraphsRise low (filter has_lines ps) high
kept_rise low [] high r = r
kept_rise low ([] ∷ ps) high r = paragraphs_lower r.0 low (filter has_lines ps) high r.1 (kept_rise r.0 ps high r.2)
kept_rise low ((l ∷ p) ∷ ps) high r = (r.0, r.1, kept_rise r.0 ps high r.2)

paragraphs_reported : (file : List ℕ) (low : ℕ) (ps : List (List NumberedLine)) (high : ℕ) → ParagraphsRise low ps high → high ≤ top → Rise (8 * low) (flat_map (cut_messages file) (map cut ps)) (8 * high)
paragraphs_reported file low [] high r h = omega (arith, r)
paragraphs_reported file low (p ∷ ps) high r h =
    let up : r.0 ≤ high = paragraphs_up r.0 ps high r.2 in
    rise_on (8 * low) (cut_messages file (cut p)) (8 * r.0) (flat_map (cut_messages file) (map cut ps)) (8 * high) (cut_reported file low p r.0 r.1 (omega arith)) (paragraphs_reported file r.0 ps high r.2 h)

clean_rise : (n : ℕ) (ts : List (List ℕ)) → LinesRise n (clean_lines (numbered_from n ts)) (n + length ts)
clean_rise n [] = omega arith
clean_rise n (t ∷ ts) =
    let same : n + 1 + length ts ≡ n + length (t ∷ ts) = omega arith in
    let rest : LinesRise (n + 1) (clean_lines (numbered_from (n + 1) ts)) (n + length (t ∷ ts)) = subst (λ (k : ℕ). LinesRise (n + 1) (clean_lines (numbered_from (n + 1) ts)) k) same (clean_rise (n + 1) ts) in
    by_test (begins_with hash t) rest where
      here : NumberedLine
      here = record { number = n; text = t }

      later : List NumberedLine
      later = filter (λ l. not (begins_with hash l.text)) (numbered_from (n + 1) ts)

      by_test : (b : Bool) → LinesRise (n + 1) (map cleaned later) (n + length (t ∷ ts)) → LinesRise n (map cleaned (cond (not b) (here ∷ later) later)) (n + length (t ∷ ts))
      by_test true rest = lines_lower (n + 1) n (map cleaned later) (n + length (t ∷ ts)) (omega arith) rest
      by_test false rest = (omega arith, rest)

few_lines : (bytes : List ℕ) → length (lines bytes) ≤ length bytes
few_lines [] = omega arith
few_lines (b ∷ bytes) = by_test (b == newline) (lines bytes) (few_lines bytes) where
  by_test : (v : Bool) (ls : List (List ℕ)) → length ls ≤ length bytes → length (cond v ([] ∷ ls) (onto_first b ls)) ≤ suc (length bytes)
  by_test true ls h = omega arith
  by_test false [] h = omega arith
  by_test false (l ∷ ls) h = omega arith

file_reported : (f : SourceFile) → length f.bytes < top → Rise 8 (messages_of (f ∷ [])) (8 * (1 + length (lines f.bytes)))
file_reported f h =
    let few : length (lines f.bytes) ≤ length f.bytes = few_lines f.bytes in
    let rises : ParagraphsRise 1 (paragraphs (lines_of f.bytes)) (1 + length (lines f.bytes)) = kept_rise 1 (slice_split is_empty_line (lines_of f.bytes)) (1 + length (lines f.bytes)) (split_rises 1 (lines_of f.bytes) (1 + length (lines f.bytes)) (clean_rise 1 (lines f.bytes))) in
    subst (λ (ms : List Message). Rise 8 ms (8 * (1 + length (lines f.bytes)))) (sym (append-nil (flat_map (cut_messages f.name) (cuts_of f))))
    (paragraphs_reported f.name 1 (paragraphs (lines_of f.bytes)) (1 + length (lines f.bytes)) rises (omega arith))

-- all messages follow a place
after_all : (m : Message) → code_number m.kind < 8 → (low : ℕ) (ms : List Message) (high : ℕ) → place m < low → Rise low ms high → All (ComesBefore m) ms
after_all m small low [] high h r = All-nil (ComesBefore m)
after_all m small low (n ∷ ms) high h r =
    let later : place m < place n = omega (arith, r.1) in
    let next : place m < place n + 1 = omega arith in
    All-cons (ComesBefore m) n ms (before (m.line) (n.line) (code_number m.kind) (code_number n.kind) small r.0 later) (after_all m small (place n + 1) ms high next r.2) where
      before : (a b c d : ℕ) → c < 8 → d < 8 → 8 * a + c < 8 * b + d → (a < b) ⊎ ((a ≡ b) × (c < d))
      before a b c d hc hd l = by_test (cases_lt a b) where
        by_test : (a < b) ⊎ (b ≤ a) → (a < b) ⊎ ((a ≡ b) × (c < d))
        by_test (inl less) = inl less
        by_test (inr up) = inr (omega arith, omega arith)

rising_pairs : (low : ℕ) (ms : List Message) (high : ℕ) → Rise low ms high → AllPairs ComesBefore ms
rising_pairs low [] high r = λ i j d a b. absurd (omega arith)
rising_pairs low (m ∷ ms) high r =
    AllPairs-cons ComesBefore m ms (after_all m r.0 (place m + 1) ms high (omega arith) r.2) (rising_pairs (place m + 1) ms high r.2)

pub messages_rise : (f : SourceFile) → length f.bytes < top → AllPairs ComesBefore (messages_of (f ∷ []))
messages_rise f h = rising_pairs 8 (messages_of (f ∷ [])) (8 * (1 + length (lines f.bytes))) (file_reported f h)

-- each message names its file
named_one : (file : List ℕ) (n : ℕ) (kind : MessageKind) (text : List ℕ) → All (λ (m : Message). m.file ≡ file) (message file n kind text ∷ [])
named_one file n kind text = All-cons (λ (m : Message). m.file ≡ file) (message file n kind text) [] refl (All-nil (λ (m : Message). m.file ≡ file))

named_flat : {X : Type 0} (file : List ℕ) (f : X → List Message) (xs : List X) → ((x : X) → All (λ (m : Message). m.file ≡ file) (f x)) → All (λ (m : Message). m.file ≡ file) (flat_map f xs)
named_flat file f [] h = All-nil (λ (m : Message). m.file ≡ file)
named_flat file f (x ∷ xs) h = All-append (λ (m : Message). m.file ≡ file) (f x) (flat_map f xs) (h x) (named_flat file f xs h)

named_map : (file : List ℕ) (f : NumberedLine → Message) (ls : List NumberedLine) → ((l : NumberedLine) → (f l).file ≡ file) → All (λ (m : Message). m.file ≡ file) (map f ls)
named_map file f [] h = All-nil (λ (m : Message). m.file ≡ file)
named_map file f (l ∷ ls) h = All-cons (λ (m : Message). m.file ≡ file) (f l) (map f ls) (h l) (named_map file f ls h)

named_spelled : (file : List ℕ) (l : NumberedLine) (r : Result (List Item) GlobFault) → All (λ (m : Message). m.file ≡ file) (about_spelled file l r)
named_spelled file l (Ok pattern) = All-nil (λ (m : Message). m.file ≡ file)
named_spelled file l (Err fault) = named_one file l.number PatternNotSupported l.text

named_pair : (file : List ℕ) (l : NumberedLine) (r : Result Pair MessageKind) → All (λ (m : Message). m.file ≡ file) (about_pair file l r)
named_pair file l (Ok pair) = All-nil (λ (m : Message). m.file ≡ file)
named_pair file l (Err kind) = named_one file l.number kind (property_text l)

named_bare : (file : List ℕ) (matches properties : List NumberedLine) → All (λ (m : Message). m.file ≡ file) (about_bare file matches properties)
named_bare file matches properties = by_test (length properties == 0) where
  by_test : (bare : Bool) → All (λ (m : Message). m.file ≡ file) (cond bare (map (λ l. message file l.number MatchWithoutProperty l.text) (take 1 matches)) [])
  by_test true = named_map file (λ l. message file l.number MatchWithoutProperty l.text) (take 1 matches) (λ l. refl)
  by_test false = All-nil (λ (m : Message). m.file ≡ file)

named_cut : (file : List ℕ) (c : Cut) → All (λ (m : Message). m.file ≡ file) (cut_messages file c)
named_cut file c =
    let P : Message → Type 0 = λ m. m.file ≡ file in
    All-append P (map (about_early file) c.early) _ (named_map file (about_early file) c.early (λ l. refl))
    (All-append P (about_bare file c.matches c.properties) _ (named_bare file c.matches c.properties)
    (All-append P (flat_map (about_match file) c.matches) _ (named_flat file (about_match file) c.matches (λ l. named_spelled file l (spell l.text)))
    (All-append P (flat_map (about_property file) c.properties) _ (named_flat file (about_property file) c.properties (λ l. named_pair file l (pair_of l)))
    (named_map file (λ l. message file l.number UnindentedLine l.text) (take 1 c.rest) (λ l. refl)))))

pub messages_named : (f : SourceFile) → All (λ (m : Message). m.file ≡ f.name) (messages_of (f ∷ []))
messages_named f =
    subst (λ (ms : List Message). All (λ (m : Message). m.file ≡ f.name) ms) (sym (append-nil (flat_map (cut_messages f.name) (cuts_of f)))) (named_flat f.name (cut_messages f.name) (cuts_of f) (named_cut f.name))

pub messages_follow : (files later : List SourceFile) → messages_of (files ++ later) ≡ messages_of files ++ messages_of later
messages_follow files later = flat_map-append (λ (f : SourceFile). flat_map (cut_messages f.name) (cuts_of f)) files later
