-- A line whose commas and blanks are mended has the tokens that it had, and nothing is left to mend.
use Rattle.std.proofs.Common.{◌≡◌, ℕ, ◌+◌, ◌-◌, ◌<◌, ◌≤◌, Bool, true, false, cond, ◌&&◌, ◌==◌, nat_lt, List, ◌∷◌, [], ◌++◌, length, take, drop, map, Option, None, refl, sym, ◌∙◌, ap, subst, append_assoc, append-nil, arith, length-append}
use Rattle.std.specs.Prelude.{max, min, nat_le}
use Rattle.std.specs.List.{flat_map}
use Rattle.std.proofs.lemmas.List.{drop-drop, drop_at, take_at}
use Rattle.std.proofs.lemmas.Bool.{and_parts}
use Rattle.text_bytes.specs.Names.{double_quote}
use Rattle.rule_tokens.specs.Grammar.{AllAre, BeginsOther, BeginsWithToken, LexesAt, Parts, Placed, answers, attribute_text, is_gap_byte, is_key_byte, last, more, operator_text}
use Rattle.rule_tokens.specs.Lines.{items_left, items_of}
use Rattle.rule_tokens.specs.declared.kinds.Span.{Span}
use Rattle.rule_tokens.specs.declared.kinds.TokenFault.{TokenFault}
use Rattle.rule_tokens.proofs.Lines.{answers_same, given, only}
use Rattle.rule_tokens.proofs.Pieces.{other_byte}
use Rattle.rule_core.specs.Style.{between, commas}
use Rattle.rule_places.specs.Gaps.{is_good_after, is_good_gap}
use Rattle.rule_places.specs.FormatLaws.{IsRespaced}
use Rattle.rule_places.specs.Rewritten.{written_of}
use Rattle.rule_places.specs.Stretches.{stretches_from}

-- a key is not a gap
no_gap : (c : ℕ) → is_key_byte c ≡ true → is_gap_byte c ≡ false
no_gap c h =
    let space : (c == 32) ≡ false = other_byte is_key_byte c 32 h refl in
    let tab : (c == 9) ≡ false = other_byte is_key_byte c 9 h refl in
    let comma : (c == 44) ≡ false = other_byte is_key_byte c 44 h refl in
    rw (space, tab, comma) refl

-- a text that has a byte at its front, which is not of a gap
abbrev Starts : List ℕ → Type 0
Starts text = (0 < length text) × BeginsOther is_gap_byte text

key_starts : (key : List ℕ) → 0 < length key → AllAre is_key_byte key → Starts key
key_starts [] h a = absurd (omega arith)
key_starts (c ∷ key) h a = (h, no_gap c (and_parts _ _ a).0)

starts_more : (text others : List ℕ) → Starts text → Starts (text ++ others)
starts_more [] others h = absurd (omega (arith, h.0))
starts_more (c ∷ text) others h = (omega arith, h.1)

-- the bytes of a token are that token, whatever follows them
record Own (text : List ℕ) (p : Parts) (rest : List ℕ) : Type 0 where
  own : List ℕ
  spelled : text ≡ own ++ rest
  starts : Starts own
  again : (others : List ℕ) → BeginsWithToken (own ++ others) p others

own_of : (text : List ℕ) (p : Parts) (rest : List ℕ) → BeginsWithToken text p rest → Own text p rest
own_of text p rest s =
    let head : List ℕ = p.head.key ++ attribute_text p.head.attribute ++ s.head.before ++ operator_text p.head.operator ++ s.head.following in
    let prefix : List ℕ = s.letters ++ double_quote ∷ p.value in
    let own : List ℕ = head ++ (prefix ++ double_quote ∷ []) in
    let spelled : (others : List ℕ) → own ++ others ≡ head ++ (prefix ++ double_quote ∷ others) = λ others.
    append_assoc head (prefix ++ double_quote ∷ []) others ∙ ap (λ (x : List ℕ). head ++ x) (append_assoc prefix (double_quote ∷ []) others)
    in
    let key : Starts p.head.key = key_starts p.head.key s.head.some_key s.head.key in
    let attribute = starts_more p.head.key (attribute_text p.head.attribute) key in
    let before = starts_more (p.head.key ++ attribute_text p.head.attribute) s.head.before attribute in
    let operator = starts_more (p.head.key ++ attribute_text p.head.attribute ++ s.head.before) (operator_text p.head.operator) before in
    let following = starts_more (p.head.key ++ attribute_text p.head.attribute ++ s.head.before ++ operator_text p.head.operator) s.head.following operator in
    record {
      own = own;
      spelled = s.head.spelled ∙ ap (λ (x : List ℕ). head ++ x) s.spelled ∙ sym (spelled rest);
      starts = starts_more head (prefix ++ double_quote ∷ []) following;
      again = λ others. record {
        quoted = prefix ++ double_quote ∷ others;
        letters = s.letters;
        pieces = s.pieces;
        head = record {
          before = s.head.before;
          following = s.head.following;
          spelled = spelled others;
          some_key = s.head.some_key;
          key = s.head.key;
          attribute = s.head.attribute;
          blanks = s.head.blanks;
        };
        spelled = refl;
        letters_are = s.letters_are;
        prefix = s.prefix;
        value = s.value;
      };
    }

abbrev parts : List Placed → List Parts
parts tokens = map (λ t. t.parts) tokens

-- the text, which is at a place, is these tokens in their places, and all gaps between them are good
record Good (at : ℕ) (text : List ℕ) (tokens : List Placed) : Type 0 where
  first : Placed
  others : List Placed
  lexes : LexesAt at text (first ∷ others) None
  starts : first.span.start ≡ at
  opens : Starts text
  same : parts (first ∷ others) ≡ parts tokens
  good : (line : List ℕ) → drop at line ≡ text → is_good_after line first.span.end others ≡ true

abbrev placed : Parts → ℕ → ℕ → Placed
placed p from to = record { parts = p; span = record { start = from; end = to } }

-- a token alone
one_token : (at : ℕ) (t : Placed) (text rest : List ℕ) (o : Own text t.parts rest) → Good at o.own (t ∷ [])
one_token at t text rest o =
    let alone : BeginsWithToken o.own t.parts [] = subst (λ (x : List ℕ). BeginsWithToken x t.parts []) (append-nil o.own) (o.again []) in
    record {
      first = placed t.parts at (at + length o.own);
      others = [];
      lexes = last [] [] (record { is_present = alone; start = refl; end = omega arith }) (record { spelled = refl; all = refl; longest = tt });
      starts = refl;
      opens = o.starts;
      same = refl;
      good = λ line d.
          let none : drop (at + length o.own) line ≡ [] =
          sym (drop-drop (length o.own) at line) ∙ ap (drop (length o.own)) (d ∙ sym (append-nil o.own)) ∙ drop_at o.own [] (length o.own) refl
          in ap (λ (x : List ℕ). commas x == 0) none;
    }

-- a token and a good gap before others
token_before : (at : ℕ) (t : Placed) (text rest gap next : List ℕ) (tokens : List Placed) (o : Own text t.parts rest) → AllAre is_gap_byte gap → is_good_gap gap ≡ true
    → Good (at + length o.own + length gap) next tokens → Good at ((o.own ++ gap) ++ next) (t ∷ tokens)
token_before at t text rest gap next tokens o all good later =
    let joined : (o.own ++ gap) ++ next ≡ o.own ++ (gap ++ next) = append_assoc o.own gap next in
    let whole : length (o.own ++ (gap ++ next)) ≡ length o.own + length (gap ++ next) = length-append o.own (gap ++ next) in
    subst (λ (x : List ℕ). Good at x (t ∷ tokens)) (sym joined)
    (record {
      first = placed t.parts at (at + length o.own);
      others = later.first ∷ later.others;
      lexes = more (gap ++ next) gap next (record { is_present = o.again (gap ++ next); start = refl; end = omega (arith, whole) }) (record { spelled = refl; all = all; longest = later.opens.1 }) later.opens.0 later.lexes;
      starts = refl;
      opens = starts_more o.own (gap ++ next) o.starts;
      same = ap (λ (ps : List Parts). t.parts ∷ ps) later.same;
      good = λ line d.
          let after : drop (at + length o.own) line ≡ gap ++ next =
          sym (drop-drop (length o.own) at line) ∙ ap (drop (length o.own)) d ∙ drop_at o.own (gap ++ next) (length o.own) refl
          in
          let place : later.first.span.start ≡ at + length o.own + length gap = later.starts in
          let size : length gap ≡ later.first.span.start - (at + length o.own) = omega (arith, place) in
          let here : between (at + length o.own) later.first.span.start line ≡ gap =
          ap (take (later.first.span.start - (at + length o.own))) after ∙ take_at gap next (later.first.span.start - (at + length o.own)) size
          in
          let there : drop (at + length o.own + length gap) line ≡ next =
          sym (drop-drop (length gap) (at + length o.own) line) ∙ ap (drop (length gap)) after ∙ drop_at gap next (length gap) refl
          in
          ap (λ (x : List ℕ). is_good_gap x && is_good_after line later.first.span.end later.others) here
          ∙ ap (λ (v : Bool). v && is_good_after line later.first.span.end later.others) good ∙ later.good line there;
    })

-- a comma and a blank
abbrev mark : List ℕ
mark = 44 ∷ 32 ∷ []

abbrev with_comma : Bool → List ℕ
with_comma comma = cond comma (44 ∷ 32 ∷ []) []

-- what is written of a stretch in its whole line
whole_stretch : (line : List ℕ) (n start end : ℕ) (comma : Bool) → 0 < end → end ≤ n → written_of line 0 n (record { start = start; end = end; comma = comma }) ≡ between start end line ++ with_comma comma
whole_stretch line n start end comma some within =
    let from : max 0 start ≡ start = omega arith in
    let to : min n end ≡ end = omega (arith, within) in
    let above : nat_lt 0 end ≡ true = grind (arith, some) in
    let below : nat_le end n ≡ true = grind (arith, within) in
    ap (λ (k : ℕ). between k (min n end) line ++ cond (comma && (nat_lt 0 end && nat_le end n)) (44 ∷ 32 ∷ []) []) from
    ∙ ap (λ (k : ℕ). between start k line ++ cond (comma && (nat_lt 0 end && nat_le end n)) (44 ∷ 32 ∷ []) []) to
    ∙ ap (λ (v : Bool). between start end line ++ cond (comma && (v && nat_le end n)) (44 ∷ 32 ∷ []) []) above
    ∙ ap (λ (v : Bool). between start end line ++ cond (comma && (true && v)) (44 ∷ 32 ∷ []) []) below
    ∙ ap (λ (v : Bool). between start end line ++ cond v (44 ∷ 32 ∷ []) []) (both comma)
  where
    both : (v : Bool) → (v && (true && true)) ≡ v
    both true = refl
    both false = refl

abbrev rest_written : List ℕ → Span → List Placed → List ℕ
rest_written line s tokens = flat_map (written_of line 0 (length line)) (stretches_from line s tokens)

pub no_end : (at : ℕ) (text : List ℕ) → LexesAt at text [] None → ⊥
no_end at text l = elim l [ ]

pub starts_there : (at : ℕ) (text : List ℕ) (t : Placed) (tokens : List Placed) (end : Option TokenFault) → LexesAt at text (t ∷ tokens) end → t.span.start ≡ at
starts_there at text t [] None (last rest gap here between) = here.start
starts_there at text t tokens end (more rest gap next here between some following) = here.start

-- the bytes from the start of a token up to a place behind it
up_to : (line text front others : List ℕ) (at to : ℕ) → drop at line ≡ text → text ≡ front ++ others → to ≡ at + length front → between at to line ≡ front
up_to line text front others at to d e p =
    let size : length front ≡ to - at = omega (arith, p) in
    ap (take (to - at)) (d ∙ e) ∙ take_at front others (to - at) size

respaced_from : (line : List ℕ) (at : ℕ) (text : List ℕ) (t : Placed) (tokens : List Placed) → drop at line ≡ text → at + length text ≡ length line → LexesAt at text (t ∷ tokens) None → (to : ℕ)
    → Good to (rest_written line t.span tokens) (t ∷ tokens)
respaced_from line at text t [] d n (last rest gap here ends) to =
    let o : Own text t.parts rest = own_of text t.parts rest here.is_present in
    let long : length text ≡ length o.own + length rest = ap length o.spelled ∙ length-append o.own rest in
    let end : t.span.end ≡ at + length o.own = omega (arith, long, here.end) in
    let some : 0 < t.span.end = omega (arith, end, o.starts.0) in
    let within : t.span.end ≤ length line = omega (arith, n, here.end) in
    let own : between t.span.start t.span.end line ≡ o.own = ap (λ (k : ℕ). between k t.span.end line) here.start ∙ up_to line text o.own rest at t.span.end d o.spelled end in
    let is : rest_written line t.span [] ≡ o.own =
    ap (λ (x : List ℕ). x ++ []) (whole_stretch line (length line) t.span.start t.span.end false some within ∙ append-nil (between t.span.start t.span.end line) ∙ own) ∙ append-nil o.own
    in
    subst (λ (x : List ℕ). Good to x (t ∷ [])) (sym is) (one_token to t text rest o)
respaced_from line at text t [] d n (more rest gap next here ends some following) to = absurd (no_end (t.span.end + length gap) next following)
respaced_from line at text t (u ∷ tokens) d n (more rest gap next here ends some following) to =
    let o : Own text t.parts rest = own_of text t.parts rest here.is_present in
    let long : length text ≡ length o.own + length rest = ap length o.spelled ∙ length-append o.own rest in
    let end : t.span.end ≡ at + length o.own = omega (arith, long, here.end) in
    let after : drop t.span.end line ≡ rest =
    ap (λ (k : ℕ). drop k line) end ∙ sym (drop-drop (length o.own) at line) ∙ ap (drop (length o.own)) (d ∙ o.spelled) ∙ drop_at o.own rest (length o.own) refl
    in
    let there : drop (t.span.end + length gap) line ≡ next = sym (drop-drop (length gap) t.span.end line) ∙ ap (drop (length gap)) (after ∙ ends.spelled) ∙ drop_at gap next (length gap) refl in
    let split : length rest ≡ length gap + length next = ap length ends.spelled ∙ length-append gap next in
    let left : t.span.end + length gap + length next ≡ length line = omega (arith, split, here.end, n) in
    let starts : u.span.start ≡ t.span.end + length gap = starts_there (t.span.end + length gap) next u tokens None following in
    let some_end : 0 < t.span.end = omega (arith, end, o.starts.0) in
    let some_start : 0 < u.span.start = omega (arith, starts, some_end) in
    let end_within : t.span.end ≤ length line = omega (arith, left) in
    let start_within : u.span.start ≤ length line = omega (arith, left, starts) in
    let is_gap : between t.span.end u.span.start line ≡ gap = up_to line rest gap next t.span.end u.span.start after ends.spelled starts in
    let own : between t.span.start t.span.end line ≡ o.own = ap (λ (k : ℕ). between k t.span.end line) here.start ∙ up_to line text o.own rest at t.span.end d o.spelled end in
    let spelled : text ≡ (o.own ++ gap) ++ next = o.spelled ∙ ap (λ (x : List ℕ). o.own ++ x) ends.spelled ∙ sym (append_assoc o.own gap next) in
    let far : length (o.own ++ gap) ≡ length o.own + length gap = length-append o.own gap in
    let place : u.span.start ≡ at + length (o.own ++ gap) = omega (arith, far, starts, end) in
    let both : between t.span.start u.span.start line ≡ o.own ++ gap = ap (λ (k : ℕ). between k u.span.start line) here.start ∙ up_to line text (o.own ++ gap) next at u.span.start d spelled place in
    by_gap o (is_good_gap (between t.span.end u.span.start line)) (ap is_good_gap (sym is_gap)) ends.all
    (whole_stretch line (length line) t.span.start u.span.start false some_start start_within ∙ append-nil (between t.span.start u.span.start line) ∙ both)
    (whole_stretch line (length line) t.span.start t.span.end true some_end end_within ∙ ap (λ (x : List ℕ). x ++ 44 ∷ 32 ∷ []) own)
    (λ k. respaced_from line (t.span.end + length gap) next u tokens there left following k)
  where
    by_gap : (o : Own text t.parts rest) (v : Bool) → is_good_gap gap ≡ v → AllAre is_gap_byte gap
        → written_of line 0 (length line) (record { start = t.span.start; end = u.span.start; comma = false }) ≡ o.own ++ gap
        → written_of line 0 (length line) (record { start = t.span.start; end = t.span.end; comma = true }) ≡ o.own ++ (44 ∷ 32 ∷ [])
        → ((k : ℕ) → Good k (rest_written line u.span tokens) (u ∷ tokens))
        → Good to (written_of line 0 (length line) (cond v (record { start = t.span.start; end = u.span.start; comma = false }) (record { start = t.span.start; end = t.span.end; comma = true })) ++ rest_written line u.span tokens) (t ∷ u ∷ tokens)
    by_gap o true good all kept added later =
        subst (λ (x : List ℕ). Good to (x ++ rest_written line u.span tokens) (t ∷ u ∷ tokens)) (sym kept)
        (token_before to t text rest gap (rest_written line u.span tokens) (u ∷ tokens) o all good (later (to + length o.own + length gap)))
    by_gap o false bad all kept added later =
        subst (λ (x : List ℕ). Good to (x ++ rest_written line u.span tokens) (t ∷ u ∷ tokens)) (sym added)
        (token_before to t text rest mark (rest_written line u.span tokens) (u ∷ tokens) o refl refl (later (to + length o.own + length mark)))

-- a line is read as these tokens
pub lexed : (line : List ℕ) (t : Placed) (tokens : List Placed) → items_of line ≡ answers (t ∷ tokens) None → LexesAt 0 line (t ∷ tokens) None
unfolding items_left
lexed line t tokens e =
    let g = given (length line + 1) 0 line (omega arith) in
    let same = answers_same g.0 (t ∷ tokens) g.1 None (sym g.3 ∙ e) in
    subst (λ (end : Option TokenFault). LexesAt 0 line (t ∷ tokens) end) same.1 (subst (λ (ts : List Placed). LexesAt 0 line ts g.1) same.0 g.2)

read : (text : List ℕ) (tokens : List Placed) → LexesAt 0 text tokens None → items_of text ≡ answers tokens None
unfolding items_left
read text tokens l = only (length text + 1) 0 text tokens None l (omega arith)

pub lines_respaced : (line : List ℕ) (t : Placed) (tokens : List Placed) → items_of line ≡ answers (t ∷ tokens) None → IsRespaced line (t ∷ tokens)
lines_respaced line t tokens e =
    let g : Good 0 (rest_written line t.span tokens) (t ∷ tokens) = respaced_from line 0 line t tokens refl (omega arith) (lexed line t tokens e) 0 in
    record {
      placed = g.first ∷ g.others;
      reads = read (rest_written line t.span tokens) (g.first ∷ g.others) g.lexes;
      same = g.same;
      good = g.good (rest_written line t.span tokens) refl;
    }
