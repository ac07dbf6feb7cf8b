-- The gaps of a line are made of blanks and commas.
use Rattle.std.proofs.Common.{◌≡◌, ℕ, zero, suc, ◌+◌, ◌-◌, ◌<◌, ◌≤◌, ◌==◌, Bool, true, false, cond, List, [], ◌∷◌, ◌++◌, length, take, drop, None, Result, Ok, Err, refl, ap, sym, ◌∙◌, subst, arith, append_assoc, length-append, length-drop}
use Rattle.std.specs.List.{prefix_len}
use Rattle.std.proofs.lemmas.Bool.{eqb-true}
use Rattle.std.proofs.lemmas.List.{drop-drop, drop_at, take_all}
use Rattle.std.proofs.lemmas.List.Sums.{prefix_len-le-length}
use Rattle.text_bytes.specs.Names.{double_quote}
use Rattle.text_bytes.specs.Texts.{skip_while}
use Rattle.rule_tokens.specs.Grammar.{AllAre, BeginsWithToken, Item, Parts, Placed, answers, attribute_text, is_gap_byte, operator_text}
use Rattle.rule_tokens.specs.Lines.{items_after, items_left, items_of, items_within}
use Rattle.rule_tokens.specs.Reading.{token_at}
use Rattle.rule_tokens.specs.declared.kinds.TokenFaultKind.{TokenFaultKind}
use Rattle.rule_tokens.proofs.RunLemmas.{run_all}
use Rattle.rule_tokens.proofs.IsPresent.{rest_is_shorter, token_in_place}
use Rattle.rule_core.specs.Style.{between}
use Rattle.rule_core.specs.Places.{AreGaps, AreGapsAfter}

-- the bytes of a token, and what follows it
record Own (text rest : List ℕ) : Type 0 where
  own : List ℕ
  spelled : text ≡ own ++ rest

own_of : (text : List ℕ) (t : Parts) (rest : List ℕ) → BeginsWithToken text t rest → Own text rest
own_of text t rest s =
    let head : List ℕ = t.head.key ++ attribute_text t.head.attribute ++ s.head.before ++ operator_text t.head.operator ++ s.head.following in
    let prefix : List ℕ = s.letters ++ double_quote ∷ t.value in
    let quoted : s.quoted ≡ (prefix ++ double_quote ∷ []) ++ rest = s.spelled ∙ sym (append_assoc prefix (double_quote ∷ []) rest) in
    record {
      own = head ++ (prefix ++ double_quote ∷ []);
      spelled = s.head.spelled ∙ ap (λ (v : List ℕ). head ++ v) quoted ∙ sym (append_assoc head (prefix ++ double_quote ∷ []) rest);
    }

-- what follows a token is in the line after it
follows : (line text own rest : List ℕ) (at end : ℕ) → drop at line ≡ text → text ≡ own ++ rest → end ≡ at + (length text - length rest) → drop end line ≡ rest
follows line text own rest at end d e f =
    let size : length text ≡ length own + length rest = ap length e ∙ length-append own rest in
    let place : end ≡ at + length own = omega arith in
    ap (λ (n : ℕ). drop n line) place ∙ sym (drop-drop (length own) at line) ∙ ap (drop (length own)) (d ∙ e) ∙ drop_at own rest (length own) refl

-- what is after the gap is in the line
next_in_place : (line rest : List ℕ) (end : ℕ) → drop end line ≡ rest → drop (end + prefix_len is_gap_byte rest) line ≡ skip_while is_gap_byte rest
next_in_place line rest end d = sym (drop-drop (prefix_len is_gap_byte rest) end line) ∙ ap (drop (prefix_len is_gap_byte rest)) d

length-skip : (rest : List ℕ) → length (skip_while is_gap_byte rest) + prefix_len is_gap_byte rest ≡ length rest
length-skip rest =
    let less : prefix_len is_gap_byte rest ≤ length rest = prefix_len-le-length is_gap_byte rest in
    let left : length (skip_while is_gap_byte rest) ≡ length rest - prefix_len is_gap_byte rest = length-drop (prefix_len is_gap_byte rest) rest in
    omega arith

-- a gap up to the end of the line
gap_at_end : (line rest : List ℕ) (end : ℕ) → drop end line ≡ rest → length (skip_while is_gap_byte rest) ≡ 0 → AllAre is_gap_byte (drop end line)
gap_at_end line rest end d none =
    let all : length (skip_while is_gap_byte rest) + prefix_len is_gap_byte rest ≡ length rest = length-skip rest in
    subst (AllAre is_gap_byte) (take_all (prefix_len is_gap_byte rest) rest (omega arith) ∙ sym d) (run_all is_gap_byte rest)

-- a gap up to the next token
gap_before : (line rest : List ℕ) (end start : ℕ) → drop end line ≡ rest → start ≡ end + prefix_len is_gap_byte rest → AllAre is_gap_byte (between end start line)
gap_before line rest end start d s =
    let size : start - end ≡ prefix_len is_gap_byte rest = omega arith in
    subst (AllAre is_gap_byte) (ap (λ (n : ℕ). take n rest) (sym size) ∙ ap (take (start - end)) (sym d)) (run_all is_gap_byte rest)

-- the first of these tokens, if there is one, begins at a place
abbrev BeginAt : ℕ → List Placed → Type 0
BeginAt at [] = Unit {0}
BeginAt at (t ∷ tokens) = t.span.start ≡ at

abbrev token_of : ℕ → ℕ → Parts × List ℕ → Placed
token_of at len x = record { parts = x.0; span = record { start = at; end = at + (len - length x.1) } }

uncons : (i j : Item) (is js : List Item) → i ∷ is ≡ j ∷ js → (i ≡ j) × (is ≡ js)
uncons i j is js e = (cc, cc)

abbrev as_item : Placed → Item
as_item t = Ok t

same_token : (t u : Placed) → as_item t ≡ as_item u → t ≡ u
same_token t u e = cc

-- a text that is read has an item at least
some_item : (n at : ℕ) (text : List ℕ) → 0 < n → items_within n at text ≡ [] → ⊥
unfolding items_within items_after
some_item zero at text h e = absurd (omega arith)
some_item (suc n) at text h e = by (token_at text) e
  where
    by : (read : Result (Parts × List ℕ) TokenFaultKind) → items_after (items_within n) at (length text) read ≡ [] → ⊥
    by (Err kind) e = cc
    by (Ok x) e = cc

abbrev InPlace : List ℕ → ℕ → List ℕ → ℕ → List Placed → Type 0
InPlace line at text n tokens = drop at line ≡ text → length text < n → items_within n at text ≡ answers tokens None → BeginAt at tokens × AreGaps line tokens

-- after a token
after_token : (line rest : List ℕ) (end n : ℕ) (more : List Placed) → drop end line ≡ rest → length rest < n
    → InPlace line (end + prefix_len is_gap_byte rest) (skip_while is_gap_byte rest) n more
    → cond (length (skip_while is_gap_byte rest) == 0) [] (items_within n (end + prefix_len is_gap_byte rest) (skip_while is_gap_byte rest)) ≡ answers more None
    → AreGapsAfter line end more
after_token line rest end n more d h in_place e = by (length (skip_while is_gap_byte rest) == 0) refl more e in_place
  where
    all : length (skip_while is_gap_byte rest) + prefix_len is_gap_byte rest ≡ length rest
    all = length-skip rest

    later : (more : List Placed) → items_within n (end + prefix_len is_gap_byte rest) (skip_while is_gap_byte rest) ≡ answers more None
        → BeginAt (end + prefix_len is_gap_byte rest) more × AreGaps line more → AreGapsAfter line end more
    later [] e g = absurd (some_item n (end + prefix_len is_gap_byte rest) (skip_while is_gap_byte rest) (omega arith) e)
    later (u ∷ us) e g = (gap_before line rest end u.span.start d g.0, g.1)

    by : (b : Bool) → (length (skip_while is_gap_byte rest) == 0) ≡ b → (more : List Placed) → cond b [] (items_within n (end + prefix_len is_gap_byte rest) (skip_while is_gap_byte rest)) ≡ answers more None
        → InPlace line (end + prefix_len is_gap_byte rest) (skip_while is_gap_byte rest) n more → AreGapsAfter line end more
    by true f [] e s = gap_at_end line rest end d (eqb-true (length (skip_while is_gap_byte rest)) 0 f)
    by true f (u ∷ us) e s = cc
    by false f more e s = later more e (s (next_in_place line rest end d) (omega (arith, all)) e)

gaps_within : (n : ℕ) (line : List ℕ) (at : ℕ) (text : List ℕ) (tokens : List Placed) → InPlace line at text n tokens
unfolding items_within items_after
gaps_within zero line at text tokens d h e = absurd (omega arith)
gaps_within (suc n) line at text tokens d h e = by (λ a t us. gaps_within n line a t us) (token_at text) refl tokens e
  where
    by : ((a : ℕ) (t : List ℕ) (us : List Placed) → InPlace line a t n us) → (read : Result (Parts × List ℕ) TokenFaultKind) → token_at text ≡ read → (tokens : List Placed)
        → items_after (items_within n) at (length text) read ≡ answers tokens None → BeginAt at tokens × AreGaps line tokens
    by farther (Err kind) r [] e = cc
    by farther (Err kind) r (t ∷ tokens) e = cc
    by farther (Ok x) r [] e = cc
    by farther (Ok x) r (t ∷ tokens) e =
        let is_present : BeginsWithToken text x.0 x.1 = token_in_place text x r in
        let o = own_of text x.0 x.1 is_present in
        let here : Placed = token_of at (length text) x in
        let end : ℕ = at + (length text - length x.1) in
        let both = uncons (Ok here) (Ok t) _ (answers tokens None) e in
        let shorter : length x.1 < length text = rest_is_shorter text x.0 x.1 is_present in
        let following : drop end line ≡ x.1 = follows line text o.own x.1 at end d o.spelled refl in
        let rest : AreGapsAfter line end tokens =
        after_token line x.1 end n tokens following (omega arith) (farther (end + prefix_len is_gap_byte x.1) (skip_while is_gap_byte x.1) tokens) (placed x.1 shorter ∙ both.1) in
        subst (λ (u : Placed). (u.span.start ≡ at) × AreGapsAfter line u.span.end tokens) (same_token here t both.0) (refl, rest)
      where
        placed : (rest : List ℕ) → length rest < length text
            → cond (length (skip_while is_gap_byte rest) == 0) [] (items_within n (at + (length text - length rest) + prefix_len is_gap_byte rest) (skip_while is_gap_byte rest))
            ≡ cond (length (skip_while is_gap_byte rest) == 0) [] (items_within n (at + (length text - length (skip_while is_gap_byte rest))) (skip_while is_gap_byte rest))
        placed rest less =
            let all : length (skip_while is_gap_byte rest) + prefix_len is_gap_byte rest ≡ length rest = length-skip rest in
            let same : at + (length text - length rest) + prefix_len is_gap_byte rest ≡ at + (length text - length (skip_while is_gap_byte rest)) = omega arith in
            ap (λ (a : ℕ). cond (length (skip_while is_gap_byte rest) == 0) [] (items_within n a (skip_while is_gap_byte rest))) same

-- in a line of which all items are tokens, gaps are made of blanks and commas
pub gaps_in_place : (line : List ℕ) (tokens : List Placed) → items_of line ≡ answers tokens None → AreGaps line tokens
unfolding items_left
gaps_in_place line tokens e = (gaps_within (length (drop 0 line) + 1) line 0 (drop 0 line) tokens refl (omega arith) e).1
