-- Texts in braces.
use Rattle.std.proofs.Common.{◌≡◌, ◌≢◌, ℕ, zero, suc, ◌+◌, ◌<◌, ◌≤◌, nat_lt, ltb, Bool, true, false, cond, not, List, [], ◌∷◌, ◌++◌, length, take, drop, get_or, Option, Some, None, Result, Ok, Err, MatchOption, MatchResult, ◌==◌, position, option_map, refl, sym, ◌∙◌, ap, arith, append_assoc, add-one, drop-cons, length-take, length-append, eqb-true}
use Rattle.std.proofs.lemmas.Bool.{true≢false, lt-ltb}
use Rattle.std.proofs.lemmas.List.{take-append-drop, take_at}
use Rattle.std.proofs.lemmas.List.Quantifiers.{position-Some}
use Rattle.std.proofs.lemmas.Option.{none-some}
use Rattle.std.proofs.lemmas.Bool.Decides.{nat_tests}
use Rattle.std.specs.List.{position_or_len}
use Rattle.std.proofs.lemmas.List.Sums.{fails_before_first, position_or_len_is}
use Rattle.std.proofs.lemmas.Grind.{common_steps}
use Rattle.text_bytes.specs.Names.{open_brace, close_brace}
use Rattle.text_bytes.specs.Texts.{is_empty, split_once}
use Rattle.rule_tokens.specs.Braces.{braced, closed}
use Rattle.rule_tokens.specs.TemplateGrammar.{HasNoClose, in_braces, LacksName}
use Rattle.rule_tokens.specs.declared.fault.TemplateFault.{TemplateFault}
use Rattle.rule_tokens.specs.declared.fault.TemplateFault.TheVariants as fault

-- a text is cut at the first brace that closes
pub record IsCutAt (t : List ℕ) (k : ℕ) : Type 0 where
  pub within : k < length t
  pub parts : t ≡ take k t ++ close_brace ∷ drop (k + 1) t
  pub no_close : HasNoClose (take k t)

pub cut_at : (t : List ℕ) (k : ℕ) → position (λ b. b == close_brace) t ≡ Some k → IsCutAt t k
cut_at t k h =
    let found = position-Some (λ b. b == close_brace) t k 0 h in
    let lt : k < length t = found.0 in
    let here : get_or t k 0 ≡ close_brace = eqb-true (get_or t k 0) close_brace found.1 in
    let tail : drop k t ≡ close_brace ∷ drop (k + 1) t = rw (add-one k) (rw (drop-cons t k 0) (ap (λ (b : ℕ). b ∷ drop (suc k) t) here)) in
    record {
      within = lt;
      parts = sym (take-append-drop k t) ∙ ap (λ (r : List ℕ). take k t ++ r) tail;
      no_close = λ j d below.
          let small : j < k = omega (arith, length-take k t, below) in
          let same : get_or (take k t) j d ≡ get_or t j 0 = grind (arith, common_steps) in
          rw same (ap not ((position-Some (λ b. b == close_brace) t k 0 h).2 j small));
    }

-- no brace closes
pub never_closed : (t : List ℕ) → position (λ b. b == close_brace) t ≡ None → HasNoClose t
never_closed t h =
    let closes : ℕ → Bool = λ b. b == close_brace in
    let past : length t ≤ position_or_len closes t = by_test (nat_lt (position_or_len closes t) (length t)) refl h in
    λ j d below. ap not (fails_before_first closes t j d (omega arith))
  where
    by_test : (v : Bool) → nat_lt (position_or_len (λ b. b == close_brace) t) (length t) ≡ v → cond v (Some (position_or_len (λ b. b == close_brace) t)) None ≡ None → length t ≤ position_or_len (λ b. b == close_brace) t
    by_test true e q = absurd (none-some _ (sym q))
    by_test false e q = grind (arith, nat_tests)

-- what is split at the first brace that closes
abbrev pub SplitWell : List ℕ → Option (List ℕ × List ℕ) → Type 0
SplitWell t o = MatchOption o (HasNoClose t) (λ x. HasNoClose x.0 × (t ≡ x.0 ++ close_brace ∷ x.1))

split_by : (t : List ℕ) (o : Option ℕ) → position (λ b. b == close_brace) t ≡ o → SplitWell t (option_map (λ n. (take n t, drop (n + 1) t)) o)
split_by t None e = never_closed t e
split_by t (Some k) e = let cut = cut_at t k e in (cut.no_close, cut.parts)

pub split_well : (t : List ℕ) → SplitWell t (split_once close_brace t)
unfolding split_once
split_well t = split_by t (position (λ b. b == close_brace) t) refl

-- a text that begins with a name in braces
pub record BeginsWithName (t n rest : List ℕ) : Type 0 where
  pub some : n ≢ []
  pub no_close : HasNoClose n
  pub parts : t ≡ in_braces n ++ rest

abbrev pub BracedWell : List ℕ → Result (List ℕ × List ℕ) TemplateFault → Type 0
BracedWell t r = MatchResult r (λ x. BeginsWithName t x.0 x.1) (λ e. (e ≡ fault.Brace) × LacksName t)

-- a text in braces, and what follows
pub braces_are : (n rest : List ℕ) → in_braces n ++ rest ≡ open_brace ∷ (n ++ close_brace ∷ rest)
braces_are n rest = ap (λ (l : List ℕ). open_brace ∷ l) (append_assoc n (close_brace ∷ []) rest)

-- no name in braces begins a text whose first byte is another
no_brace : (b : ℕ) (t : List ℕ) → (b == open_brace) ≡ false → LacksName (b ∷ t)
no_brace b t e n rest some no_close is =
    let same : b ≡ open_brace = ap (λ (l : List ℕ). get_or l 0 0) is in
    grind (arith, nat_tests)

-- a text with a closing brace in it has one
has_close : (t n rest : List ℕ) → t ≡ (n ++ close_brace ∷ []) ++ rest → HasNoClose t → ⊥
has_close t n rest is none =
    let here : get_or ((n ++ close_brace ∷ []) ++ rest) (length n) 0 ≡ close_brace = grind (arith, common_steps) in
    let same : get_or t (length n) 0 ≡ close_brace = ap (λ (l : List ℕ). get_or l (length n) 0) is ∙ here in
    let long : length t ≡ length n + 1 + length rest = rw is (grind (arith, common_steps)) in
    let test : not (get_or t (length n) 0 == close_brace) ≡ true = none (length n) 0 (omega arith) in
    let closing : not (close_brace == close_brace) ≡ true = rw same at test in
    true≢false (sym closing)

-- nor one that is never closed
lacks_open : (b : ℕ) (t : List ℕ) → HasNoClose t → LacksName (b ∷ t)
lacks_open b t none n rest some no_close is = has_close t n rest (ap (λ (l : List ℕ). drop 1 l) is) none

-- a name does not begin with a closing brace
begins_closed : (t n rest : List ℕ) → get_or t 0 0 ≡ close_brace → n ≢ [] → HasNoClose n → t ≢ (n ++ close_brace ∷ []) ++ rest
begins_closed t [] rest first some no_close is = some refl
begins_closed t (c ∷ n) rest first some no_close is =
    let same : c ≡ close_brace = sym (ap (λ (l : List ℕ). get_or l 0 0) is) ∙ first in
    let test : not (c == close_brace) ≡ true = no_close 0 0 (omega arith) in
    let closing : not (close_brace == close_brace) ≡ true = rw same at test in
    true≢false (sym closing)

-- nor one whose braces are empty
lacks_empty : (b : ℕ) (t rest : List ℕ) → t ≡ close_brace ∷ rest → LacksName (b ∷ t)
lacks_empty b t following e n rest some no_close is =
    begins_closed t n rest (ap (λ (l : List ℕ). get_or l 0 0) e) some no_close (ap (λ (l : List ℕ). drop 1 l) is)

empty : (t : List ℕ) → is_empty t ≡ true → t ≡ []
empty [] e = refl
empty (b ∷ t) e = absurd (true≢false (sym e))

filled : (t : List ℕ) → is_empty t ≡ false → t ≢ []
filled t e is = true≢false (sym (ap is_empty is) ∙ e)

closed_by : (b : ℕ) (t : List ℕ) (x : List ℕ × List ℕ) → b ≡ open_brace → HasNoClose x.0 → t ≡ x.0 ++ close_brace ∷ x.1 → (v : Bool) → is_empty x.0 ≡ v
    → BracedWell (b ∷ t) (cond v (Err fault.Brace) (Ok x))
closed_by b t x e no_close parts true h = (refl, lacks_empty b t x.1 (parts ∙ ap (λ (l : List ℕ). l ++ close_brace ∷ x.1) (empty x.0 h)))
closed_by b t x e no_close parts false h = record {
  some = filled x.0 h;
  no_close = no_close;
  parts = ap (λ (c : ℕ). c ∷ t) e ∙ ap (λ (l : List ℕ). open_brace ∷ l) parts ∙ sym (braces_are x.0 x.1);
}

closed_well : (b : ℕ) (t : List ℕ) → b ≡ open_brace → (o : Option (List ℕ × List ℕ)) → SplitWell t o → BracedWell (b ∷ t) (closed o)
closed_well b t e None h = (refl, lacks_open b t h)
closed_well b t e (Some x) h = closed_by b t x e h.0 h.1 (is_empty x.0) refl

braced_by : (b : ℕ) (t : List ℕ) (v : Bool) → (b == open_brace) ≡ v → BracedWell (b ∷ t) (cond v (closed (split_once close_brace t)) (Err fault.Brace))
braced_by b t true e = closed_well b t (eqb-true b open_brace e) (split_once close_brace t) (split_well t)
braced_by b t false e = (refl, no_brace b t e)

nothing : LacksName []
nothing n rest some no_close is = let none : 0 ≡ length (in_braces n ++ rest) = ap (λ (l : List ℕ). length l) is in omega arith

pub braced_well : (t : List ℕ) → BracedWell t (braced t)
unfolding braced
braced_well [] = (refl, nothing)
braced_well (b ∷ t) = braced_by b t (b == open_brace) refl

-- ---- what is written is read again

drop_seam : (n rest : List ℕ) → drop (suc (length n)) (n ++ close_brace ∷ rest) ≡ rest
drop_seam [] rest = refl
drop_seam (b ∷ n) rest = drop_seam n rest

at_seam : (n rest : List ℕ) → get_or (n ++ close_brace ∷ rest) (length n) 0 ≡ close_brace
at_seam [] rest = refl
at_seam (b ∷ n) rest = at_seam n rest

before_seam : (n rest : List ℕ) (k : ℕ) → k < length n → get_or (n ++ close_brace ∷ rest) k 0 ≡ get_or n k 0
before_seam [] rest k h = absurd (omega arith)
before_seam (b ∷ n) rest zero h = refl
before_seam (b ∷ n) rest (suc k) h = before_seam n rest k (omega arith)

not_true : (b : Bool) → not b ≡ true → b ≡ false
not_true true h = sym h
not_true false h = refl

place_again : (n rest : List ℕ) → HasNoClose n → position (λ b. b == close_brace) (n ++ close_brace ∷ rest) ≡ Some (length n)
place_again n rest none =
    let hay = n ++ close_brace ∷ rest in
    let long : length hay ≡ length n + suc (length rest) = length-append n (close_brace ∷ rest) in
    let within : length n < length hay = omega arith in
    let upto : length n ≤ length hay = omega arith in
    let at : position_or_len (λ b. b == close_brace) hay ≡ length n =
    position_or_len_is (λ b. b == close_brace) hay (length n) 0 upto
    (λ k l. ap (λ (b : ℕ). b == close_brace) (before_seam n rest k l) ∙ not_true (get_or n k 0 == close_brace) (none k 0 l))
    (λ l. ap (λ (b : ℕ). b == close_brace) (at_seam n rest)) in
    ap (λ (k : ℕ). cond (ltb k (length hay)) (Some k) None) at ∙ ap (λ (b : Bool). cond b (Some (length n)) None) (lt-ltb (length n) (length hay) within)

pub split_again : (n rest : List ℕ) → HasNoClose n → split_once close_brace (n ++ close_brace ∷ rest) ≡ Some (n, rest)
unfolding split_once
split_again n rest none =
    let hay = n ++ close_brace ∷ rest in
    let prefix : take (length n) hay ≡ n = take_at n (close_brace ∷ rest) (length n) refl in
    let following : drop (length n + 1) hay ≡ rest = ap (λ (k : ℕ). drop k hay) (add-one (length n)) ∙ drop_seam n rest in
    ap (option_map (λ (k : ℕ). (take k hay, drop (k + 1) hay))) (place_again n rest none)
    ∙ ap (λ (l : List ℕ). Some (l, drop (length n + 1) hay)) prefix
    ∙ ap (λ (l : List ℕ). Some (n, l)) following

none_by : (t : List ℕ) → HasNoClose t → (o : Option (List ℕ × List ℕ)) → SplitWell t o → o ≡ None
none_by t none None h = refl
none_by t none (Some x) h = absurd (has_close t x.0 x.1 (h.1 ∙ sym (append_assoc x.0 (close_brace ∷ []) x.1)) none)

pub none_again : (t : List ℕ) → HasNoClose t → split_once close_brace t ≡ None
none_again t none = none_by t none (split_once close_brace t) (split_well t)

filled_again : (n rest : List ℕ) → n ≢ [] → closed (Some (n, rest)) ≡ Ok (n, rest)
filled_again [] rest some = absurd (some refl)
filled_again (b ∷ n) rest some = refl

pub braced_again : (n rest : List ℕ) → n ≢ [] → HasNoClose n → braced (in_braces n ++ rest) ≡ Ok (n, rest)
unfolding braced
braced_again n rest some none =
    ap braced (braces_are n rest) ∙ ap closed (split_again n rest none) ∙ filled_again n rest some

lacks_by : (t : List ℕ) → LacksName t → (r : Result (List ℕ × List ℕ) TemplateFault) → BracedWell t r → r ≡ Err fault.Brace
lacks_by t lacks (Ok x) h = absurd (lacks x.0 x.1 h.some h.no_close h.parts)
lacks_by t lacks (Err e) h = ap Err h.0

pub lacks_again : (t : List ℕ) → LacksName t → braced t ≡ Err fault.Brace
lacks_again t lacks = lacks_by t lacks (braced t) (braced_well t)
