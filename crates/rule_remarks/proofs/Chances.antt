-- What is known of the tokens after one lets through each pair of which that one is the first.
use Rattle.std.proofs.Common.{◌≡◌, ◌⊎◌, inl, inr, ℕ, zero, suc, ◌+◌, ◌-◌, ◌<◌, ◌≤◌, Bool, true, false, cond, not, ◌&&◌, List, [], ◌∷◌, ◌++◌, length, get_or, drop, Option, Some, None, slice_get, option_map, unwrap_or, Bor, refl, ap, sym, ◌∙◌, true≢false, arith}
use Rattle.std.proofs.Math.Seq.{drop-cons}
use Rattle.std.proofs.lemmas.List.{length-append}
use Rattle.std.proofs.lemmas.Option.{slice_get_past, slice_get_read}
use Rattle.std.specs.List.{list_any}
use Rattle.std.specs.Slice.{IsItemAt}
use Rattle.rule_tokens.specs.Grammar.{compares}
use Rattle.rule_tokens.specs.declared.kinds.Operator.{Operator}
use Rattle.rule_tokens.specs.declared.kinds.Operator.TheVariants as op
use Rattle.rule_types.specs.Tokens.{same_operator}
use Rattle.rule_remarks.specs.Known.{AreChances, Known, chance_of, chances_of, known_of, may_add, may_be_apart, may_be_like, may_exclude, with_option}
use Rattle.rule_remarks.specs.Pairs.{Pair, are_of_kind, finding, is_reported, pairs_with, reported_for, with_kind}
use Rattle.rule_remarks.specs.Relations.{are_alike, are_disjoint, are_opposite, is_against, is_same}
use Rattle.rule_remarks.specs.Said.{Said, opposite}
use Rattle.rule_remarks.specs.declared.pair_finding.PairFinding.{PairFinding}
use Rattle.rule_remarks.specs.declared.pair_finding.PairKind.{PairKind}
use Rattle.rule_remarks.specs.declared.pair_finding.PairKind.TheVariants.{Same, Against}
use Rattle.rule_remarks.proofs.Beginnings.{first_holds, second_holds}
use Rattle.rule_remarks.proofs.Likeness.{op_is}
use Rattle.rule_remarks.proofs.Later.{or_left, or_right, both, never, neither_first, neither_second, and_false, any_gives, any_more, any_of_two, is_like, like_known, is_apart, apart_known}

same_known : (a : Said) (tokens : List (Option Said)) → list_any (are_of_kind Same (Some a)) tokens ≡ true → may_be_like (known_of tokens) a a.operator ≡ true
unfolding is_same
same_known a tokens h = like_known a a.operator tokens (any_more (are_of_kind Same (Some a)) (is_like a a.operator) like tokens h)
  where
    reversed : (o p : Operator) → same_operator o p ≡ true → same_operator p o ≡ true
    reversed o p e = ap (same_operator p) (op_is o p e) ∙ ap (λ (x : Operator). same_operator x p) (sym (op_is o p e)) ∙ e

    like : (t : Option Said) → are_of_kind Same (Some a) t ≡ true → is_like a a.operator t ≡ true
    like None e = e
    like (Some b) e =
        both (are_alike a b) (same_operator b.operator a.operator) (first_holds (are_alike a b) (same_operator a.operator b.operator) e)
        (reversed a.operator b.operator (second_holds (are_alike a b) (same_operator a.operator b.operator) e))

opposite_is : (o p : Operator) → are_opposite o p ≡ true → (compares o ≡ true) × (same_operator p (opposite o) ≡ true)
opposite_is op.Equal op.NotEqual h = (refl, refl)
opposite_is op.NotEqual op.Equal h = (refl, refl)
opposite_is _ _ h = absurd (true≢false (sym h))

against_known : (a : Said) (tokens : List (Option Said)) → list_any (are_of_kind Against (Some a)) tokens ≡ true → may_exclude (known_of tokens) a ≡ true
unfolding is_against
against_known a tokens h = by (any_of_two (are_of_kind Against (Some a)) unlike (is_apart a) split tokens h)
  where
    unlike : Option Said → Bool
    unlike t = compares a.operator && is_like a (opposite a.operator) t

    split : (t : Option Said) → are_of_kind Against (Some a) t ≡ true → (unlike t ≡ true) ⊎ (is_apart a t ≡ true)
    split None e = absurd (true≢false (sym e))
    split (Some b) e = at (are_alike a b) refl e
      where
        at : (c : Bool) → are_alike a b ≡ c → cond c (are_opposite a.operator b.operator) (are_disjoint a b) ≡ true → (unlike (Some b) ≡ true) ⊎ (are_disjoint a b ≡ true)
        at true q k =
            inl (both (compares a.operator) (are_alike a b && same_operator b.operator (opposite a.operator)) (opposite_is a.operator b.operator k).0
            (both (are_alike a b) (same_operator b.operator (opposite a.operator)) q (opposite_is a.operator b.operator k).1))
        at false q k = inr k

    by : (list_any unlike tokens ≡ true) ⊎ (list_any (is_apart a) tokens ≡ true) → may_exclude (known_of tokens) a ≡ true
    by (inl e) =
        or_left (compares a.operator && may_be_like (known_of tokens) a (opposite a.operator)) (may_be_apart (known_of tokens) a)
        (both (compares a.operator) (may_be_like (known_of tokens) a (opposite a.operator))
        (any_gives unlike (compares a.operator) (λ t q. first_holds (compares a.operator) (is_like a (opposite a.operator) t) q) tokens e)
        (like_known a (opposite a.operator) tokens
        (any_more unlike (is_like a (opposite a.operator)) (λ t q. second_holds (compares a.operator) (is_like a (opposite a.operator) t) q) tokens e)))
    by (inr e) = or_right (compares a.operator && may_be_like (known_of tokens) a (opposite a.operator)) (may_be_apart (known_of tokens) a) (apart_known a tokens e)

none_kind : (kind : PairKind) (tokens : List (Option Said)) → list_any (are_of_kind kind None) tokens ≡ false
none_kind kind [] = refl
none_kind kind (t ∷ tokens) = none_kind kind tokens

no_same : (t : Option Said) (tokens : List (Option Said)) → (chance_of (known_of tokens) t).0 ≡ false → list_any (are_of_kind Same t) tokens ≡ false
no_same None tokens h = none_kind Same tokens
no_same (Some a) tokens h = never (list_any (are_of_kind Same (Some a)) tokens) (λ e. true≢false (sym (same_known a tokens e) ∙ h))

no_against : (t : Option Said) (tokens : List (Option Said)) → (chance_of (known_of tokens) t).1 ≡ false → list_any (are_of_kind Against t) tokens ≡ false
no_against None tokens h = none_kind Against tokens
no_against (Some a) tokens h = never (list_any (are_of_kind Against (Some a)) tokens) (λ e. true≢false (sym (against_known a tokens e) ∙ h))

-- a kind is reported, or no later token is a pair of it with one
abbrev IsSettled : List PairFinding → Option Said → List (Option Said) → PairKind → Type 0
IsSettled reported a tokens kind = (is_reported kind reported ≡ true) ⊎ (list_any (are_of_kind kind a) tokens ≡ false)

stays : (reported : List PairFinding) (a : Option Said) (place : ℕ) (tokens : List (Option Said)) → IsSettled reported a tokens Same → IsSettled reported a tokens Against
    → reported_for reported (pairs_with a place tokens) ≡ reported
stays reported a place [] f g = refl
stays reported a place (b ∷ tokens) f g =
    ap (λ (x : List PairFinding). reported_for x (pairs_with a (place + 1) tokens)) (ap (λ (x : List PairFinding). with_kind Against x pair) (one Same f) ∙ one Against g)
    ∙ stays reported a (place + 1) tokens (fewer Same f) (fewer Against g)
  where
    pair : Pair
    pair = record { earlier = a; later = b; place = place }

    one : (kind : PairKind) → IsSettled reported a (b ∷ tokens) kind → with_kind kind reported pair ≡ reported
    one kind (inl e) = ap (λ (x : Bool). cond (not x && are_of_kind kind a b) (reported ++ finding kind pair ∷ []) reported) e
    one kind (inr e) =
        ap (λ (x : Bool). cond (not (is_reported kind reported) && x) (reported ++ finding kind pair ∷ []) reported) (neither_first (are_of_kind kind a b) (list_any (are_of_kind kind a) tokens) e)
        ∙ ap (λ (x : Bool). cond x (reported ++ finding kind pair ∷ []) reported) (and_false (not (is_reported kind reported)))

    fewer : (kind : PairKind) → IsSettled reported a (b ∷ tokens) kind → IsSettled reported a tokens kind
    fewer kind (inl e) = inl e
    fewer kind (inr e) = inr (neither_second (are_of_kind kind a b) (list_any (are_of_kind kind a) tokens) e)

-- a token that may not add to what is reported adds nothing
pub nothing_added : (reported : List PairFinding) (chance : Option (Bool × Bool)) (a : Option Said) (place : ℕ) (tokens : List (Option Said))
    → ((c : Bool × Bool) → chance ≡ Some c → c ≡ chance_of (known_of tokens) a) → may_add chance reported ≡ false → reported ≡ reported_for reported (pairs_with a place tokens)
nothing_added reported None a place tokens k h = absurd (true≢false h)
nothing_added reported (Some chance) a place tokens k h =
    sym (stays reported a place tokens
    (settled Same own.0 (no_same a tokens) (neither_first (own.0 && not (is_reported Same reported)) (own.1 && not (is_reported Against reported)) known))
    (settled Against own.1 (no_against a tokens) (neither_second (own.0 && not (is_reported Same reported)) (own.1 && not (is_reported Against reported)) known)))
  where
    own : Bool × Bool
    own = chance_of (known_of tokens) a

    known : may_add (Some own) reported ≡ false
    known = ap (λ (x : Bool × Bool). may_add (Some x) reported) (sym (k chance refl)) ∙ h

    settled : (kind : PairKind) (b : Bool) → (b ≡ false → list_any (are_of_kind kind a) tokens ≡ false) → (b && not (is_reported kind reported)) ≡ false → IsSettled reported a tokens kind
    settled kind true f k = at (is_reported kind reported) refl k
      where
        at : (r : Bool) → is_reported kind reported ≡ r → not r ≡ false → IsSettled reported a tokens kind
        at true e q = inl e
        at false e q = absurd (true≢false q)
    settled kind false f k = inr (f refl)

-- ---- the walk over tokens, from the last on

last_got : {X : Type 0} (xs : List X) (x : X) → slice_get (xs ++ x ∷ []) (length xs) ≡ Some x
last_got [] x = refl
last_got (y ∷ xs) x = last_got xs x

got_before : {X : Type 0} (xs ys : List X) (i : ℕ) (x : X) → slice_get xs i ≡ Some x → slice_get (xs ++ ys) i ≡ Some x
got_before [] ys i x h = absurd (nothing h)
  where
    nothing : None ≡ Some x → ⊥
    nothing e = cc
got_before (y ∷ xs) ys zero x h = h
got_before (y ∷ xs) ys (suc i) x h = got_before xs ys i x h

chances_size : (tokens : List (Option Said)) → length (chances_of tokens) ≡ length tokens
chances_size [] = refl
chances_size (t ∷ tokens) = length-append (chances_of tokens) (chance_of (known_of tokens) t ∷ []) ∙ omega (arith, chances_size tokens)

-- what there may be after a token stands at the place of the number of those after it
chance_there : (tokens : List (Option Said)) (k : ℕ) (a : Option Said) (following : List (Option Said)) → drop k tokens ≡ a ∷ following
    → slice_get (chances_of tokens) (length following) ≡ Some (chance_of (known_of following) a)
chance_there [] zero a following h = absurd (nothing h)
  where
    nothing : [] ≡ a ∷ following → ⊥
    nothing e = cc
chance_there [] (suc k) a following h = absurd (nothing h)
  where
    nothing : [] ≡ a ∷ following → ⊥
    nothing e = cc
chance_there (t ∷ tokens) zero a following h =
    ap (λ (l : List (Option Said)). slice_get (chances_of l) (length following)) h
    ∙ ap (slice_get (chances_of (a ∷ following))) (sym (chances_size following))
    ∙ last_got (chances_of following) (chance_of (known_of following) a)
chance_there (t ∷ tokens) (suc k) a following h =
    got_before (chances_of tokens) (chance_of (known_of tokens) t ∷ []) (length following) (chance_of (known_of following) a) (chance_there tokens k a following h)

module _ (tokens : List (Option Said)) (b : Option Said) (i : ℕ) (h : i < length tokens) (e : b ≡ get_or tokens (length tokens - 1 - i) b) where
  -- one token more is looked at
  one_more : drop (length tokens - (i + 1)) tokens ≡ b ∷ drop (length tokens - i) tokens
  one_more =
      let place : length tokens - (i + 1) ≡ length tokens - 1 - i = omega arith in
      let next : suc (length tokens - 1 - i) ≡ length tokens - i = omega (arith, h) in
      let within : length tokens - 1 - i < length tokens = omega (arith, h) in
      ap (λ (k : ℕ). drop k tokens) place
      ∙ drop-cons tokens (length tokens - 1 - i) b within
      ∙ ap (λ (x : Option Said). x ∷ drop (suc (length tokens - 1 - i)) tokens) (sym e)
      ∙ ap (λ (k : ℕ). b ∷ drop k tokens) next

  -- what is known with it
  pub known_more : (known new : Known) → new ≡ with_option known b → known ≡ known_of (drop (length tokens - i) tokens) → new ≡ known_of (drop (length tokens - (i + 1)) tokens)
  known_more known new n k = n ∙ ap (λ (x : Known). with_option x b) k ∙ sym (ap known_of one_more)

  -- what there may be after each
  pub chances_more : (known : Known) (chances new : List (Bool × Bool)) → new ≡ chances ++ chance_of known b ∷ [] → known ≡ known_of (drop (length tokens - i) tokens)
      → chances ≡ chances_of (drop (length tokens - i) tokens) → new ≡ chances_of (drop (length tokens - (i + 1)) tokens)
  chances_more known chances new n k c =
      n ∙ ap (λ (x : List (Bool × Bool)). x ++ chance_of known b ∷ []) c ∙ ap (λ (x : Known). chances_of (drop (length tokens - i) tokens) ++ chance_of x b ∷ []) k ∙ sym (ap chances_of one_more)

-- what is left of the tokens after one more
pub suffix_next : (tokens left following : List (Option Said)) (a : Option Said) → left ≡ a ∷ following → left ≡ drop (length tokens - length left) tokens → length left ≤ length tokens
    → following ≡ drop (length tokens - length following) tokens
suffix_next tokens left following a cut suffix within =
    let size : length left ≡ suc (length following) = ap length cut in
    let next : suc (length tokens - length left) ≡ length tokens - length following = omega (arith, size, within) in
    sym (ap (drop 1) (sym suffix ∙ cut)) ∙ one_less (length tokens - length left) tokens ∙ ap (λ (k : ℕ). drop k tokens) next
  where
    one_less : (k : ℕ) (ts : List (Option Said)) → drop 1 (drop k ts) ≡ drop (suc k) ts
    one_less zero ts = refl
    one_less (suc k) [] = refl
    one_less (suc k) (t ∷ ts) = one_less k ts

-- what there may be after a token, as it is found
pub chance_at : (tokens left following : List (Option Said)) (a : Option Said) (chances : List (Bool × Bool)) (found : Option (Bor (Bool × Bool))) → left ≡ a ∷ following
    → left ≡ drop (length tokens - length left) tokens → AreChances chances tokens → IsItemAt chances (length following) found
    → (c : Bool × Bool) → option_map (λ x. x.now) found ≡ Some c → c ≡ chance_of (known_of following) a
chance_at tokens left following a chances found cut suffix all got c e =
    ap (λ (o : Option (Bool × Bool)). unwrap_or o c)
    (sym (all.known (length following) c (sym (at found got) ∙ e)) ∙ chance_there tokens (length tokens - length left) a following (sym suffix ∙ cut))
  where
    at : (o : Option (Bor (Bool × Bool))) → IsItemAt chances (length following) o → option_map (λ c. c.now) o ≡ slice_get chances (length following)
    at None h = sym (slice_get_past chances (length following) h.3)
    at (Some c) h = sym (slice_get_read chances (length chances) (length following) c.now refl h.3.0 h.1)

-- nothing is known of few tokens
pub few : (chances : List (Bool × Bool)) (tokens : List (Option Said)) → chances ≡ [] → AreChances chances tokens
few chances tokens e = record { known = λ i chance h. absurd (nothing (sym (slice_get_past [] i (omega arith)) ∙ ap (λ (x : List (Bool × Bool)). slice_get x i) (sym e) ∙ h)) }
  where
    nothing : {X : Type 0} {x : X} → None ≡ Some x → ⊥
    nothing e = cc

-- all is known of many
pub many : (chances : List (Bool × Bool)) (tokens : List (Option Said)) → chances ≡ chances_of tokens → AreChances chances tokens
many chances tokens e = record { known = λ i chance h. ap (λ (x : List (Bool × Bool)). slice_get x i) (sym e) ∙ h }
