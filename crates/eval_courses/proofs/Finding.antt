-- What is reported for a search, by which device meets all of the matches.
use Rattle.std.proofs.Common.{◌≡◌, ℕ, zero, suc, ◌-◌, ◌<◌, Bool, true, false, cond, List, [], ◌∷◌, ◌++◌, length, map, filter, Option, Some, None, codes, append_assoc, arith, refl, ap, sym, ◌∙◌, true≢false}
use Rattle.std.specs.List.{list_all, list_any, position, range_with_len}
use Rattle.text_bytes.specs.Text.{Text}
use Rattle.device_core.specs.Values.{chain}
use Rattle.rule_types.specs.declared.part.UpMatch.{UpMatch}
use Rattle.eval_state.specs.declared.state.State.{State}
use Rattle.eval_rendering.specs.Laws.{IsFirstToMeet, NoneMeets}
use Rattle.eval_rendering.specs.Subjects.{found_place, holds_at}
use Rattle.eval_rendering.proofs.Finding.{found_first, none_found}
use Rattle.eval_courses.specs.Laws.{last_of}
use Rattle.eval_courses.specs.Upward.{falling, found_report, meets_all, name_at, partial_report, partly, search_reports, unmet, up_report}
use Rattle.eval_courses.proofs.Ending.{after_all}

-- there is one first number that passes
one_first : (p : ℕ → Bool) (a b : ℕ) → p a ≡ true → ((k : ℕ) → k < a → p k ≡ false) → p b ≡ true → ((k : ℕ) → k < b → p k ≡ false) → a ≡ b
one_first p a b at_a below_a at_b below_b =
    let not_less : a < b → ⊥ = λ less. true≢false (sym at_a ∙ below_b a less) in
    let not_more : b < a → ⊥ = λ less. true≢false (sym at_b ∙ below_a b less) in
    omega (arith, not_less, not_more)

first_found : (p : ℕ → Bool) (n place : ℕ) → place < n → p place ≡ true → ((k : ℕ) → k < place → p k ≡ false) → position p (range_with_len 0 n) ≡ Some place
first_found p n place within passes first = by (position p (range_with_len 0 n)) refl
  where
    by : (o : Option ℕ) → position p (range_with_len 0 n) ≡ o → position p (range_with_len 0 n) ≡ Some place
    by None e = absurd (true≢false (sym passes ∙ (none_found p n).0 e place within))
    by (Some other) e = let found = found_first p n other e in e ∙ ap Some (one_first p other place found.1 found.2 passes first)

-- the first device to meet all is found
is_found : (parts : List UpMatch) (state : State) (place : ℕ) → IsFirstToMeet parts state place → found_place parts state ≡ Some place
unfolding found_place
is_found parts state place h = first_found (λ n. list_all (holds_at state n) parts) (length (chain state.event)) place h.in_chain h.meets h.first

none_is_found : (parts : List UpMatch) (state : State) → NoneMeets parts state → found_place parts state ≡ None
unfolding found_place
none_is_found parts state h = (none_found (λ n. list_all (holds_at state n) parts) (length (chain state.event))).1 h

-- the last line of a search is its result
last_reported : (idle : Bool) (part : UpMatch) (parts : List UpMatch) (state : State) → last_of (search_reports idle (part ∷ parts) state) ≡ Some (found_report idle (part ∷ parts) state (found_place (part ∷ parts) state))
unfolding search_reports
last_reported idle part parts state = after_all (map (λ each. up_report each state) (part ∷ parts)) (found_report idle (part ∷ parts) state (found_place (part ∷ parts) state))

pub named_reported : (idle : Bool) (part : UpMatch) (parts : List UpMatch) (state : State) (place : ℕ) → IsFirstToMeet (part ∷ parts) state place
    → last_of (search_reports idle (part ∷ parts) state) ≡ Some (name_at state place ++ meets_all idle)
named_reported idle part parts state place h = last_reported idle part parts state ∙ ap (λ o. Some (found_report idle (part ∷ parts) state o)) (is_found (part ∷ parts) state place h)

pub none_reported : (idle : Bool) (part : UpMatch) (parts : List UpMatch) (state : State) → NoneMeets (part ∷ parts) state
    → (rest : Text) × (last_of (search_reports idle (part ∷ parts) state) ≡ Some (codes "no device meets " ++ rest))
none_reported idle part parts state h =
    (unmet (map (partial_report (part ∷ parts) state) (partly (part ∷ parts) state)), last_reported idle part parts state ∙ ap (λ o. Some (found_report idle (part ∷ parts) state o)) (none_is_found (part ∷ parts) state h))

falling_more : (n : ℕ) → 0 < n → falling n ≡ (n - 1) ∷ falling (n - 1)
falling_more zero h = absurd (omega arith)
falling_more (suc n) h = let e : n ≡ suc n - 1 = omega arith in ap (λ m. m ∷ falling m) e

-- one device more that meets some of the matches
pub one_reported : (parts : List UpMatch) (state : State) (texts : List Text) (n : ℕ) → 0 < n → list_any (holds_at state (n - 1)) parts ≡ true
    → (texts ++ partial_report parts state (n - 1) ∷ []) ++ map (partial_report parts state) (filter (λ place. list_any (holds_at state place) parts) (falling (n - 1)))
    ≡ texts ++ map (partial_report parts state) (filter (λ place. list_any (holds_at state place) parts) (falling n))
one_reported parts state texts n h some =
    let some_hold : ℕ → Bool = λ place. list_any (holds_at state place) parts in
    let rest = filter some_hold (falling (n - 1)) in
    append_assoc texts (partial_report parts state (n - 1) ∷ []) (map (partial_report parts state) rest)
    ∙ ap (λ ts. texts ++ ts)
    (sym (ap (λ ps. map (partial_report parts state) (filter some_hold ps)) (falling_more n h)
    ∙ ap (λ b. map (partial_report parts state) (cond b ((n - 1) ∷ rest) rest)) some))
