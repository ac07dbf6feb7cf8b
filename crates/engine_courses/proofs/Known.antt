-- Texts of `--why` that ask for something, and the first that asks for nothing.
use Rattle.std.proofs.Common.{◌≡◌, ℕ, Bool, true, false, not, ◌||◌, cond, is_none, List, [], ◌∷◌, map, Option, Some, None, option_map, refl, ap, ◌∙◌}
use Rattle.std.specs.List.{find, list_any}
use Rattle.std.proofs.lemmas.List.Folds.{list_any-append}
use Rattle.file_messages.specs.declared.message.Message.{Message}
use Rattle.text_bytes.specs.Text.{Text}
use Rattle.rule_types.specs.Rules.{Rule}
use Rattle.engine_courses.specs.Asked.{asks, is_asked, is_known, places_of, unknown, unknown_line}

-- a test of what elements are made into
list_any_map : {X Y : Type 0} (p : Y → Bool) (f : X → Y) (xs : List X) → list_any (λ x. p (f x)) xs ≡ list_any p (map f xs)
list_any_map p f [] = refl
list_any_map p f (x ∷ xs) = ap (λ b. p (f x) || b) (list_any_map p f xs)

-- the first of what elements are made into
find_map : {X Y : Type 0} (p : Y → Bool) (f : X → Y) (xs : List X) → option_map f (find (λ x. p (f x)) xs) ≡ find p (map f xs)
find_map p f [] = refl
find_map p f (x ∷ xs) = by (p (f x)) (find_map p f xs)
  where
    by : (b : Bool) → option_map f (find (λ x. p (f x)) xs) ≡ find p (map f xs) → option_map f (cond b (Some x) (find (λ x. p (f x)) xs)) ≡ cond b (Some (f x)) (find p (map f xs))
    by true more = refl
    by false more = more

-- the same of an answer that is had of the elements
pub any_map : {X Y : Type 0} (p : Y → Bool) (f : X → Y) (xs : List X) (answer : Bool) → answer ≡ list_any (λ x. p (f x)) xs → answer ≡ list_any p (map f xs)
any_map p f xs answer is = is ∙ list_any_map p f xs

pub found_map : {X Y : Type 0} (p : Y → Bool) (f : X → Y) (xs : List X) (found : Option X) → found ≡ find (λ x. p (f x)) xs → option_map f found ≡ find p (map f xs)
found_map p f xs found is = ap (option_map f) is ∙ find_map p f xs

or_false : (b : Bool) → b ≡ (b || false)
or_false true = refl
or_false false = refl

one_asks : {X : Type 0} (text : Text) (file : X → Text) (line : X → ℕ) (xs : List X) → list_any (asks text) (map (λ x. (file x, line x)) xs) ≡ list_any (λ x. is_asked (text ∷ []) (file x) (line x)) xs
one_asks text file line [] = refl
one_asks text file line (x ∷ xs) =
    ap (λ b. b || list_any (asks text) (map (λ x. (file x, line x)) xs)) (or_false (asks text (file x, line x)))
    ∙ ap (λ b. is_asked (text ∷ []) (file x) (line x) || b) (one_asks text file line xs)

-- a text is unknown if it asks for no rule and for no message's place
pub known_is : (text : Text) (messages : List Message) (rules : List Rule)
    → is_none (unknown (text ∷ []) messages rules) ≡ (list_any (λ r. is_asked (text ∷ []) r.file r.line) rules || list_any (λ m. is_asked (text ∷ []) m.file m.line) messages)
unfolding unknown
known_is text messages rules =
    by (is_known (places_of messages rules) text)
    ∙ list_any-append (asks text) (map (λ r. (r.file, r.line)) rules) (map (λ m. (m.file, m.line)) messages)
    ∙ ap (λ b. b || list_any (asks text) (map (λ m. (m.file, m.line)) messages)) (one_asks text (λ r. r.file) (λ r. r.line) rules)
    ∙ ap (λ b. list_any (λ r. is_asked (text ∷ []) r.file r.line) rules || b) (one_asks text (λ m. m.file) (λ m. m.line) messages)
  where
    by : (k : Bool) → is_none (option_map (unknown_line (places_of messages rules)) (cond (not k) (Some text) None)) ≡ k
    by true = refl
    by false = refl

-- of several texts the first that is unknown is reported
pub first_is : (text : Text) (why : List Text) (messages : List Message) (rules : List Rule)
    → unknown (text ∷ why) messages rules ≡ cond (is_none (unknown (text ∷ []) messages rules)) (unknown why messages rules) (unknown (text ∷ []) messages rules)
unfolding unknown
first_is text why messages rules = by (is_known (places_of messages rules) text)
  where
    line : Option Text → Option Text
    line found = option_map (unknown_line (places_of messages rules)) found

    by : (k : Bool) → line (cond (not k) (Some text) (find (λ t. not (is_known (places_of messages rules) t)) why))
        ≡ cond (is_none (line (cond (not k) (Some text) None))) (line (find (λ t. not (is_known (places_of messages rules) t)) why)) (line (cond (not k) (Some text) None))
    by true = refl
    by false = refl
