-- What is not refused meets no reason for it.
use Rattle.std.proofs.Common.{◌≡◌, ◌⊎◌, inl, inr, Bool, true, false, ◌&&◌, ◌||◌, cond, List, [], ◌∷◌, Some, None, is_some, codes, refl, true≢false}
use Rattle.std.specs.List.{AllByRecursion}
use Rattle.clap.specs.Words.{Row, Text, first_of}
use Rattle.devdry_words.specs.Refusals.{first_met, reasons, refusal_of}
use Rattle.devdry_words.specs.Values.{has_value, is_set}
use Rattle.devdry_words.specs.declared.refusals.Refusal.{Refusal}

pub none_met : (found : List (Bool × Refusal)) → first_met found ≡ None → AllByRecursion (λ reason. reason.0 ≡ false) found
none_met [] h = tt
none_met (reason ∷ others) h = by reason.0 refl (none_met others) h
  where
    by : (b : Bool) → reason.0 ≡ b → (first_met others ≡ None → AllByRecursion (λ other. other.0 ≡ false) others) → cond b (Some reason.1) (first_met others) ≡ None
        → AllByRecursion (λ other. other.0 ≡ false) (reason ∷ others)
    by true e rest none = absurd (cc)
    by false e rest none = (e, rest none)

-- one of several beside a first one
second_of : (first a second b : Bool) → (first && (a || (second || b))) ≡ false → (first && second) ≡ false
second_of false a second b h = refl
second_of true true second b h = absurd (true≢false h)
second_of true false true b h = absurd (true≢false h)
second_of true false false b h = refl

third_of : (first a b third c : Bool) → (first && (a || (b || (third || c)))) ≡ false → (first && third) ≡ false
third_of false a b third c h = refl
third_of true true b third c h = absurd (true≢false h)
third_of true false true third c h = absurd (true≢false h)
third_of true false false true c h = absurd (true≢false h)
third_of true false false false c h = refl

first_of_two : (first one other : Bool) → (first && (one || other)) ≡ false → (first && one) ≡ false
first_of_two false one other h = refl
first_of_two true true other h = absurd (true≢false h)
first_of_two true false other h = refl

last_of_three : (first a b last : Bool) → (first && (a || (b || last))) ≡ false → (first && last) ≡ false
last_of_three false a b last h = refl
last_of_three true true b last h = absurd (true≢false h)
last_of_three true false true last h = absurd (true≢false h)
last_of_three true false false last h = h

pub links_alone : (name other : Text) (rows : List Row) → refusal_of name rows ≡ None → (other ≡ codes "udev") ⊎ (other ≡ codes "strict") → (is_set (codes "links") rows && is_set other rows) ≡ false
links_alone name other rows h (inl e) =
    let all = none_met (reasons name rows) h in
    rw e (second_of (is_set (codes "links") rows) (has_value (codes "with") rows) (is_set (codes "udev") rows)
    (is_set (codes "strict") rows || (is_some (first_of (codes "users") rows) || is_some (first_of (codes "groups") rows))) all.1.0)
links_alone name other rows h (inr e) =
    let all = none_met (reasons name rows) h in
    rw e (third_of (is_set (codes "links") rows) (has_value (codes "with") rows) (is_set (codes "udev") rows) (is_set (codes "strict") rows)
    (is_some (first_of (codes "users") rows) || is_some (first_of (codes "groups") rows)) all.1.0)

pub questions_alone : (name other : Text) (rows : List Row) → refusal_of name rows ≡ None → (other ≡ codes "sources") ⊎ (other ≡ codes "unused") → (is_set (codes "questions") rows && is_set other rows) ≡ false
questions_alone name other rows h (inl e) =
    let all = none_met (reasons name rows) h in
    rw e (first_of_two (is_set (codes "questions") rows) (is_set (codes "sources") rows) (has_value (codes "why") rows || is_set (codes "unused") rows) all.1.1.1.1.0)
questions_alone name other rows h (inr e) =
    let all = none_met (reasons name rows) h in
    rw e (last_of_three (is_set (codes "questions") rows) (is_set (codes "sources") rows) (has_value (codes "why") rows) (is_set (codes "unused") rows) all.1.1.1.1.0)

pub added_alone : (name : Text) (rows : List Row) → refusal_of name rows ≡ None → (has_value (codes "with") rows && has_value (codes "FILE") rows) ≡ false
added_alone name rows h = (none_met (reasons name rows) h).1.1.0
