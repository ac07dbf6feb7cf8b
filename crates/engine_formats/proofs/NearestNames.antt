-- The nearest name is one of the names, it is near, and none of them is nearer.
use Rattle.std.proofs.Common.{◌≡◌, ℕ, ◌<◌, ◌≤◌, Bool, true, false, cond, nat_le, List, [], ◌∷◌, Option, Some, None, IfSome, min, refl, ap, sym, ◌∙◌, arith, subst}
use Rattle.std.specs.List.{All, AllByRecursion, find}
use Rattle.std.proofs.Math.Nat.{min-eq_left, min-eq_right, min-le_left, min-le_right}
use Rattle.std.proofs.lemmas.Bool.{leb-false, leb-true}
use Rattle.std.proofs.lemmas.List.Elements.{All-from_recursion}
use Rattle.text_bytes.specs.Text.{Text}
use Rattle.text_tables.specs.Texts.{is_among}
use Rattle.engine_formats.specs.Near.{distance, farthest, nearest, reach}

-- as far as names may be is no farther than was said
reach_below : (most : ℕ) (names : List Text) (word : Text) → reach most names word ≤ most
reach_below most [] word = let same : most ≤ most = omega arith in same
reach_below most (name ∷ names) word =
    let rest = reach_below (min most (distance name word)) names word in
    let first = min-le_left most (distance name word) in
    let both : reach (min most (distance name word)) names word ≤ most = omega (arith, rest, first) in
    both

-- and no name is nearer
reach_nearest : (most : ℕ) (names : List Text) (word : Text) → AllByRecursion (λ name. reach most names word ≤ distance name word) names
reach_nearest most [] word = tt
reach_nearest most (name ∷ names) word =
    let rest = reach_below (min most (distance name word)) names word in
    let first = min-le_right most (distance name word) in
    let both : reach (min most (distance name word)) names word ≤ distance name word = omega (arith, rest, first) in
    (both, reach_nearest (min most (distance name word)) names word)

at_left : (a b : ℕ) → min a b < b → (t : Bool) → nat_le a b ≡ t → min a b ≡ a
at_left a b h true e = min-eq_left (leb-true a b e)
at_left a b h false e =
    let over = leb-false a b e in
    let under : b ≤ a = omega (arith, over) in
    let same : min a b ≡ b = min-eq_right under in
    absurd (omega (arith, h, same))

-- if all names are farther, it is what was said
reach_stays : (most : ℕ) (names : List Text) (word : Text) → AllByRecursion (λ name. reach most names word < distance name word) names → reach most names word ≡ most
reach_stays most [] word h = refl
reach_stays most (name ∷ names) word h =
    let rest : reach (min most (distance name word)) names word ≡ min most (distance name word) = reach_stays (min most (distance name word)) names word h.1 in
    let less : min most (distance name word) < distance name word = subst (λ (n : ℕ). n < distance name word) rest h.0 in
    rest ∙ at_left most (distance name word) less (nat_le most (distance name word)) refl

-- what passes a test is found, and has what follows from passing
one_given : (P : Text → Type 0) (test : Text → Bool) (name : Text) (found : Option Text) (b : Bool) → test name ≡ b → (test name ≡ true → P name) → IfSome found P
    → IfSome (cond b (Some name) found) P
one_given P test name found true e h rest = h e
one_given P test name found false e h rest = rest

found_gives : (P : Text → Type 0) (test : Text → Bool) (names : List Text) → ((name : Text) → test name ≡ true → P name) → IfSome (find test names) P
found_gives P test [] h = tt
found_gives P test (name ∷ names) h = one_given P test name (find test names) (test name) refl (h name) (found_gives P test names h)

-- what is found is one of the names
one_among : (P : Text → Type 0) (b : Bool) (name : Text) (found : Option Text) → P name → IfSome found P → IfSome (cond b (Some name) found) P
one_among P true name found p h = p
one_among P false name found p h = h

found_among : (P : Text → Type 0) (test : Text → Bool) (names : List Text) → AllByRecursion P names → IfSome (find test names) P
found_among P test [] h = tt
found_among P test (name ∷ names) h = one_among P (test name) name (find test names) h.0 (found_among P test names h.1)

-- if nothing is found, nothing passes
none_before : (test : Text → Bool) (name : Text) (names : List Text) (b : Bool) → test name ≡ b
    → (find test names ≡ None → AllByRecursion (λ n. test n ≡ false) names) → cond b (Some name) (find test names) ≡ None
    → (test name ≡ false) × AllByRecursion (λ n. test n ≡ false) names
none_before test name names true e rest h = absurd (cc)
none_before test name names false e rest h = (e, rest h)

none_passes : (test : Text → Bool) (names : List Text) → find test names ≡ None → AllByRecursion (λ name. test name ≡ false) names
none_passes test [] h = tt
none_passes test (name ∷ names) h = none_before test name names (test name) refl (none_passes test names) h

unless : (P : Text → Type 0) (b : Bool) (found : Option Text) → IfSome found P → IfSome (cond b None found) P
unless P true found h = tt
unless P false found h = h

-- a distance that is no greater than the least is no greater than any
no_greater : (d least : ℕ) (names : List Text) (word : Text) → d ≤ least → AllByRecursion (λ other. least ≤ distance other word) names
    → AllByRecursion (λ other. d ≤ distance other word) names
no_greater d least [] word h all = tt
no_greater d least (name ∷ names) word h all = (omega (arith, h, all.0), no_greater d least names word h all.1)

-- what does not pass is farther than the least
farther : (least : ℕ) (names : List Text) (word : Text) → AllByRecursion (λ name. nat_le (distance name word) least ≡ false) names
    → AllByRecursion (λ name. least < distance name word) names
farther least [] word all = tt
farther least (name ∷ names) word all = (leb-false (distance name word) least all.0, farther least names word all.1)

abbrev test_of : List Text → Text → Text → Bool
test_of names word name = nat_le (distance name word) (reach (farthest word) names word)

pub nearest_one : (P : Text → Type 0) (names : List Text) (word : Text) → AllByRecursion P names → IfSome (nearest names word) P
unfolding nearest
nearest_one P names word h =
    unless P (is_among names word) (find (test_of names word) names) (found_among P (test_of names word) names h)

pub nearest_near : (names : List Text) (word : Text) → IfSome (nearest names word) (λ name. distance name word ≤ farthest word)
unfolding nearest
nearest_near names word =
    unless (λ name. distance name word ≤ farthest word) (is_among names word) (find (test_of names word) names)
    (found_gives (λ name. distance name word ≤ farthest word) (test_of names word) names (λ name e.
    let within = leb-true (distance name word) (reach (farthest word) names word) e in
    let below = reach_below (farthest word) names word in
    omega (arith, within, below)))

pub least_of_all : (names : List Text) (word : Text) → IfSome (nearest names word) (λ name. All (λ other. distance name word ≤ distance other word) names)
unfolding nearest
least_of_all names word =
    unless (λ name. All (λ other. distance name word ≤ distance other word) names) (is_among names word) (find (test_of names word) names)
    (found_gives (λ name. All (λ other. distance name word ≤ distance other word) names) (test_of names word) names (λ name e.
    All-from_recursion (λ other. distance name word ≤ distance other word) names (no_greater (distance name word) (reach (farthest word) names word) names word
    (leb-true (distance name word) (reach (farthest word) names word) e) (reach_nearest (farthest word) names word))))

pub nearest_known : (names : List Text) (word : Text) → is_among names word ≡ true → nearest names word ≡ None
unfolding nearest
nearest_known names word h = rw h refl

pub nearest_far : (names : List Text) (word : Text) → is_among names word ≡ false → nearest names word ≡ None
    → AllByRecursion (λ name. farthest word < distance name word) names
unfolding nearest
nearest_far names word h none =
    let unfound : find (test_of names word) names ≡ None = sym (ap (λ b. cond b None (find (test_of names word) names)) h) ∙ none in
    let all = farther (reach (farthest word) names word) names word (none_passes (test_of names word) names unfound) in
    subst (λ least. AllByRecursion (λ name. least < distance name word) names) (reach_stays (farthest word) names word all) all
