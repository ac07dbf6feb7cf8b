-- What the descriptors of a text are, by its first byte.
use Rattle.std.proofs.Common.{◌≡◌, ℕ, ◌-◌, ◌<◌, ◌≤◌, zero, suc, Bool, true, false, List, [], ◌∷◌, ◌++◌, Option, None, Some, length, drop, get_or}
use Rattle.std.proofs.Common.{refl, ap, sym, ◌∙◌, append_assoc, append-nil, arith}
use Rattle.std.proofs.lemmas.Bool.Decides.{nat_tests}
use Rattle.std.specs.List.{cons_option, filter_map}
use Rattle.std.specs.Option.{option_to_list}
use Rattle.builtin_usb.specs.Interfaces.{Descriptors, descriptors, ending, interface_of, prepended}
use Rattle.builtin_usb.specs.declared.interfaces.Interface.{Interface}

-- bytes that are skipped are left out
pub skipped : (longest n : ℕ) (text : List ℕ) → descriptors longest n text ≡ descriptors longest 0 (drop n text)
skipped longest zero [] = refl
skipped longest (suc n) [] = refl
skipped longest zero (b ∷ text) = refl
skipped longest (suc n) (b ∷ text) = skipped longest n text

-- nine bytes or fewer hold no descriptor
pub none_left : (longest : ℕ) (text : List ℕ) → length text ≤ 9 → descriptors longest 0 text ≡ ending true
none_left longest [] few = refl
none_left longest (b ∷ text) few = grind (arith, nat_tests)

-- a length below three ends them
pub too_short : (longest : ℕ) (text : List ℕ) → get_or text 0 0 < 3 → descriptors longest 0 text ≡ ending true
too_short longest [] short = refl
too_short longest (b ∷ text) short = grind (arith, nat_tests)

-- a length over the longest ends them badly
pub too_long : (longest : ℕ) (text : List ℕ) → 9 < length text → 3 ≤ get_or text 0 0 → longest < get_or text 0 0 → descriptors longest 0 text ≡ ending false
too_long longest [] more some long = grind arith
too_long longest (b ∷ text) more some long = grind (arith, nat_tests)

-- another length leads to the next
pub next : (longest : ℕ) (text : List ℕ) → 9 < length text → 3 ≤ get_or text 0 0 → get_or text 0 0 ≤ longest
    → descriptors longest 0 text ≡ prepended text (descriptors longest 0 (drop (get_or text 0 0) text))
next longest [] more some fits = grind arith
next longest (zero ∷ text) more some fits = grind arith
next longest (suc b ∷ text) more some fits =
    let here : descriptors longest 0 (suc b ∷ text) ≡ prepended (suc b ∷ text) (descriptors longest (suc b - 1) text) = grind (arith, nat_tests) in
    let one : suc b - 1 ≡ b = omega arith in
    here ∙ ap (λ (n : ℕ). prepended (suc b ∷ text) (descriptors longest n text)) one ∙ ap (prepended (suc b ∷ text)) (skipped longest b text)

-- an element in front, if there is one
pub consed : {X : Type 0} (o : Option X) (xs : List X) → cons_option o xs ≡ option_to_list o ++ xs
consed None xs = refl
consed (Some x) xs = refl

-- the interfaces of what is left, and of what is left after the first descriptor
pub reported_first : (longest : ℕ) (text left : List ℕ) (held new whole : List Interface) → 9 < length text → 3 ≤ get_or text 0 0 → get_or text 0 0 ≤ longest
    → left ≡ drop (get_or text 0 0) text → new ≡ held ++ option_to_list (interface_of text)
    → held ++ filter_map interface_of (descriptors longest 0 text).from ≡ whole → new ++ filter_map interface_of (descriptors longest 0 left).from ≡ whole
reported_first longest text left held new whole more some fits cut e due =
    let described : List ℕ → List Interface = λ rest. filter_map interface_of (descriptors longest 0 rest).from in
    let one : List Interface = option_to_list (interface_of text) in
    let first : described text ≡ one ++ described (drop (get_or text 0 0) text) =
    ap (λ (d : Descriptors). filter_map interface_of d.from) (next longest text more some fits)
    ∙ consed (interface_of text) (described (drop (get_or text 0 0) text)) in
    let same : described text ≡ one ++ described left = first ∙ ap (λ (rest : List ℕ). one ++ described rest) (sym cut) in
    ap (λ (l : List Interface). l ++ described left) e ∙ append_assoc held one (described left) ∙ ap (λ (l : List Interface). held ++ l) (sym same) ∙ due

-- how what is left ends, and what is left after the first descriptor
pub ends_alike : (longest : ℕ) (text left : List ℕ) (whole : Bool) → 9 < length text → 3 ≤ get_or text 0 0 → get_or text 0 0 ≤ longest
    → left ≡ drop (get_or text 0 0) text → (descriptors longest 0 text).is_closed ≡ whole → (descriptors longest 0 left).is_closed ≡ whole
ends_alike longest text left whole more some fits cut due =
    ap (λ (rest : List ℕ). (descriptors longest 0 rest).is_closed) cut ∙ sym (ap (λ (d : Descriptors). d.is_closed) (next longest text more some fits)) ∙ due

-- if no descriptor counts, all interfaces are reported, and they end as `is_closed` says
pub all_reported : (longest : ℕ) (text : List ℕ) (held whole : List Interface) (is_closed : Bool) → descriptors longest 0 text ≡ ending is_closed
    → held ++ filter_map interface_of (descriptors longest 0 text).from ≡ whole → held ≡ whole
all_reported longest text held whole is_closed ends due =
    sym (append-nil held) ∙ ap (λ (d : Descriptors). held ++ filter_map interface_of d.from) (sym ends) ∙ due
