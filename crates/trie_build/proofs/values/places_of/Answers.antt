use Rattle.std.proofs.Common.{◌≡◌, ℕ, ◌+◌, ◌<◌, ◌++◌, ◌∷◌, [], List, length, take, map, get_or, sym, ◌∙◌, ap, arith}
use Rattle.std.specs.Borrow.{Bor}
use Rattle.std.specs.List.{range_with_len}
use Rattle.trie_build.specs.Image.{all_names}
use Rattle.trie_build.specs.Content.{shown}
use Rattle.trie_build.proofs.Parts.{mapped_more}
use Rattle.trie_build.proofs.Placing.{length_shown, name_within, names_more, text_at}
use Rattle.trie_build.proofs.values.places_of.Goals as goal

abbrev no_text : Bor (List ℕ)
no_text = record { ref_ptr = (0, 0); now = [] }

pub overflow_cast-place : goal.overflow_cast-place
overflow_cast-place c =
    let names : List (List ℕ) = shown c.args.names.now in
    let k : ℕ = c.loop-k.k in
    let inside : k < length names = omega (arith, length_shown c.args.names.now) in
    let own : length (get_or names k []) ≡ length (get_or c.args.names.now k no_text).now = ap length (text_at c.args.names.now k no_text) in
    omega (arith, own, name_within names k inside, c.requires)

pub overflow_add-place : goal.overflow_add-place
overflow_add-place c =
    let names : List (List ℕ) = shown c.args.names.now in
    let k : ℕ = c.loop-k.k in
    let inside : k < length names = omega (arith, length_shown c.args.names.now) in
    let own : length (get_or names k []) ≡ length (get_or c.args.names.now k no_text).now = ap length (text_at c.args.names.now k no_text) in
    omega (arith, own, name_within names k inside, c.requires, c.loop-k.invariant.place)

pub loop-k-preserved : goal.loop-k-preserved
loop-k-preserved c =
    let names : List (List ℕ) = shown c.args.names.now in
    let k : ℕ = c.loop-k.k in
    let from : ℕ = c.args.from in
    let at : ℕ → ℕ = λ i. from + length (all_names (take i names)) in
    let inside : k < length names = omega (arith, length_shown c.args.names.now) in
    let own : length (get_or names k []) ≡ length (get_or c.args.names.now k no_text).now = ap length (text_at c.args.names.now k no_text) in
    record {
      places = c.in_ok-push.ensures.items ∙ ap (λ l. l ++ c.loop-k.place ∷ []) c.loop-k.invariant.places ∙ ap (λ n. map at (range_with_len 0 k) ++ n ∷ []) c.loop-k.invariant.place ∙ sym (mapped_more at k);
      place = omega (arith, own, names_more names k inside, c.loop-k.invariant.place);
    }

pub returns : goal.returns
returns c =
    let names : List (List ℕ) = shown c.args.names.now in
    let at : ℕ → ℕ = λ i. c.args.from + length (all_names (take i names)) in
    let last : c.loop-k.k ≡ length c.args.names.now = omega arith in
    c.in_ok-push-2.ensures.items ∙ ap (λ l. l ++ c.loop-k.place ∷ []) c.loop-k.invariant.places ∙ ap (λ n. map at (range_with_len 0 c.loop-k.k) ++ n ∷ []) c.loop-k.invariant.place
    ∙ sym (mapped_more at c.loop-k.k) ∙ ap (λ k. map at (range_with_len 0 (k + 1))) last
