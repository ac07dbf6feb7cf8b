use Rattle.std.proofs.Common.{◌≡◌, ℕ, List, ◌++◌, take, flat_map, sym, ◌∙◌, ap, arith}
use Rattle.std.proofs.lemmas.List.{take_all}
use Rattle.std.specs.Borrow.{Bor}
use Rattle.trie_build.proofs.Parts.{flat_mapped}
use Rattle.trie_build.proofs.texts.push_all.Goals as goal

pub returns : goal.returns
returns c =
    let texts : List (Bor (List ℕ)) = c.args.texts.now in
    let all : take c.loop-text.text-index texts ≡ texts = take_all c.loop-text.text-index texts (omega arith) in
    c.loop-text.invariant ∙ ap (λ l. c.args.out.now.items ++ flat_map (λ (t : Bor (List ℕ)). t.now) l) all
    ∙ ap (λ l. c.args.out.now.items ++ l) (sym (flat_mapped (λ (t : List ℕ). t) (λ (t : Bor (List ℕ)). t.now) texts))
