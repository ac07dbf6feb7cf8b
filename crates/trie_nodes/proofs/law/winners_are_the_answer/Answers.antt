use Rattle.std.proofs.Common.{List, sym, subst}
use Rattle.trie_nodes.specs.Winning.{IsAnswer}
use Rattle.trie_nodes.specs.declared.entry.Entry.{Entry}
use Rattle.trie_nodes.proofs.Counting.{winners_answer}
use Rattle.trie_nodes.proofs.Unique.{only_winners}
use Rattle.trie_nodes.proofs.law.winners_are_the_answer.Goals as goal

pub returns : goal.returns
returns c = λ entries modalias won.
    (only_winners entries modalias won, λ same. subst (λ (l : List Entry). IsAnswer entries modalias l) (sym same) (winners_answer entries modalias))
