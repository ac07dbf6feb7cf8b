use Rattle.std.proofs.Common.{◌≡◌, ◌∙◌, ap, not, rules, take, tests}
use Rattle.std.proofs.lemmas.Iterator.{YieldsList-from_slice}
use Rattle.std.proofs.lemmas.Iterator.Consumers.{count_from_yields_List}
use Rattle.std.proofs.lemmas.Iterator.Search.{YieldsList-from_take_while}
use Rattle.std.proofs.lemmas.List.Folds.{length-prefix_len}
use Rattle.std.specs.List.{prefix_len}
use Rattle.text_core.specs.Fnmatch.{is_special}
use Rattle.rule_remarks.specs.Relations.{beginning}
use Rattle.rule_remarks.proofs.relations.beginning.Goals as goal

pub returns : goal.returns
unfolding beginning
returns c =
    let size : c.count-length.result ≡ prefix_len (λ b. not (is_special b)) c.args.word.now =
    count_from_yields_List _ c.count-length.result c.count-length.ensures.ran
    (YieldsList-from_take_while _ (λ b. not (is_special b)) (YieldsList-from_slice c.args.word.now (cc)) c.take_while.ensures.closure c.take_while.ensures.done (λ x b q k. search (rules, tests)))
    ∙ length-prefix_len (λ b. not (is_special b)) c.args.word.now in
    c.split_at.ensures.front ∙ ap (λ n. take n c.args.word.now) size
