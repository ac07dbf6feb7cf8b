use Rattle.std.proofs.Common.{rules, tests, ◌≡◌, ◌||◌, Bool, ap, ap₂, ◌∙◌}
use Rattle.std.proofs.lemmas.Iterator.{YieldsList-from_slice}
use Rattle.std.proofs.lemmas.Iterator.Search.{any_from_yields_List}
use Rattle.std.specs.List.{list_any}
use Rattle.rule_types.specs.declared.part.Assignment.{Assignment}
use Rattle.rule_types.specs.declared.part.UpMatch.{UpMatch}
use Rattle.eval_unread.specs.Others.{change_asks, up_asks}
use Rattle.eval_unread.proofs.others.rule_asks.Goals as goal

pub returns : goal.returns
returns c =
    let ups : c.deref.result.now ≡ c.args.rule.now.up = search rules in
    let sets : c.deref-2.result.now ≡ c.args.rule.now.sets = search rules in
    let search_asks : UpMatch → Bool = λ part. up_asks part.key in
    let set_asks : Assignment → Bool = λ a. change_asks a.change in
    ap₂ (λ (a b : Bool). a || b)
    (any_from_yields_List search_asks _ _ _ c.any-searches.ensures.ran (YieldsList-from_slice c.deref.result.now c.iter.ensures.rest) (λ x b q k. search (rules, tests)) ∙ ap (list_any search_asks) ups)
    (any_from_yields_List set_asks _ _ _ c.any-assigns.ensures.ran (YieldsList-from_slice c.deref-2.result.now c.iter-2.ensures.rest) (λ x b q k. search (rules, tests)) ∙ ap (list_any set_asks) sets)
