use Rattle.std.proofs.Common.{◌≡◌, None, ap, option_map, unwrap_or, ◌∙◌}
use Rattle.text_tables.specs.Pairs.{value_of}
use Rattle.text_tables.proofs.Held.{borrowed}
use Rattle.eval_sources.proofs.sources.Sources.get.Goals as goal

pub returns : goal.returns
returns c =
    let is : option_map (λ k. k.now) c.get.result ≡ value_of c.args.self.now c.args.name.now =
    rw (← c.self.view_is) (borrowed (λ k. k.items) (λ v. v) c.self.inside.held.entries c.args.name.now c.get.result c.get.ensures.value) in
    c.given.ensures ∙ ap (λ kept. unwrap_or kept None) is
