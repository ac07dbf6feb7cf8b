use Rattle.std.proofs.Common.{Bor, List, ℕ, ap, ◌∙◌}
use Rattle.std.specs.List.{list_any}
use Rattle.devdry_links.specs.Lying.{may_ask}
use Rattle.text_bytes.proofs.Seen.{any_seen}
use Rattle.devdry_links.proofs.lying.is_asked.Goals as goal

pub returns : goal.returns
returns c =
    c.may_one_ask.ensures
    ∙ ap (list_any (λ (text : Bor (List ℕ)). may_ask text.now c.args.name.now)) c.deref.ensures.value
    ∙ any_seen (λ text. may_ask text c.args.name.now) (λ (text : Bor (List ℕ)). text.now) c.args.line.now.why.items
