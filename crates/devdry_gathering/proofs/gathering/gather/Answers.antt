use Rattle.std.proofs.Common.{inl, inr}
use Rattle.std.proofs.lemmas.Result.{IfErr-weaker, IfOk-weaker}
use Rattle.devdry_gathering.proofs.gathering.gather.Goals as goal

pub returns-in-Ok-clause-gathered : goal.returns-in-Ok-clause-gathered
returns-in-Ok-clause-gathered g c = IfOk-weaker c.gather_request.result _ _
    (λ gathered h. inl (record { request = c.in-Ok.request; is_request = c.in-Ok.ensures.request; faultless = c.in-Ok.ensures.faultless; gathers = h }))
    c.gather_request.ensures.gathered

pub returns-in-Ok-clause-refused : goal.returns-in-Ok-clause-refused
returns-in-Ok-clause-refused g c = IfErr-weaker c.gather_request.result _ _ (λ _ left. elim left [
  | inl same ↦ inl same
  | inr p ↦ inr (c.in-Ok.request, c.in-Ok.ensures.request, p.0, p.1, p.2)
]) c.gather_request.ensures.refused
