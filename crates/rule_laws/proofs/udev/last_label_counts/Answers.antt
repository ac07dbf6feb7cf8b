use Rattle.std.proofs.Common.{ap}
use Rattle.text_bytes.specs.declared.profile.Profile.TheVariants.{Udev}
use Rattle.rule_core.specs.Taking.{RuleNames}
use Rattle.rule_core.proofs.Taking.{one_more_name}
use Rattle.rule_laws.specs.Udev.{label_token}
use Rattle.rule_laws.proofs.udev.last_label_counts.Goals as goal

pub returns : goal.returns
returns c = λ line parts t name. record {
  counts = ap (λ (n : RuleNames). n.label) (one_more_name Udev parts (label_token t name));
  reported = ap (λ (n : RuleNames). n.findings) (one_more_name Udev parts (label_token t name));
}
