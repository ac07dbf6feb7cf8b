use Rattle.eval_laws.proofs.Setting.{attribute_is, extended_is, first_is, label_is, links_set, name_set, parameter_is, property_is, tags_set}
use Rattle.eval_laws.proofs.changes.each_key_changes_what_it_names.Goals as goal

pub returns-clause-links : goal.returns-clause-links
returns-clause-links c = links_set

pub returns-clause-tags : goal.returns-clause-tags
returns-clause-tags c = tags_set

pub returns-clause-name : goal.returns-clause-name
returns-clause-name c = name_set

pub returns-clause-property : goal.returns-clause-property
returns-clause-property c = property_is

pub returns-clause-first : goal.returns-clause-first
returns-clause-first c = first_is

pub returns-clause-extended : goal.returns-clause-extended
returns-clause-extended c = extended_is

pub returns-clause-attribute : goal.returns-clause-attribute
returns-clause-attribute c = attribute_is

pub returns-clause-parameter : goal.returns-clause-parameter
returns-clause-parameter c = parameter_is

pub returns-clause-label : goal.returns-clause-label
returns-clause-label c = label_is
