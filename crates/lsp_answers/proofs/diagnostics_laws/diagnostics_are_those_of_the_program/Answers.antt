use Rattle.lsp_answers.proofs.Alike.{ReportedAlike, database_document, rules_document}
use Rattle.lsp_answers.proofs.diagnostics_laws.diagnostics_are_those_of_the_program.Goals as goal

pub returns-clause-rules : goal.returns-clause-rules
returns-clause-rules c line encoding settings uri text is like opened =
    let law : ReportedAlike = record {
      rules = c.a_file_by_itself_is_reported_alike.ensures.rules;
      database = c.a_file_by_itself_is_reported_alike.ensures.database;
    } in
    rules_document law line encoding settings uri text is like opened

pub returns-clause-database : goal.returns-clause-database
returns-clause-database c line encoding settings uri text is like opened few =
    let law : ReportedAlike = record {
      rules = c.a_file_by_itself_is_reported_alike.ensures.rules;
      database = c.a_file_by_itself_is_reported_alike.ensures.database;
    } in
    database_document law line encoding settings uri text is like opened few
