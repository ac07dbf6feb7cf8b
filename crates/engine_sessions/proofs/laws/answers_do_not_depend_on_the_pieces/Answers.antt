use Rattle.engine_sessions.specs.Sessions.{answer_of}
use Rattle.engine_sessions.proofs.LawLemmas.{give_answers, give_all, give_until, give_until_end}
use Rattle.engine_sessions.proofs.laws.answers_do_not_depend_on_the_pieces.Goals as goal

pub returns : goal.returns
returns g c = record {
  takes = λ answering calls now h. give_answers (answer_of g.A.Answering.answers answering) answering calls now h;
  end = λ answering calls now last answer h e. give_all (answer_of g.A.Answering.answers answering) answering calls now last answer h e;
  faulty_take = λ answering calls now last piece later number fault h f. give_until (answer_of g.A.Answering.answers answering) answering calls now last piece later number fault h f;
  faulty_end = λ answering calls now last number fault h f. give_until_end (answer_of g.A.Answering.answers answering) answering calls now last number fault h f;
}
