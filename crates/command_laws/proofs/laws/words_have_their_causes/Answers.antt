use Rattle.command_laws.proofs.WordLaws.{GetWords-law, PutWords-law, CompareWords-law, QueryWords-law, ResponseWords-law, InternalWords-law}
use Rattle.command_laws.proofs.ListedWords.{RefusalsAreListed-law, AnswersAreListed-law}
use Rattle.command_laws.proofs.NoData.{RefusalsHaveNoData-law}
use Rattle.command_laws.proofs.laws.words_have_their_causes.Goals as goal

pub returns-clause-get : goal.returns-clause-get
returns-clause-get c = GetWords-law

pub returns-clause-put : goal.returns-clause-put
returns-clause-put c = PutWords-law

pub returns-clause-compare : goal.returns-clause-compare
returns-clause-compare c = CompareWords-law

pub returns-clause-query : goal.returns-clause-query
returns-clause-query c = QueryWords-law

pub returns-clause-response : goal.returns-clause-response
returns-clause-response c = ResponseWords-law

pub returns-clause-internal : goal.returns-clause-internal
returns-clause-internal c = InternalWords-law

pub returns-clause-refusals : goal.returns-clause-refusals
returns-clause-refusals c = RefusalsAreListed-law

pub returns-clause-listed : goal.returns-clause-listed
returns-clause-listed c = AnswersAreListed-law

pub returns-clause-no_data : goal.returns-clause-no_data
returns-clause-no_data c = RefusalsHaveNoData-law
