use Rattle.connection_laws.proofs.Challenges.{ChallengesFollowRequests-law, WitnessesFollowRequests-law, MutualsAnswerWitnesses-law}
use Rattle.connection_laws.proofs.laws.challenges_are_answered_once.Goals as goal

pub returns-clause-challenges : goal.returns-clause-challenges
returns-clause-challenges c = ChallengesFollowRequests-law

pub returns-clause-witnesses : goal.returns-clause-witnesses
returns-clause-witnesses c = WitnessesFollowRequests-law

pub returns-clause-mutuals : goal.returns-clause-mutuals
returns-clause-mutuals c = MutualsAnswerWitnesses-law
