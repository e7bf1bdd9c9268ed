use Rattle.area_core.proofs.TermTests.{terms_stand_true, terms_stand_back}
use Rattle.area_core.proofs.laws.term_tables_are_decided.Goals as goal

-- each bucket that a look reaches is one that the test goes through
pub returns : goal.returns
returns c = λ block p. (terms_stand_true block p, terms_stand_back block p)
