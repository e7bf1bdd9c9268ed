-- What is true of a view is true of what it is taken apart into.
use Rattle.std.proofs.Common.{subst}
use Rattle.word_view.specs.Views.{IsFrom, IsView}
use Rattle.word_view.proofs.view.WordView.into_member.Goals as goal

pub returns-clause-is_view : goal.returns-clause-is_view
returns-clause-is_view g c = subst IsView c.self.view_is c.self.invariant.view

pub returns-clause-from : goal.returns-clause-from
returns-clause-from g c = subst (IsFrom g.K.Began.began) c.self.view_is c.self.invariant.from
