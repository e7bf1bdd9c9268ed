-- There are few loaders, and each one was asked.
use Rattle.std.proofs.Common.{is_some, refl, sym, ap, ◌∙◌, arith}
use Rattle.std.proofs.lemmas.Bool.{false≢true}
use Rattle.write_permit.specs.Book.{shown}
use Rattle.write_permit.proofs.Entered.{many_loaders}
use Rattle.write_permit.proofs.Over.{none_is, over_by, over_more}
use Rattle.write_permit.proofs.steps.all_done.Goals as goal

pub overflow_cast-loader : goal.overflow_cast-loader
overflow_cast-loader c = omega (arith, c.loop-who-test.true, many_loaders (shown c.args.book.now) c.requires.permit, c.requires.permit.script.few_loaders)

pub has_next-requires : goal.has_next-requires
has_next-requires c = many_loaders (shown c.args.book.now) c.requires.permit

pub loop-who-init : goal.loop-who-init
loop-who-init c = λ k less. absurd (omega (arith, less))

pub loop-who-preserved : goal.loop-who-preserved
loop-who-preserved c = over_more (shown c.args.book.now) c.loop-who.who c.loop-who.invariant (none_is _ (sym c.has_next.ensures ∙ c.if-has_next.false))

pub returns-then-has_next : goal.returns-then-has_next
returns-then-has_next c = (λ e. absurd (false≢true e), λ over. sym (ap is_some (over c.loop-who.who)) ∙ sym c.has_next.ensures ∙ c.if-has_next.true)

pub returns : goal.returns
returns c = (λ e. over_by (shown c.args.book.now) c.loop-who.who (omega (arith, c.loop-who-test.false, many_loaders (shown c.args.book.now) c.requires.permit)) c.loop-who.invariant, λ over. refl)
