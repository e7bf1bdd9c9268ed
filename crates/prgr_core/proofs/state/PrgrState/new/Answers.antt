use Rattle.prgr_core.proofs.Opening.{opened_sound}
use Rattle.prgr_core.proofs.state.PrgrState.new.Goals as goal

-- the opening state is sound
pub invariant_of-result : goal.invariant_of-result
invariant_of-result c = opened_sound c.args.members c.args.watchers c.requires.few c.requires.watched c.in_ok-members.members c.in_ok-watchers.watchers _ _ c.in_ok-members.ensures c.in_ok-watchers.ensures c.new.ensures c.new-2.ensures

pub returns-clause-sound : goal.returns-clause-sound
returns-clause-sound c = opened_sound c.args.members c.args.watchers c.requires.few c.requires.watched c.in_ok-members.members c.in_ok-watchers.watchers _ _ c.in_ok-members.ensures c.in_ok-watchers.ensures c.new.ensures c.new-2.ensures
