use Rattle.std.proofs.Common.{◌≡◌, ◌<◌, ℕ, false, true, refl, sym, subst, ne_eqb}
use Rattle.prgr_core.specs.declared.member.TheConstants.{WAITING}
use Rattle.prgr_core.specs.Members as members
use Rattle.shared_words.specs.declared.view.MemberView.{MemberView}
use Rattle.shared_words.specs.Kinds.{MayScan}
use Rattle.progress_words.specs.Tokens.{view_of}
use Rattle.progress_words.proofs.Scanning.{waits_done, confirmed_done, below_next, one_behind, one_more}
use Rattle.progress_words.proofs.Raising.{may_scan}
use Rattle.progress_words.proofs.advances.first_behind.Goals.{else-confirmed-via-then-confirmed+else-confirmed-counter, else-confirmed-via-else-confirmed}
use Rattle.progress_words.proofs.advances.first_behind.Goals as goal

-- the leader may look at the word of each member
pub load_confirmed-confirmed-requires-clause-may :
    goal.load_confirmed-confirmed-requires-clause-may
load_confirmed-confirmed-requires-clause-may g c =
    let h = c.loop-other.invariant in
    let key = c.args.shared.now.table.shared.key in
    let there : c.loop-other.other < key.members = subst (λ (n : ℕ). c.loop-other.other < n) c.members-other-end.ensures.members c.loop-other-test.true in
    subst (λ (m : MemberView). MayScan key c.loop-other.other m) (sym h.view) (may_scan key c.args.counter c.loop-other.other (view_of c.args.member.now) h.words c.requires.leads there)

-- the first that is behind
pub returns-then-confirmed-counter-clause-found : goal.returns-then-confirmed-counter-clause-found
returns-then-confirmed-counter-clause-found g c =
    let key = c.args.shared.now.table.shared.key in
    let h = c.loop-other.invariant in
    let load = c.load_confirmed-confirmed in
    let there : c.loop-other.other < key.members = subst (λ (n : ℕ). c.loop-other.other < n) c.members-other-end.ensures.members c.loop-other-test.true in
    let awake : members.is_waiting load.result ≡ false = ne_eqb load.result WAITING c.if-confirmed.true in
    let below = below_next c.args.shared.now.table.shared.table_id c.args.counter c.args.member.now c.loop-other.member load.new.member c.loop-other.other load.result h load.ensures.token load.ensures.number load.ensures.anchors load.ensures.view c.requires.leads awake load.ensures.near c.if-confirmed-counter.true in
    one_behind c.args.shared.now.table.shared.table_id c.args.counter c.args.member.now c.loop-other.member load.new.member c.loop-other.other load.result h load.ensures.token load.ensures.number load.ensures.anchors load.ensures.view key.members (record { member = c.loop-other.other; confirmed = load.result }) refl refl there awake below

-- one more is done
pub loop-other-preserved : goal.loop-other-preserved
loop-other-preserved g c =
    let load = c.load_confirmed-confirmed in
    let done : members.is_done c.args.counter load.result ≡ true = elim c.else-confirmed.branch as (λ _. members.is_done c.args.counter load.result ≡ true) [
      | else-confirmed-via-then-confirmed+else-confirmed-counter w ↦ confirmed_done c.args.counter load.result w.if-confirmed-counter.false
      | else-confirmed-via-else-confirmed w ↦ waits_done c.args.counter load.result w.if-confirmed.false
    ] in
    one_more c.args.shared.now.table.shared.table_id c.args.counter c.args.member.now c.loop-other.member load.new.member c.loop-other.other load.result c.loop-other.invariant load.ensures.token load.ensures.number load.ensures.anchors load.ensures.view load.ensures.root done
