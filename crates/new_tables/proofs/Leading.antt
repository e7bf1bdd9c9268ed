-- Members that report and take the lead again and again: each is ready as it was, whatever it found.
use Rattle.std.proofs.Common.{◌≡◌, ℕ, List, [], refl, sym, ap, subst, ◌∙◌}
use Rattle.std.specs.Prelude.{IsTrue}
use Rattle.atomic_table.specs.Seated.{TableId}
use Rattle.area_core.specs.declared.table.Published.{Published}
use Rattle.prgr_core.specs.declared.member.Role.{Role}
use Rattle.prgr_core.specs.declared.member.Role.TheVariants.{Follows, Leads}
use Rattle.prgr_core.specs.Members.{role_knowing}
use Rattle.prgr_core.specs.Step.{follows}
use Rattle.shared_words.specs.declared.seats.Member as tokens
use Rattle.shared_words.specs.declared.view.MemberView.{MemberView}
use Rattle.shared_words.specs.Kinds.{MayLead, lead_given}
use Rattle.marks.specs.Names.{IsAtRest}
use Rattle.shared_words.specs.Processes.{process_of}
use Rattle.shared_words.specs.Making.{AreMembersBegun}
use Rattle.progress_words.specs.Tokens.{view_of, IsMemberOf, IsSameMember}
use Rattle.progress_words.specs.Reports.{IsAwake, HoldsReported}
use Rattle.progress_words.specs.Leads.{IsLeader, held_by}
use Rattle.new_tables.specs.Running.{IsReady, HasReported}
use Rattle.new_tables.proofs.Begun.{empty_rests}

-- ---- one member

-- who has given up the lead may take it again
may_again : (old new : MemberView) → IsLeader old → new ≡ lead_given old → MayLead new
may_again old new leads is = subst MayLead (sym is) (record { awake = leads.awake; follows = refl })

pub given_ready : (table : TableId) (old between new : tokens.Member) → IsSameMember old between → IsLeader (view_of between) → (view_of between).slots ≡ (view_of old).slots → (view_of old).slots ≡ [] → IsMemberOf table new → IsSameMember between new → view_of new ≡ lead_given (view_of between) → HasReported table old new
given_ready table old between new first leads kept none of second is = record {
  ready = record { of = of; may = may_again (view_of between) (view_of new) leads is; slots = ap (λ (m : MemberView). m.slots) is ∙ kept ∙ none };
  number = second.number ∙ first.number;
}

-- what a later call leaves ready is so after both
pub led_ready : (table : TableId) (old between new : tokens.Member) → IsSameMember old between → HasReported table between new → HasReported table old new
led_ready table old between new same told = record { ready = told.ready; number = told.number ∙ same.number }

-- who found that another leads is ready as it was
pub held_ready : (table : TableId) (old new : tokens.Member) → IsReady table old → IsMemberOf table new → (by : ℕ) → IsSameMember old new → view_of new ≡ held_by by (view_of old) → HasReported table old new
held_ready table old new ready of by same is = record { ready = record { of = of; may = subst MayLead (sym is) (record { awake = ready.may.awake; follows = ready.may.follows }); slots = ap (λ (m : MemberView). m.slots) is ∙ ready.slots }; number = same.number }

-- what a call leaves of the slots of a member that is ready
pub still_none : (table : TableId) (old : tokens.Member) (new : MemberView) → IsReady table old → new.slots ≡ (view_of old).slots → new.slots ≡ []
still_none table old new ready kept = kept ∙ ready.slots

-- no turn of a member that is ready is under way
pub ready_rests : (table : TableId) (token : tokens.Member) → IsReady table token → (process : ℕ) → IsAtRest (process_of (view_of token) process)
ready_rests table token ready = empty_rests (view_of token) ready.slots

-- who follows does so when it knows the counter
follows_on : (counter : ℕ) (role : Role) → IsTrue (follows role) → IsTrue (follows (role_knowing counter role))
follows_on counter Follows is = is
follows_on counter (Leads scans) is = is

-- who has reported may take the lead, if it might before
pub reported_ready : (Served : Published → Type 0) (table : TableId) (old new : tokens.Member) (generation : ℕ) → IsReady table old → IsMemberOf table new → IsAwake (view_of new) → HoldsReported Served (view_of old) (view_of new) generation → IsReady table new
reported_ready Served table old new generation ready of awake told = record {
  of = of;
  may = record {
    awake = awake;
    follows = subst (λ (m : MemberView). IsTrue (follows m.member.role)) (sym told.view) (follows_on told.counter (view_of old).member.role ready.may.follows);
  };
  slots = ap (λ (m : MemberView). m.slots) told.view ∙ ready.slots;
}

-- before the first report, and after one more
pub reported_none : (table : TableId) (token : tokens.Member) → IsReady table token → HasReported table token token
reported_none table token ready = record { ready = ready; number = refl }

pub reported_more : (table : TableId) (a b c : tokens.Member) → HasReported table a b → HasReported table b c → HasReported table a c
reported_more table a b c first second = record { ready = second.ready; number = second.number ∙ first.number }

-- ---- all members

-- the count may be told otherwise
pub begun_as : (table : TableId) (a b : ℕ) (members : List tokens.Member) → a ≡ b → AreMembersBegun table b members → AreMembersBegun table a members
begun_as table a b members same begun = subst (λ (n : ℕ). AreMembersBegun table n members) (sym same) begun
