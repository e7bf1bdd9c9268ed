-- A member takes the lead as it begins, and leads on over its calls.
use Rattle.std.proofs.Common.{◌≡◌, ℕ, refl, sym, ap, subst, ◌∙◌}
use Rattle.atomic_table.specs.Seated.{TableId}
use Rattle.area_core.specs.declared.table.Published.{Published}
use Rattle.shared_words.specs.declared.seats.Member as tokens
use Rattle.shared_words.specs.declared.view.MemberView.{MemberView}
use Rattle.shared_words.specs.Seats.{member_of}
use Rattle.shared_words.specs.Making.{IsMemberBegun}
use Rattle.shared_words.specs.Kinds.{MayLead}
use Rattle.shared_words.specs.Processes.{AreAtRest}
use Rattle.progress_words.specs.Tokens.{view_of, IsMemberOf}
use Rattle.progress_words.specs.Reports.{HoldsReported}
use Rattle.progress_words.specs.Leads.{IsLeader}
use Rattle.new_tables.specs.Leading.{IsLeading}
use Rattle.new_tables.proofs.Begun.{empty_rests}

pub leader_may : (table : TableId) (k : ℕ) (token : tokens.Member) → IsMemberBegun table k token → MayLead (view_of token)
leader_may table k token begun = subst MayLead (sym (ap member_of begun.view)) (record { awake = refl; follows = refl })

pub leads_first : (table : TableId) (k : ℕ) (old new : tokens.Member) → IsMemberBegun table k old → IsMemberOf table new → IsLeader (view_of new) → (view_of new).slots ≡ (view_of old).slots → IsLeading table new
leads_first table k old new begun of leads kept = record { of = of; leads = leads; slots = kept ∙ ap (λ (m : MemberView). m.slots) (ap member_of begun.view) }

-- no process of its has a turn under way
pub leading_rests : (table : TableId) (token : tokens.Member) → IsLeading table token → AreAtRest (view_of token)
leading_rests table token leading = empty_rests (view_of token) leading.slots

-- a call that leaves its slots
pub leads_still : (table : TableId) (old new : tokens.Member) → IsLeading table old → IsMemberOf table new → IsLeader (view_of new) → (view_of new).slots ≡ (view_of old).slots → IsLeading table new
leads_still table old new h of leads kept = record { of = of; leads = leads; slots = kept ∙ h.slots }

-- a report, and then such a call
pub leads_on : (Served : Published → Type 0) (table : TableId) (generation : ℕ) (old mid new : tokens.Member) → IsLeading table old → HoldsReported Served (view_of old) (view_of mid) generation → IsMemberOf table new → IsLeader (view_of new) → (view_of new).slots ≡ (view_of mid).slots → IsLeading table new
leads_on Served table generation old mid new h told of leads kept = record { of = of; leads = leads; slots = kept ∙ ap (λ (m : MemberView). m.slots) told.view ∙ h.slots }
