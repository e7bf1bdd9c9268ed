-- The one member of a new table takes the lead, and leads on over its calls.
use Rattle.std.proofs.Common.{◌≡◌, ℕ, ◌+◌, List, [], ◌∷◌, ◌++◌, length, length-append, Some, slice_get, refl, sym, ap, subst, ◌∙◌, arith}
use Rattle.atomic_table.specs.Seated.{TableId}
use Rattle.area_core.specs.declared.table.Published.{Published}
use Rattle.marks.specs.Names.{IsAtRest}
use Rattle.marks.specs.Steps.{opening_process, nothing_kept}
use Rattle.marks.proofs.Opening.{opens}
use Rattle.shared_words.specs.declared.seats.Member as tokens
use Rattle.shared_words.specs.declared.view.ProcessSlot.{ProcessSlot}
use Rattle.shared_words.specs.declared.view.MemberView.{MemberView}
use Rattle.shared_words.specs.declared.view.View.TheVariants.{Member}
use Rattle.shared_words.specs.Opening.{member_begun}
use Rattle.shared_words.specs.Seats.{member_of}
use Rattle.shared_words.specs.Making.{AreMembersBegun, IsMemberBegun}
use Rattle.shared_words.specs.Kinds.{MayLead}
use Rattle.shared_words.specs.Processes.{slot_in, note_in, under_of, AreAtRest}
use Rattle.shared_words.proofs.SlotFrames.{rests}
use Rattle.progress_words.specs.Tokens.{view_of, IsMemberOf}
use Rattle.progress_words.specs.Reports.{HoldsReported}
use Rattle.progress_words.specs.Leads.{IsLeader}
use Rattle.permit_tests.specs.Leading.{IsLeading}

-- ---- as it begins

got_last : {A : Type 0} (xs : List A) (x : A) → slice_get (xs ++ x ∷ []) (length xs) ≡ Some x
got_last [] x = refl
got_last (y ∷ ys) x = got_last ys x

left : (table : TableId) (count : ℕ) (all rest : List tokens.Member) (token : tokens.Member) → all ≡ rest ++ token ∷ [] → AreMembersBegun table (count + 1) all → length rest ≡ count
left table count all rest token taken begun =
    let whole = begun.all in
    let long : length all ≡ length (rest ++ token ∷ []) = ap length taken in
    omega (arith, whole, long, length-append rest (token ∷ []))

-- the last member of those that begin
pub last_begun : (table : TableId) (count : ℕ) (all rest : List tokens.Member) (token : tokens.Member) → all ≡ rest ++ token ∷ [] → AreMembersBegun table (count + 1) all → IsMemberBegun table count token
last_begun table count all rest token taken begun =
    begun.each count token (ap (λ (xs : List tokens.Member). slice_get xs count) taken ∙ ap (λ (i : ℕ). slice_get (rest ++ token ∷ []) i) (sym (left table count all rest token taken begun)) ∙ got_last rest token)

pub begun_of : (table : TableId) (token : tokens.Member) → IsMemberBegun table 0 token → IsMemberOf table token
begun_of table token begun =
    let view : view_of token ≡ member_begun 0 = ap member_of begun.view in
    let number = begun.number_is in record {
      few = omega (arith, number);
      of_table = begun.of_table;
      view = begun.view ∙ ap Member (sym view);
      numbered = ap (λ (m : MemberView). m.member.number) view ∙ sym number;
    }

pub leader_may : (table : TableId) (token : tokens.Member) → IsMemberBegun table 0 token → MayLead (view_of token)
leader_may table token begun = subst MayLead (sym (ap member_of begun.view)) (record { awake = refl; follows = refl })

pub leads_first : (table : TableId) (old new : tokens.Member) → IsMemberBegun table 0 old → IsMemberOf table new → IsLeader (view_of new) → (view_of new).slots ≡ (view_of old).slots → IsLeading table new
leads_first table old new begun of leads kept = record { of = of; leads = leads; slots = kept ∙ ap (λ (m : MemberView). m.slots) (ap member_of begun.view) }

-- ---- on and on

pub leading_rests : (table : TableId) (token : tokens.Member) → IsLeading table token → AreAtRest (view_of token)
leading_rests table token leading process =
    let asleep = under_of (record (member_begun 0) { member = record (member_begun 0).member { word = 0 } }) in
    let rest = rests asleep process opening_process nothing_kept refl (opens asleep process) in
    let m : MemberView = view_of token in
    let empty : IsAtRest (record opening_process { note = note_in m.notes process }) = record { frames = rest.frames; literals = rest.literals } in
    subst (λ (xs : List ProcessSlot). IsAtRest (record { slot = (slot_in xs process).slot; marks = (slot_in xs process).marks; note = note_in m.notes process })) (sym leading.slots) empty

pub leads_on : (Served : Published → Type 0) (table : TableId) (generation : ℕ) (old mid new : tokens.Member) → IsLeading table old → HoldsReported Served (view_of old) (view_of mid) generation → IsMemberOf table new → IsLeader (view_of new) → (view_of new).slots ≡ (view_of mid).slots → IsLeading table new
leads_on Served table generation old mid new h told of leads kept = record { of = of; leads = leads; slots = kept ∙ ap (λ (m : MemberView). m.slots) told.view ∙ h.slots }
